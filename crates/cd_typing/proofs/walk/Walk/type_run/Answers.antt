use Rattle.std.proofs.Common.{refl}
use Rattle.cd_types.specs.Conditions.{none_fails}
use Rattle.cd_types.specs.Statements.{Run}
use Rattle.cd_types.specs.Trees.{part}
use Rattle.cd_typing.specs.Walking.{spot}
use Rattle.cd_typing.proofs.StatementSteps.{statement-err, front-stops, body-stops, statement-passes}
use Rattle.cd_typing.proofs.walk.Walk.type_run.Goals as goal

pub returns-in_err-begin_statement : goal.returns-in_err-begin_statement
returns-in_err-begin_statement c = λ before k.
    let s = Run (part c.args.pipe.now) in
    statement-err c.args.number before s c.args.self.now _ _ c.from_residual.result c.in_err-begin_statement.field-0.0 c.from_residual.ensures.1
    (front-stops c.args.number before s c.args.self.now _ (c.in_err-begin_statement.ensures.moves none_fails (spot c.args.self.now) refl))

pub returns-in_err-type_body : goal.returns-in_err-type_body
returns-in_err-type_body c = λ before k.
    let s = Run (part c.args.pipe.now) in
    statement-err c.args.number before s c.args.self.now _ _ c.from_residual-in_err-type_body.result c.in_err-type_body.field-0.0 c.from_residual-in_err-type_body.ensures.1
    (body-stops c.args.number before s c.args.self.now c.args.self.now (c.in_ok-begin_statement.ensures.moves none_fails (spot c.args.self.now) refl) _ c.in_err-type_body.ensures)

pub returns : goal.returns
returns c = λ before k.
    let s = Run (part c.args.pipe.now) in
    record {
      passed = statement-passes c.args.number before s c.args.self.now c.args.self.now (c.in_ok-begin_statement.ensures.moves none_fails (spot c.args.self.now) refl) c.type_body.new.self c.in_ok-type_body.ensures.passed;
      types = c.in_ok-type_body.ensures.types;
      knows = c.names_stay.ensures.run before c.args.names.now (part c.args.pipe.now) k;
    }

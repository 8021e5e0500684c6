use Rattle.std.proofs.Common.{ap, sym, ◌∙◌}
use Rattle.cd_types.specs.declared.refusal.RefusalKind.TheVariants.{Seal}
use Rattle.cd_types.specs.Conditions.{fails_where, lowest}
use Rattle.cd_types.specs.Statements.{Let, statement_fails}
use Rattle.cd_types.specs.Trees.{part}
use Rattle.cd_typing.specs.Walking.{spot}
use Rattle.cd_typing.proofs.StatementSteps.{statement-err, statement-memory, front-stops, body-stops, statement-passes}
use Rattle.cd_typing.proofs.walk.Walk.type_let.Goals as goal

pub returns-in_err-begin_statement : goal.returns-in_err-begin_statement
returns-in_err-begin_statement c = λ before k.
    let s = Let c.args.name.now (part c.args.pipe.now) in
    statement-err c.args.number before s c.args.self.now _ _ c.from_residual.result c.in_err-begin_statement.field-0.0 c.from_residual.ensures.1
    (front-stops c.args.number before s c.args.self.now _ (c.in_err-begin_statement.ensures.moves (statement_fails before s) (spot c.args.self.now)
    (c.refused_as_seal.ensures.lowest ∙ ap (λ b. lowest (fails_where Seal b)) (c.is_seal.ensures before k))))

pub returns-in_err-to : goal.returns-in_err-to
returns-in_err-to c = λ before k.
    let s = Let c.args.name.now (part c.args.pipe.now) in
    let e = c.refused_as_seal.ensures.lowest ∙ ap (λ b. lowest (fails_where Seal b)) (c.is_seal.ensures before k) in
    statement-err c.args.number before s c.args.self.now _ _ c.from_residual-in_err-to.result c.in_err-to.field-0.0 c.from_residual-in_err-to.ensures.1
    (body-stops c.args.number before s c.args.self.now c.args.self.now (c.in_ok-begin_statement.ensures.moves (statement_fails before s) (spot c.args.self.now) e) _ c.in_err-to.ensures)

pub returns-in_err-seal : goal.returns-in_err-seal
returns-in_err-seal c = λ before k.
    statement-memory c.args.number before (Let c.args.name.now (part c.args.pipe.now)) c.args.self.now _ _ c.from_residual-in_err-seal.result c.from_residual-in_err-seal.ensures.1

pub returns : goal.returns
returns c = λ before k.
    let s = Let c.args.name.now (part c.args.pipe.now) in
    let e = c.refused_as_seal.ensures.lowest ∙ ap (λ b. lowest (fails_where Seal b)) (c.is_seal.ensures before k) in
    record {
      passed = statement-passes c.args.number before s c.args.self.now c.args.self.now (c.in_ok-begin_statement.ensures.moves (statement_fails before s) (spot c.args.self.now) e) c.type_body.new.self c.in_ok-to.ensures.passed;
      types = c.in_ok-to.ensures.types;
      knows = c.in_ok-seal.ensures.known before (part c.args.pipe.now) k (sym (c.is_seal.ensures before k) ∙ c.refused_as_seal.ensures.none c.in_ok-begin_statement.ensures.none) c.in_ok-to.ensures.gives;
    }

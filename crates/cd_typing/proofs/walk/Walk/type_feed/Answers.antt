use Rattle.std.proofs.Common.{ap, ◌∙◌}
use Rattle.cd_types.specs.declared.refusal.RefusalKind.TheVariants.{Seal}
use Rattle.cd_types.specs.Conditions.{fails_where, lowest}
use Rattle.cd_types.specs.Statements.{Feed, statement_fails, feed_fails}
use Rattle.cd_types.specs.Trees.{part}
use Rattle.cd_typing.specs.Walking.{spot}
use Rattle.cd_typing.proofs.StatementSteps.{statement-err, front-stops, body-stops, statement-passes, fed-stops, fed-types}
use Rattle.cd_typing.proofs.walk.Walk.type_feed.Goals as goal

pub returns-in_err-begin_statement : goal.returns-in_err-begin_statement
returns-in_err-begin_statement c = λ before k.
    let s = Feed c.args.name.now (part c.args.pipe.now) in
    statement-err c.args.number before s c.args.self.now _ _ c.from_residual.result c.in_err-begin_statement.field-0.0 c.from_residual.ensures.1
    (front-stops c.args.number before s c.args.self.now _ (c.in_err-begin_statement.ensures.moves (statement_fails before s) (spot c.args.self.now)
    (c.refused_as_seal.ensures.lowest ∙ ap (λ b. lowest (fails_where Seal b)) (c.seal_fails.ensures before k))))

pub returns-in_err-type_body : goal.returns-in_err-type_body
returns-in_err-type_body c = λ before k.
    let s = Feed c.args.name.now (part c.args.pipe.now) in
    let e = c.refused_as_seal.ensures.lowest ∙ ap (λ b. lowest (fails_where Seal b)) (c.seal_fails.ensures before k) in
    statement-err c.args.number before s c.args.self.now _ _ c.from_residual-in_err-type_body.result c.in_err-type_body.field-0.0 c.from_residual-in_err-type_body.ensures.1
    (body-stops c.args.number before s c.args.self.now c.args.self.now (c.in_ok-begin_statement.ensures.moves (statement_fails before s) (spot c.args.self.now) e) _
    (fed-stops c.args.number _ _ (c.seal_flow-flow.ensures before k) (part c.args.pipe.now) feed_fails c.args.self.now _ c.in_err-type_body.ensures))

pub returns : goal.returns
returns c = λ before k.
    let s = Feed c.args.name.now (part c.args.pipe.now) in
    let e = c.refused_as_seal.ensures.lowest ∙ ap (λ b. lowest (fails_where Seal b)) (c.seal_fails.ensures before k) in
    let w = fed-types c.args.number _ _ (c.seal_flow-flow.ensures before k) (part c.args.pipe.now) feed_fails c.args.self.now c.type_body.new.self _ c.in_ok-type_body.ensures in
    record {
      passed = statement-passes c.args.number before s c.args.self.now c.args.self.now (c.in_ok-begin_statement.ensures.moves (statement_fails before s) (spot c.args.self.now) e) c.type_body.new.self w.passed;
      types = w.types;
      knows = c.names_stay.ensures.feed before c.args.names.now c.args.name.now (part c.args.pipe.now) k;
    }

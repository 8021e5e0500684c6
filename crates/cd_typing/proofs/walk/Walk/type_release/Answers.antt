use Rattle.std.proofs.Common.{map, ap, sym, ◌∙◌}
use Rattle.cd_types.specs.declared.refusal.RefusalKind.TheVariants.{Key}
use Rattle.cd_types.specs.Conditions.{fails_where, lowest}
use Rattle.cd_types.specs.Statements.{Release, statement_fails}
use Rattle.cd_part_types.specs.Types.{type_of}
use Rattle.cd_typing.specs.Walking.{spot}
use Rattle.cd_typing.proofs.StatementSteps.{statement-err, front-stops, stands}
use Rattle.cd_typing.proofs.walk.Walk.type_release.Goals as goal

pub returns-in_err-begin_statement : goal.returns-in_err-begin_statement
returns-in_err-begin_statement c = λ before k.
    let s = Release c.args.name.now in
    statement-err c.args.number before s c.args.self.now _ _ c.from_residual.result c.in_err-begin_statement.field-0.0 c.from_residual.ensures.1
    (front-stops c.args.number before s c.args.self.now _ (c.in_err-begin_statement.ensures.moves (statement_fails before s) (spot c.args.self.now)
    (c.refused_as_key.ensures.lowest ∙ ap (λ b. lowest (fails_where Key b)) (c.key_fails.ensures before k))))

pub returns : goal.returns
returns c = λ before k.
    let s = Release c.args.name.now in
    let e = c.refused_as_key.ensures.lowest ∙ ap (λ b. lowest (fails_where Key b)) (c.key_fails.ensures before k) in
    record {
      passed = c.in_ok-begin_statement.ensures.moves (statement_fails before s) (spot c.args.self.now) e;
      types = ap (map type_of) c.requires;
      knows = c.release.ensures before k (stands _ _ (sym (c.key_fails.ensures before k) ∙ c.refused_as_key.ensures.none c.in_ok-begin_statement.ensures.none));
    }

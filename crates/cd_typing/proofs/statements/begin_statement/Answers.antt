use Rattle.std.proofs.Common.{[], ◌∷◌, nat_lt}
use Rattle.cd_types.specs.declared.refusal.RefusalKind.TheVariants.{TooMany}
use Rattle.cd_types.specs.Conditions.{fails_where}
use Rattle.cd_types.specs.Limits.{statement_limit}
use Rattle.cd_types.specs.Moments as moments
use Rattle.cd_typing.proofs.Steps.{moves-err, moves-later, stops-first}
use Rattle.cd_typing.proofs.statements.begin_statement.Goals as goal

pub returns-in_err-ask-clause-moves : goal.returns-in_err-ask-clause-moves
returns-in_err-ask-clause-moves c = λ fails at e.
    moves-err at at _ c.from_residual.result c.in_err-ask.field-0.0 c.from_residual.ensures.1
    (stops-first at (moments.ask c.args.number 0 (fails_where TooMany (nat_lt statement_limit c.args.number))) _ _ (c.in_err-ask.ensures.moves _ at c.refused_as_too_many.ensures))

pub returns-clause-moves : goal.returns-clause-moves
returns-clause-moves c = λ fails at e.
    moves-later at at at (moments.ask c.args.number 0 (fails_where TooMany (nat_lt statement_limit c.args.number))) (moments.ask c.args.number 0 fails ∷ []) c.ask-2.result
    (c.in_ok-ask.ensures.moves _ at c.refused_as_too_many.ensures) (c.ask-2.ensures.moves fails at e)

use Rattle.std.proofs.Common.{[], ◌∷◌}
use Rattle.cd_types.specs.Moments as moments
use Rattle.cd_typing.specs.Walking.{spot}
use Rattle.cd_typing.proofs.Steps.{moves-err, moves-later, stops-first}
use Rattle.cd_typing.proofs.walk.Walk.ask_and_finish.Goals as goal

pub returns-in_err-ask-clause-moves : goal.returns-in_err-ask-clause-moves
returns-in_err-ask-clause-moves c = λ fails e.
    moves-err (spot c.args.self.now) (spot c.args.self.now) _ c.from_residual.result c.in_err-ask.field-0.0 c.from_residual.ensures.1
    (stops-first (spot c.args.self.now) (moments.ask c.args.statement c.args.number fails) _ _ (c.in_err-ask.ensures.moves fails (spot c.args.self.now) e))

pub returns-clause-moves : goal.returns-clause-moves
returns-clause-moves c = λ fails e.
    moves-later (spot c.args.self.now) (spot c.args.self.now) (spot c.finish.new.self) (moments.ask c.args.statement c.args.number fails)
    (moments.end_part c.args.statement c.args.part c.args.bound ∷ []) c.finish.result (c.in_ok-ask.ensures.moves fails (spot c.args.self.now) e) c.finish.ensures.moves

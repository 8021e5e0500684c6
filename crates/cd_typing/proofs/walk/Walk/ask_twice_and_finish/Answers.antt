use Rattle.std.proofs.Common.{[], ◌∷◌}
use Rattle.cd_types.specs.Moments as moments
use Rattle.cd_typing.specs.Walking.{spot}
use Rattle.cd_typing.proofs.Steps.{moves-err, moves-later, stops-first}
use Rattle.cd_typing.proofs.walk.Walk.ask_twice_and_finish.Goals as goal

pub returns-in_err-ask-clause-moves : goal.returns-in_err-ask-clause-moves
returns-in_err-ask-clause-moves c = λ first second e h.
    moves-err (spot c.args.self.now) (spot c.args.self.now) _ c.from_residual.result c.in_err-ask.field-0.0 c.from_residual.ensures.1
    (stops-first (spot c.args.self.now) (moments.ask c.args.statement c.args.number first) _ _ (c.in_err-ask.ensures.moves first (spot c.args.self.now) e))

pub returns-clause-moves : goal.returns-clause-moves
returns-clause-moves c = λ first second e h.
    moves-later (spot c.args.self.now) (spot c.args.self.now) (spot c.ask_and_finish.new.self) (moments.ask c.args.statement c.args.number first)
    (moments.ask c.args.statement c.args.part second ∷ moments.end_part c.args.statement c.args.part c.args.bound ∷ []) c.ask_and_finish.result
    (c.in_ok-ask.ensures.moves first (spot c.args.self.now) e) (c.ask_and_finish.ensures.moves second h)

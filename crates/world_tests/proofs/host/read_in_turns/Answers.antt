use Rattle.std.proofs.Common.{List, inr, sym, ◌∙◌, subst}
use Rattle.cd_world.specs.declared.event.Use.{Use}
use Rattle.cd_world.specs.Live.{Open, IsLive}
use Rattle.world_tests.proofs.TwoFiles.{first_opened, second_stays}
use Rattle.world_tests.proofs.host.read_in_turns.Goals as goal

pub gives-requires-clause-readable : goal.gives-requires-clause-readable
gives-requires-clause-readable g c =
    inr (first_opened Use.Reading _ _ _ _ _ c.opened-first.result c.opened-second.result c.opened-first.ensures.last c.opened-second.ensures.last)

pub gives-requires-2-clause-readable : goal.gives-requires-2-clause-readable
gives-requires-2-clause-readable g c =
    inr (subst (λ (l : List Open). IsLive Use.Reading c.opened-second.result l) (sym c.gives.ensures.live) c.opened-second.ensures.live)

pub gives-requires-3-clause-readable : goal.gives-requires-3-clause-readable
gives-requires-3-clause-readable g c =
    inr (first_opened Use.Reading _ _ _ _ _ c.opened-first.result c.opened-second.result c.opened-first.ensures.last
    (c.gives-2.ensures.live ∙ c.gives.ensures.live ∙ c.opened-second.ensures.last))

pub closes-requires : goal.closes-requires
closes-requires g c =
    first_opened Use.Reading _ _ _ _ _ c.opened-first.result c.opened-second.result c.opened-first.ensures.last
    (c.gives-3.ensures.live ∙ c.gives-2.ensures.live ∙ c.gives.ensures.live ∙ c.opened-second.ensures.last)

pub gives-requires-4-clause-readable : goal.gives-requires-4-clause-readable
gives-requires-4-clause-readable g c =
    inr (second_stays Use.Reading _ _ _ _ _ _ c.opened-first.result c.opened-second.result c.opened-first.ensures.last
    (c.gives-3.ensures.live ∙ c.gives-2.ensures.live ∙ c.gives.ensures.live ∙ c.opened-second.ensures.last) c.closes.ensures)

pub closes-requires-2 : goal.closes-requires-2
closes-requires-2 g c =
    subst (λ (l : List Open). IsLive Use.Reading c.opened-second.result l) (sym c.gives-4.ensures.live)
    (second_stays Use.Reading _ _ _ _ _ _ c.opened-first.result c.opened-second.result c.opened-first.ensures.last
    (c.gives-3.ensures.live ∙ c.gives-2.ensures.live ∙ c.gives.ensures.live ∙ c.opened-second.ensures.last) c.closes.ensures)

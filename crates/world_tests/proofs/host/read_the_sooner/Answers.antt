use Rattle.std.proofs.Common.{List, inr, sym, subst}
use Rattle.cd_world.specs.declared.event.Use.{Use}
use Rattle.cd_world.specs.Live.{Open, IsLive}
use Rattle.world_tests.proofs.TwoFiles.{first_stays}
use Rattle.world_tests.proofs.host.read_the_sooner.Goals as goal

pub gives-requires-clause-readable : goal.gives-requires-clause-readable
gives-requires-clause-readable g c =
    inr (first_stays Use.Reading _ _ _ _ _ _ c.opened-first.result c.opened-second.result c.opened-first.ensures.last c.opened-second.ensures.last c.closes.ensures)

pub closes-requires-2 : goal.closes-requires-2
closes-requires-2 g c =
    subst (λ (l : List Open). IsLive Use.Reading c.opened-first.result l) (sym c.gives.ensures.live)
    (first_stays Use.Reading _ _ _ _ _ _ c.opened-first.result c.opened-second.result c.opened-first.ensures.last c.opened-second.ensures.last c.closes.ensures)

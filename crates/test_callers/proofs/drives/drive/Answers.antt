use Rattle.std.proofs.Common.{◌≤◌, ℕ, [], ◌∷◌, sym, subst}
use Rattle.cd_meaning.specs.Opens.{openings_in}
use Rattle.cd_meaning.specs.Places.{Place}
use Rattle.cd_meaning.specs.Run.{effects}
use Rattle.cd_meaning.specs.Stream.{Ended}
use Rattle.cd_world.specs.Memory.{live_in}
use Rattle.cd_run.specs.Going.{places_of}
use Rattle.test_callers.specs.Leaves.{seen_leaf}
use Rattle.test_callers.proofs.LeafRooms.{leaf_opens}
use Rattle.test_callers.proofs.OpenMarks.{none_open}
use Rattle.test_callers.proofs.drives.drive.Goals as goal

pub run_node-answer-requires-clause-room : goal.run_node-answer-requires-clause-room
run_node-answer-requires-clause-room c = λ z. subst (λ n. openings_in (effects ((seen_leaf c.new-leaf.result).run z [] Ended)) ≤ n) (sym c.in_ok-scope.ensures.room) (leaf_opens c.new-leaf.result z)

pub run_node-answer-requires-clause-open : goal.run_node-answer-requires-clause-open
run_node-answer-requires-clause-open c = (live_in c.in_ok-world.world, none_open (places_of (c.in_ok-site_of.field-0 ∷ [])) c.in_ok-scope.scope c.in_ok-world.world c.in_ok-scope.ensures.held)

pub finish-ended-requires : goal.finish-ended-requires
finish-ended-requires c =
    let place : ℕ → Place = places_of (c.in_ok-site_of.field-0 ∷ []) in record {
      «open» = (
        place,
        live_in c.in_ok-world.world,
        c.run_node-answer.ensures.open (live_in c.in_ok-world.world) (none_open place c.in_ok-scope.scope c.in_ok-world.world c.in_ok-scope.ensures.held),
      );
    }

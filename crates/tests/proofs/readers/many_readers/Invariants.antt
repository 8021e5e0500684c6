use Rattle.std.proofs.Common.{◌+◌, ◌≤◌}
use Rattle.cd_typed.specs.Sites.{place_of}
use Rattle.cd_world.specs.Memory.{live_in}
use Rattle.cd_scope.specs.State.{room_in}
use Rattle.test_callers.proofs.OpenMarks.{HasOpen}
use Rattle.tests.proofs.readers.many_readers.Given as goal

abbrev pub invariant-loop-number : goal.invariant-loop-number
invariant-loop-number l = record {
  «open» : HasOpen (λ _. place_of l.info) (live_in l.initial.world) l.scope l.world;
  room : l.count ≤ room_in l.scope + l.number;
}

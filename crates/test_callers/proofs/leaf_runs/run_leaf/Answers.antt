use Rattle.cd_typed.specs.Sites.{place_of}
use Rattle.cd_world.specs.Memory.{live_in}
use Rattle.test_callers.proofs.OpenMarks.{none_open}
use Rattle.test_callers.proofs.leaf_runs.run_leaf.Goals as goal

pub step_all-stepped-requires-clause-open : goal.step_all-stepped-requires-clause-open
step_all-stepped-requires-clause-open c = (live_in c.in_ok-world.world, none_open _ c.in_ok-scope.scope c.in_ok-world.world c.in_ok-scope.ensures.held)

pub finish-finished-requires : goal.finish-finished-requires
finish-finished-requires c = record {
  «open» = (
    λ s. place_of c.in_ok-info.info,
    live_in c.in_ok-world.world,
    c.step_all-stepped.ensures.open (live_in c.in_ok-world.world) (none_open (λ s. place_of c.in_ok-info.info) c.in_ok-scope.scope c.in_ok-world.world c.in_ok-scope.ensures.held),
  );
}

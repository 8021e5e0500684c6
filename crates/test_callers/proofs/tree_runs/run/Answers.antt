use Rattle.std.proofs.Common.{refl}
use Rattle.cd_world.specs.Memory.{live_in}
use Rattle.cd_run.specs.Going.{places_of}
use Rattle.test_callers.proofs.OpenMarks.{none_open, same_open}
use Rattle.test_callers.proofs.tree_runs.run.Goals as goal

pub step_all-stepped-requires-clause-open : goal.step_all-stepped-requires-clause-open
step_all-stepped-requires-clause-open c = (live_in c.in-Ok.world, none_open (places_of c.args.sites.now) c.in-Ok-new.scope c.in-Ok.world c.in-Ok-new.ensures.held)

pub finish-finished-requires : goal.finish-finished-requires
finish-finished-requires c =
    let place = places_of c.args.sites.now in
    let base = live_in c.in-Ok.world in
    let world = c.step_all-stepped.new.world in
    record {
      «open» = (
        place,
        base,
        same_open place base c.step_all-stepped.new.scope c.leave-left.new.scope world world c.leave-left.ensures refl (c.step_all-stepped.ensures.open base (none_open place c.in-Ok-new.scope c.in-Ok.world c.in-Ok-new.ensures.held)),
      );
    }

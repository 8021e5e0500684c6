use Rattle.std.proofs.Common.{List, map, subst, sym}
use Rattle.cd_meaning.specs.Stream.{Put}
use Rattle.cd_world.specs.Live.{Open}
use Rattle.cd_scope.specs.Table.{IsOpen}
use Rattle.cd_run.specs.Gathers.{waiting}
use Rattle.cd_run.specs.Going.{outside}
use Rattle.cd_run.proofs.Gathering.{added, added_alone, all_done, none_waits, then_fails, then_moves}
use Rattle.cd_run.proofs.gathered.Gathered.put.Goals as goal

pub returns-then-takes-clause-told : goal.returns-then-takes-clause-told
returns-then-takes-clause-told g c = λ tells s base t same o is_for at.
    added s t (outside (g.W.World.log c.args.world.now) (g.W.World.files c.args.world.now)) c.add.result c.args.self.now c.add.new.self (map (Put c.args.site.0) c.args.bytes.now) c.add.ensures.waits c.add.ensures.err

pub returns-in-Err-clause-told : goal.returns-in-Err-clause-told
returns-in-Err-clause-told g c = λ tells s base t same o is_for at.
    then_fails s t (outside (g.W.World.log c.args.world.now) (g.W.World.files c.args.world.now)) (outside (g.W.World.log c.write_out.new.world) (g.W.World.files c.write_out.new.world)) (waiting c.args.self.now) (map (Put c.args.site.0) c.args.bytes.now) (Unit {0}) (Unit {0}) c.in-Err.fault (waiting c.write_out.new.self)
    (c.in-Err.ensures.told tells s base t same o is_for)

pub returns-then-bytes-lt-WHOLE-clause-told : goal.returns-then-bytes-lt-WHOLE-clause-told
returns-then-bytes-lt-WHOLE-clause-told g c = λ tells s base t same o is_for at.
    then_moves s t (outside (g.W.World.log c.args.world.now) (g.W.World.files c.args.world.now)) (outside (g.W.World.log c.write_out.new.world) (g.W.World.files c.write_out.new.world)) (waiting c.args.self.now) (map (Put c.args.site.0) c.args.bytes.now) (outside (g.W.World.log c.write_out.new.world) (g.W.World.files c.write_out.new.world)) c.in-Ok.field-0 c.add-then-bytes-lt-WHOLE.result (waiting c.add-then-bytes-lt-WHOLE.new.self)
    (c.in-Ok.ensures.told tells s base t same o is_for)
    (added_alone s t (outside (g.W.World.log c.write_out.new.world) (g.W.World.files c.write_out.new.world)) c.add-then-bytes-lt-WHOLE.result c.write_out.new.self c.add-then-bytes-lt-WHOLE.new.self (map (Put c.args.site.0) c.args.bytes.now) c.in-Ok.ensures.none c.add-then-bytes-lt-WHOLE.ensures.waits c.add-then-bytes-lt-WHOLE.ensures.err)

pub returns-else-bytes-lt-WHOLE-clause-told : goal.returns-else-bytes-lt-WHOLE-clause-told
returns-else-bytes-lt-WHOLE-clause-told g c = λ tells s base t same o is_for at.
    then_moves s t (outside (g.W.World.log c.args.world.now) (g.W.World.files c.args.world.now)) (outside (g.W.World.log c.write_out.new.world) (g.W.World.files c.write_out.new.world)) (waiting c.args.self.now) (map (Put c.args.site.0) c.args.bytes.now) (outside (g.W.World.log c.write_all.new.world) (g.W.World.files c.write_all.new.world)) c.in-Ok.field-0 c.write_all.result (waiting c.write_out.new.self)
    (c.in-Ok.ensures.told tells s base t same o is_for)
    (all_done s t (outside (g.W.World.log c.write_out.new.world) (g.W.World.files c.write_out.new.world)) (outside (g.W.World.log c.write_all.new.world) (g.W.World.files c.write_all.new.world)) c.write_all.result (map (Put c.args.site.0) c.args.bytes.now) (waiting c.write_out.new.self) (none_waits c.write_out.new.self c.in-Ok.ensures.none)
    (c.write_all.ensures.told tells s base t same (subst (λ (l : List Open). IsOpen s.place base t l) (sym c.in-Ok.ensures.live) o) at))

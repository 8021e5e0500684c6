use Rattle.std.proofs.Common.{List, [], length, take, drop, ◌-◌, refl, sym, ap, ◌∙◌, subst, arith, length-take, length-drop}
use Rattle.std.specs.Prelude.{IsTrue, Ok, Err}
use Rattle.cd_world.specs.Causes.{risen}
use Rattle.cd_world.specs.Live.{Open}
use Rattle.cd_world.specs.Events.{wrote}
use Rattle.cd_run.specs.Going.{outside}
use Rattle.cd_scope.specs.Table.{IsOpen}
use Rattle.cd_run.proofs.Steps.{write_step, write_fails, write_done, refused_by, puts_left}
use Rattle.cd_run.proofs.WriteSteps.{count_failed, count_none, count_ok, leaves_after}
use Rattle.cd_run.proofs.write.write_all.Goals as goal

pub loop-done-preserved : goal.loop-done-preserved
loop-done-preserved g c = record {
  within = omega (arith, simp (length-take, length-drop) at c.in-Ok.ensures.within.1);
  live = c.write.ensures.live ∙ c.loop-done.invariant.live;
  calm = count_ok _ _ c.in-Ok.count c.in-Ok.ensures.count ∙ c.loop-done.invariant.calm;
  told = λ tells s base t same o at m left todo w0 go.
      write_step s m t todo w0 (outside (g.W.World.log c.loop-done.world) (g.W.World.files c.loop-done.world)) (outside (g.W.World.log c.write.new.self) (g.W.World.files c.write.new.self)) c.args.site c.args.to c.loop-done.done c.args.bytes.now at (c.loop-done.invariant.told tells s base t same o at m left todo w0 go) c.in-Ok.count c.in-Ok.ensures.within.0 c.in-Ok.ensures.within.1 (c.in-Ok.ensures.log tells)
      (λ ft separate. leaves_after s.place base (g.W.World.live c.loop-done.world) t (subst (λ (l : List Open). IsOpen s.place base t l) (sym c.loop-done.invariant.live) o) c.args.site.0 c.args.to separate (take (length c.args.bytes.now - c.loop-done.done) (drop c.loop-done.done c.args.bytes.now)) (Ok c.in-Ok.count) (g.W.World.files c.loop-done.world) (g.W.World.files c.write.new.self) at (c.in-Ok.ensures.file (subst IsTrue same ft)) (c.in-Ok.ensures.output (subst IsTrue same ft)));
}

pub returns-in-Err-Failed-clause-told : goal.returns-in-Err-Failed-clause-told
returns-in-Err-Failed-clause-told g c = λ tells s base t same o at m left todo w0 go.
    write_fails s m t todo w0 (outside (g.W.World.log c.loop-done.world) (g.W.World.files c.loop-done.world)) (outside (g.W.World.log c.write.new.self) (g.W.World.files c.write.new.self)) c.args.site c.args.to c.loop-done.done c.args.bytes.now at (c.loop-done.invariant.told tells s base t same o at m left todo w0 go) c.in-Err-Failed.field-0 c.in-Err-Failed.field-0-is c.loop-done-test.true (c.in-Err-Failed.ensures.log tells)

pub returns-in-Err-NoMemory-clause-told : goal.returns-in-Err-NoMemory-clause-told
returns-in-Err-NoMemory-clause-told g c = λ tells s base t same o at m left todo w0 go.
    refused_by s m t (puts_left c.args.site.0 c.loop-done.done c.args.bytes.now todo) w0 (outside (g.W.World.log c.loop-done.world) (g.W.World.files c.loop-done.world)) (outside (g.W.World.log c.write.new.self) (g.W.World.files c.write.new.self)) (λ e. wrote c.args.to [] (Err e)) c.in-Err-NoMemory.field-0 c.in-Err-NoMemory.field-0-is refl (c.loop-done.invariant.told tells s base t same o at m left todo w0 go) (c.in-Err-NoMemory.ensures.log tells)

pub returns-clause-told : goal.returns-clause-told
returns-clause-told g c = λ tells s base t same o at m left todo w0 go.
    write_done s m t todo w0 (outside (g.W.World.log c.loop-done.world) (g.W.World.files c.loop-done.world)) (outside (g.W.World.log c.loop-done.world) (g.W.World.files c.loop-done.world)) c.args.site c.args.to c.loop-done.done c.args.bytes.now at (c.loop-done.invariant.told tells s base t same o at m left todo w0 go) c.loop-done-test.false

pub returns-in-Err-Failed-clause-cause : goal.returns-in-Err-Failed-clause-cause
returns-in-Err-Failed-clause-cause g c = count_failed _ _ c.in-Err-Failed.field-0 c.in-Err-Failed.field-0-is c.in-Err-Failed.ensures.count ∙ ap risen c.loop-done.invariant.calm

pub returns-in-Err-NoMemory-clause-cause : goal.returns-in-Err-NoMemory-clause-cause
returns-in-Err-NoMemory-clause-cause g c = count_none _ _ c.in-Err-NoMemory.field-0 c.in-Err-NoMemory.field-0-is c.in-Err-NoMemory.ensures.count ∙ c.loop-done.invariant.calm

use Rattle.std.proofs.Common.{◌-◌, ℕ, List, Ok, Err, length, length-take, length-drop, take, drop, arith, refl, ◌∙◌, subst, ap}
use Rattle.cd_cli.specs.Streams.{with_sent}
use Rattle.cd_cli.proofs.WriteSteps.{ok_unfailed, LogsSent, front_more, files_none, files_more, written_on, writes_whole, writes_refused, log_none, log_wrote, log_whole, log_refused, stream_writable}
use Rattle.cd_cli.proofs.streams.write_all.Goals as goal

pub loop-done-init : goal.loop-done-init
loop-done-init g c = record {
  within = omega arith;
  calm = refl;
  live = refl;
  files = λ tells. files_none c.args.to (g.W.World.files c.args.world.now);
  log = λ tells. log_none c.args.to (g.W.World.log c.args.world.now);
}

pub write-requires-clause-writable : goal.write-requires-clause-writable
write-requires-clause-writable g c = stream_writable c.args.to _ c.descriptor-descriptor.ensures

pub loop-done-preserved : goal.loop-done-preserved
loop-done-preserved g c =
    let more = front_more c.args.bytes.now c.loop-done.done c.in_ok-count.count in record {
      within = omega (arith, simp (length-take, length-drop) at c.in_ok-count.ensures.within.1);
      calm = c.in_ok-count.ensures.count.calm (ok_unfailed _) ∙ c.loop-done.invariant.calm;
      live = c.write.ensures.live ∙ c.loop-done.invariant.live;
      files = λ tells.
          files_more c.args.to _ _ _ _ _ (c.loop-done.invariant.files tells)
          (written_on c.args.to _ (take (length c.args.bytes.now - c.loop-done.done) (drop c.loop-done.done c.args.bytes.now)) (Ok c.in_ok-count.count) (g.W.World.files c.loop-done.world) (g.W.World.files c.write.new.self) c.descriptor-descriptor.ensures (c.in_ok-count.ensures.output tells) (c.in_ok-count.ensures.errors tells))
          ∙ ap (λ (b : List ℕ). with_sent c.args.to b (g.W.World.files c.args.world.now)) more;
      log = λ tells. subst (λ (b : List ℕ). LogsSent c.args.to b (g.W.World.log c.args.world.now) (g.W.World.log c.write.new.self)) more
          (log_wrote c.args.to _ _ _ _ _ (c.loop-done.invariant.log tells) _ c.in_ok-count.count c.descriptor-descriptor.ensures (c.in_ok-count.ensures.log tells));
    }

pub returns-in_err-count-clause-files : goal.returns-in_err-count-clause-files
returns-in_err-count-clause-files g c = λ tells.
    writes_refused c.args.to c.args.bytes.now c.loop-done.done _ _ (c.loop-done.invariant.files tells) _ c.in_err-count.field-0.0 (take (length c.args.bytes.now - c.loop-done.done) (drop c.loop-done.done c.args.bytes.now)) _ c.from_residual.ensures.1 (omega arith)
    (written_on c.args.to _ (take (length c.args.bytes.now - c.loop-done.done) (drop c.loop-done.done c.args.bytes.now)) (Err c.in_err-count.field-0.0) (g.W.World.files c.loop-done.world) (g.W.World.files c.write.new.self) c.descriptor-descriptor.ensures (c.in_err-count.ensures.output tells) (c.in_err-count.ensures.errors tells))

pub returns-in_err-count-clause-log : goal.returns-in_err-count-clause-log
returns-in_err-count-clause-log g c = λ tells.
    log_refused c.args.to c.args.bytes.now c.loop-done.done _ _ (c.loop-done.invariant.log tells) _ c.in_err-count.field-0.0 (take (length c.args.bytes.now - c.loop-done.done) (drop c.loop-done.done c.args.bytes.now)) _ _ c.from_residual.ensures.1 (omega arith) c.descriptor-descriptor.ensures
    (c.in_err-count.ensures.log tells)

pub returns-clause-files : goal.returns-clause-files
returns-clause-files g c = λ tells. writes_whole c.args.to c.args.bytes.now c.loop-done.done _ _ (c.loop-done.invariant.files tells) tt (omega arith)

pub returns-clause-log : goal.returns-clause-log
returns-clause-log g c = λ tells. log_whole c.args.to c.args.bytes.now c.loop-done.done _ _ (c.loop-done.invariant.log tells) tt (omega arith)

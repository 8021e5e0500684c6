use Rattle.std.proofs.Common.{List, refl, sym, ◌∙◌, subst, arith}
use Rattle.std.specs.Prelude.{Contains}
use Rattle.std.proofs.lemmas.Result.{IfOk-from_err}
use Rattle.cd_world.specs.declared.event.Use.TheVariants.{Reading}
use Rattle.cd_world.specs.Live.{Open, open_as}
use Rattle.cd_cli.proofs.WriteSteps.{ok_unfailed}
use Rattle.cd_cli.proofs.ScriptSteps.{fill_none, fill_refused, fill_more, fill_end, fill_full, log_fill_none, log_fill_full, log_fill_refused, log_fill_end, log_fill_more}
use Rattle.cd_cli.proofs.script.fill.Goals as goal

pub loop-filled-init : goal.loop-filled-init
loop-filled-init g c = record {
  within = omega arith;
  calm = refl;
  live = refl;
  files = λ tells name has. fill_none c.args.from.0 name c.args.buffer.now (g.W.World.files c.args.world.now);
  log = λ tells. log_fill_none c.args.from c.args.buffer.now (g.W.World.log c.args.world.now);
}

pub returns-in_err-count-clause-files : goal.returns-in_err-count-clause-files
returns-in_err-count-clause-files g c = λ tells name has.
    let here = subst (λ (live : List Open). Contains live (open_as Reading c.args.from name)) (sym c.loop-filled.invariant.live) has in
    fill_refused c.args.from.0 name c.loop-filled.filled _ c.loop-filled.buffer c.read.new.into _ _ _ (c.loop-filled.invariant.files tells name has)
    c.loop-filled.invariant.within refl (omega arith) _ c.in_err-count.field-0.0 (IfOk-from_err _ _ c.from_residual.ensures.0) (c.in_err-count.ensures.file tells name here)

pub returns-in_err-count-clause-log : goal.returns-in_err-count-clause-log
returns-in_err-count-clause-log g c = λ tells.
    log_fill_refused c.args.from c.loop-filled.filled _ c.loop-filled.buffer c.read.new.into _ _ _ (c.loop-filled.invariant.log tells)
    c.loop-filled.invariant.within refl (omega arith) _ c.in_err-count.field-0.0 c.from_residual.ensures.1 (c.in_err-count.ensures.log tells)

pub loop-filled-preserved : goal.loop-filled-preserved
loop-filled-preserved g c = record {
  within = omega (arith, c.in_ok-count.ensures.within);
  calm = c.in_ok-count.ensures.count.calm (ok_unfailed _) ∙ c.loop-filled.invariant.calm;
  live = c.read.ensures.live ∙ c.loop-filled.invariant.live;
  files = λ tells name has.
      let here = subst (λ (live : List Open). Contains live (open_as Reading c.args.from name)) (sym c.loop-filled.invariant.live) has in
      fill_more c.args.from.0 name c.loop-filled.filled _ c.loop-filled.buffer c.read.new.into _ _ _ (c.loop-filled.invariant.files tells name has)
      c.loop-filled.invariant.within refl (omega arith) c.in_ok-count.count (omega (arith, c.in_ok-count.ensures.within)) (c.in_ok-count.ensures.file tells name here);
  log = λ tells.
      log_fill_more c.args.from c.loop-filled.filled _ c.loop-filled.buffer c.read.new.into _ _ _ (c.loop-filled.invariant.log tells)
      c.loop-filled.invariant.within refl (omega arith) c.in_ok-count.count c.if-count-eq0.false (omega (arith, c.in_ok-count.ensures.within)) (c.in_ok-count.ensures.log tells);
}

pub returns-after-loop-filled-clause-files : goal.returns-after-loop-filled-clause-files
returns-after-loop-filled-clause-files g c = λ tells name has. fill_full c.args.from.0 name c.loop-filled.filled c.loop-filled.buffer _ _ (c.loop-filled.invariant.files tells name has) (omega arith)

pub returns-after-loop-filled-clause-log : goal.returns-after-loop-filled-clause-log
returns-after-loop-filled-clause-log g c = λ tells. log_fill_full c.args.from c.loop-filled.filled c.loop-filled.buffer _ _ (c.loop-filled.invariant.log tells) (omega arith)

pub returns-then-count-eq0-clause-files : goal.returns-then-count-eq0-clause-files
returns-then-count-eq0-clause-files g c = λ tells name has.
    let here = subst (λ (live : List Open). Contains live (open_as Reading c.args.from name)) (sym c.loop-filled.invariant.live) has in
    fill_end c.args.from.0 name c.loop-filled.filled _ c.loop-filled.buffer c.read.new.into _ _ _ (c.loop-filled.invariant.files tells name has)
    c.loop-filled.invariant.within refl (omega arith) c.in_ok-count.count c.if-count-eq0.true (c.in_ok-count.ensures.file tells name here)

pub returns-then-count-eq0-clause-log : goal.returns-then-count-eq0-clause-log
returns-then-count-eq0-clause-log g c = λ tells.
    log_fill_end c.args.from c.loop-filled.filled _ c.loop-filled.buffer c.read.new.into _ _ _ (c.loop-filled.invariant.log tells)
    c.loop-filled.invariant.within refl (omega arith) c.in_ok-count.count c.if-count-eq0.true (c.in_ok-count.ensures.log tells)

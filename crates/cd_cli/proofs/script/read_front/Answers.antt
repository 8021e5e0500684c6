use Rattle.std.proofs.Common.{List, refl, sym, ◌∙◌, subst, length, take}
use Rattle.std.specs.Prelude.{Contains}
use Rattle.std.proofs.lemmas.Result.{IfOk-from_err}
use Rattle.std.proofs.lemmas.List.Elements.{Contains-push}
use Rattle.cd_world.specs.declared.event.Use.TheVariants.{Reading}
use Rattle.cd_world.specs.Live.{Open, open_as}
use Rattle.cd_cli.specs.Script.{LogsRead}
use Rattle.cd_cli.proofs.ScriptSteps.{front_none, front_closed, log_front_refused, log_front_closed}
use Rattle.cd_cli.proofs.script.read_front.Goals as goal

pub returns-in_err-from-clause-files : goal.returns-in_err-from-clause-files
returns-in_err-from-clause-files g c = λ tells. front_none c.args.name.now (length c.args.buffer.now) _ _ _ _ (IfOk-from_err _ _ c.from_residual.ensures.0) (c.in_err-from.ensures.files tells)

pub returns-in_err-from-clause-log : goal.returns-in_err-from-clause-log
returns-in_err-from-clause-log g c = λ tells.
    log_front_refused c.args.name.now (length c.args.buffer.now) _ _ _ _ c.in_err-from.field-0.0 c.from_residual.ensures.1 (c.in_err-from.ensures.log tells)

pub fill-answer-requires : goal.fill-answer-requires
fill-answer-requires g c = record {
  readable = (c.args.name.now, subst (λ (live : List Open). Contains live (open_as Reading c.in_ok-from.from c.args.name.now)) (sym c.in_ok-from.ensures.live.0) (Contains-push _ _));
}

pub close-closing-requires : goal.close-closing-requires
close-closing-requires g c = record {
  «open» = (Reading, (c.args.name.now, subst (λ (live : List Open). Contains live (open_as Reading c.in_ok-from.from c.args.name.now)) (sym (c.fill-answer.ensures.live ∙ c.in_ok-from.ensures.live.0)) (Contains-push _ _)));
}

pub returns-clause-files : goal.returns-clause-files
returns-clause-files g c = λ tells.
    let here = subst (λ (live : List Open). Contains live (open_as Reading c.in_ok-from.from c.args.name.now)) (sym c.in_ok-from.ensures.live.0) (Contains-push _ _) in
    let there = subst (λ (live : List Open). Contains live (open_as Reading c.in_ok-from.from c.args.name.now)) (sym (c.fill-answer.ensures.live ∙ c.in_ok-from.ensures.live.0)) (Contains-push _ _) in
    front_closed c.args.name.now c.fill-answer.new.buffer c.in_ok-from.from _ _ _ _ c.fill-answer.result (c.fill-answer.ensures.files tells c.args.name.now here)
    (c.in_ok-from.ensures.files tells) c.close-closing.result c.with_closing.result c.with_closing.ensures
    (c.close-closing.ensures.files tells (open_as Reading c.in_ok-from.from c.args.name.now) there refl)

pub returns-clause-log : goal.returns-clause-log
returns-clause-log g c = λ tells.
    subst (λ r. LogsRead c.args.name.now (length c.fill-answer.new.buffer) (λ n. take n c.fill-answer.new.buffer) r (g.W.World.log c.args.world.now) (g.W.World.log c.close-closing.new.self)) (sym c.with_closing.ensures)
    (log_front_closed c.args.name.now c.fill-answer.new.buffer c.in_ok-from.from _ _ _ _ (c.in_ok-from.ensures.log tells) c.fill-answer.result c.close-closing.result (c.fill-answer.ensures.log tells) (c.close-closing.ensures.log tells))

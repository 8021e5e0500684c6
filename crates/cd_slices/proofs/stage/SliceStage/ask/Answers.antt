use Rattle.std.proofs.Common.{None, refl, ap, sym, ◌∙◌, []}
use Rattle.cd_step.specs.Parts.{rest_items}
use Rattle.cd_step.specs.declared.protocol.Stand.TheVariants.{Wait, Over}
use Rattle.cd_slices.proofs.StageLaws.{ends_law, needs_law}
use Rattle.cd_slices.proofs.stage.SliceStage.ask.Goals as goal

pub returns-then-is_over-clause-law : goal.returns-then-is_over-clause-law
returns-then-is_over-clause-law c =
    let e = c.args.self.now in
    rw c.finish.ensures.after (ends_law e (record e { stand = Over }) c.requires.told c.requires.told refl c.finish.result None [] refl c.requires.keep c.requires.open tt c.finish.ensures.value (ap rest_items c.requires.keep) (refl, refl) (sym c.is_over.ensures ∙ c.if-is_over.true))

pub returns-clause-law : goal.returns-clause-law
returns-clause-law c =
    let e = c.args.self.now in
    needs_law e (record e { stand = Wait }) c.requires.told c.requires.told refl refl c.requires.keep
    (rw c.requires.keep (refl, refl)) (sym c.is_over.ensures ∙ c.if-is_over.false)

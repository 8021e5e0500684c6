use Rattle.std.proofs.Common.{◌∷◌, sym, ◌∙◌, subst}
use Rattle.cd_types.specs.Moments as moments
use Rattle.cd_typing.specs.Spots.{Stops}
use Rattle.cd_typing.proofs.Steps.{asks-passes, asks-stops, stops-later}
use Rattle.cd_typing.proofs.asking.refused_by.Goals as goal

pub returns-in-None : goal.returns-in-None
returns-in-None c = λ first second at more e h.
    subst (Stops at (moments.ask c.args.statement c.args.number first ∷ moments.ask c.args.statement c.args.part second ∷ more)) (sym c.refused.ensures)
    (stops-later at at (moments.ask c.args.statement c.args.number first) _ _ (asks-passes at c.args.statement c.args.number first (sym (sym c.in-None.is ∙ e)))
    (asks-stops at c.args.statement c.args.part second more c.args.kind h))

pub returns-in-Some : goal.returns-in-Some
returns-in-Some c = λ first second at more e h.
    subst (Stops at (moments.ask c.args.statement c.args.number first ∷ moments.ask c.args.statement c.args.part second ∷ more)) (sym c.refused-in-Some.ensures)
    (asks-stops at c.args.statement c.args.number first _ c.in-Some.earlier (sym (sym c.in-Some.is ∙ e)))

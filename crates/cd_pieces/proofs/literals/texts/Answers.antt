use Rattle.std.proofs.Common.{length, map, ap, ◌∙◌, subst, sym}
use Rattle.std.specs.List.{flat_map}
use Rattle.cd_elem.specs.declared.kind.Kind.TheVariants.{Texts}
use Rattle.cd_step.specs.Parts.{items}
use Rattle.cd_pieces.specs.Literals.{AreChunks, greatest}
use Rattle.cd_pieces.proofs.LiteralChunks.{text_items, texts_fit}
use Rattle.cd_pieces.proofs.literals.texts.Goals as goal

pub returns-clause-items : goal.returns-clause-items
returns-clause-items c = ap (flat_map items) (c.into_iter.ensures.rest ∙ c.in_ok-pieces.ensures) ∙ text_items c.args.literals.now

pub returns-clause-fits : goal.returns-clause-fits
returns-clause-fits c =
    subst (AreChunks (Texts c.longest.result)) (sym c.into_iter.ensures.rest)
    (texts_fit c.args.literals.now c.in_ok-pieces.pieces.items c.longest.result c.in_ok-pieces.ensures (c.longest.ensures ∙ ap (λ cs. greatest (map (λ x. length x.1) cs)) c.as_slice.ensures.value))

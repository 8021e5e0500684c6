use Rattle.std.proofs.Common.{ap, sym, ◌∙◌, ◌+◌, ◌++◌, ◌∷◌, []}
use Rattle.cd_pieces.specs.Values.{listed}
use Rattle.cd_pieces.proofs.WordLaws.{piece_listed}
use Rattle.cd_pieces.proofs.collected.Collected.push.Goals as goal

pub invariant_of-self : goal.invariant_of-self
invariant_of-self c =
    ap (λ n. n + c.weight_of-weight.result) c.self.invariant
    ∙ ap (λ n. listed c.self.inside.list + n) c.weight_of-weight.ensures
    ∙ sym (piece_listed c.args.piece c.self.inside.list c.requires.pieces)
    ∙ ap (λ v. listed (c.self.inside.list ++ v ∷ [])) (sym c.value_of.ensures)
    ∙ ap listed (sym c.in-Ok.ensures.ok)

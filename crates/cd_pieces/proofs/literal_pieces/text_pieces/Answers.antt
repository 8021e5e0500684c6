use Rattle.std.proofs.Common.{◌≤◌, length, ap, ◌∙◌, subst, sym, arith}
use Rattle.std.specs.Str.{chars}
use Rattle.cd_elem.specs.Limits.{piece_limit}
use Rattle.cd_pieces.proofs.LiteralChunks.{length_below}
use Rattle.cd_pieces.proofs.literal_pieces.text_pieces.Goals as goal

pub text_of-requires : goal.text_of-requires
text_of-requires c =
    let h = length_below (λ l. length (chars l)) 0 c.args.literals.now c.loop-literal.literal-index c.literal-item.result c.loop-literal-test.true c.literal-item.is in
    let r = c.requires in
    record { most = subst (λ x. length x ≤ piece_limit) (sym (c.from_vec.ensures ∙ c.in_ok-list.ensures ∙ ap chars c.as_str.ensures)) (omega (arith, h, r)) }

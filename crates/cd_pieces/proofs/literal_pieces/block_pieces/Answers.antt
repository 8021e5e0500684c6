use Rattle.std.proofs.Common.{◌≤◌, length, ◌∙◌, subst, sym, arith}
use Rattle.cd_elem.specs.Limits.{piece_limit}
use Rattle.cd_pieces.proofs.LiteralChunks.{length_below}
use Rattle.cd_pieces.proofs.literal_pieces.block_pieces.Goals as goal

pub block-requires : goal.block-requires
block-requires c =
    let h = length_below length 0 c.args.literals.now c.loop-literal.literal-index c.literal-item.result c.loop-literal-test.true c.literal-item.is in
    let r = c.requires in
    record { most = subst (λ x. length x ≤ piece_limit) (sym (c.as_bytes.ensures.value ∙ c.as_str.ensures)) (omega (arith, h, r)) }

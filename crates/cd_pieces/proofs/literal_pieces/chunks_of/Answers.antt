use Rattle.std.proofs.Common.{◌<◌, length, map, ap, subst, sym, arith}
use Rattle.std.proofs.lemmas.Bool.Decides.{nat_tests}
use Rattle.std.proofs.lemmas.List.{take-append-drop}
use Rattle.cd_elem.specs.declared.kind.Kind.TheVariants.{Chars}
use Rattle.cd_meaning.specs.Stream.{Elem}
use Rattle.cd_step.specs.Parts.{IsChunk, items}
use Rattle.cd_pieces.proofs.LiteralChunks.{chunk_added, is_chars}
use Rattle.cd_pieces.proofs.literal_pieces.chunks_of.Goals as goal

pub loop-rest-preserved : goal.loop-rest-preserved
loop-rest-preserved c =
    let front = c.split_at.result.0.now in
    let rest = c.loop-rest.rest.now in
    let some : 0 < length front = grind (arith, nat_tests) in
    let is = c.in_ok-chars.ensures in
    chunk_added Chars c.loop-rest.chunks.items c.push.new.self.items c.in_ok-chars.field-0 front c.split_at.result.1.now rest (map Elem c.args.list.now)
    c.in_ok-push.ensures.items (ap items is)
    (subst (IsChunk Chars) (sym is) (is_chars front some (omega arith)))
    (rw (c.split_at.ensures.front, c.split_at.ensures.back) (take-append-drop c.min.result rest))
    c.loop-rest.invariant

use Rattle.std.proofs.Common.{◌≤◌, ◌<◌, ◌++◌, length, ap, ◌∙◌, arith}
use Rattle.cd_elem.specs.Limits.{chunk_limit}
use Rattle.cd_meaning.specs.Sorts.{elements_of}
use Rattle.cd_split.specs.Joining.{line_end}
use Rattle.cd_split.proofs.JoinerLaws.{enough, joiner_empty, joiner_gives, no_elements}
use Rattle.cd_split.proofs.joiner.Joiner.give.Goals as goal

pub returns-then-total-eq0-clause-law : goal.returns-then-total-eq0-clause-law
returns-then-total-eq0-clause-law c =
    let e = c.args.self.now in
    joiner_empty e c.args.piece c.requires.told c.requires.keep (no_elements (c.args.piece.1 ++ line_end e.lines) c.total_of-total.result c.total_of-total.ensures c.if-total-eq0.true)

pub returns-then-total-le-CHUNK_LIMIT-clause-law : goal.returns-then-total-le-CHUNK_LIMIT-clause-law
returns-then-total-le-CHUNK_LIMIT-clause-law c =
    let e = c.args.self.now in
    let all = c.args.piece.1 ++ line_end e.lines in
    let n = c.total_of-total.ensures in
    let z = c.if-total-eq0.false in
    let m = c.if-total-le-CHUNK_LIMIT.true in
    joiner_gives e c.args.piece c.in_ok-made.made c.requires.told c.requires.keep (c.in_ok-made.ensures ∙ ap (λ s. (elements_of s, all)) c.requires.piece.1)
    (let g : 0 < length all = omega (arith, n, z) in g) (let g : length all ≤ chunk_limit = omega (arith, n, m) in g)

pub give_front-requires-clause-long : goal.give_front-requires-clause-long
give_front-requires-clause-long c = (let m = c.if-total-le-CHUNK_LIMIT.false in enough c.args.piece.1 c.args.self.now.lines c.total_of-total.result chunk_limit c.total_of-total.ensures (omega (arith, m)))

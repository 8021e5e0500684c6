use Rattle.std.proofs.Common.{◌≡◌, ◌≤◌, ◌<◌, ◌+◌, ◌-◌, ◌++◌, length, take, ap, ◌∙◌, arith}
use Rattle.std.proofs.Math.Seq.{take-length}
use Rattle.cd_split.specs.Cutting.{numbers}
use Rattle.cd_split.proofs.CutReads.{before, read_piece, read_whole, silent_all}
use Rattle.cd_split.proofs.CutterLaws.{cutter_grows}
use Rattle.cd_split.proofs.cutter.Cutter.fill.Goals as goal

pub give-requires-clause-read : goal.give-requires-clause-read
give-requires-clause-read c =
    let e = c.args.self.now in
    let xs = c.args.chunk.1 in
    let reach = c.min-reach.result in
    let place = c.before_end-place in
    let m = c.min-reach.ensures in
    let l = c.len.ensures in
    let n = c.len-len.ensures.value in
    let o = c.requires.open.0 in
    read_piece e.rule reach place.result e.fresh (numbers e.piece) xs place.ensures.value c.if-place-reach.true (let g : reach ≤ length xs = omega (arith, m, n) in g) (let g : length (numbers e.piece) + reach ≤ e.rule.most = omega (arith, m, l, o) in g) c.requires.ready

pub give-requires-then-reach-want-clause-read : goal.give-requires-then-reach-want-clause-read
give-requires-then-reach-want-clause-read c =
    let e = c.args.self.now in
    let xs = c.args.chunk.1 in
    let reach = c.min-reach.result in
    let want = e.rule.most - c.len.result in
    let place = c.before_end-place in
    let m = c.min-reach.ensures in
    let l = c.len.ensures in
    let n = c.len-len.ensures.value in
    let o = c.requires.open.0 in
    let r = c.if-reach-want.true in
    let f = c.if-place-reach.false in
    let p = place.ensures.within in
    read_whole e.rule want place.result e.fresh (numbers e.piece) xs (place.ensures.value ∙ ap (λ k. before e.rule (take k xs)) r) (let g : place.result ≡ want = omega (arith, r, f, p) in g)
    (let g : 0 < want = omega (arith, l, o) in g) (let g : want ≤ length xs = omega (arith, m, n, r) in g) (let g : length (numbers e.piece) + want ≡ e.rule.most = omega (arith, l, o) in g)

pub returns-clause-law : goal.returns-clause-law
returns-clause-law c =
    let e = c.args.self.now in
    let xs = c.args.chunk.1 in
    let len = c.len-len.result in
    let reach = c.min-reach.result in
    let place = c.before_end-place in
    let m = c.min-reach.ensures in
    let l = c.len.ensures in
    let n = c.len-len.ensures.value in
    let o = c.requires.open.0 in
    let r = c.if-reach-want.false in
    let f = c.if-place-reach.false in
    let p = place.ensures.within in
    let k : reach ≡ len = omega (arith, m, r) in
    let whole = ap (λ j. take j xs) n ∙ take-length xs in
    cutter_grows e c.args.chunk c.grow-grown.new.self c.requires.told c.requires.keep c.requires.chunk (c.in_ok-grown.ensures.ok ∙ ap (λ y. numbers e.piece ++ y) whole) c.grow-grown.ensures.sort
    (silent_all e.rule len place.result e.fresh (numbers e.piece) xs n (place.ensures.value ∙ ap (λ j. before e.rule (take j xs)) k) (let g : place.result ≡ len = omega (arith, k, f, p) in g)
    (let g : length (numbers e.piece) + len < e.rule.most = omega (arith, m, l, o, r, k) in g))

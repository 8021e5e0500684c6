use Rattle.std.proofs.Common.{◌≡◌, ◌≤◌, ◌<◌, ◌+◌, ◌-◌, ◌++◌, ◌∙◌, [], length, map, take, refl, ap, subst, arith, false, true, length-append}
use Rattle.std.proofs.lemmas.List.{length-take-le}
use Rattle.cd_meaning.specs.Stream.{Out}
use Rattle.cd_split.proofs.CutReads.{before, silent_all}
use Rattle.cd_slices.specs.Stages.{IsCutOff, cut_rule}
use Rattle.cd_slices.proofs.Cuts.{cut_full, cut_line, cut_end, piece_end}
use Rattle.cd_slices.proofs.cut.next_cut.Goals.{else-place-eq0-via-then-place-eq0+then-held-eq0+else-not-fresh, else-place-eq0-via-then-place-eq0+else-held-eq0, else-place-eq0-via-else-place-eq0}
use Rattle.cd_slices.proofs.cut.next_cut.Goals as goal

pub returns-then-not-fresh : goal.returns-then-not-fresh
returns-then-not-fresh c l h =
    let xs = c.args.bytes.now in
    let reach = c.min-reach.result in
    let place = c.before_end-place in
    let m = c.min-reach.ensures in
    let q = c.if-place-reach.true in
    let z = c.if-held-eq0.true in
    let some : 0 < length xs = omega (arith, m, q) in
    let t = cut_end (cut_rule c.args.rule) reach place.result c.args.fresh l xs place.ensures.value q (omega (arith, m)) c.if-place-eq0.true (omega (arith, h, z)) c.if-not-fresh.true in
    (some, t.0, t.1)

pub returns-then-place-reach : goal.returns-then-place-reach
returns-then-place-reach c l h =
    let xs = c.args.bytes.now in
    let r = cut_rule c.args.rule in
    let reach = c.min-reach.result in
    let place = c.before_end-place in
    let m = c.min-reach.ensures in
    let q = c.if-place-reach.true in
    let n : reach ≤ length xs = omega (arith, m) in
    let o : length l + reach ≤ r.most = (let k = c.requires in omega (arith, m, h, k)) in
    let i : place.result ≤ length xs = omega (arith, n, q) in
    let a = length-append l (take place.result xs) in
    let b = length-take-le place.result xs i in
    let some : c.args.fresh ≡ false → 0 < length (l ++ take place.result xs) = λ f.
    elim c.else-place-eq0.branch [
      | else-place-eq0-via-then-place-eq0+then-held-eq0+else-not-fresh w ↦ (let g = w.if-not-fresh.false in cc)
      | else-place-eq0-via-then-place-eq0+else-held-eq0 w ↦ (let g = w.if-held-eq0.false in omega (arith, g, a, h))
      | else-place-eq0-via-else-place-eq0 w ↦ (let g = w.if-place-eq0.false in omega (arith, g, a, b))
    ] in (
      omega arith,
      omega (arith, n, q),
      omega arith,
      omega (arith, o, q),
      subst (λ y. IsCutOff r (c.args.fresh, l) (take (place.result + 1) xs) (map Out y) (true, [])) (piece_end r c.args.fresh (l ++ take place.result xs) some)
          (cut_line r reach place.result c.args.fresh l xs place.ensures.value q n o),
    )

pub returns-then-reach-want : goal.returns-then-reach-want
returns-then-reach-want c l h =
    let xs = c.args.bytes.now in
    let r = cut_rule c.args.rule in
    let want = r.most - c.args.held in
    let place = c.before_end-place in
    let m = c.min-reach.ensures in
    let e = c.if-reach-want.true in
    let f = c.if-place-reach.false in
    let p = place.ensures.within in
    let u = length-take-le c.min-reach.result xs (omega (arith, m)) in
    let k = c.requires in
    let some : 0 < want = omega (arith, k) in
    let n : want ≤ length xs = omega (arith, m, e) in
    let o : length l + want ≡ r.most = omega (arith, h, k) in (
      some,
      n,
      omega arith,
      omega (arith, o),
      cut_full r want place.result c.args.fresh l xs (place.ensures.value ∙ ap (λ j. before r (take j xs)) e) (omega (arith, m, e, f, p, u)) some n o,
    )

pub returns : goal.returns
returns c l h =
    let xs = c.args.bytes.now in
    let r = cut_rule c.args.rule in
    let place = c.before_end-place in
    let m = c.min-reach.ensures in
    let e = c.if-reach-want.false in
    let f = c.if-place-reach.false in
    let p = place.ensures.within in
    let u = length-take-le c.min-reach.result xs (omega (arith, m)) in
    let k = c.requires in
    let n : c.min-reach.result ≡ length xs = omega (arith, m, e) in
    let o : length l + length xs < r.most = omega (arith, h, m, e, k) in
    (silent_all r (length xs) place.result c.args.fresh l xs refl (place.ensures.value ∙ ap (λ j. before r (take j xs)) n) (omega (arith, m, e, f, p, u)) o, o)

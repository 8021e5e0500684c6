-- Sites that are opened once, and how many are.
use Rattle.std.proofs.Common.{◌≡◌, ◌<◌, ◌≤◌, ℕ, zero, suc, ◌+◌, ◌==◌, true, if◌then◌else◌, List, [], ◌∷◌, map, refl, ap, sym, ◌∙◌, subst, arith}
use Rattle.std.specs.Prelude.{Contains}
use Rattle.std.proofs.lemmas.Bool.Decides.{nat_tests}
use Rattle.cd_meaning.specs.Known.{nothing_known}
use Rattle.cd_meaning.specs.Opens.{OpensOnce, opening, openings_in, opens_of}
use Rattle.cd_meaning.specs.Run.{Run, effects}
use Rattle.cd_meaning.specs.RunShapes.{Seen}
use Rattle.cd_meaning.specs.Stream.{Effect, Open, Put}
use Rattle.cd_world.specs.declared.event.Descriptor.{Descriptor}
use Rattle.cd_scope.specs.Calls.{Call, Opening, Refusing, Giving, Passing, Ending, Breaking, Writing, Losing, Closing, Sticking, acquired, effects_of, does, did, seen}
use Rattle.cd_scope.specs.Due.{IsNext}

-- ---- how many are opened

puts_none : (s : ℕ) (bytes : List ℕ) (r : Run) → openings_in (effects (does (map (Put s) bytes) r)) ≡ openings_in (effects r)
puts_none s [] r = refl
puts_none s (b ∷ bytes) r = puts_none s bytes r

counts_all : (cs : List Call) (r : Run) → openings_in (effects (did cs r)) ≡ acquired cs + openings_in (effects r)
counts_all [] r = omega arith
counts_all (Opening s d ∷ cs) r = let more = counts_all cs r in omega (arith, more)
counts_all (Refusing s ∷ cs) r = counts_all cs r
counts_all (Giving s d b ∷ cs) r = counts_all cs r
counts_all (Passing s d b ∷ cs) r = counts_all cs r
counts_all (Ending s d ∷ cs) r = counts_all cs r
counts_all (Breaking s d ∷ cs) r = counts_all cs r
counts_all (Writing s d b ∷ cs) r = puts_none s b (did cs r) ∙ counts_all cs r
counts_all (Losing s d ∷ cs) r = counts_all cs r
counts_all (Closing s d ∷ cs) r = counts_all cs r
counts_all (Sticking s d ∷ cs) r = counts_all cs r

pub has_room : (m : Seen → Run) (most : ℕ) → ((z : Seen) → openings_in (effects (m z)) ≤ most) → (calls : List Call) (s : ℕ) → IsNext m calls (Open s ∷ []) → acquired calls < most
has_room m most few calls s next =
    let n = next nothing_known in
    let all = few (seen calls) in
    let same = ap (λ (r : Run). openings_in (effects r)) n.1 in
    let counted = counts_all calls (does (Open s ∷ []) n.0) in
    omega (arith, all, same, counted)

-- ---- one site

does_more : (s : ℕ) (es : List Effect) (r : Run) → opens_of s (effects r) ≤ opens_of s (effects (does es r))
does_more s [] r = omega arith
does_more s (e ∷ es) r = let more = does_more s es r in omega (arith, more)

did_more : (s : ℕ) (cs : List Call) (r : Run) → opens_of s (effects r) ≤ opens_of s (effects (did cs r))
did_more s [] r = omega arith
did_more s (c ∷ cs) r = let a = did_more s cs r in let b = does_more s (effects_of c) (did cs r) in omega (arith, a, b)

opened_here : (s : ℕ) → opening s (Open s) ≡ 1
opened_here s = let same : (s == s) ≡ true = grind (arith, nat_tests) in ap (λ b. if b then one else none) same where
  one : ℕ
  one = 1

  none : ℕ
  none = 0

counts_open : (s : ℕ) (d : Descriptor) (cs : List Call) (r : Run) → Contains cs (Opening s d) → suc (opens_of s (effects r)) ≤ opens_of s (effects (did cs r))
counts_open s d [] r has = absurd (omega (arith, has.1))
counts_open s d (c ∷ cs) r (zero, lt, is) =
    subst (λ x. suc (opens_of s (effects r)) ≤ opens_of s (effects (does (effects_of x) (did cs r)))) (sym is)
    (let a = opened_here s in let b = did_more s cs r in omega (arith, a, b))
counts_open s d (c ∷ cs) r (suc k, lt, is) =
    let a = counts_open s d cs r (k, omega (arith, lt), is) in let b = does_more s (effects_of c) (did cs r) in omega (arith, a, b)

-- a site that m opens next was not opened before
pub not_opened : (m : Seen → Run) → OpensOnce m → (calls : List Call) (s : ℕ) → IsNext m calls (Open s ∷ []) → (d : Descriptor) → Contains calls (Opening s d) → ⊥
not_opened m once calls s next d has =
    let n = next nothing_known in
    let most = once (seen calls) s in
    let opened = counts_open s d calls (does (Open s ∷ []) n.0) has in
    let again = opened_here s in
    let same = ap (λ (r : Run). opens_of s (effects r)) n.1 in
    omega (arith, most, opened, again, same)

-- Where each site is opened no more often than its place lets it, there are no more openings than places with a file.
use Rattle.std.proofs.Common.{◌≡◌, ℕ, suc, ◌+◌, ◌==◌, ◌≤◌, ◌<◌, nat_le, if◌then◌else◌, List, [], ◌∷◌, ◌⊎◌, inl, inr, refl, arith}
use Rattle.std.proofs.lemmas.Bool.{cases_lt}
use Rattle.cd_meaning.specs.Stream.{Effect, Open, Put, Close}
use Rattle.cd_meaning.specs.Places.{Place}
use Rattle.cd_meaning.specs.Opens.{opening, opens_of, openings_at, openings_from, openings_in, files_in}
use Rattle.cd_meaning.proofs.Opens.Counts.{same, differ, at_most, openings_before}

-- the openings of sites from i on
abbrev one_from : ℕ → Effect → ℕ
one_from i (Open s) = if nat_le i s then 1 else 0
one_from i (Put s b) = 0
one_from i (Close s) = 0

abbrev from_site : ℕ → List Effect → ℕ
from_site i [] = 0
from_site i (e ∷ es) = one_from i e + from_site i es

one_first : (i : ℕ) (e : Effect) → one_from i e ≡ opening i e + one_from (suc i) e
one_first i (Open s) = grind arith
one_first i (Put s b) = omega arith
one_first i (Close s) = omega arith

from_first : (i : ℕ) (es : List Effect) → from_site i es ≡ opens_of i es + from_site (suc i) es
from_first i [] = omega arith
from_first i (e ∷ es) = (let h = from_first i es in let g = one_first i e in omega (arith, h, g))

all : (s : ℕ) → one_from 0 (Open s) ≡ 1
all s = grind arith

from_zero : (es : List Effect) → openings_in es ≡ from_site 0 es
from_zero [] = refl
from_zero (Open s ∷ es) = (let h = from_zero es in let g = all s in omega (arith, h, g))
from_zero (Put s b ∷ es) = (let h = from_zero es in omega (arith, h))
from_zero (Close s ∷ es) = (let h = from_zero es in omega (arith, h))

-- no site from i on is opened
none_from : (i : ℕ) (es : List Effect) → ((s : ℕ) → i ≤ s → opens_of s es ≡ 0) → from_site i es ≡ 0
none_from i [] h = refl
none_from i (e ∷ es) h =
    (let g = none_from i es (λ s l. let z = h s l in omega (arith, z)) in
    let f = by e (λ s l. let z = h s l in omega (arith, z)) in omega (arith, g, f)) where
      never : (n : ℕ) → n ≡ 1 → n ≡ 0 → ⊥
      never n a b = omega (arith, a, b)

      by : (e : Effect) → ((s : ℕ) → i ≤ s → opening s e ≡ 0) → one_from i e ≡ 0
      by (Open s) z = at (cases_lt s i) where
        at : (s < i) ⊎ (i ≤ s) → one_from i (Open s) ≡ 0
        at (inl l) = grind (arith, l)
        at (inr l) = absurd (never (opening s (Open s)) (same s s 1 refl) (z s l))
      by (Put s b) z = refl
      by (Close s) z = refl

few_from : (i : ℕ) (es : List Effect) (places : List Place) → ((s : ℕ) → i ≤ s → opens_of s es ≤ openings_from s i places) → from_site i es ≤ files_in places
few_from i es [] h = (let g = none_from i es (λ s l. let z = h s l in omega (arith, z)) in omega (arith, g))
few_from i es (p ∷ places) h =
    (let rest = few_from (suc i) es places (λ s l. let z = h s (omega (arith, l)) in let d = differ i s (openings_at p) (λ e. apart i s l e) in omega (arith, z, d)) in
    let first = h i (omega arith) in
    let a = at_most (i == i) (openings_at p) in
    let b = openings_before i (suc i) places (omega arith) in
    let c = from_first i es in omega (arith, rest, first, a, b, c)) where
      apart : (i s : ℕ) → suc i ≤ s → i ≡ s → ⊥
      apart i s l e = omega (arith, l, e)

pub few_openings : (es : List Effect) (places : List Place) → ((s : ℕ) → opens_of s es ≤ openings_from s 1 places) → openings_in es ≤ files_in places
few_openings es places h =
    let rest = few_from 1 es places (λ s l. h s) in
    let first = h 0 in
    let none = openings_before 0 1 places (omega arith) in
    omega (arith, from_zero es, from_first 0 es, rest, first, none)

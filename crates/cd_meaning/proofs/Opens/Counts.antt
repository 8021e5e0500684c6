-- What is opened and closed within an allowance, and how often places let a site be opened.
use Rattle.std.proofs.Common.{◌≡◌, ℕ, zero, suc, ◌+◌, ◌==◌, ◌≤◌, ◌<◌, Bool, true, false, if◌then◌else◌, List, [], ◌∷◌, ◌++◌, length, get_or, ◌⊎◌, inl, inr, refl, ap, ◌∙◌, arith}
use Rattle.std.proofs.lemmas.Bool.{cases_eq}
use Rattle.cd_meaning.specs.Stream.{Effect, Open, Close, Out, Do}
use Rattle.cd_meaning.specs.Run.{Run, Then, Ends, effects}
use Rattle.cd_meaning.specs.Places.{Place, Reads, ReadsInput, Writes, WritesOutput, Marks, place_in}
use Rattle.cd_meaning.specs.Opens.{opening, closing, opens_of, closes_of, openings_at, openings_from, ClosesOpen}
use Rattle.cd_meaning.proofs.Opens.Spends.{Within}

pub within_opens : (k o d : ℕ) (r : Run) → Within k o d r → opens_of k (effects r) ≤ o
within_opens k o d (Then s (Out x) r) w = within_opens k o d r w
within_opens k o d (Then s (Do e) r) w = (let h = within_opens k w.0 w.1 r w.4 in omega (arith, h, w.2))
within_opens k o d (Ends s e) w = omega arith

pub within_closed : (k o d : ℕ) (r : Run) → Within k o d r → closes_of k (effects r) ≤ d + opens_of k (effects r)
within_closed k o d (Then s (Out x) r) w = within_closed k o d r w
within_closed k o d (Then s (Do e) r) w = (let h = within_closed k w.0 w.1 r w.4 in omega (arith, h, w.3))
within_closed k o d (Ends s e) w = omega arith

pub same : (s k n : ℕ) → s ≡ k → (if s == k then n else 0) ≡ n
same s k n e = grind (arith, e)

pub opened_here : (site : ℕ) (es : List Effect) → opens_of site (Open site ∷ es) ≡ suc (opens_of site es)
opened_here site es = (let h = same site site 1 refl in omega (arith, h))

-- what a closing finds
within_close : (k o d : ℕ) (r : Run) (before behind : List Effect) → Within k o d r → effects r ≡ before ++ Close k ∷ behind
    → (suc (closes_of k before) ≤ d + opens_of k before) × (opens_of k before ≤ o)
within_close k o d (Then s (Out x) r) before behind w is = within_close k o d r before behind w is
within_close k o d (Then s (Do f) r) [] behind w is =
    let e : f ≡ Close k = cc in
    let a : closing k f ≡ 1 = ap (closing k) e ∙ same k k 1 refl in
    let b : opening k f ≡ 0 = ap (opening k) e in
    (omega (arith, w.3, a, b), omega arith)
within_close k o d (Then s (Do f) r) (f' ∷ before) behind w is =
    let e : f ≡ f' = cc in
    let rest : effects r ≡ before ++ Close k ∷ behind = cc in
    let h = within_close k w.0 w.1 r before behind w.4 rest in
    let a = ap (closing k) e in
    let b = ap (opening k) e in
    (omega (arith, h.0, w.3, a, b), omega (arith, h.1, w.2, b))
within_close k o d (Ends s x) [] behind w is = absurd cc
within_close k o d (Ends s x) (f ∷ before) behind w is = absurd cc

pub within_closes : (k o : ℕ) (r : Run) → o ≤ 1 → Within k o 0 r → ClosesOpen k r
within_closes k o r most w before behind is = let h = within_close k o 0 r before behind w is in (omega (arith, h.0, h.1, most), omega (arith, h.0, h.1, most))

-- ---- what places let a site be

pub openings_most : (p : Place) → openings_at p ≤ 1
openings_most (Reads name) = omega arith
openings_most ReadsInput = omega arith
openings_most (Writes name) = omega arith
openings_most WritesOutput = omega arith
openings_most (Marks name) = omega arith

-- a test of two numbers that differ, and of two that do not
pub differ : (s k n : ℕ) → (s ≡ k → ⊥) → (if s == k then n else 0) ≡ 0
differ s k n h = by (s == k) refl where
  by : (c : Bool) → (s == k) ≡ c → (if c then n else 0) ≡ 0
  by true e = absurd (h (grind arith))
  by false e = refl

pub at_most : (c : Bool) (n : ℕ) → (if c then n else 0) ≤ n
at_most true n = omega arith
at_most false n = omega arith

-- sites before the first, and behind the last
pub openings_before : (k s : ℕ) (places : List Place) → k < s → openings_from k s places ≡ 0
openings_before k s [] l = refl
openings_before k s (p ∷ places) l =
    (let h = openings_before k (suc s) places (omega (arith, l)) in
    let g = differ s k (openings_at p) (λ e. none k s l e) in omega (arith, h, g)) where
      none : (k s : ℕ) → k < s → s ≡ k → ⊥
      none k s l e = omega (arith, l, e)

pub openings_behind : (k s : ℕ) (places : List Place) → s + length places ≤ k → openings_from k s places ≡ 0
openings_behind k s [] l = refl
openings_behind k s (p ∷ places) l =
    (let h = openings_behind k (suc s) places (omega (arith, l)) in
    let g = differ s k (openings_at p) (λ e. none k s (length places) l e) in omega (arith, h, g)) where
      none : (k s n : ℕ) → s + suc n ≤ k → s ≡ k → ⊥
      none k s n l e = omega (arith, l, e)

pub openings_once : (k s : ℕ) (places : List Place) → openings_from k s places ≤ 1
openings_once k s [] = omega arith
openings_once k s (p ∷ places) = by (cases_eq s k) (openings_once k (suc s) places) where
  by : (s ≡ k) ⊎ (s ≡ k → ⊥) → openings_from k (suc s) places ≤ 1 → (if s == k then openings_at p else 0) + openings_from k (suc s) places ≤ 1
  by (inl e) most =
      let h = openings_before k (suc s) places (omega (arith, e)) in
      let g = at_most (s == k) (openings_at p) in
      let m = openings_most p in omega (arith, h, g, m)
  by (inr e) most = let g = differ s k (openings_at p) e in omega (arith, most, g)

-- a script's places let a site be what its own place lets it
openings_at_place : (s i : ℕ) (places : List Place) → openings_from (s + i) s places ≡ openings_at (get_or places i WritesOutput)
openings_at_place s i [] = refl
openings_at_place s zero (p ∷ places) =
    (let h = openings_before (s + 0) (suc s) places (omega arith) in
    let g = same s (s + 0) (openings_at p) (omega arith) in omega (arith, h, g))
openings_at_place s (suc i) (p ∷ places) =
    (let h = openings_at_place (suc s) i places in
    let e = ap (λ n. openings_from n (suc s) places) (next s i) in
    let g = differ s (s + suc i) (openings_at p) (less s i) in omega (arith, h, g, e)) where
      next : (s i : ℕ) → suc s + i ≡ s + suc i
      next s i = omega arith

      less : (s i : ℕ) → s ≡ s + suc i → ⊥
      less s i e = omega (arith, e)

pub openings_place : (places : List Place) (site : ℕ) → openings_from site 1 places ≡ openings_at (place_in places site)
openings_place places zero = openings_before 0 1 places (omega arith)
openings_place places (suc i) = ap (λ n. openings_from n 1 places) (next i) ∙ openings_at_place 1 i places where
  next : (i : ℕ) → suc i ≡ 1 + i
  next i = omega arith

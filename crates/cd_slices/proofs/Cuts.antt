-- Where the first piece of some bytes ends, as the splitter's scan reads them.
use Rattle.std.proofs.Common.{◌≡◌, ℕ, zero, suc, ◌+◌, ◌≤◌, ◌<◌, ◌==◌, Bool, true, false, not, cond, List, [], ◌∷◌, ◌++◌, length, map, take, refl, ap, sym, ◌∙◌, arith, append_assoc, length-append}
use Rattle.std.proofs.lemmas.Bool.{eq-eqb}
use Rattle.std.proofs.lemmas.List.{length-take-le}
use Rattle.std.specs.List.{position_or_len}
use Rattle.cd_meaning.specs.Stream.{Piece, Out}
use Rattle.cd_meaning.specs.Scan.{Go}
use Rattle.cd_split.specs.declared.rule.CutRule.{CutRule}
use Rattle.cd_split.specs.Cutting.{is_end, last_piece, cut_reply, cut_scan}
use Rattle.cd_split.proofs.CutReads.{before, silent_open}
use Rattle.cd_slices.specs.Stages.{IsCutOff}

-- ---- the byte at a place

module _ (end : ℕ → Bool) where
  abbrev place_of : List ℕ → ℕ
  place_of xs = position_or_len end xs

  -- the first that ends a line, and none in front of it does
  found : (reach : ℕ) (xs : List ℕ) → place_of (take reach xs) < length (take reach xs)
      → (x : ℕ) × (take (suc (place_of (take reach xs))) xs ≡ take (place_of (take reach xs)) xs ++ x ∷ []) × (end x ≡ true) × (place_of (take (place_of (take reach xs)) xs) ≡ place_of (take reach xs))
  found zero xs h = absurd (omega (arith, h))
  found (suc reach) [] h = absurd (omega (arith, h))
  found (suc reach) (x ∷ xs) h = by_test (end x) refl h (found reach xs) where
    by_test : (b : Bool) → end x ≡ b → cond (not b) (1 + place_of (take reach xs)) 0 < suc (length (take reach xs))
        → (place_of (take reach xs) < length (take reach xs) → (y : ℕ) × (take (suc (place_of (take reach xs))) xs ≡ take (place_of (take reach xs)) xs ++ y ∷ []) × (end y ≡ true) × (place_of (take (place_of (take reach xs)) xs) ≡ place_of (take reach xs)))
        → (y : ℕ) × (take (suc (cond (not b) (1 + place_of (take reach xs)) 0)) (x ∷ xs) ≡ take (cond (not b) (1 + place_of (take reach xs)) 0) (x ∷ xs) ++ y ∷ []) × (end y ≡ true)
        × (place_of (take (cond (not b) (1 + place_of (take reach xs)) 0) (x ∷ xs)) ≡ cond (not b) (1 + place_of (take reach xs)) 0)
    by_test true e g i = (x, refl, e, refl)
    by_test false e g i =
        let k = i (omega (arith, g)) in
        let n : 1 + place_of (take reach xs) ≡ suc (place_of (take reach xs)) = omega arith in
        rw n (k.0, ap (λ l. x ∷ l) k.1, k.2, rw e (ap (λ j. 1 + j) k.3) ∙ n)

  -- none ends a line, and so none in front of the last does
  last_of : (n : ℕ) (xs : List ℕ) → suc n ≤ length xs → place_of (take (suc n) xs) ≡ suc n
      → (x : ℕ) × (take (suc n) xs ≡ take n xs ++ x ∷ []) × (end x ≡ false) × (place_of (take n xs) ≡ n)
  last_of n [] h k = absurd (omega (arith, h))
  last_of zero (x ∷ xs) h k = by_test (end x) refl k where
    by_test : (b : Bool) → end x ≡ b → cond (not b) (1 + 0) 0 ≡ 1 → (y : ℕ) × (x ∷ [] ≡ y ∷ []) × (end y ≡ false) × (place_of [] ≡ zero)
    by_test true e g = absurd (omega (arith, g))
    by_test false e g = (x, refl, e, refl)
  last_of (suc n) (x ∷ xs) h k = by_test (end x) refl k (last_of n xs (omega (arith, h))) where
    by_test : (b : Bool) → end x ≡ b → cond (not b) (1 + place_of (take (suc n) xs)) 0 ≡ suc (suc n)
        → (place_of (take (suc n) xs) ≡ suc n → (y : ℕ) × (take (suc n) xs ≡ take n xs ++ y ∷ []) × (end y ≡ false) × (place_of (take n xs) ≡ n))
        → (y : ℕ) × (x ∷ take (suc n) xs ≡ x ∷ (take n xs ++ y ∷ [])) × (end y ≡ false) × (cond (not (end x)) (1 + place_of (take n xs)) 0 ≡ suc n)
    by_test true e g i = absurd (omega (arith, g))
    by_test false e g i =
        let m = i (omega (arith, g)) in
        let j = m.3 in
        let o : 1 + place_of (take n xs) ≡ suc n = omega (arith, j) in
        (m.0, ap (λ l. x ∷ l) m.1, m.2, rw e o)

-- ---- up to the end of a piece

module _ (r : CutRule) where
  abbrev end : ℕ → Bool
  end x = is_end r.separator x

  -- none of these ends a line
  open_front : (f : Bool) (l xs : List ℕ) (n : ℕ) → n ≤ length xs → before r (take n xs) ≡ n → length l + n < r.most → Rattle.cd_step.specs.Reading.IsSilent (cut_scan r) (f, l) (Rattle.cd_step.specs.CutChunks.elems (take n xs)) (f, l ++ take n xs)
  open_front f l xs n h b m = (let k = length-take-le n xs h in silent_open r f l (take n xs) (b ∙ sym k) (omega (arith, m, k)))

  -- one ends a line
  pub cut_line : (reach place : ℕ) (f : Bool) (l xs : List ℕ) → place ≡ before r (take reach xs) → place < reach → reach ≤ length xs → length l + reach ≤ r.most
      → IsCutOff r (f, l) (take (place + 1) xs) (map Out (last_piece (f, l ++ take place xs))) (true, [])
  cut_line reach place f l xs p h k m =
      rw p (
      let n = length-take-le reach xs k in
      let i = found end reach xs (omega (arith, n, h, p)) in
      let j : before r (take reach xs) + 1 ≡ suc (before r (take reach xs)) = omega arith in
      let e = i.2 in (
        take (before r (take reach xs)) xs,
        i.0,
        (f, l ++ take (before r (take reach xs)) xs),
        ap (λ y. take y xs) j ∙ i.1,
        open_front f l xs (before r (take reach xs)) (omega (arith, h, p, k)) i.3 (omega (arith, h, p, m)),
        rw e refl,
      ))

  -- one directly follows a full piece
  pub cut_end : (reach place : ℕ) (f : Bool) (l xs : List ℕ) → place ≡ before r (take reach xs) → place < reach → reach ≤ length xs → place ≡ 0 → length l ≡ 0 → f ≡ false
      → (l ≡ []) × IsCutOff r (f, l) (take 1 xs) [] (true, [])
  cut_end reach place f (y ∷ l) xs p h k z n g = absurd (omega (arith, n))
  cut_end zero place f [] xs p h k z n g = absurd (omega (arith, h))
  cut_end (suc reach) place f [] [] p h k z n g = absurd (omega (arith, k))
  cut_end (suc reach) place f [] (x ∷ xs) p h k z n g = (refl, ([], x, (f, []), refl, refl, rw g (by_test (end x) (sym p ∙ z)))) where
    by_test : (b : Bool) → cond (not b) (1 + before r (take reach xs)) 0 ≡ 0 → cut_reply b (1 == r.most) (false, []) x ≡ Go [] (true, [])
    by_test true e = refl
    by_test false e = absurd (omega (arith, e))

  -- one fills a piece
  pub cut_full : (want place : ℕ) (f : Bool) (l xs : List ℕ) → place ≡ before r (take want xs) → place ≡ want → 0 < want → want ≤ length xs → length l + want ≡ r.most
      → IsCutOff r (f, l) (take want xs) (Out (Piece (l ++ take want xs)) ∷ []) (false, [])
  cut_full zero place f l xs p e z k m = absurd (omega (arith, z))
  cut_full (suc n) place f l xs p e z k m =
      let i = last_of end n xs k (sym p ∙ e) in
      let t = length-take-le n xs (omega (arith, k)) in
      let a = length-append l (take n xs) in
      let g = i.2 in
      let o : length (l ++ take n xs) + 1 ≡ r.most = omega (arith, a, t, m) in (
        take n xs,
        i.0,
        (f, l ++ take n xs),
        i.1,
        open_front f l xs n (omega (arith, k)) i.3 (omega (arith, m)),
        rw (g, eq-eqb (length (l ++ take n xs) + 1) r.most o) (ap (λ y. Go (Out (Piece y) ∷ []) (false, [])) (append_assoc l (take n xs) (i.0 ∷ []) ∙ ap (λ y. l ++ y) (sym i.1))),
      )

  -- ---- the piece at the end of a line

  whole : (l : List ℕ) → last_piece (true, l) ≡ Piece l ∷ []
  whole [] = refl
  whole (x ∷ l) = refl

  pub piece_end : (f : Bool) (l : List ℕ) → (f ≡ false → 0 < length l) → last_piece (f, l) ≡ Piece l ∷ []
  piece_end true l h = whole l
  piece_end false [] h = absurd (let k = h refl in omega (arith, k))
  piece_end false (x ∷ l) h = refl

-- What a splitter from elements reads, as its scan does.
use Rattle.std.proofs.Common.{◌≡◌, ◌≢◌, ℕ, zero, suc, ◌+◌, ◌≤◌, ◌<◌, Bool, true, false, not, cond, List, [], ◌∷◌, ◌++◌, length, map, take, refl, ap, sym, ◌∙◌, subst, arith, append_assoc, length-append}
use Rattle.std.proofs.lemmas.Bool.{ne_eqb, eq-eqb}
use Rattle.std.proofs.lemmas.List.{append-nil, length-take-le}
use Rattle.std.proofs.Math.Seq.{take-length}
use Rattle.std.specs.List.{position_or_len}
use Rattle.cd_meaning.specs.Stream.{Piece, Out}
use Rattle.cd_meaning.specs.Scan.{Scan}
use Rattle.cd_step.specs.CutChunks.{elems}
use Rattle.cd_step.specs.Reading.{IsRead, IsSilent}
use Rattle.cd_split.specs.declared.rule.CutRule.{CutRule}
use Rattle.cd_split.specs.Cutting.{Line, is_end, last_piece, cut_scan}

length-take-most : (n : ℕ) (xs : List ℕ) → length (take n xs) ≤ n
length-take-most zero xs = omega arith
length-take-most (suc n) [] = omega arith
length-take-most (suc n) (x ∷ xs) = let h = length-take-most n xs in omega (arith, h)

-- how many stand before a separator
abbrev pub before : CutRule → List ℕ → ℕ
before r xs = position_or_len (is_end r.separator) xs

module _ (r : CutRule) where
  abbrev w : Scan Line
  w = cut_scan r

  abbrev end : ℕ → Bool
  end x = is_end r.separator x

  -- ---- none of them ends a line or fills a piece

  pub silent_open : (f : Bool) (l xs : List ℕ) → before r xs ≡ length xs → length l + length xs < r.most → IsSilent w (f, l) (elems xs) (f, l ++ xs)
  silent_open f l [] h m = ap (λ y. (f, y)) (sym (append-nil l))
  silent_open f l (x ∷ xs) h m = by_test (end x) refl h (λ g. silent_open f (l ++ x ∷ []) xs (omega (arith, g)) (let a = length-append l (x ∷ []) in omega (arith, m, a))) where
    by_test : (b : Bool) → end x ≡ b → cond (not b) (1 + before r xs) 0 ≡ suc (length xs) → (1 + before r xs ≡ suc (length xs) → IsSilent w (f, l ++ x ∷ []) (elems xs) (f, (l ++ x ∷ []) ++ xs)) → IsSilent w (f, l) (elems (x ∷ xs)) (f, l ++ x ∷ xs)
    by_test true e g i = absurd (omega (arith, g))
    by_test false e g i =
        let n : length l + 1 ≢ r.most = λ k. omega (arith, k, m) in (
          (f, l ++ x ∷ []),
          refl,
          rw (e, ne_eqb (length l + 1) r.most n) refl,
          subst (λ y. IsSilent w (f, l ++ x ∷ []) (elems xs) (f, y)) (append_assoc l (x ∷ []) xs) (i g),
        )

  -- ---- one ends a line

  pub read_line : (reach : ℕ) (f : Bool) (l xs : List ℕ) → before r (take reach xs) < length (take reach xs) → length l + reach ≤ r.most
      → IsRead w (f, l) (elems (take (before r (take reach xs) + 1) xs)) (map Out (last_piece (f, l ++ take (before r (take reach xs)) xs))) (true, [])
  read_line zero f l xs h m = absurd (omega (arith, h))
  read_line (suc reach) f l [] h m = absurd (omega (arith, h))
  read_line (suc reach) f l (x ∷ xs) h m = by_test (end x) refl h (λ g. read_line reach f (l ++ x ∷ []) xs (omega (arith, g)) (let a = length-append l (x ∷ []) in omega (arith, m, a))) where
    by_test : (b : Bool) → end x ≡ b → cond (not b) (1 + before r (take reach xs)) 0 < suc (length (take reach xs))
        → (1 + before r (take reach xs) < suc (length (take reach xs)) → IsRead w (f, l ++ x ∷ []) (elems (take (before r (take reach xs) + 1) xs)) (map Out (last_piece (f, (l ++ x ∷ []) ++ take (before r (take reach xs)) xs))) (true, []))
        → IsRead w (f, l) (elems (take (cond (not b) (1 + before r (take reach xs)) 0 + 1) (x ∷ xs))) (map Out (last_piece (f, l ++ take (cond (not b) (1 + before r (take reach xs)) 0) (x ∷ xs)))) (true, [])
    by_test true e g i = (
      map Out (last_piece (f, l)),
      [],
      (true, []),
      refl,
      rw e refl,
      ap (λ y. map Out (last_piece (f, y))) (append-nil l) ∙ sym (append-nil (map Out (last_piece (f, l)))),
      (refl, refl),
    )
    by_test false e g i =
        let k1 : 1 + before r (take reach xs) ≡ suc (before r (take reach xs)) = omega arith in
        let k2 : suc (before r (take reach xs)) + 1 ≡ suc (before r (take reach xs) + 1) = omega arith in
        let j = length-take-most reach xs in
        let o : length l + 1 ≢ r.most = λ z. omega (arith, z, m, g, j) in
        rw (k1, k2) (
          [],
          map Out (last_piece (f, l ++ x ∷ take (before r (take reach xs)) xs)),
          (f, l ++ x ∷ []),
          refl,
          rw (e, ne_eqb (length l + 1) r.most o) refl,
          refl,
          subst (λ y. IsRead w (f, l ++ x ∷ []) (elems (take (before r (take reach xs) + 1) xs)) (map Out (last_piece (f, y))) (true, [])) (append_assoc l (x ∷ []) (take (before r (take reach xs)) xs)) (i g),
        )

  -- ---- one fills a piece

  pub read_full : (count : ℕ) (f : Bool) (l xs : List ℕ) → 0 < count → count ≤ length xs → before r (take count xs) ≡ count → length l + count ≡ r.most
      → IsRead w (f, l) (elems (take count xs)) (Out (Piece (l ++ take count xs)) ∷ []) (false, [])
  read_full zero f l xs z k h m = absurd (omega (arith, z))
  read_full (suc count) f l [] z k h m = absurd (omega (arith, k))
  read_full (suc count) f l (x ∷ xs) z k h m = by_test (end x) refl h count refl (λ o g. read_full count f (l ++ x ∷ []) xs o (omega (arith, k)) (omega (arith, g)) (let a = length-append l (x ∷ []) in omega (arith, m, a))) where
    by_test : (b : Bool) → end x ≡ b → cond (not b) (1 + before r (take count xs)) 0 ≡ suc count → (n : ℕ) → count ≡ n
        → (0 < count → 1 + before r (take count xs) ≡ suc count → IsRead w (f, l ++ x ∷ []) (elems (take count xs)) (Out (Piece ((l ++ x ∷ []) ++ take count xs)) ∷ []) (false, []))
        → IsRead w (f, l) (elems (take (suc count) (x ∷ xs))) (Out (Piece (l ++ x ∷ take count xs)) ∷ []) (false, [])
    by_test true e g n i j = absurd (omega (arith, g))
    by_test false e g zero i j =
        let o : length l + 1 ≡ r.most = omega (arith, m, i) in
        rw i (Out (Piece (l ++ x ∷ [])) ∷ [], [], (false, []), refl, rw (e, eq-eqb (length l + 1) r.most o) refl, refl, (refl, refl))
    by_test false e g (suc n) i j =
        let o : length l + 1 ≢ r.most = λ y. omega (arith, y, m, i) in (
          [],
          Out (Piece (l ++ x ∷ take count xs)) ∷ [],
          (f, l ++ x ∷ []),
          refl,
          rw (e, ne_eqb (length l + 1) r.most o) refl,
          refl,
          subst (λ y. IsRead w (f, l ++ x ∷ []) (elems (take count xs)) (Out (Piece y) ∷ []) (false, [])) (append_assoc l (x ∷ []) (take count xs)) (j (omega (arith, i)) g),
        )

  -- ---- one directly follows a full piece

  pub silent_end : (xs : List ℕ) → 0 < length xs → before r (take 1 xs) ≢ 1 → IsSilent w (false, []) (elems (take 1 xs)) (true, [])
  silent_end [] h n = absurd (omega (arith, h))
  silent_end (x ∷ xs) h n = by_test (end x) refl n where
    by_test : (b : Bool) → end x ≡ b → cond (not b) (1 + 0) 0 ≢ 1 → IsSilent w (false, []) (elems (x ∷ [])) (true, [])
    by_test true e g = ((true, []), refl, rw e refl, refl)
    by_test false e g = absurd (g refl)

  -- ---- the piece at the end of a line

  last_some : (reach : ℕ) (f : Bool) (l xs : List ℕ) → before r (take (suc reach) xs) < suc reach → (f ≡ false → l ≡ [] → before r (take 1 xs) ≡ 1) → suc reach ≤ length xs
      → last_piece (f, l ++ take (before r (take (suc reach) xs)) xs) ≡ Piece (l ++ take (before r (take (suc reach) xs)) xs) ∷ []
  last_some reach f (y ∷ l) xs h k m = refl
  last_some reach true [] xs h k m = whole (take (before r (take (suc reach) xs)) xs) where
    whole : (l : List ℕ) → last_piece (true, l) ≡ Piece l ∷ []
    whole [] = refl
    whole (x ∷ l) = refl
  last_some reach false [] [] h k m = absurd (omega (arith, m))
  last_some reach false [] (x ∷ xs) h k m = by_test (end x) (k refl refl) where
    by_test : (b : Bool) → cond (not b) (1 + 0) 0 ≡ 1
        → last_piece (false, take (cond (not b) (1 + before r (take reach xs)) 0) (x ∷ xs)) ≡ Piece (take (cond (not b) (1 + before r (take reach xs)) 0) (x ∷ xs)) ∷ []
    by_test true g = absurd (omega (arith, g))
    by_test false g = (let e : 1 + before r (take reach xs) ≡ suc (before r (take reach xs)) = omega arith in rw e refl)

  pub read_piece : (reach place : ℕ) (f : Bool) (l xs : List ℕ) → place ≡ before r (take reach xs) → place < reach → reach ≤ length xs → length l + reach ≤ r.most → (f ≡ false → l ≡ [] → before r (take 1 xs) ≡ 1)
      → IsRead w (f, l) (elems (take (place + 1) xs)) (Out (Piece (l ++ take place xs)) ∷ []) (true, [])
  read_piece zero place f l xs p h k m a = absurd (omega (arith, h))
  read_piece (suc reach) place f l xs p h k m a =
      rw p (
      subst (λ y. IsRead w (f, l) (elems (take (before r (take (suc reach) xs) + 1) xs)) (map Out y) (true, [])) (last_some reach f l xs (omega (arith, h, p)) a k)
      (read_line (suc reach) f l xs (let n = length-take-le (suc reach) xs k in omega (arith, n, h, p)) m))

  pub read_whole : (want place : ℕ) (f : Bool) (l xs : List ℕ) → place ≡ before r (take want xs) → place ≡ want → 0 < want → want ≤ length xs → length l + want ≡ r.most
      → IsRead w (f, l) (elems (take want xs)) (Out (Piece (l ++ take want xs)) ∷ []) (false, [])
  read_whole want place f l xs p e z k m = read_full want f l xs z k (sym p ∙ e) m

  pub silent_all : (len place : ℕ) (f : Bool) (l xs : List ℕ) → len ≡ length xs → place ≡ before r (take len xs) → place ≡ len → length l + len < r.most → IsSilent w (f, l) (elems xs) (f, l ++ xs)
  silent_all len place f l xs h p e m = (let t = ap (λ n. take n xs) h ∙ take-length xs in silent_open f l xs (sym (ap (before r) t) ∙ sym p ∙ e ∙ h) (omega (arith, m, h)))

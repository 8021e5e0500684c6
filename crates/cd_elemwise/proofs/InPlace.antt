-- A list that is changed place by place.
use Rattle.std.proofs.Common.{◌≡◌, ◌<◌, ◌+◌, ℕ, zero, suc, List, [], ◌∷◌, ◌++◌, take, drop, map, length, get_or, slice_set, ◌∙◌, ap, ap₂, subst, arith}

module _ {X : Type 0} (number : X → ℕ) (g : ℕ → ℕ) where
  head_is : (m n : ℕ) (xs ys : List ℕ) → m ∷ xs ≡ n ∷ ys → m ≡ n
  head_is m n xs ys is = ap (λ (l : List ℕ). get_or l 0 m) is

  tail_is : (m n : ℕ) (xs ys : List ℕ) → m ∷ xs ≡ n ∷ ys → xs ≡ ys
  tail_is m n xs ys is = ap (drop 1) is

  changed : (xs ys : List X) (k : ℕ) (other new : X) → k < length xs → map number xs ≡ map (λ y. g (number y)) (take k ys) ++ map number (drop k ys) → number new ≡ g (number (get_or xs k other))
      → map number (slice_set xs k new) ≡ map (λ y. g (number y)) (take (suc k) ys) ++ map number (drop (suc k) ys)
  changed [] ys k other new within is made = absurd (omega (arith, within))
  changed (x ∷ xs) [] zero other new within is made = absurd cc
  changed (x ∷ xs) [] (suc k) other new within is made = absurd cc
  changed (x ∷ xs) (y ∷ ys) zero other new within is made = ap₂ (λ a l. a ∷ l) (made ∙ ap g (head_is _ _ _ _ is)) (tail_is _ _ _ _ is)
  changed (x ∷ xs) (y ∷ ys) (suc k) other new within is made = ap₂ (λ a l. a ∷ l) (head_is _ _ _ _ is) (changed xs ys k other new (omega (arith, within)) (tail_is _ _ _ _ is) made)

  -- what stands in front of a place is changed, and then what stands there
  pub changed_next : (xs ys : List X) (k : ℕ) (other new : X) → k < length xs → map number xs ≡ map (λ y. g (number y)) (take k ys) ++ map number (drop k ys) → number new ≡ g (number (get_or xs k other))
      → map number (slice_set xs k new) ≡ map (λ y. g (number y)) (take (k + 1) ys) ++ map number (drop (k + 1) ys)
  changed_next xs ys k other new within is made =
      let next : suc k ≡ k + 1 = omega arith in
      subst (λ (n : ℕ). map number (slice_set xs k new) ≡ map (λ y. g (number y)) (take n ys) ++ map number (drop n ys)) next (changed xs ys k other new within is made)

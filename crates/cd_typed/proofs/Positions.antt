-- The first place at which a test passes, and how often it does, in a list and in one that it is mapped to.
use Rattle.std.proofs.Common.{◌≡◌, ℕ, ◌+◌, Bool, nat_lt, not, cond, List, [], ◌∷◌, map, length, position, Option, Some, None, refl, ap, sym, ◌∙◌, arith}
use Rattle.std.specs.List.{count_by, position_or_len}
use Rattle.std.proofs.lemmas.List.{length-map}
use Rattle.std.proofs.lemmas.List.Sums.{sum_by-append}

place_mapped : {X Y : Type 0} (f : X → Y) (p : Y → Bool) (xs : List X) → position_or_len p (map f xs) ≡ position_or_len (λ x. p (f x)) xs
place_mapped f p [] = refl
place_mapped f p (x ∷ xs) = ap (λ n. cond (not (p (f x))) (1 + n) 0) (place_mapped f p xs)

found_at : ℕ → ℕ → Option ℕ
found_at place count = cond (nat_lt place count) (Some place) None

pub position_mapped : {X Y : Type 0} (f : X → Y) (p : Y → Bool) (xs : List X) → position p (map f xs) ≡ position (λ x. p (f x)) xs
unfolding found_at
position_mapped f p xs =
    ap (λ n. found_at n (length (map f xs))) (place_mapped f p xs) ∙ ap (found_at (position_or_len (λ x. p (f x)) xs)) (length-map xs f)

one_counted : {X : Type 0} (p : X → Bool) (x : X) (xs : List X) → count_by p (x ∷ xs) ≡ cond (p x) 1 0 + count_by p xs
one_counted p x xs = sum_by-append (λ y. cond (p y) 1 0) (x ∷ []) xs ∙ ap (λ (n : ℕ). n + count_by p xs) (from_none (cond (p x) 1 0)) where
  from_none : (n : ℕ) → 0 + n ≡ n
  from_none n = omega arith

pub count_mapped : {X Y : Type 0} (f : X → Y) (p : Y → Bool) (xs : List X) → count_by p (map f xs) ≡ count_by (λ x. p (f x)) xs
count_mapped f p [] = refl
count_mapped f p (x ∷ xs) = one_counted p (f x) (map f xs) ∙ ap (λ (n : ℕ). cond (p (f x)) 1 0 + n) (count_mapped f p xs) ∙ sym (one_counted (λ y. p (f y)) x xs)

-- Outputs and inputs of parts.
use Rattle.std.proofs.Common.{◌≡◌, ℕ, ◌≤◌, ◌<◌, max, nat_lt, ◌⊎◌, inl, inr, Bool, true, false, ◌||◌, if◌then◌else◌, Some, None, refl, ap, sym, ◌∙◌, arith}
use Rattle.std.proofs.lemmas.Bool.{ltb-true, ltb-false}
use Rattle.cd_elem.specs.declared.kind.Kind.{Kind}
use Rattle.cd_meaning.proofs.Moves.Fused.{IsGrade}
use Rattle.cd_meaning.specs.Rest.{Grade, net_if}
use Rattle.cd_step.specs.Parts.{of_pieces, sort_at, bound_at, Meets, Agree, Shares, shared, joined, AreApart}
use Rattle.cd_types.specs.Flows.{Flow, Sort, is_pieces, kind_sort, kind_bound, kind_with, larger, join}
use Rattle.cd_types.specs.Fitting.{IsOfSort}

-- ---- kinds

-- a part that is idle or that pieces come to takes nothing or pieces
pub compared : (f t : Flow) (idle : Bool) → (t ≡ None) ⊎ (t ≡ f) → (idle ≡ true → t ≡ None) → (idle || is_pieces f || false) ≡ true → of_pieces t ≡ true
compared f t true o h e = ap of_pieces (h refl)
compared f t false (inl k) h e = ap of_pieces k
compared f t false (inr k) h e = ap of_pieces k ∙ comes f e where
  comes : (f : Flow) → (is_pieces f || false) ≡ true → of_pieces f ≡ true
  comes None e = refl
  comes (Some Kind.Bytes) e = e
  comes (Some Kind.Chars) e = e
  comes (Some (Kind.Blocks m)) e = refl
  comes (Some (Kind.Texts m)) e = refl

-- a part that takes what comes, or nothing, reads it
pub meets : (g k : Flow) → (k ≡ None) ⊎ (k ≡ g) → Meets g k
meets None k o = tt
meets (Some j) None o = tt
meets (Some j) (Some k) (inl e) = let no : ⊥ = cc in absurd no
meets (Some j) (Some k) (inr e) = let same : k ≡ j = cc in rw same (refl, le_self _) where
  le_self : (n : ℕ) → n ≤ n
  le_self n = omega arith

same_sorts : (j k : Kind) → kind_sort j ≡ kind_sort k → sort_at j ≡ sort_at k
same_sorts Kind.Bytes Kind.Bytes e = refl
same_sorts Kind.Bytes Kind.Chars e = e
same_sorts Kind.Bytes (Kind.Blocks n) e = e
same_sorts Kind.Bytes (Kind.Texts n) e = e
same_sorts Kind.Chars Kind.Bytes e = e
same_sorts Kind.Chars Kind.Chars e = refl
same_sorts Kind.Chars (Kind.Blocks n) e = e
same_sorts Kind.Chars (Kind.Texts n) e = e
same_sorts (Kind.Blocks m) Kind.Bytes e = e
same_sorts (Kind.Blocks m) Kind.Chars e = e
same_sorts (Kind.Blocks m) (Kind.Blocks n) e = refl
same_sorts (Kind.Blocks m) (Kind.Texts n) e = e
same_sorts (Kind.Texts m) Kind.Bytes e = e
same_sorts (Kind.Texts m) Kind.Chars e = e
same_sorts (Kind.Texts m) (Kind.Blocks n) e = e
same_sorts (Kind.Texts m) (Kind.Texts n) e = refl

pub agree_so : (s : Sort) (g h : Flow) → IsOfSort s g → IsOfSort s h → Agree g h
agree_so s None h a b = tt
agree_so s (Some j) None a b = tt
agree_so s (Some j) (Some k) a b = same_sorts j k (a ∙ sym b)

-- two parts that take what comes, or nothing
pub shares : (f g h : Flow) → (g ≡ None) ⊎ (g ≡ f) → (h ≡ None) ⊎ (h ≡ f) → Shares g h
shares f None h a b = tt
shares f (Some j) None a b = tt
shares f (Some j) (Some k) (inl a) b = let no : ⊥ = cc in absurd no
shares f (Some j) (Some k) (inr a) (inl b) = let no : ⊥ = cc in absurd no
shares f (Some j) (Some k) (inr a) (inr b) = let e : Some j ≡ Some k = a ∙ sym b in cc

pub shared_so : (f g h : Flow) → (g ≡ None) ⊎ (g ≡ f) → (h ≡ None) ⊎ (h ≡ f) → (shared g h ≡ None) ⊎ (shared g h ≡ f)
shared_so f None h a b = b
shared_so f (Some j) h a b = a

-- ---- outputs that come one behind the other

pub larger_is : (m n : ℕ) → larger m n ≡ max m n
larger_is m n = by (nat_lt m n) refl where
  by : (less : Bool) → nat_lt m n ≡ less → (if less then n else m) ≡ max m n
  by true e = let l = ltb-true m n e in omega arith
  by false e = let l = ltb-false m n e in omega arith

bound_is : (m : ℕ) (k : Kind) → max m (bound_at k) ≡ larger m (kind_bound k)
bound_is m Kind.Bytes = sym (larger_is m 0)
bound_is m Kind.Chars = sym (larger_is m 0)
bound_is m (Kind.Blocks n) = sym (larger_is m n)
bound_is m (Kind.Texts n) = sym (larger_is m n)

-- what a node gives and what the typing says
pub joined_is : (g h : Flow) → joined g h ≡ join g h
joined_is None h = refl
joined_is (Some j) None = refl
joined_is (Some Kind.Bytes) (Some k) = refl
joined_is (Some Kind.Chars) (Some k) = refl
joined_is (Some (Kind.Blocks m)) (Some k) = ap (λ (n : ℕ). Some (Kind.Blocks n)) (bound_is m k)
joined_is (Some (Kind.Texts m)) (Some k) = ap (λ (n : ℕ). Some (Kind.Texts n)) (bound_is m k)

most_of_three : (m p q : ℕ) → larger (larger m p) q ≡ larger m (larger p q)
most_of_three m p q =
    larger_is (larger m p) q
    ∙ ap (λ (n : ℕ). max n q) (larger_is m p)
    ∙ associates m p q
    ∙ ap (λ (n : ℕ). max m n) (sym (larger_is p q))
    ∙ sym (larger_is m (larger p q)) where
      associates : (m p q : ℕ) → max (max m p) q ≡ max m (max p q)
      associates m p q = omega arith

-- the bound of two of one sort
bound_of_both : (j k : Kind) → kind_sort j ≡ kind_sort k → kind_bound (kind_with j (larger (kind_bound j) (kind_bound k))) ≡ larger (kind_bound j) (kind_bound k)
bound_of_both Kind.Bytes Kind.Bytes e = refl
bound_of_both Kind.Bytes Kind.Chars e = refl
bound_of_both Kind.Bytes (Kind.Blocks n) e = let no : ⊥ = cc in absurd no
bound_of_both Kind.Bytes (Kind.Texts n) e = let no : ⊥ = cc in absurd no
bound_of_both Kind.Chars Kind.Bytes e = refl
bound_of_both Kind.Chars Kind.Chars e = refl
bound_of_both Kind.Chars (Kind.Blocks n) e = let no : ⊥ = cc in absurd no
bound_of_both Kind.Chars (Kind.Texts n) e = let no : ⊥ = cc in absurd no
bound_of_both (Kind.Blocks m) k e = refl
bound_of_both (Kind.Texts m) k e = refl

bounds_in_turn : (m : ℕ) (j k : Kind) → kind_sort j ≡ kind_sort k
    → larger (larger m (kind_bound j)) (kind_bound k) ≡ larger m (kind_bound (kind_with j (larger (kind_bound j) (kind_bound k))))
bounds_in_turn m j k e = most_of_three m (kind_bound j) (kind_bound k) ∙ ap (larger m) (sym (bound_of_both j k e))

-- of three outputs, of which the second and the third are of one sort, it is the same which two are joined first
pub join_in_turn : (s : Sort) (g h i : Flow) → IsOfSort s h → IsOfSort s i → join (join g h) i ≡ join g (join h i)
join_in_turn s None h i a b = refl
join_in_turn s (Some j) None i a b = refl
join_in_turn s (Some j) (Some k) None a b = refl
join_in_turn s (Some Kind.Bytes) (Some k) (Some l) a b = refl
join_in_turn s (Some Kind.Chars) (Some k) (Some l) a b = refl
join_in_turn s (Some (Kind.Blocks m)) (Some k) (Some l) a b = ap (λ (n : ℕ). Some (Kind.Blocks n)) (bounds_in_turn m k l (a ∙ sym b))
join_in_turn s (Some (Kind.Texts m)) (Some k) (Some l) a b = ap (λ (n : ℕ). Some (Kind.Texts n)) (bounds_in_turn m k l (a ∙ sym b))

-- ---- grades

pub is_grade : (g : Grade) → (g.pieces ≡ true → g.exact ≡ true) → IsGrade g
is_grade g h s = by_cases g.pieces g.exact h where
  by_cases : (p e : Bool) → (p ≡ true → e ≡ true) → net_if p (net_if e s) ≡ net_if p s
  by_cases false true h = refl
  by_cases false false h = refl
  by_cases true true h = refl
  by_cases true false h = let no : false ≡ true = h refl in cc

-- ---- sites

pub or_so : (a b : Bool) → (a || b) ≡ true → (a ≡ true) ⊎ (b ≡ true)
or_so true b e = inl refl
or_so false b e = inr e

-- sites of numbers below n, and sites of numbers from n on
pub apart : (a b : ℕ → Bool) (n : ℕ) → ((t : ℕ) → a t ≡ true → t < n) → ((t : ℕ) → b t ≡ true → n ≤ t) → AreApart a b
apart a b n h k s e = by_cases (b s) (k s) where
  by_cases : (y : Bool) → (y ≡ true → n ≤ s) → y ≡ false
  by_cases true l = let below = h s e in let above = l refl in absurd (omega arith)
  by_cases false l = refl

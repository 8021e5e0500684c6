-- What holds of each call of a list.
use Rattle.std.proofs.Common.{◌≡◌, List, [], ◌∷◌, ◌++◌, ◌⊎◌, inl, inr, refl, ap, sym, ◌∙◌, subst, append_assoc}
use Rattle.cd_scope.specs.Calls.{Call}
use Rattle.cd_scope.specs.Due.{Each}

abbrev tail_of : List Call → List Call
tail_of [] = []
tail_of (y ∷ l) = l

abbrev head_of : Call → List Call → Call
head_of c [] = c
head_of c (y ∷ l) = y

abbrev is_empty : List Call → Type 0
is_empty [] = Unit {0}
is_empty (y ∷ l) = ⊥

not_empty : (front : List Call) (x : Call) (back : List Call) → [] ≡ front ++ x ∷ back → ⊥
not_empty [] x back e = subst is_empty e tt
not_empty (y ∷ front) x back e = subst is_empty e tt

split_snoc : (l : List Call) (c : Call) (front : List Call) (x : Call) (back : List Call) → l ++ c ∷ [] ≡ front ++ x ∷ back → ((l ≡ front) × (c ≡ x)) ⊎ ((b : List Call) × (l ≡ front ++ x ∷ b))
split_snoc [] c [] x back e = inl (refl, ap (head_of c) e)
split_snoc [] c (y ∷ front) x back e = absurd (not_empty front x back (ap tail_of e))
split_snoc (y ∷ l) c [] x back e = inr (l, ap (λ h. h ∷ l) (ap (head_of c) e))
split_snoc (y ∷ l) c (w ∷ front) x back e = put (ap (head_of c) e) (split_snoc l c front x back (ap tail_of e)) where
  put : y ≡ w → ((l ≡ front) × (c ≡ x)) ⊎ ((b : List Call) × (l ≡ front ++ x ∷ b)) → ((y ∷ l ≡ w ∷ front) × (c ≡ x)) ⊎ ((b : List Call) × (y ∷ l ≡ w ∷ front ++ x ∷ b))
  put h (inl a) = inl (ap (λ t. y ∷ t) a.0 ∙ ap (λ t. t ∷ front) h, a.1)
  put h (inr a) = inr (a.0, ap (λ t. y ∷ t) a.1 ∙ ap (λ t. t ∷ front ++ x ∷ a.0) h)

pub each_nil : (P : List Call → Call → Type 0) → Each P []
each_nil P front c back e = absurd (not_empty front c back e)

pub each_snoc : (P : List Call → Call → Type 0) (cs : List Call) (c : Call) → Each P cs → P cs c → Each P (cs ++ c ∷ [])
each_snoc P cs c all here front x back e = by (split_snoc cs c front x back e) where
  by : ((cs ≡ front) × (c ≡ x)) ⊎ ((b : List Call) × (cs ≡ front ++ x ∷ b)) → P front x
  by (inl a) = subst (λ l. P l x) a.0 (subst (λ y. P cs y) a.1 here)
  by (inr a) = all front x a.0 a.1

-- the same list, one call further on
pub each_on : (P : List Call → Call → Type 0) (front : List Call) (c : Call) (back : List Call) → Each P (front ++ c ∷ back) → Each P ((front ++ c ∷ []) ++ back)
each_on P front c back all = subst (λ l. Each P l) (sym (append_assoc front (c ∷ []) back)) all

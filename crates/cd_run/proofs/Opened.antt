-- What is open was opened, and what was not opened gave nothing.
use Rattle.std.proofs.Common.{◌≡◌, ℕ, zero, suc, ◌==◌, ◌⊎◌, inl, inr, Bool, true, false, if◌then◌else◌, List, [], ◌∷◌, ◌++◌, refl, ap, sym, ◌∙◌, subst, arith, append_assoc}
use Rattle.std.specs.Prelude.{Contains}
use Rattle.std.proofs.lemmas.Bool.Decides.{nat_tests}
use Rattle.std.proofs.lemmas.List.Elements.{Contains-append_cases, Contains-append_left}
use Rattle.cd_meaning.specs.Places.{Reads}
use Rattle.cd_world.specs.declared.event.Descriptor.{Descriptor}
use Rattle.cd_scope.specs.declared.table.Held.{Held}
use Rattle.cd_scope.specs.Uses.{ReadsAt}
use Rattle.cd_scope.specs.Calls.{Call, Opening, Refusing, Giving, Passing, Ending, Breaking, Writing, Losing, Closing, Sticking, held_at, is_held, without, opens, open_from, left_open, given_by, given_of}
use Rattle.cd_scope.specs.Due.{Setting, Each, Fits}

-- ---- what is open was opened

kept_has : (b : Bool) (h : Held) (t u : List Held) (k : Held) → (Contains u k → Contains t k) → Contains (if b then t else h ∷ u) k → Contains (h ∷ t) k
kept_has true h t u k go has = (suc has.0, omega (arith, has.1), has.2)
kept_has false h t u k go (zero, lt, is) = (zero, omega arith, is)
kept_has false h t u k go (suc j, lt, is) = let old = go (j, omega (arith, lt), is) in (suc old.0, omega (arith, old.1), old.2)

pub without_has : (s : ℕ) (d : Descriptor) (t : List Held) (k : Held) → Contains (without s d t) k → Contains t k
without_has s d [] k has = has
without_has s d (h ∷ t) k has = kept_has (is_held s d h) h t (without s d t) k (λ c. without_has s d t k c) has

later : (t u : List Held) (c : Call) (cs : List Call) (h : Held) → (Contains u h → Contains t h ⊎ (Opening h.site.0 h.descriptor ≡ c)) → Contains u h ⊎ Contains cs (Opening h.site.0 h.descriptor) → Contains t h ⊎ Contains (c ∷ cs) (Opening h.site.0 h.descriptor)
later t u c cs h before (inl has) = by (before has) where
  by : Contains t h ⊎ (Opening h.site.0 h.descriptor ≡ c) → Contains t h ⊎ Contains (c ∷ cs) (Opening h.site.0 h.descriptor)
  by (inl old) = inl old
  by (inr new) = inr (zero, omega arith, sym new)
later t u c cs h before (inr has) = inr (suc has.0, omega (arith, has.1), has.2)

alone : (s : ℕ) (d : Descriptor) (h : Held) → Contains (held_at s d ∷ []) h → Opening h.site.0 h.descriptor ≡ Opening s d
alone s d h (zero, lt, is) = ap (λ (x : Held). Opening x.site.0 x.descriptor) (sym is)
alone s d h (suc j, lt, is) = absurd (omega (arith, lt))

before_call : (t : List Held) (c : Call) (h : Held) → Contains (opens c t) h → Contains t h ⊎ (Opening h.site.0 h.descriptor ≡ c)
before_call t (Opening s d) h has = by (Contains-append_cases t (held_at s d ∷ []) h has) where
  by : Contains t h ⊎ Contains (held_at s d ∷ []) h → Contains t h ⊎ (Opening h.site.0 h.descriptor ≡ Opening s d)
  by (inl a) = inl a
  by (inr b) = inr (alone s d h b)
before_call t (Refusing s) h has = inl has
before_call t (Giving s d b) h has = inl has
before_call t (Passing s d b) h has = inl has
before_call t (Ending s d) h has = inl has
before_call t (Breaking s d) h has = inl has
before_call t (Writing s d b) h has = inl has
before_call t (Losing s d) h has = inl has
before_call t (Closing s d) h has = inl (without_has s d t h has)
before_call t (Sticking s d) h has = inl (without_has s d t h has)

came : (t : List Held) (cs : List Call) (h : Held) → Contains (open_from t cs) h → Contains t h ⊎ Contains cs (Opening h.site.0 h.descriptor)
came t [] h has = inl has
came t (c ∷ cs) h has = later t (opens c t) c cs h (before_call t c h) (came (opens c t) cs h has)

pub was_opened : (cs : List Call) (h : Held) → Contains (left_open cs) h → Contains cs (Opening h.site.0 h.descriptor)
was_opened cs h has = by (came [] cs h has) where
  by : Contains [] h ⊎ Contains cs (Opening h.site.0 h.descriptor) → Contains cs (Opening h.site.0 h.descriptor)
  by (inl none) = absurd (omega (arith, none.1))
  by (inr new) = new

-- a file that was not opened gave nothing
module _ (g : Setting) (s : ℕ) (name : List ℕ) (reads : g.place s ≡ Reads name) (calls : List Call) (fits : Each (Fits g) calls) (never : (d : Descriptor) → Contains calls (Opening s d) → ⊥) where
  in_front : (front back : List Call) (x : Call) → calls ≡ front ++ back → Contains front x → Contains calls x
  in_front front back x e has = subst (λ l. Contains l x) (sym e) (Contains-append_left front back x has)

  gives_none : (front back : List Call) (t : ℕ) (d : Descriptor) (b : List ℕ) → calls ≡ front ++ Giving t d b ∷ back → given_by s (Giving t d b) ≡ []
  gives_none front back t d b e = by (s == t) refl where
    by : (test : Bool) → (s == t) ≡ test → (if test then b else []) ≡ []
    by true is =
        let same : s ≡ t = grind (arith, nat_tests, is) in
        let at : ReadsAt (Reads name) d.0 (Contains (left_open front) (held_at t d)) = subst (λ p. ReadsAt p d.0 (Contains (left_open front) (held_at t d))) (ap g.place (sym same) ∙ reads) (fits front (Giving t d b) back e).1 in
        absurd (never d (in_front front (Giving t d b ∷ back) (Opening s d) e (subst (λ x. Contains front (Opening x d)) (sym same) (was_opened front (held_at t d) at))))
    by false is = refl

  none_behind : (front back : List Call) → calls ≡ front ++ back → given_of s back ≡ []
  none_behind front [] e = refl
  none_behind front (c ∷ back) e = ap (λ l. given_by s c ++ l) (none_behind (front ++ c ∷ []) back (e ∙ sym (append_assoc front (c ∷ []) back))) ∙ ap (λ l. l ++ []) (here c e) where
    here : (c : Call) → calls ≡ front ++ c ∷ back → given_by s c ≡ []
    here (Giving t d b) e = gives_none front back t d b e
    here (Opening t d) e = refl
    here (Refusing t) e = refl
    here (Passing t d b) e = refl
    here (Ending t d) e = refl
    here (Breaking t d) e = refl
    here (Writing t d b) e = refl
    here (Losing t d) e = refl
    here (Closing t d) e = refl
    here (Sticking t d) e = refl

  pub gave_none : given_of s calls ≡ []
  gave_none = none_behind [] calls refl

-- Runs that go on as others began.
use Rattle.std.proofs.Common.{Bool, true, false, ◌≡◌, ℕ, ◌≤◌, ◌⊎◌, inl, inr, List, [], ◌∷◌, ◌++◌, map, refl, ap, sym, ◌∙◌, subst}
use Rattle.std.proofs.lemmas.Bool.{eqb-true, eqb-false}
use Rattle.cd_meaning.specs.Stream.{Item, Elem, More, Reading, Halts, Act, Out, Do, Effect, Close}
use Rattle.cd_meaning.specs.Run.{Stamp, start, Run, Then, Ends, Component, outs, effects, ending, outs_at}
use Rattle.cd_meaning.specs.RunShapes.{Mark, MayGoOn, Told, Seen}
use Rattle.cd_meaning.specs.Sources.{source_end, source_file, stdin}
use Rattle.cd_meaning.specs.Laws.{Rising, EachStamp}
use Rattle.cd_meaning.specs.Further.{WaitsFor, Begins, GoesOn, IsFurther, Further, only}
use Rattle.cd_meaning.proofs.Rising.{rising_less}
use Rattle.cd_meaning.proofs.Runs.Sources.{AtStart, start_rising, outs_start, source_end_start}

pub act_same : (s t : Stamp) (a b : Act) (r : Run) → s ≡ t → a ≡ b → Then s a r ≡ Then t b r
act_same s t a b r h k = rw (h, k)

pub begins_refl : (sites : ℕ → Bool) (r : Run) → Begins sites r r
begins_refl sites (Then s a r) = (refl, refl, begins_refl sites r)
begins_refl sites (Ends s e) = inl refl

pub begins_same : (sites : ℕ → Bool) (r q : Run) → r ≡ q → Begins sites r q
begins_same sites r q e = subst (Begins sites r) e (begins_refl sites r)

-- the one is the other, or it waits for one of these sites
pub begins_cases : (sites : ℕ → Bool) (r q : Run) → Begins sites r q → (q ≡ r) ⊎ WaitsFor sites (ending r)
begins_cases sites (Then s a r) (Then t b q) k = on_rest (begins_cases sites r q k.2) k.0 k.1 where
  on_rest : (q ≡ r) ⊎ WaitsFor sites (ending r) → s ≡ t → a ≡ b → (Then t b q ≡ Then s a r) ⊎ WaitsFor sites (ending r)
  on_rest (inl e) e1 e2 = inl (rw (e, e1, e2))
  on_rest (inr e) e1 e2 = inr e
begins_cases sites (Then s a r) (Ends t e) k = absurd k
begins_cases sites (Ends s e) q (inl k) = inl k
begins_cases sites (Ends s e) q (inr k) = inr k.0

-- a run that ends otherwise is the same run
pub begins_ended : (sites : ℕ → Bool) (r q : Run) → Begins sites r q → (WaitsFor sites (ending r) → ⊥) → q ≡ r
begins_ended sites r q k f = by_case (begins_cases sites r q k) f where
  by_case : (q ≡ r) ⊎ WaitsFor sites (ending r) → (WaitsFor sites (ending r) → ⊥) → q ≡ r
  by_case (inl e) f = e
  by_case (inr e) f = absurd (f e)

pub begins_outs : (sites : ℕ → Bool) (r q : Run) → Begins sites r q → (o : List Item) × (outs q ≡ outs r ++ o)
begins_outs sites (Then s (Out x) r) (Then t b q) k = with_out (begins_outs sites r q k.2) k.1 where
  with_out : (o : List Item) × (outs q ≡ outs r ++ o) → Out x ≡ b → (o : List Item) × (outs (Then t b q) ≡ x ∷ (outs r ++ o))
  with_out i e = (i.0, ap (λ y. outs (Then t y q)) (sym e) ∙ ap (λ l. x ∷ l) i.1)
begins_outs sites (Then s (Do f) r) (Then t b q) k = with_do (begins_outs sites r q k.2) k.1 where
  with_do : (o : List Item) × (outs q ≡ outs r ++ o) → Do f ≡ b → (o : List Item) × (outs (Then t b q) ≡ outs r ++ o)
  with_do i e = (i.0, ap (λ y. outs (Then t y q)) (sym e) ∙ i.1)
begins_outs sites (Then s a r) (Ends t e) k = absurd k
begins_outs sites (Ends s e) q k = (outs q, refl)

-- no effect of the one is taken back
pub begins_effects : (sites : ℕ → Bool) (r q : Run) → Begins sites r q → (more : List Effect) × (effects q ≡ effects r ++ more)
begins_effects sites (Then s (Out x) r) (Then t b q) k = with_out (begins_effects sites r q k.2) k.1 where
  with_out : (more : List Effect) × (effects q ≡ effects r ++ more) → Out x ≡ b → (more : List Effect) × (effects (Then t b q) ≡ effects r ++ more)
  with_out i e = (i.0, ap (λ y. effects (Then t y q)) (sym e) ∙ i.1)
begins_effects sites (Then s (Do f) r) (Then t b q) k = with_do (begins_effects sites r q k.2) k.1 where
  with_do : (more : List Effect) × (effects q ≡ effects r ++ more) → Do f ≡ b → (more : List Effect) × (effects (Then t b q) ≡ f ∷ (effects r ++ more))
  with_do i e = (i.0, ap (λ y. effects (Then t y q)) (sym e) ∙ ap (λ l. f ∷ l) i.1)
begins_effects sites (Then s a r) (Ends t e) k = absurd k
begins_effects sites (Ends s e) q k = (effects q, refl)

pub begins_rising : (sites : ℕ → Bool) (m : ℕ) (r q : Run) → Begins sites r q → Rising m r → Rising m q
begins_rising sites m (Then s a r) (Then t b q) k j = (subst (λ u. m ≤ u.need) k.0 j.0, subst (λ u. Rising u.need q) k.0 (begins_rising sites s.need r q k.2 j.1))
begins_rising sites m (Then s a r) (Ends t e) k j = absurd k
begins_rising sites m (Ends s e) q (inl k) j = subst (Rising m) (sym k) j
begins_rising sites m (Ends s e) q (inr k) j = rising_less m s.need q j k.1

pub begins_trans : (sites : ℕ → Bool) (r q p : Run) → Begins sites r q → Begins sites q p → Begins sites r p
begins_trans sites (Then s a r) (Then t b q) (Then u c p) k j = (k.0 ∙ j.0, k.1 ∙ j.1, begins_trans sites r q p k.2 j.2)
begins_trans sites (Then s a r) (Then t b q) (Ends u e) k j = absurd j
begins_trans sites (Then s a r) (Ends t e) p k j = absurd k
begins_trans sites (Ends s e) q p (inl k) j = subst (λ x. Begins sites x p) k j
begins_trans sites (Ends s e) q p (inr k) j = inr (k.0, begins_rising sites s.need q p j k.1)

pub goes_on_refl : (sites : ℕ → Bool) (f : Component) → GoesOn sites f f
goes_on_refl sites f xs e = begins_refl sites (f xs e)

-- ---- the sources at whose site further bytes came

pub outs_begin : (sites : ℕ → Bool) (xs : List Item) (r q : Run) → Begins sites r q → Begins sites (outs_at start xs r) (outs_at start xs q)
outs_begin sites [] r q k = k
outs_begin sites (x ∷ xs) r q k = (refl, refl, outs_begin sites xs r q k)

outs_more : (xs more : List ℕ) (r : Run) → outs_at start (map Elem (xs ++ more)) r ≡ outs_at start (map Elem xs) (outs_at start (map Elem more) r)
outs_more [] more r = refl
outs_more (x ∷ xs) more r = ap (Then start (Out (Elem x))) (outs_more xs more r)

-- a reading word, where ends is what stands behind its bytes
reader_begins : (sites : ℕ → Bool) (s : ℕ) (ends : Mark → Run) (t t' : Told) → sites s ≡ true → ends MayGoOn ≡ Ends start (Halts (More (Reading s))) → ((m : Mark) → EachStamp AtStart (ends m))
    → IsFurther t t' → Begins sites (outs_at start (map Elem t.bytes) (ends t.mark)) (outs_at start (map Elem t'.bytes) (ends t'.mark))
reader_begins sites s ends t t' i f k w =
    let waits = Ends start (Halts (More (Reading s))) in
    let q = outs_at start (map Elem w.more) (ends t'.mark) in
    subst (λ x. Begins sites (outs_at start (map Elem t.bytes) x) (outs_at start (map Elem t'.bytes) (ends t'.mark))) (sym (ap ends w.waited ∙ f))
    (subst (λ x. Begins sites (outs_at start (map Elem t.bytes) waits) x) (sym (ap (λ l. outs_at start (map Elem l) (ends t'.mark)) w.bytes ∙ outs_more t.bytes w.more (ends t'.mark)))
    (outs_begin sites (map Elem t.bytes) waits q (inr ((s, i, refl), start_rising q (outs_start (map Elem w.more) (ends t'.mark) (k t'.mark))))))

-- at any site, one of these or another
at_site : (sites : ℕ → Bool) (s : ℕ) (seen seen' : Seen) (f : Told → Run) → Further sites seen seen' → (sites s ≡ true → IsFurther (seen s) (seen' s) → Begins sites (f (seen s)) (f (seen' s)))
    → Begins sites (f (seen s)) (f (seen' s))
at_site sites s seen seen' f k g = by_test sites (sites s) (seen s) (seen' s) f (k.further s) (k.others s) g where
  by_test : (sites : ℕ → Bool) (b : Bool) (t t' : Told) (f : Told → Run) → (b ≡ true → IsFurther t t') → (b ≡ false → t' ≡ t)
      → (b ≡ true → IsFurther t t' → Begins sites (f t) (f t')) → Begins sites (f t) (f t')
  by_test sites true t t' f i j g = g refl (i refl)
  by_test sites false t t' f i j g = begins_same sites (f t) (f t') (sym (ap f (j refl)))

pub source_file_goes_on : (sites : ℕ → Bool) (s : ℕ) (seen seen' : Seen) → Further sites seen seen' → GoesOn sites (source_file s (seen s)) (source_file s (seen' s))
source_file_goes_on sites s seen seen' k xs e = (
  refl,
  refl,
  (let closes = Do (Close s) ∷ [] in
      at_site sites s seen seen' (λ t. outs_at start (map Elem t.bytes) (source_end s closes t.mark)) k
      (λ i w. reader_begins sites s (source_end s closes) (seen s) (seen' s) i refl (source_end_start s closes) w)),
)

pub stdin_goes_on : (sites : ℕ → Bool) (s : ℕ) (seen seen' : Seen) → Further sites seen seen' → GoesOn sites (stdin s (seen s)) (stdin s (seen' s))
stdin_goes_on sites s seen seen' k xs e =
    at_site sites s seen seen' (λ t. outs_at start (map Elem t.bytes) (source_end s [] t.mark)) k
    (λ i w. reader_begins sites s (source_end s []) (seen s) (seen' s) i refl (source_end_start s []) w)

-- one site gave more
pub further_at : (site : ℕ) (seen seen' : Seen) → IsFurther (seen site) (seen' site) → ((other : ℕ) → (other ≡ site → ⊥) → seen' other ≡ seen other) → Further (only site) seen seen'
further_at site seen seen' k f = record {
  further = λ s i. subst (λ n. IsFurther (seen n) (seen' n)) (sym (eqb-true s site i)) k;
  others = λ s i. f s (eqb-false s site i);
}

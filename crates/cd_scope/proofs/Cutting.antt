-- What is seen of a site, by its reads alone.
use Rattle.std.proofs.Common.{◌≡◌, ◌≢◌, ℕ, ◌==◌, ◌⊎◌, inl, inr, Bool, true, false, if◌then◌else◌, List, [], ◌∷◌, ◌++◌, refl, ap, sym, ◌∙◌, subst, arith}
use Rattle.std.proofs.lemmas.Bool.Decides.{nat_tests}
use Rattle.cd_meaning.specs.Known.{before, nothing_known, pick, unknown}
use Rattle.cd_meaning.specs.RunShapes.{Mark, MayGoOn, Broken, TooLong, AtEnd, Told, Seen}
use Rattle.cd_world.specs.declared.event.Descriptor.{Descriptor}
use Rattle.cd_scope.specs.Calls.{Call, Opening, Refusing, Giving, Passing, Ending, Breaking, Writing, Losing, Closing, Sticking, on, over, seen, given_by, given_of, mark_by, mark_of}
use Rattle.cd_scope.specs.Due.{Each, Fits, Setting}
use Rattle.cd_scope.specs.Cuts.{reads, reads_of, ReadsOn, AreInOrder}
use Rattle.cd_scope.proofs.Lists.{each_on}

is_same : (s x : ℕ) → (s == x) ≡ true → s ≡ x
is_same s x e = grind (arith, nat_tests, e)

-- ---- a site's own reads

picked : (b : Bool) (w v t u : Told) → (b ≡ true → w ≡ v) → t ≡ u → pick b w t ≡ pick b v u
picked true w v t u same other = same refl
picked false w v t u same other = other

-- what a call tells of a site is by what comes of that site
on_same : (s : ℕ) (c : Call) (y z : Seen) → y s ≡ z s → on c y s ≡ on c z s
on_same s (Giving x d bytes) y z e = picked (s == x) _ _ _ _ (λ h. ap (before bytes) (ap y (sym (is_same s x h)) ∙ e ∙ ap z (is_same s x h))) e
on_same s (Passing x d bytes) y z e = picked (s == x) _ _ _ _ (λ h. refl) e
on_same s (Ending x d) y z e = picked (s == x) _ _ _ _ (λ h. refl) e
on_same s (Breaking x d) y z e = picked (s == x) _ _ _ _ (λ h. refl) e
on_same s (Opening x d) y z e = e
on_same s (Refusing x) y z e = e
on_same s (Writing x d bytes) y z e = e
on_same s (Losing x d) y z e = e
on_same s (Closing x d) y z e = e
on_same s (Sticking x d) y z e = e

unpicked : (b : Bool) (w t : Told) → b ≡ false → pick b w t ≡ t
unpicked b w t e = ap (λ (x : Bool). pick x w t) e

on_other : (s : ℕ) (c : Call) (z : Seen) → reads s c ≡ false → on c z s ≡ z s
on_other s (Giving x d bytes) z e = unpicked (s == x) _ _ e
on_other s (Passing x d bytes) z e = unpicked (s == x) _ _ e
on_other s (Ending x d) z e = unpicked (s == x) _ _ e
on_other s (Breaking x d) z e = unpicked (s == x) _ _ e
on_other s (Opening x d) z e = refl
on_other s (Refusing x) z e = refl
on_other s (Writing x d bytes) z e = refl
on_other s (Losing x d) z e = refl
on_other s (Closing x d) z e = refl
on_other s (Sticking x d) z e = refl

own_reads : (s : ℕ) (cs : List Call) (z : Seen) → over cs z s ≡ over (reads_of s cs) z s
own_reads s [] z = refl
own_reads s (c ∷ cs) z = by (own_reads s cs z) (reads s c) refl where
  by : over cs z s ≡ over (reads_of s cs) z s → (b : Bool) → reads s c ≡ b → on c (over cs z) s ≡ over (if b then c ∷ reads_of s cs else reads_of s cs) z s
  by more true e = on_same s c (over cs z) (over (reads_of s cs) z) more
  by more false e = on_other s c (over cs z) e ∙ more

pub seen_by_own : (calls other : List Call) (s : ℕ) → reads_of s calls ≡ reads_of s other → seen calls s ≡ seen other s
seen_by_own calls other s e = own_reads s calls nothing_known ∙ ap (λ (l : List Call). over l nothing_known s) e ∙ sym (own_reads s other nothing_known)

-- ---- marks

abbrev is_open_mark : Mark → Type 0
is_open_mark MayGoOn = Unit {0}
is_open_mark _ = ⊥

end_apart : AtEnd ≢ MayGoOn
end_apart = λ (e : AtEnd ≡ MayGoOn). subst is_open_mark (sym e) tt

broken_apart : Broken ≢ MayGoOn
broken_apart = λ (e : Broken ≡ MayGoOn). subst is_open_mark (sym e) tt

long_apart : TooLong ≢ MayGoOn
long_apart = λ (e : TooLong ≡ MayGoOn). subst is_open_mark (sym e) tt

-- a call leaves the mark of a site to those behind it, or decides it
abbrev Marking : ℕ → Call → Type 0
Marking s c = ((m : Mark) → mark_by s c m ≡ m) ⊎ ((k : Mark) × (k ≢ MayGoOn) × ((m : Mark) → mark_by s c m ≡ k))

decided : (k : Mark) (b : Bool) → k ≢ MayGoOn → ((m : Mark) → (if b then k else m) ≡ m) ⊎ ((j : Mark) × (j ≢ MayGoOn) × ((m : Mark) → (if b then k else m) ≡ j))
decided k true apart = inr (k, apart, λ m. refl)
decided k false apart = inl (λ m. refl)

marking : (s : ℕ) (c : Call) → Marking s c
marking s (Passing x d bytes) = decided TooLong (s == x) long_apart
marking s (Ending x d) = decided AtEnd (s == x) end_apart
marking s (Breaking x d) = decided Broken (s == x) broken_apart
marking s (Giving x d bytes) = inl (λ m. refl)
marking s (Opening x d) = inl (λ m. refl)
marking s (Refusing x) = inl (λ m. refl)
marking s (Writing x d bytes) = inl (λ m. refl)
marking s (Losing x d) = inl (λ m. refl)
marking s (Closing x d) = inl (λ m. refl)
marking s (Sticking x d) = inl (λ m. refl)

-- behind calls that left the mark going it is that of the further calls
pub mark_more : (s : ℕ) (front more : List Call) → mark_of s front ≡ MayGoOn → mark_of s (front ++ more) ≡ mark_of s more
mark_more s [] more e = refl
mark_more s (c ∷ front) more e = by (mark_more s front more) (marking s c) where
  by : (mark_of s front ≡ MayGoOn → mark_of s (front ++ more) ≡ mark_of s more) → Marking s c → mark_of s (c ∷ front ++ more) ≡ mark_of s more
  by behind (inl leaves) = leaves (mark_of s (front ++ more)) ∙ behind (sym (leaves (mark_of s front)) ∙ e)
  by behind (inr (k, apart, is)) = absurd (apart (sym (is (mark_of s front)) ∙ e))

-- a mark that was told stays
pub mark_kept : (s : ℕ) (front more : List Call) → mark_of s front ≢ MayGoOn → mark_of s (front ++ more) ≡ mark_of s front
mark_kept s [] more apart = absurd (apart refl)
mark_kept s (c ∷ front) more apart = by (mark_kept s front more) (marking s c) where
  by : (mark_of s front ≢ MayGoOn → mark_of s (front ++ more) ≡ mark_of s front) → Marking s c → mark_of s (c ∷ front ++ more) ≡ mark_of s (c ∷ front)
  by behind (inl leaves) = leaves (mark_of s (front ++ more)) ∙ behind (λ (e : mark_of s front ≡ MayGoOn). apart (leaves (mark_of s front) ∙ e)) ∙ sym (leaves (mark_of s front))
  by behind (inr (k, other, is)) = is (mark_of s (front ++ more)) ∙ sym (is (mark_of s front))

-- ---- behind a mark nothing is given

module _ (s : ℕ) where
  gives_none : (front : List Call) (c : Call) → ReadsOn front c → mark_of s front ≢ MayGoOn → given_by s c ≡ []
  gives_none front (Giving x d bytes) going apart = by (s == x) refl where
    by : (b : Bool) → (s == x) ≡ b → (if b then bytes else []) ≡ []
    by true e = absurd (apart (ap (λ (y : ℕ). mark_of y front) (is_same s x e) ∙ going))
    by false e = refl
  gives_none front (Passing x d bytes) going apart = refl
  gives_none front (Ending x d) going apart = refl
  gives_none front (Breaking x d) going apart = refl
  gives_none front (Opening x d) going apart = refl
  gives_none front (Refusing x) going apart = refl
  gives_none front (Writing x d bytes) going apart = refl
  gives_none front (Losing x d) going apart = refl
  gives_none front (Closing x d) going apart = refl
  gives_none front (Sticking x d) going apart = refl

  none_behind : (front rest : List Call) → AreInOrder (front ++ rest) → mark_of s front ≢ MayGoOn → given_of s rest ≡ []
  none_behind front [] order apart = refl
  none_behind front (c ∷ rest) order apart =
      ap (λ (l : List ℕ). given_by s c ++ l)
      (none_behind (front ++ c ∷ []) rest (each_on ReadsOn front c rest order) (λ (e : mark_of s (front ++ c ∷ []) ≡ MayGoOn). apart (sym (mark_kept s front (c ∷ []) apart) ∙ e)))
      ∙ ap (λ (l : List ℕ). l ++ []) (gives_none front c (order front c rest refl) apart)

-- ---- what is seen is what was given, and the mark

abbrev told_of : ℕ → List Call → Told
told_of s calls = record { bytes = given_of s calls; mark = mark_of s calls }

abbrev told_with : List ℕ → Mark → Told
told_with bytes m = record { bytes = bytes; mark = m }

told_as : (bytes other : List ℕ) (m k : Mark) → bytes ≡ other → m ≡ k → told_with bytes m ≡ told_with other k
told_as bytes other m k e f = ap (λ (l : List ℕ). told_with l m) e ∙ ap (told_with other) f

module _ (s : ℕ) (z : Seen) (nothing : z s ≡ unknown MayGoOn) where
  -- the call tells nothing of the site
  skips : (c : Call) (rest : List Call) → on c (over rest z) s ≡ over rest z s → given_by s c ≡ [] → mark_by s c (mark_of s rest) ≡ mark_of s rest → over rest z s ≡ told_of s rest → over (c ∷ rest) z s ≡ told_of s (c ∷ rest)
  skips c rest same none leaves is = same ∙ is ∙ told_as _ _ _ _ (ap (λ (l : List ℕ). l ++ given_of s rest) (sym none)) (sym leaves)

  -- the call tells of the site where it reads it
  stops : (c : Call) (k : Mark) (b : Bool) (front rest : List Call) → AreInOrder (front ++ c ∷ rest) → mark_of s front ≡ MayGoOn → k ≢ MayGoOn → given_by s c ≡ []
      → ((m : Mark) → mark_by s c m ≡ (if b then k else m)) → on c (over rest z) s ≡ pick b (unknown k) (over rest z s)
      → (mark_of s (front ++ c ∷ []) ≡ MayGoOn → over rest z s ≡ told_of s rest) → over (c ∷ rest) z s ≡ told_of s (c ∷ rest)
  stops c k true front rest order going apart none marks tells more =
      let told : mark_of s (front ++ c ∷ []) ≡ k = mark_more s front (c ∷ []) going ∙ marks MayGoOn in
      let empty : given_of s rest ≡ [] = none_behind s (front ++ c ∷ []) rest (each_on ReadsOn front c rest order) (λ (e : mark_of s (front ++ c ∷ []) ≡ MayGoOn). apart (sym told ∙ e)) in
      tells ∙ told_as _ _ _ _ (sym (ap (λ (l : List ℕ). l ++ given_of s rest) none ∙ empty)) (sym (marks (mark_of s rest)))
  stops c k false front rest order going apart none marks tells more =
      skips c rest tells none (marks (mark_of s rest)) (more (mark_more s front (c ∷ []) going ∙ marks MayGoOn))

  gives : (d : Descriptor) (x : ℕ) (bytes : List ℕ) (rest : List Call) → over rest z s ≡ told_of s rest → (b : Bool) → (s == x) ≡ b
      → pick b (before bytes (over rest z x)) (over rest z s) ≡ record { bytes = (if b then bytes else []) ++ given_of s rest; mark = mark_of s rest }
  gives d x bytes rest is true e = ap (before bytes) (ap (λ (y : ℕ). over rest z y) (sym (is_same s x e)) ∙ is)
  gives d x bytes rest is false e = is

  over_is : (front rest : List Call) → AreInOrder (front ++ rest) → mark_of s front ≡ MayGoOn → over rest z s ≡ told_of s rest
  over_is front [] order going = nothing
  over_is front (Giving x d bytes ∷ rest) order going = gives d x bytes rest (over_is (front ++ Giving x d bytes ∷ []) rest (each_on ReadsOn front (Giving x d bytes) rest order) (mark_more s front (Giving x d bytes ∷ []) going)) (s == x) refl
  over_is front (Passing x d bytes ∷ rest) order going = stops (Passing x d bytes) TooLong (s == x) front rest order going long_apart refl (λ m. refl) refl (λ e. over_is (front ++ Passing x d bytes ∷ []) rest (each_on ReadsOn front (Passing x d bytes) rest order) e)
  over_is front (Ending x d ∷ rest) order going = stops (Ending x d) AtEnd (s == x) front rest order going end_apart refl (λ m. refl) refl (λ e. over_is (front ++ Ending x d ∷ []) rest (each_on ReadsOn front (Ending x d) rest order) e)
  over_is front (Breaking x d ∷ rest) order going = stops (Breaking x d) Broken (s == x) front rest order going broken_apart refl (λ m. refl) refl (λ e. over_is (front ++ Breaking x d ∷ []) rest (each_on ReadsOn front (Breaking x d) rest order) e)
  over_is front (Opening x d ∷ rest) order going = over_is (front ++ Opening x d ∷ []) rest (each_on ReadsOn front (Opening x d) rest order) (mark_more s front (Opening x d ∷ []) going)
  over_is front (Refusing x ∷ rest) order going = over_is (front ++ Refusing x ∷ []) rest (each_on ReadsOn front (Refusing x) rest order) (mark_more s front (Refusing x ∷ []) going)
  over_is front (Writing x d bytes ∷ rest) order going = over_is (front ++ Writing x d bytes ∷ []) rest (each_on ReadsOn front (Writing x d bytes) rest order) (mark_more s front (Writing x d bytes ∷ []) going)
  over_is front (Losing x d ∷ rest) order going = over_is (front ++ Losing x d ∷ []) rest (each_on ReadsOn front (Losing x d) rest order) (mark_more s front (Losing x d ∷ []) going)
  over_is front (Closing x d ∷ rest) order going = over_is (front ++ Closing x d ∷ []) rest (each_on ReadsOn front (Closing x d) rest order) (mark_more s front (Closing x d ∷ []) going)
  over_is front (Sticking x d ∷ rest) order going = over_is (front ++ Sticking x d ∷ []) rest (each_on ReadsOn front (Sticking x d) rest order) (mark_more s front (Sticking x d ∷ []) going)

pub seen_is : (calls : List Call) → AreInOrder calls → (s : ℕ) → seen calls s ≡ record { bytes = given_of s calls; mark = mark_of s calls }
seen_is calls order s = over_is s nothing_known refl [] calls order refl

pub seen_however_cut : (calls other : List Call) → AreInOrder calls → AreInOrder other → (s : ℕ) → given_of s calls ≡ given_of s other → mark_of s calls ≡ mark_of s other → seen calls s ≡ seen other s
seen_however_cut calls other order order2 s gave mark = seen_is calls order s ∙ told_as _ _ _ _ gave mark ∙ sym (seen_is other order2 s)

fits_in_order : (g : Setting) (front : List Call) (c : Call) → Fits g front c → ReadsOn front c
fits_in_order g front (Giving x d bytes) fits = fits.0
fits_in_order g front (Passing x d bytes) fits = fits.0
fits_in_order g front (Ending x d) fits = fits.0
fits_in_order g front (Breaking x d) fits = fits.0
fits_in_order g front (Opening x d) fits = tt
fits_in_order g front (Refusing x) fits = tt
fits_in_order g front (Writing x d bytes) fits = tt
fits_in_order g front (Losing x d) fits = tt
fits_in_order g front (Closing x d) fits = tt
fits_in_order g front (Sticking x d) fits = tt

pub are_in_order : (g : Setting) (calls : List Call) → Each (Fits g) calls → AreInOrder calls
are_in_order g calls fits front c back e = fits_in_order g front c (fits front c back e)

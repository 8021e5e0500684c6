-- What a read makes of what was read, and of how much may still be read.
use Rattle.std.proofs.Common.{◌≡◌, ◌≢◌, ℕ, zero, suc, ◌+◌, ◌-◌, ◌≤◌, ◌<◌, ◌==◌, ◌⊎◌, inl, inr, Bool, true, false, if◌then◌else◌, List, [], ◌∷◌, ◌++◌, length, take, drop, get_or, Ok, refl, ap, sym, ◌∙◌, subst, arith, append_assoc, length-append, length-take}
use Rattle.std.specs.Prelude.{Contains, nat_le}
use Rattle.std.proofs.lemmas.Bool.Decides.{nat_tests}
use Rattle.std.proofs.lemmas.List.{append-nil, drop-drop}
use Rattle.std.proofs.Math.Seq.{drop-append_seam}
use Rattle.cd_meaning.specs.RunShapes.{Seen, AtEnd, MayGoOn, TooLong}
use Rattle.cd_meaning.specs.Places.{Place, Reads, ReadsInput, Writes, WritesOutput, Marks, bytes_at, told_whole}
use Rattle.cd_meaning.specs.Known.{pick, before, no_more, unknown}
use Rattle.cd_world.specs.declared.event.Descriptor.{Descriptor}
use Rattle.cd_world.specs.Files.{Files, with_given, Gives, ReadsFile, left_at}
use Rattle.cd_scope.specs.declared.table.Held.{Held}
use Rattle.cd_scope.specs.Uses.{ReadsAt}
use Rattle.cd_scope.specs.Calls.{Call, Giving, Ending, on, over, given_of, mark_of, held_at}
use Rattle.cd_scope.specs.Due.{Setting}
use Rattle.cd_run.specs.Going.{Counted, MayBeRead, IsFront, to_come, Filed}
use Rattle.cd_scope.proofs.Further.{over_snoc, given_snoc}
use Rattle.cd_scope.proofs.Cutting.{mark_more}
use Rattle.cd_run.proofs.Running.{mark_left}
use Rattle.cd_run.proofs.FileSteps.{apart_same, other_given, same_given}
use Rattle.cd_world.specs.Files as files

same_test : (s : ℕ) → (s == s) ≡ true
same_test s = grind (arith, nat_tests)

other_test : (s t : ℕ) → t ≢ s → (t == s) ≡ false
other_test s t e = grind (arith, nat_tests, e)

pub same_or : (n m : ℕ) → (n ≡ m) ⊎ (n ≢ m)
same_or zero zero = inl refl
same_or zero (suc m) = inr (λ (e : zero ≡ suc m). omega (arith, e))
same_or (suc n) zero = inr (λ (e : suc n ≡ zero). omega (arith, e))
same_or (suc n) (suc m) = by (same_or n m) where
  by : (n ≡ m) ⊎ (n ≢ m) → (suc n ≡ suc m) ⊎ (suc n ≢ suc m)
  by (inl e) = inl (ap suc e)
  by (inr e) = inr (λ (h : suc n ≡ suc m). e (omega (arith, h)))

empty_behind : (b more : List ℕ) → b ++ more ≡ [] → more ≡ []
empty_behind [] more e = e
empty_behind (x ∷ b) more e = absurd (subst is_empty (sym e) tt) where
  is_empty : List ℕ → Type 0
  is_empty [] = Unit {0}
  is_empty (x ∷ l) = ⊥

take_behind : (n : ℕ) (b more : List ℕ) → length b ≤ n → take n (b ++ more) ≡ b ++ take (n - length b) more
take_behind n [] more le = ap (λ k. take k more) (omega arith)
take_behind zero (x ∷ b) more le = absurd (omega (arith, le))
take_behind (suc n) (x ∷ b) more le = ap (λ l. x ∷ l) (take_behind n b more (omega (arith, le)) ∙ ap (λ k. b ++ take k more) (omega arith))

-- what is given, and then what is still to come, up to the limit
before_by : (n : ℕ) (b more : List ℕ) → length b ≤ n → (u v : Bool) → nat_le (length more) (n - length b) ≡ u → nat_le (length (b ++ more)) n ≡ v
    → before b (if u then record { bytes = more; mark = AtEnd } else record { bytes = take (n - length b) more; mark = TooLong }) ≡ (if v then record { bytes = b ++ more; mark = AtEnd } else record { bytes = take n (b ++ more); mark = TooLong })
before_by n b more le true true e h = refl
before_by n b more le false false e h = ap (λ (l : List ℕ). record { bytes = l; mark = TooLong }) (sym (take_behind n b more le))
before_by n b more le true false e h = absurd (let l = length-append b more in grind (arith, nat_tests, e, h, l, le))
before_by n b more le false true e h = absurd (let l = length-append b more in grind (arith, nat_tests, e, h, l, le))

before_whole : (n : ℕ) (b more : List ℕ) → length b ≤ n → before b (told_whole (n - length b) more) ≡ told_whole n (b ++ more)
before_whole n b more le = before_by n b more le (nat_le (length more) (n - length b)) (nat_le (length (b ++ more)) n) refl refl

-- at the limit nothing is known of what is still to come but that it is too long
pub past_limit : (n : ℕ) (l : List ℕ) → n ≡ 0 → 0 < length l → told_whole n l ≡ unknown TooLong
past_limit n [] none some = absurd (omega (arith, some))
past_limit n (x ∷ l) none some =
    let e : nat_le (length (x ∷ l)) n ≡ false = grind (arith, nat_tests, none) in
    ap (λ (b : Bool). if b then record { bytes = x ∷ l; mark = AtEnd } else record { bytes = take n (x ∷ l); mark = TooLong }) e ∙ ap (λ (k : ℕ). record { bytes = take k (x ∷ l); mark = TooLong }) none

nothing_whole : (n : ℕ) → no_more ≡ told_whole n []
nothing_whole n = let e : nat_le 0 n ≡ true = grind (arith, nat_tests) in ap (λ (b : Bool). if b then record { bytes = []; mark = AtEnd } else record { bytes = take n []; mark = TooLong }) (sym e)

-- ---- a read that gave bytes

module _ (calls : List Call) (s : ℕ) (d : Descriptor) (b : List ℕ) where
  given_here : given_of s (calls ++ Giving s d b ∷ []) ≡ given_of s calls ++ b
  given_here = given_snoc s calls (Giving s d b) ∙ ap (λ (t : Bool). given_of s calls ++ (if t then b else [])) (same_test s)

  given_other : (x : ℕ) → x ≢ s → given_of x (calls ++ Giving s d b ∷ []) ≡ given_of x calls
  given_other x e = given_snoc x calls (Giving s d b) ∙ ap (λ (t : Bool). given_of x calls ++ (if t then b else [])) (other_test s x e) ∙ append-nil (given_of x calls)

  give_mark : (x : ℕ) → mark_of x (calls ++ Giving s d b ∷ []) ≡ mark_of x calls
  give_mark x = mark_left x calls (Giving s d b) (λ n. refl)

  pub give_counted : (g : Setting) (left left' : List ℕ) → Counted g left calls → get_or left' s 0 + length b ≡ get_or left s 0 → 0 < get_or left s 0 → 0 < length b → s < length left
      → ((x : ℕ) → x ≢ s → get_or left' x 0 ≡ get_or left x 0) → length left' ≡ length left → Counted g left' (calls ++ Giving s d b ∷ [])
  give_counted g left left' n here some taken within others len = record {
    counts = λ x lt. by x (same_or x s) (n.counts x (omega (arith, lt, len)));
    unread = λ x none z. quiet x none z (same_or x s);
  } where
    by : (x : ℕ) → (x ≡ s) ⊎ (x ≢ s) → MayBeRead g (mark_of x calls) (length (given_of x calls)) (get_or left x 0)
        → MayBeRead g (mark_of x (calls ++ Giving s d b ∷ [])) (length (given_of x (calls ++ Giving s d b ∷ []))) (get_or left' x 0)
    by x (inl e) (inl o) = let z : get_or left s 0 ≡ 0 = subst (λ y. get_or left y 0 ≡ 0) e o.1 in absurd (omega (arith, z, some))
    by x (inl e) (inr o) = inr (
      give_mark x ∙ o.0,
      subst (λ y. length (given_of y (calls ++ Giving s d b ∷ [])) + get_or left' y 0 ≡ g.limit + 1) (sym e)
          (let c = subst (λ y. length (given_of y calls) + get_or left y 0 ≡ g.limit + 1) e o.1 in let l = ap length given_here in let a = length-append (given_of s calls) b in omega (arith, c, l, a, here)),
    )
    by x (inr e) (inl o) = inl (give_mark x ∙ o.0, others x e ∙ o.1)
    by x (inr e) (inr o) = inr (give_mark x ∙ o.0, let l = ap length (given_other x e) in let h = others x e in let c = o.1 in omega (arith, c, l, h))

    quiet : (x : ℕ) → get_or left' x 0 ≡ g.limit + 1 → (z : Seen) → (x ≡ s) ⊎ (x ≢ s) → over (calls ++ Giving s d b ∷ []) z x ≡ z x
    quiet x none z (inl e) = absurd (full (n.counts s within)) where
      none_s : get_or left' s 0 ≡ g.limit + 1
      none_s = subst (λ y. get_or left' y 0 ≡ g.limit + 1) e none

      full : MayBeRead g (mark_of s calls) (length (given_of s calls)) (get_or left s 0) → ⊥
      full (inl o) = omega (arith, o.1, some)
      full (inr o) = let c = o.1 in omega (arith, c, none_s, here, taken)
    quiet x none z (inr e) =
        ap (λ (f : Seen). f x) (over_snoc calls (Giving s d b) z) ∙ n.unread x (sym (others x e) ∙ none) (on (Giving s d b) z) ∙ ap (λ t. pick t (before b (z s)) (z x)) (other_test s x e)

  give_front : (file more more' : List ℕ) → IsFront file more calls s → more ≡ b ++ more' → IsFront file more' (calls ++ Giving s d b ∷ []) s
  give_front file more more' fr split = record {
    front = fr.front ∙ ap (λ l. given_of s calls ++ l) split ∙ sym (append_assoc (given_of s calls) b more') ∙ ap (λ l. l ++ more') (sym given_here);
    whole = λ e. empty_behind b more' (sym split ∙ fr.whole (sym (give_mark s) ∙ e));
  }

  other_front : (file more : List ℕ) (x : ℕ) → x ≢ s → IsFront file more calls x → IsFront file more (calls ++ Giving s d b ∷ []) x
  other_front file more x e fr = record { front = fr.front ∙ ap (λ l. l ++ more) (sym (given_other x e)); whole = λ h. fr.whole (sym (give_mark x) ∙ h) }

  module _ (g : Setting) (t : List Held) (f0 f f' : Files) (old : Filed g calls t f0 f) where
    abbrev more_after : List ℕ → ℕ → List ℕ
    more_after more' x = if x == s then more' else old.more x

    more_here : (more' : List ℕ) → more_after more' s ≡ more'
    more_here more' = ap (λ (t : Bool). if t then more' else old.more s) (same_test s)

    more_other : (more' : List ℕ) (x : ℕ) → x ≢ s → more_after more' x ≡ old.more x
    more_other more' x e = ap (λ (t : Bool). if t then more' else old.more x) (other_test s x e)

    fronts_after : (more' : List ℕ) → old.more s ≡ b ++ more' → (x : ℕ) → IsFront (bytes_at f0.contents f0.input (g.place x)) (more_after more' x) (calls ++ Giving s d b ∷ []) x
    fronts_after more' split x = by (same_or x s) where
      by : (x ≡ s) ⊎ (x ≢ s) → IsFront (bytes_at f0.contents f0.input (g.place x)) (more_after more' x) (calls ++ Giving s d b ∷ []) x
      by (inl e) = subst (λ y. IsFront (bytes_at f0.contents f0.input (g.place y)) (more_after more' y) (calls ++ Giving s d b ∷ []) y) (sym e)
          (subst (λ l. IsFront (bytes_at f0.contents f0.input (g.place s)) l (calls ++ Giving s d b ∷ []) s) (sym (more_here more')) (give_front _ (old.more s) more' (old.fronts s) split))
      by (inr e) = subst (λ l. IsFront (bytes_at f0.contents f0.input (g.place x)) l (calls ++ Giving s d b ∷ []) x) (sym (more_other more' x e)) (other_front _ (old.more x) x e (old.fronts x))

    -- what was given, and then what is still to come
    gives_on : (more' : List ℕ) → old.more s ≡ b ++ more' → length (given_of s calls) + length b ≤ g.limit → on (Giving s d b) (to_come g (calls ++ Giving s d b ∷ []) (more_after more')) ≡ to_come g calls old.more
    gives_on more' split few = λ i y. at y (same_or y s) i where
      at : (y : ℕ) → (y ≡ s) ⊎ (y ≢ s) → on (Giving s d b) (to_come g (calls ++ Giving s d b ∷ []) (more_after more')) y ≡ to_come g calls old.more y
      at y (inl e) = subst (λ x. on (Giving s d b) (to_come g (calls ++ Giving s d b ∷ []) (more_after more')) x ≡ to_come g calls old.more x) (sym e)
          (ap (λ (t : Bool). pick t (before b (to_come g (calls ++ Giving s d b ∷ []) (more_after more') s)) (to_come g (calls ++ Giving s d b ∷ []) (more_after more') s)) (same_test s)
          ∙ ap (λ l. before b (told_whole (g.limit - length (given_of s (calls ++ Giving s d b ∷ []))) l)) (more_here more')
          ∙ ap (λ n. before b (told_whole n more')) (let l = ap length given_here in let p = length-append (given_of s calls) b in omega (arith, l, p, few))
          ∙ before_whole (g.limit - length (given_of s calls)) b more' (omega (arith, few))
          ∙ ap (told_whole (g.limit - length (given_of s calls))) (sym split))
      at y (inr e) =
          ap (λ (t : Bool). pick t (before b (to_come g (calls ++ Giving s d b ∷ []) (more_after more') s)) (to_come g (calls ++ Giving s d b ∷ []) (more_after more') y)) (other_test s y e)
          ∙ ap (λ l. told_whole (g.limit - length (given_of y (calls ++ Giving s d b ∷ []))) l) (more_other more' y e) ∙ ap (λ (l : List ℕ). told_whole (g.limit - length l) (old.more y)) (given_other y e)

    comes_after : (more' : List ℕ) → old.more s ≡ b ++ more' → length (given_of s calls) + length b ≤ g.limit → (x : ℕ)
        → over (calls ++ Giving s d b ∷ []) (to_come g (calls ++ Giving s d b ∷ []) (more_after more')) x ≡ told_whole g.limit (bytes_at f0.contents f0.input (g.place x))
    comes_after more' split few x = ap (λ (h : Seen). h x) (over_snoc calls (Giving s d b) _) ∙ ap (λ z. over calls z x) (gives_on more' split few) ∙ old.comes x

    -- what a file has left is what the reads of its site did not give
    rest_of_file : (name : List ℕ) → g.place s ≡ Reads name → Contains t (held_at s d) → left_at d.0 name f ≡ old.more s
    rest_of_file name is there =
        ap (λ n. drop n (f.contents name)) (old.here (held_at s d) there name is)
        ∙ ap (drop (length (given_of s calls))) (old.contents s name is ∙ sym (ap (bytes_at f0.contents f0.input) is) ∙ (old.fronts s).front)
        ∙ drop-append_seam (given_of s calls) (old.more s)

    rest_of_input : g.place s ≡ ReadsInput → f.input ≡ old.more s
    rest_of_input is =
        old.input s is ∙ ap (drop (length (given_of s calls))) (sym (ap (bytes_at f0.contents f0.input) is) ∙ (old.fronts s).front) ∙ drop-append_seam (given_of s calls) (old.more s)

    split_file : (name : List ℕ) → g.place s ≡ Reads name → Contains t (held_at s d) → (count : ℕ) (into : List ℕ) → b ≡ take count into → Gives (left_at d.0 name f) count into → old.more s ≡ b ++ drop count (old.more s)
    split_file name is there count into bytes gives =
        sym (rest_of_file name is there) ∙ gives.bytes ∙ ap (λ l. take count into ++ drop count l) (rest_of_file name is there) ∙ ap (λ l. l ++ drop count (old.more s)) (sym bytes)

    split_input : g.place s ≡ ReadsInput → (count : ℕ) (into : List ℕ) → b ≡ take count into → Gives f.input count into → old.more s ≡ b ++ drop count (old.more s)
    split_input is count into bytes gives =
        sym (rest_of_input is) ∙ gives.bytes ∙ ap (λ l. take count into ++ drop count l) (rest_of_input is) ∙ ap (λ l. l ++ drop count (old.more s)) (sym bytes)

    not_input : (name : List ℕ) → g.place s ≡ Reads name → (x : ℕ) → g.place x ≡ ReadsInput → x ≢ s
    not_input name is x input = λ (e : x ≡ s). subst no_input (sym is ∙ ap g.place (sym e) ∙ input) tt where
      no_input : Place → Type 0
      no_input ReadsInput = ⊥
      no_input _ = Unit {0}

    file_here : (count : ℕ) → length b ≡ count → Contains t (held_at s d) → f' ≡ with_given d.0 (f.given d.0 + count) f → (name : List ℕ) → g.place s ≡ Reads name
        → (h : Held) → Contains t h → (other : List ℕ) → g.place h.site.0 ≡ Reads other → f'.given h.descriptor.0 ≡ length (given_of h.site.0 (calls ++ Giving s d b ∷ []))
    file_here count len there e name is h has other reads = ap (λ (k : Files). k.given h.descriptor.0) e ∙ by (same_or h.site.0 s) where
      this : h ≡ held_at s d → (with_given d.0 (f.given d.0 + count) f).given h.descriptor.0 ≡ length (given_of h.site.0 (calls ++ Giving s d b ∷ []))
      this same = subst (λ (x : Held). (with_given d.0 (f.given d.0 + count) f).given x.descriptor.0 ≡ length (given_of x.site.0 (calls ++ Giving s d b ∷ []))) (sym same)
          (same_given d.0 (f.given d.0 + count) f ∙ (let a = old.here (held_at s d) there name is in let l = ap length given_here in let p = length-append (given_of s calls) b in omega (arith, a, l, p, len)))

      by : (h.site.0 ≡ s) ⊎ (h.site.0 ≢ s) → (with_given d.0 (f.given d.0 + count) f).given h.descriptor.0 ≡ length (given_of h.site.0 (calls ++ Giving s d b ∷ []))
      by (inl q) = this (apart_same t old.apart h (held_at s d) has there (inr q))
      by (inr q) =
          other_given d.0 h.descriptor.0 (f.given d.0 + count) f (λ (x : h.descriptor.0 ≡ d.0). q (ap (λ (y : Held). y.site.0) (apart_same t old.apart h (held_at s d) has there (inl x))))
          ∙ old.here h has other reads ∙ ap length (sym (given_other h.site.0 q))

    pub give_filed : (count : ℕ) (into : List ℕ) → b ≡ take count into → count ≤ length into → length (given_of s calls) + length b ≤ g.limit → (p : Place) → g.place s ≡ p → ReadsAt p d.0 (Contains t (held_at s d))
        → ((name : List ℕ) → p ≡ Reads name → ReadsFile d.0 name into (Ok count) f f') → (d.0 ≡ 0 → files.ReadsInput into (Ok count) f f') → Filed g (calls ++ Giving s d b ∷ []) t f0 f'
    give_filed count into bytes lt few (Reads name) is at file input =
        let r = file name refl in
        let len : length b ≡ count = ap length bytes ∙ length-take count into ∙ omega (arith, lt) in
        record {
          more = more_after (drop count (old.more s));
          fronts = fronts_after (drop count (old.more s)) (split_file name is at count into bytes r.0);
          comes = comes_after (drop count (old.more s)) (split_file name is at count into bytes r.0) few;
          here = λ h has other reads. file_here count len at r.1 name is h has other reads;
          contents = λ x n reads. ap (λ (k : Files). k.contents n) r.1 ∙ old.contents x n reads;
          input = λ x q. ap (λ (k : Files). k.input) r.1 ∙ old.input x q ∙ ap (λ (l : List ℕ). drop (length l) f0.input) (sym (given_other x (not_input name is x q)));
          apart = old.apart;
          separate = old.separate;
        }
    give_filed count into bytes lt few ReadsInput is at file input =
        let r = input at in
        let len : length b ≡ count = ap length bytes ∙ length-take count into ∙ omega (arith, lt) in
        record {
          more = more_after (drop count (old.more s));
          fronts = fronts_after (drop count (old.more s)) (split_input is count into bytes r.0);
          comes = comes_after (drop count (old.more s)) (split_input is count into bytes r.0) few;
          here = λ h has other reads. ap (λ (k : Files). k.given h.descriptor.0) r.1 ∙ old.here h has other reads ∙ ap length (sym (given_other h.site.0 (not_file h other reads)));
          contents = λ x n reads. ap (λ (k : Files). k.contents n) r.1 ∙ old.contents x n reads;
          input = λ x q. ap (λ (k : Files). k.input) r.1 ∙ input_left x q (old.separate.one_input x s q is) len;
          apart = old.apart;
          separate = old.separate;
        } where
          not_file : (h : Held) (other : List ℕ) → g.place h.site.0 ≡ Reads other → h.site.0 ≢ s
          not_file h other reads = λ (e : h.site.0 ≡ s). subst no_file (sym is ∙ ap g.place (sym e) ∙ reads) tt where
            no_file : Place → Type 0
            no_file (Reads n) = ⊥
            no_file _ = Unit {0}

          input_left : (x : ℕ) → g.place x ≡ ReadsInput → x ≡ s → length b ≡ count → drop count f.input ≡ drop (length (given_of x (calls ++ Giving s d b ∷ []))) f0.input
          input_left x q e len =
              ap (drop count) (old.input s is) ∙ drop-drop count (length (given_of s calls)) f0.input
              ∙ ap (λ n. drop n f0.input) (let l = ap length given_here in let p = length-append (given_of s calls) b in omega (arith, l, p, len))
              ∙ ap (λ y. drop (length (given_of y (calls ++ Giving s d b ∷ []))) f0.input) (sym e)
    give_filed count into bytes lt few (Writes n) is at file input = absurd at
    give_filed count into bytes lt few WritesOutput is at file input = absurd at
    give_filed count into bytes lt few (Marks n) is at file input = absurd at

    longer : (more : List ℕ) → old.more s ≡ b ++ more → 0 < length b → 0 < length (old.more s)
    longer more split some = let e = ap length split in let l = length-append b more in omega (arith, e, l, some)

    -- a read that gave bytes took them of what was still to come
    pub some_left : (count : ℕ) (into : List ℕ) → b ≡ take count into → 0 < length b → (p : Place) → g.place s ≡ p → ReadsAt p d.0 (Contains t (held_at s d))
        → ((name : List ℕ) → p ≡ Reads name → ReadsFile d.0 name into (Ok count) f f') → (d.0 ≡ 0 → files.ReadsInput into (Ok count) f f') → 0 < length (old.more s)
    some_left count into bytes some (Reads name) is at file input = longer _ (split_file name is at count into bytes (file name refl).0) some
    some_left count into bytes some ReadsInput is at file input = longer _ (split_input is count into bytes (input at).0) some
    some_left count into bytes some (Writes n) is at file input = absurd at
    some_left count into bytes some WritesOutput is at file input = absurd at
    some_left count into bytes some (Marks n) is at file input = absurd at

-- ---- a read that told the end

module _ (calls : List Call) (s : ℕ) (d : Descriptor) where
  end_given : (x : ℕ) → given_of x (calls ++ Ending s d ∷ []) ≡ given_of x calls
  end_given x = given_snoc x calls (Ending s d) ∙ append-nil (given_of x calls)

  end_mark : mark_of s calls ≡ MayGoOn → mark_of s (calls ++ Ending s d ∷ []) ≡ AtEnd
  end_mark going = mark_more s calls (Ending s d ∷ []) going ∙ ap (λ (b : Bool). if b then AtEnd else MayGoOn) (same_test s)

  other_mark : (x : ℕ) → x ≢ s → mark_of x (calls ++ Ending s d ∷ []) ≡ mark_of x calls
  other_mark x e = mark_left x calls (Ending s d) (λ n. ap (λ (b : Bool). if b then AtEnd else n) (other_test s x e))

  pub end_counted : (g : Setting) (left left' : List ℕ) → Counted g left calls → mark_of s calls ≡ MayGoOn → get_or left' s 0 ≡ 0 → ((x : ℕ) → x ≢ s → get_or left' x 0 ≡ get_or left x 0) → length left' ≡ length left → Counted g left' (calls ++ Ending s d ∷ [])
  end_counted g left left' n going here others len = record {
    counts = λ x lt. by x (same_or x s) (n.counts x (omega (arith, lt, len)));
    unread = λ x none z. quiet x none z (same_or x s);
  } where
    by : (x : ℕ) → (x ≡ s) ⊎ (x ≢ s) → MayBeRead g (mark_of x calls) (length (given_of x calls)) (get_or left x 0)
        → MayBeRead g (mark_of x (calls ++ Ending s d ∷ [])) (length (given_of x (calls ++ Ending s d ∷ []))) (get_or left' x 0)
    by x (inl e) o = inl (subst (λ y. mark_of y (calls ++ Ending s d ∷ []) ≡ AtEnd) (sym e) (end_mark going), subst (λ y. get_or left' y 0 ≡ 0) (sym e) here)
    by x (inr e) (inl o) = inl (other_mark x e ∙ o.0, others x e ∙ o.1)
    by x (inr e) (inr o) = inr (other_mark x e ∙ o.0, let l = ap length (end_given x) in let h = others x e in let c = o.1 in omega (arith, c, l, h))

    quiet : (x : ℕ) → get_or left' x 0 ≡ g.limit + 1 → (z : Seen) → (x ≡ s) ⊎ (x ≢ s) → over (calls ++ Ending s d ∷ []) z x ≡ z x
    quiet x none z (inl e) = let q : get_or left' s 0 ≡ g.limit + 1 = subst (λ y. get_or left' y 0 ≡ g.limit + 1) e none in absurd (omega (arith, q, here))
    quiet x none z (inr e) = ap (λ (f : Seen). f x) (over_snoc calls (Ending s d) z) ∙ n.unread x (sym (others x e) ∙ none) (on (Ending s d) z) ∙ ap (λ t. pick t no_more (z x)) (other_test s x e)

  module _ (g : Setting) (t : List Held) (f0 f f' : Files) (old : Filed g calls t f0 f) where
    end_fronts : old.more s ≡ [] → (x : ℕ) → IsFront (bytes_at f0.contents f0.input (g.place x)) (old.more x) (calls ++ Ending s d ∷ []) x
    end_fronts none x = record { front = (old.fronts x).front ∙ ap (λ l. l ++ old.more x) (sym (end_given x)); whole = λ h. by h (same_or x s) } where
      by : mark_of x (calls ++ Ending s d ∷ []) ≡ AtEnd → (x ≡ s) ⊎ (x ≢ s) → old.more x ≡ []
      by h (inl e) = ap old.more e ∙ none
      by h (inr e) = (old.fronts x).whole (sym (other_mark x e) ∙ h)

    end_on : old.more s ≡ [] → on (Ending s d) (to_come g (calls ++ Ending s d ∷ []) old.more) ≡ to_come g calls old.more
    end_on none = λ i y. at y (same_or y s) i where
      at : (y : ℕ) → (y ≡ s) ⊎ (y ≢ s) → on (Ending s d) (to_come g (calls ++ Ending s d ∷ []) old.more) y ≡ to_come g calls old.more y
      at y (inl e) = subst (λ x. on (Ending s d) (to_come g (calls ++ Ending s d ∷ []) old.more) x ≡ to_come g calls old.more x) (sym e)
          (ap (λ (t : Bool). pick t no_more (to_come g (calls ++ Ending s d ∷ []) old.more s)) (same_test s) ∙ nothing_whole (g.limit - length (given_of s calls)) ∙ ap (told_whole (g.limit - length (given_of s calls))) (sym none))
      at y (inr e) = ap (λ (t : Bool). pick t no_more (to_come g (calls ++ Ending s d ∷ []) old.more y)) (other_test s y e) ∙ ap (λ (l : List ℕ). told_whole (g.limit - length l) (old.more y)) (end_given y)

    ended_filed : old.more s ≡ [] → ((n : ℕ) → f'.given n ≡ f.given n) → f'.contents ≡ f.contents → f'.input ≡ f.input → Filed g (calls ++ Ending s d ∷ []) t f0 f'
    ended_filed none given contents input = record {
      more = old.more;
      fronts = end_fronts none;
      comes = λ x. ap (λ (h : Seen). h x) (over_snoc calls (Ending s d) _) ∙ ap (λ z. over calls z x) (end_on none) ∙ old.comes x;
      here = λ h has name reads. given h.descriptor.0 ∙ old.here h has name reads ∙ ap length (sym (end_given h.site.0));
      contents = λ x n reads. ap (λ (k : List ℕ → List ℕ). k n) contents ∙ old.contents x n reads;
      input = λ x q. input ∙ old.input x q ∙ ap (λ (l : List ℕ). drop (length l) f0.input) (sym (end_given x));
      apart = old.apart;
      separate = old.separate;
    }

    pub end_filed : (count : ℕ) (into : List ℕ) → count ≡ 0 → (p : Place) → g.place s ≡ p → ReadsAt p d.0 (Contains t (held_at s d))
        → ((name : List ℕ) → p ≡ Reads name → ReadsFile d.0 name into (Ok count) f f') → (d.0 ≡ 0 → files.ReadsInput into (Ok count) f f') → Filed g (calls ++ Ending s d ∷ []) t f0 f'
    end_filed count into nothing (Reads name) is at file input =
        let r = file name refl in
        ended_filed (sym (rest_of_file calls s d [] g t f0 f f' old name is at) ∙ r.0.end nothing)
        (λ n. ap (λ (k : Files). k.given n) r.1 ∙ same n (d.0 == n) refl) (ap (λ (k : Files). k.contents) r.1) (ap (λ (k : Files). k.input) r.1) where
          same : (n : ℕ) (b : Bool) → (d.0 == n) ≡ b → (if b then f.given d.0 + count else f.given n) ≡ f.given n
          same n true e = let i : d.0 ≡ n = grind (arith, nat_tests, e) in omega (arith, nothing) ∙ ap f.given i
          same n false e = refl
    end_filed count into nothing ReadsInput is at file input =
        let r = input at in
        ended_filed (sym (rest_of_input calls s d [] g t f0 f f' old is) ∙ r.0.end nothing)
        (λ n. ap (λ (k : Files). k.given n) r.1) (ap (λ (k : Files). k.contents) r.1) (ap (λ (k : Files). k.input) r.1 ∙ ap (λ n. drop n f.input) nothing)
    end_filed count into nothing (Writes n) is at file input = absurd at
    end_filed count into nothing WritesOutput is at file input = absurd at
    end_filed count into nothing (Marks n) is at file input = absurd at

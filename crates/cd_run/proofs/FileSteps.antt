-- What a call that reads nothing leaves of what was read.
use Rattle.std.proofs.Common.{◌≡◌, ◌≢◌, ℕ, zero, suc, ◌+◌, ◌-◌, ◌==◌, ◌⊎◌, inl, inr, Bool, true, false, if◌then◌else◌, List, [], ◌∷◌, ◌++◌, length, drop, get_or, Result, Ok, Err, refl, ap, sym, ◌∙◌, subst, arith}
use Rattle.std.specs.Prelude.{Contains}
use Rattle.std.specs.Str.{bytes_eq}
use Rattle.std.proofs.lemmas.Bool.Decides.{nat_tests}
use Rattle.std.proofs.lemmas.Bool.{cases_Bool}
use Rattle.std.proofs.lemmas.List.{append-nil}
use Rattle.std.proofs.lemmas.List.Elements.{Contains-append_cases}
use Rattle.std.proofs.lemmas.Slice.Eq.{bytes_eq-Decides}
use Rattle.cd_meaning.specs.RunShapes.{Mark, Seen}
use Rattle.cd_meaning.specs.Places.{Place, Reads, ReadsInput, Writes, WritesOutput as OnOutput, Marks, told_whole}
use Rattle.cd_world.specs.declared.event.Descriptor.{Descriptor}
use Rattle.cd_world.specs.declared.world.WorldError.{WorldError}
use Rattle.cd_world.specs.declared.world.CloseFailed.{CloseFailed}
use Rattle.cd_world.specs.Files.{Files, with_given, with_contents, after_open, emptied, WritesFile, WritesOutput, ClosesUse, ClosesFile}
use Rattle.cd_scope.specs.declared.table.Held.{Held}
use Rattle.cd_scope.specs.Uses.{use_at, name_at, HasFile, WritesAt}
use Rattle.cd_scope.specs.Calls.{Call, on, over, given_by, given_of, mark_by, mark_of, held_at, is_held, without}
use Rattle.cd_scope.specs.Due.{Setting}
use Rattle.cd_run.specs.Going.{Counted, MayBeRead, IsFront, to_come, AreApart, AreSeparate, Filed}
use Rattle.cd_scope.specs.Table.{IsNew, open_of}
use Rattle.cd_scope.proofs.Further.{over_snoc, given_snoc}
use Rattle.cd_run.proofs.Running.{mark_left}
use Rattle.cd_run.proofs.Opened.{without_has}

-- a call that reads nothing
pub record IsQuiet (c : Call) : Type 0 where
  pub given : (x : ℕ) → given_by x c ≡ []
  pub marks : (x : ℕ) (m : Mark) → mark_by x c m ≡ m
  pub on : (z : Seen) → on c z ≡ z

module _ (c : Call) (q : IsQuiet c) (calls : List Call) where
  pub quiet_given : (x : ℕ) → given_of x (calls ++ c ∷ []) ≡ given_of x calls
  quiet_given x = given_snoc x calls c ∙ ap (λ l. given_of x calls ++ l) (q.given x) ∙ append-nil (given_of x calls)

  pub quiet_mark : (x : ℕ) → mark_of x (calls ++ c ∷ []) ≡ mark_of x calls
  quiet_mark x = mark_left x calls c (q.marks x)

  pub quiet_counted : (g : Setting) (left : List ℕ) → Counted g left calls → Counted g left (calls ++ c ∷ [])
  quiet_counted g left n = record {
    counts = λ s lt. by s (n.counts s lt);
    unread = λ s none z. ap (λ (f : Seen). f s) (over_snoc calls c z) ∙ ap (λ y. over calls y s) (q.on z) ∙ n.unread s none z;
  } where
    by : (s : ℕ) → MayBeRead g (mark_of s calls) (length (given_of s calls)) (get_or left s 0) → MayBeRead g (mark_of s (calls ++ c ∷ [])) (length (given_of s (calls ++ c ∷ []))) (get_or left s 0)
    by s (inl e) = inl (quiet_mark s ∙ e.0, e.1)
    by s (inr e) = inr (quiet_mark s ∙ e.0, ap (λ l. length l + get_or left s 0) (quiet_given s) ∙ e.1)

  quiet_front : (file more : List ℕ) (s : ℕ) → IsFront file more calls s → IsFront file more (calls ++ c ∷ []) s
  quiet_front file more s f = record {
    front = f.front ∙ ap (λ l. l ++ more) (sym (quiet_given s));
    whole = λ e. f.whole (sym (quiet_mark s) ∙ e);
  }

  -- the files after such a call
  pub quiet_filed : (g : Setting) (t t' : List Held) (f0 f f' : Files) → Filed g calls t f0 f
      → ((s : ℕ) (name : List ℕ) → g.place s ≡ Reads name → f'.contents name ≡ f.contents name) → f'.input ≡ f.input
      → ((h : Held) → Contains t' h → (name : List ℕ) → g.place h.site.0 ≡ Reads name → f'.given h.descriptor.0 ≡ length (given_of h.site.0 calls)) → AreApart t'
      → Filed g (calls ++ c ∷ []) t' f0 f'
  quiet_filed g t t' f0 f f' old contents input here apart = record {
    more = old.more;
    fronts = λ s. quiet_front _ (old.more s) s (old.fronts s);
    comes = λ s. ap (λ (f : Seen). f s) (over_snoc calls c (to_come g (calls ++ c ∷ []) old.more)) ∙ ap (λ y. over calls y s) (q.on (to_come g (calls ++ c ∷ []) old.more) ∙ same g old.more) ∙ old.comes s;
    here = λ h there name is. here h there name is ∙ ap length (sym (quiet_given h.site.0));
    contents = λ s name is. contents s name is ∙ old.contents s name is;
    input = λ s is. input ∙ old.input s is ∙ ap (λ (l : List ℕ). drop (length l) f0.input) (sym (quiet_given s));
    apart = apart;
    separate = old.separate;
  } where
    same : (g : Setting) (more : ℕ → List ℕ) → to_come g (calls ++ c ∷ []) more ≡ to_come g calls more
    same g more = λ i s. ap (λ (l : List ℕ). told_whole (g.limit - length l) (more s)) (quiet_given s) i

-- ---- writes

-- no file that is read is another one, and nothing was read
pub record Leaves (place : ℕ → Place) (f f' : Files) : Type 0 where
  pub given : f'.given ≡ f.given
  pub input : f'.input ≡ f.input
  pub contents : (s : ℕ) (name : List ℕ) → place s ≡ Reads name → f'.contents name ≡ f.contents name

pub leaves_filed : (c : Call) → IsQuiet c → (calls : List Call) (g : Setting) (t : List Held) (f0 f f' : Files) → Leaves g.place f f' → Filed g calls t f0 f → Filed g (calls ++ c ∷ []) t f0 f'
leaves_filed c q calls g t f0 f f' leaves old =
    quiet_filed c q calls g t t f0 f f' old leaves.contents leaves.input (λ h there name is. ap (λ (k : ℕ → ℕ). k h.descriptor.0) leaves.given ∙ old.here h there name is) old.apart

leaves_none : (place : ℕ → Place) (f f' : Files) → f' ≡ f → Leaves place f f'
leaves_none place f f' e = record { given = ap (λ (k : Files). k.given) e; input = ap (λ (k : Files). k.input) e; contents = λ s name is. ap (λ (k : Files). k.contents name) e }

other_name : (name other : List ℕ) (bytes old : List ℕ) → other ≢ name → (if bytes_eq other name then bytes else old) ≡ old
other_name name other bytes old apart = by (cases_Bool (bytes_eq other name)) where
  by : (bytes_eq other name ≡ true) ⊎ (bytes_eq other name ≡ false) → (if bytes_eq other name then bytes else old) ≡ old
  by (inl e) = absurd (apart ((bytes_eq-Decides other name).0 e))
  by (inr e) = ap (λ b. if b then bytes else old) e

-- a file that is written or marked gets other bytes
module _ (place : ℕ → Place) (separate : AreSeparate place) (t : ℕ) (other : List ℕ) (is : (place t ≡ Writes other) ⊎ (place t ≡ Marks other)) where
  pub keeps_read : (bytes : List ℕ) (f : Files) (s : ℕ) (name : List ℕ) → place s ≡ Reads name → (with_contents other bytes f).contents name ≡ f.contents name
  keeps_read bytes f s name reads = other_name name other bytes (f.contents name) (separate.names s t name other reads is)

pub write_leaves : (place : ℕ → Place) (separate : AreSeparate place) (s : ℕ) (to : Descriptor) (bytes : List ℕ) (result : Result ℕ WorldError) (f f' : Files) (p : Place) → place s ≡ p → (A : Type 0) → WritesAt p to.0 A
    → ((name : List ℕ) → p ≡ Writes name → A → WritesFile name bytes result f f') → (to.0 ≡ 1 → WritesOutput bytes result f f') → Leaves place f f'
write_leaves place separate s to bytes (Ok count) f f' (Writes name) is A at file output =
    let e = file name refl at in
    record { given = ap (λ (k : Files). k.given) e; input = ap (λ (k : Files). k.input) e; contents = λ x n reads. ap (λ (k : Files). k.contents n) e ∙ keeps_read place separate s name (inl is) _ f x n reads }
write_leaves place separate s to bytes (Ok count) f f' OnOutput is A at file output =
    let e = output at in
    record { given = ap (λ (k : Files). k.given) e; input = ap (λ (k : Files). k.input) e; contents = λ x n reads. ap (λ (k : Files). k.contents n) e }
write_leaves place separate s to bytes (Err x) f f' (Writes name) is A at file output = leaves_none place f f' (file name refl at)
write_leaves place separate s to bytes (Err x) f f' OnOutput is A at file output = leaves_none place f f' (output at)
write_leaves place separate s to bytes result f f' (Reads name) is A at file output = absurd at
write_leaves place separate s to bytes result f f' ReadsInput is A at file output = absurd at
write_leaves place separate s to bytes result f f' (Marks name) is A at file output = absurd at

-- ---- opens and closes

-- a site that has nothing open
abbrev pub IsFree : ℕ → List Held → Type 0
IsFree s t = (k : Held) → Contains t k → k.site.0 ≢ s

pub apart_push : (t : List Held) (s : ℕ) (d : Descriptor) → IsNew d t → IsFree s t → AreApart t → AreApart (t ++ held_at s d ∷ [])
apart_push [] s d new free apart = (λ k has. absurd (omega (arith, has.1)), tt)
apart_push (h ∷ t) s d new free apart =
    (λ k has. by k (Contains-append_cases t (held_at s d ∷ []) k has), apart_push t s d (λ k has. new k (suc has.0, omega (arith, has.1), has.2)) (λ k has. free k (suc has.0, omega (arith, has.1), has.2)) apart.1) where
      alone : (k : Held) → Contains (held_at s d ∷ []) k → held_at s d ≡ k
      alone k (zero, lt, is) = is
      alone k (suc j, lt, is) = absurd (omega (arith, lt))

      by : (k : Held) → Contains t k ⊎ Contains (held_at s d ∷ []) k → (k.descriptor.0 ≢ h.descriptor.0) × (k.site.0 ≢ h.site.0)
      by k (inl has) = apart.0 k has
      by k (inr has) = (
        λ (e : k.descriptor.0 ≡ h.descriptor.0). new h (zero, omega arith, refl) (sym e ∙ ap (λ (x : Held). x.descriptor.0) (sym (alone k has))),
        λ (e : k.site.0 ≡ h.site.0). free h (zero, omega arith, refl) (sym e ∙ ap (λ (x : Held). x.site.0) (sym (alone k has))),
      )

kept_apart : (b : Bool) (h : Held) (t u : List Held) → ((k : Held) → Contains t k → (k.descriptor.0 ≢ h.descriptor.0) × (k.site.0 ≢ h.site.0)) → AreApart t → ((k : Held) → Contains u k → Contains t k) → AreApart u → AreApart (if b then t else h ∷ u)
kept_apart true h t u alone apart fewer rest = apart
kept_apart false h t u alone apart fewer rest = (λ k has. alone k (fewer k has), rest)

pub apart_without : (s : ℕ) (d : Descriptor) (t : List Held) → AreApart t → AreApart (without s d t)
apart_without s d [] apart = tt
apart_without s d (h ∷ t) apart = kept_apart (is_held s d h) h t (without s d t) apart.0 apart.1 (λ k has. without_has s d t k has) (apart_without s d t apart.1)

-- one descriptor is one entry, and one site too
pub apart_same : (t : List Held) → AreApart t → (h k : Held) → Contains t h → Contains t k → (h.descriptor.0 ≡ k.descriptor.0) ⊎ (h.site.0 ≡ k.site.0) → h ≡ k
apart_same [] apart h k a b same = absurd (omega (arith, a.1))
apart_same (x ∷ t) apart h k (zero, lt, is) (zero, lt2, is2) same = sym is ∙ is2
apart_same (x ∷ t) apart h k (zero, lt, is) (suc j, lt2, is2) (inl e) = absurd ((apart.0 k (j, omega (arith, lt2), is2)).0 (sym e ∙ ap (λ (y : Held). y.descriptor.0) (sym is)))
apart_same (x ∷ t) apart h k (zero, lt, is) (suc j, lt2, is2) (inr e) = absurd ((apart.0 k (j, omega (arith, lt2), is2)).1 (sym e ∙ ap (λ (y : Held). y.site.0) (sym is)))
apart_same (x ∷ t) apart h k (suc i, lt, is) (zero, lt2, is2) (inl e) = absurd ((apart.0 h (i, omega (arith, lt), is)).0 (e ∙ ap (λ (y : Held). y.descriptor.0) (sym is2)))
apart_same (x ∷ t) apart h k (suc i, lt, is) (zero, lt2, is2) (inr e) = absurd ((apart.0 h (i, omega (arith, lt), is)).1 (e ∙ ap (λ (y : Held). y.site.0) (sym is2)))
apart_same (x ∷ t) apart h k (suc i, lt, is) (suc j, lt2, is2) same = apart_same t apart.1 h k (i, omega (arith, lt), is) (j, omega (arith, lt2), is2) same

is_this : (s : ℕ) (d : Descriptor) (h : Held) → h ≡ held_at s d → is_held s d h ≡ true
is_this s d h is = subst (λ x. is_held s d x ≡ true) (sym is) (grind (arith, nat_tests))

closed_here : (s : ℕ) (d : Descriptor) (h : Held) (t u : List Held) → h ≡ held_at s d → ((k : Held) → Contains t k → (k.descriptor.0 ≢ h.descriptor.0) × (k.site.0 ≢ h.site.0)) → (k : Held) → (b : Bool) → is_held s d h ≡ b → Contains (if b then t else h ∷ u) k → k.descriptor.0 ≢ d.0
closed_here s d h t u is alone k true e c = λ (q : k.descriptor.0 ≡ d.0). (alone k c).0 (q ∙ ap (λ (x : Held). x.descriptor.0) (sym is))
closed_here s d h t u is alone k false e c = let here = is_this s d h is in absurd (grind (arith, here, e))

closed_behind : (s : ℕ) (d : Descriptor) (h : Held) (t u : List Held) → h.descriptor.0 ≢ d.0 → ((k : Held) → Contains u k → k.descriptor.0 ≢ d.0) → (k : Held) → (b : Bool) → is_held s d h ≡ b → Contains (if b then t else h ∷ u) k → k.descriptor.0 ≢ d.0
closed_behind s d h t u other more k true e c = absurd (other (grind (arith, nat_tests, e)))
closed_behind s d h t u other more k false e (zero, lt, is) = λ (q : k.descriptor.0 ≡ d.0). other (ap (λ (x : Held). x.descriptor.0) is ∙ q)
closed_behind s d h t u other more k false e (suc i, lt, is) = more k (i, omega (arith, lt), is)

-- what is left has another descriptor
pub closed_apart : (s : ℕ) (d : Descriptor) (t : List Held) → AreApart t → Contains t (held_at s d) → (k : Held) → Contains (without s d t) k → k.descriptor.0 ≢ d.0
closed_apart s d [] apart there k has = absurd (omega (arith, has.1))
closed_apart s d (h ∷ t) apart (zero, lt, is) k has = closed_here s d h t (without s d t) is apart.0 k (is_held s d h) refl has
closed_apart s d (h ∷ t) apart (suc j, lt, is) k has =
    closed_behind s d h t (without s d t) (λ (e : h.descriptor.0 ≡ d.0). (apart.0 (held_at s d) (j, omega (arith, lt), is)).0 (sym e))
    (λ x c. closed_apart s d t apart.1 (j, omega (arith, lt), is) x c) k (is_held s d h) refl has

pub other_given : (d other n : ℕ) (f : Files) → other ≢ d → (with_given d n f).given other ≡ f.given other
other_given d other n f apart = by (d == other) refl where
  by : (b : Bool) → (d == other) ≡ b → (if b then n else f.given other) ≡ f.given other
  by true e = absurd (apart (grind (arith, nat_tests, e)))
  by false e = refl

pub same_given : (d n : ℕ) (f : Files) → (with_given d n f).given d ≡ n
same_given d n f = let e : (d == d) ≡ true = grind (arith, nat_tests) in ap (λ b. if b then n else f.given d) e

module _ (place : ℕ → Place) (separate : AreSeparate place) (t : ℕ) (f : Files) where
  emptied_contents : (p : Place) → place t ≡ p → HasFile p → (s : ℕ) (name : List ℕ) → place s ≡ Reads name → (emptied (use_at p) (name_at p) f).contents name ≡ f.contents name
  emptied_contents (Reads n) is file s name reads = refl
  emptied_contents ReadsInput is file s name reads = absurd file
  emptied_contents (Writes n) is file s name reads = keeps_read place separate t n (inl is) [] f s name reads
  emptied_contents OnOutput is file s name reads = absurd file
  emptied_contents (Marks n) is file s name reads = keeps_read place separate t n (inr is) [] f s name reads

  emptied_given : (p : Place) → (emptied (use_at p) (name_at p) f).given ≡ f.given
  emptied_given (Reads n) = refl
  emptied_given ReadsInput = refl
  emptied_given (Writes n) = refl
  emptied_given OnOutput = refl
  emptied_given (Marks n) = refl

  emptied_input : (p : Place) → (emptied (use_at p) (name_at p) f).input ≡ f.input
  emptied_input (Reads n) = refl
  emptied_input ReadsInput = refl
  emptied_input (Writes n) = refl
  emptied_input OnOutput = refl
  emptied_input (Marks n) = refl

  -- a close changes no file that is read
  closes_leaves : {T : Type 0} (p : Place) → place t ≡ p → (result : Result T CloseFailed) (f' : Files) → ClosesUse (use_at p) (name_at p) result f f' → Leaves place f f'
  closes_leaves (Reads n) is result f' e = leaves_none place f f' e
  closes_leaves ReadsInput is result f' e = leaves_none place f f' e
  closes_leaves (Writes n) is result f' e = leaves_none place f f' e
  closes_leaves OnOutput is result f' e = leaves_none place f f' e
  closes_leaves (Marks n) is (Ok x) f' e = taken f' e where
    taken : (f' : Files) → f' ≡ with_contents n [] f → Leaves place f f'
    taken f' e = record { given = ap (λ (k : Files). k.given) e; input = ap (λ (k : Files). k.input) e; contents = λ s name reads. ap (λ (k : Files). k.contents name) e ∙ keeps_read place separate t n (inr is) [] f s name reads }
  closes_leaves (Marks n) is (Err x) f' (inl e) = leaves_none place f f' e
  closes_leaves (Marks n) is (Err x) f' (inr e) = record { given = ap (λ (k : Files). k.given) e; input = ap (λ (k : Files). k.input) e; contents = λ s name reads. ap (λ (k : Files). k.contents name) e ∙ keeps_read place separate t n (inr is) [] f s name reads }

pub opening_filed : (c : Call) → IsQuiet c → (g : Setting) (calls : List Call) (t : List Held) (s : ℕ) (d : Descriptor) (f0 f f' : Files) → Filed g calls t f0 f → HasFile (g.place s)
    → f' ≡ after_open (use_at (g.place s)) (name_at (g.place s)) (Ok d) f → IsNew d t → IsFree s t → ((name : List ℕ) → g.place s ≡ Reads name → given_of s calls ≡ []) → Filed g (calls ++ c ∷ []) (t ++ held_at s d ∷ []) f0 f'
opening_filed c q g calls t s d f0 f f' old file e new free fresh =
    quiet_filed c q calls g t (t ++ held_at s d ∷ []) f0 f f' old
    (λ x name reads. ap (λ (k : Files). k.contents name) e ∙ emptied_contents g.place old.separate s f (g.place s) refl file x name reads)
    (ap (λ (k : Files). k.input) e ∙ emptied_input g.place old.separate s f (g.place s))
    (λ h has name reads. ap (λ (k : Files). k.given h.descriptor.0) e ∙ by h name reads (Contains-append_cases t (held_at s d ∷ []) h has))
    (apart_push t s d new free old.apart)
  where
    alone : (h : Held) → Contains (held_at s d ∷ []) h → held_at s d ≡ h
    alone h (zero, lt, is) = is
    alone h (suc j, lt, is) = absurd (omega (arith, lt))

    there : (h : Held) (name : List ℕ) → held_at s d ≡ h → g.place h.site.0 ≡ Reads name → (with_given d.0 0 (emptied (use_at (g.place s)) (name_at (g.place s)) f)).given h.descriptor.0 ≡ length (given_of h.site.0 calls)
    there h name is reads =
        ap (λ (x : Held). (with_given d.0 0 (emptied (use_at (g.place s)) (name_at (g.place s)) f)).given x.descriptor.0) (sym is)
        ∙ same_given d.0 0 (emptied (use_at (g.place s)) (name_at (g.place s)) f)
        ∙ ap length (sym (fresh name (ap (λ (x : Held). g.place x.site.0) is ∙ reads))) ∙ ap (λ (x : Held). length (given_of x.site.0 calls)) is

    by : (h : Held) (name : List ℕ) → g.place h.site.0 ≡ Reads name → Contains t h ⊎ Contains (held_at s d ∷ []) h → (with_given d.0 0 (emptied (use_at (g.place s)) (name_at (g.place s)) f)).given h.descriptor.0 ≡ length (given_of h.site.0 calls)
    by h name reads (inl has) =
        other_given d.0 h.descriptor.0 0 (emptied (use_at (g.place s)) (name_at (g.place s)) f) (new h has)
        ∙ ap (λ (k : ℕ → ℕ). k h.descriptor.0) (emptied_given g.place old.separate s f (g.place s)) ∙ old.here h has name reads
    by h name reads (inr has) = there h name (alone h has) reads

pub closing_filed : {T : Type 0} (c : Call) → IsQuiet c → (g : Setting) (calls : List Call) (t : List Held) (s : ℕ) (d : Descriptor) (result : Result T CloseFailed) (f0 f f' : Files) → Filed g calls t f0 f → Contains t (held_at s d)
    → ClosesFile (open_of g.place (held_at s d)) result f f' → Filed g (calls ++ c ∷ []) (without s d t) f0 f'
closing_filed c q g calls t s d result f0 f f' old there e =
    let leaves = closes_leaves g.place old.separate s (with_given d.0 0 f) (g.place s) refl result f' e in
    quiet_filed c q calls g t (without s d t) f0 f f' old leaves.contents leaves.input
    (λ h has name reads. ap (λ (k : ℕ → ℕ). k h.descriptor.0) leaves.given ∙ other_given d.0 h.descriptor.0 0 f (closed_apart s d t old.apart there h has) ∙ old.here h (without_has s d t h has) name reads)
    (apart_without s d t old.apart)

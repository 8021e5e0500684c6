-- Answers of parts, put together of what their steps answer.
use Rattle.std.proofs.Common.{◌≡◌, ℕ, ◌+◌, ◌-◌, false, List, [], ◌∷◌, ◌++◌, length, map, slice_set, Option, Some, refl, ap, sym, ◌∙◌, subst, arith}
use Rattle.std.specs.Prelude.{IsErrAnd, Result, Ok, Err}
use Rattle.std.proofs.lemmas.List.{append-nil, length-map}
use Rattle.cd_elem.specs.declared.word.Word.{Word}
use Rattle.cd_meaning.specs.Places.{Place, Marks}
use Rattle.cd_types.specs.declared.refusal.RefusalKind.TheVariants.{Key}
use Rattle.cd_types.specs.Chains.{no_type}
use Rattle.cd_types.specs.Conditions.{Fails, none_fails, fails_where}
use Rattle.cd_types.specs.Flows.{Flow, PartType as PartTypeOf}
use Rattle.cd_types.specs.Forms.{form_of_one}
use Rattle.cd_types.specs.Moments.{Moment, ask, begin_part, end_part}
use Rattle.cd_types.specs.Parts.{Part, word_part}
use Rattle.cd_types.specs.WordTypes.{word_bound, word_fails, word_site, word_type}
use Rattle.cd_part_types.specs.declared.part_type.PartType.{PartType}
use Rattle.cd_part_types.specs.Types.{type_of}
use Rattle.cd_typing.specs.declared.forms.OneForm.{OneForm}
use Rattle.cd_typing.specs.declared.refusal.CheckRefusal.{CheckRefusal}
use Rattle.cd_typing.specs.declared.walk.Walk.{Walk}
use Rattle.cd_typing.specs.PartForms.{one_type}
use Rattle.cd_typing.specs.Spots.{Spot, Passes, Stops}
use Rattle.cd_typing.specs.Walking.{spot, types_of, inner_types, Start, start, moments_of, Types, Answers, NextTypes, NextAnswers, EndAnswers}
use Rattle.cd_typing.proofs.Steps.{passes-append, passes-first, stops-memory, stops-here, stops-first, stops-behind, stops-later}
use Rattle.cd_typing.proofs.Tables.{write_in_front}

-- ---- the error that a `?` hands on

pub answers-err : (a : Part) (p : Start) (new : Walk) (o : Result PartType CheckRefusal) (x : CheckRefusal) → IsErrAnd o (λ y. y ≡ x) → Stops p.from (moments_of a p) x → Answers a p new o
answers-err a p new (Ok t) x h s = absurd h
answers-err a p new (Err y) x h s = subst (Stops p.from (moments_of a p)) (sym h) s

pub answers-memory : (a : Part) (p : Start) (new : Walk) (o : Result PartType CheckRefusal) → IsErrAnd o (λ y. y ≡ CheckRefusal.NoMemory) → Answers a p new o
answers-memory a p new o h = answers-err a p new o CheckRefusal.NoMemory h (stops-memory _ _)

pub next-err : (a : Part) (p : Start) (new : Walk) (o : Result (ℕ × PartType) CheckRefusal) (x : CheckRefusal) → IsErrAnd o (λ y. y ≡ x) → Stops p.from (moments_of a p) x → NextAnswers a p new o
next-err a p new (Ok t) x h s = absurd h
next-err a p new (Err y) x h s = subst (Stops p.from (moments_of a p)) (sym h) s

pub next-memory : (a : Part) (p : Start) (new : Walk) (o : Result (ℕ × PartType) CheckRefusal) → IsErrAnd o (λ y. y ≡ CheckRefusal.NoMemory) → NextAnswers a p new o
next-memory a p new o h = next-err a p new o CheckRefusal.NoMemory h (stops-memory _ _)

pub ends-err : (type : PartTypeOf) (ms : List Moment) (old new : Walk) (o : Result PartType CheckRefusal) (x : CheckRefusal) → IsErrAnd o (λ y. y ≡ x) → Stops (spot old) ms x → EndAnswers type ms old new o
ends-err type ms old new (Ok t) x h s = absurd h
ends-err type ms old new (Err y) x h s = subst (Stops (spot old) ms) (sym h) s

pub ends-memory : (type : PartTypeOf) (ms : List Moment) (old new : Walk) (o : Result PartType CheckRefusal) → IsErrAnd o (λ y. y ≡ CheckRefusal.NoMemory) → EndAnswers type ms old new o
ends-memory type ms old new o h = ends-err type ms old new o CheckRefusal.NoMemory h (stops-memory _ _)

-- ---- the next part

pub next-typed : (a : Part) (s : ℕ) (f : Flow) (old begun ended new : Walk) (part number : ℕ) (t u : PartType) → part ≡ length old.parts.items + 1
    → types_of begun ≡ types_of old ++ no_type ∷ [] → spot begun ≡ spot old → Types a (start s part f begun) ended t
    → types_of new ≡ slice_set (types_of ended) (part - 1) (type_of t) → length new.parts.items ≡ length ended.parts.items → spot new ≡ spot ended
    → number ≡ part → u ≡ t → NextTypes a (start s (length old.parts.items + 1) f old) new number u
next-typed a s f old begun ended new part number t u e put at typed set count there n same =
    let inner = inner_types (a.types f) in
    let placed : types_of new ≡ types_of old ++ type_of t ∷ inner =
    set ∙ ap (λ ts. slice_set ts (part - 1) (type_of t)) (typed.inside ∙ ap (λ ts. ts ++ inner) put)
    ∙ write_in_front (types_of old) inner (type_of t) no_type part (e ∙ ap (λ k. k + 1) (sym (length-map old.parts.items type_of)))
    in
    let P : Spot → Type 0 = λ r. Passes r (a.moments s part f) (spot ended) in
    let Q : Spot → Type 0 = λ r. Passes (spot old) (a.moments s part f) r in
    let R : ℕ → Type 0 = λ k. Passes (spot old) (a.moments s k f) (spot new) in
    record {
      numbered = n ∙ e;
      typed = ap type_of same ∙ typed.typed;
      passed = subst R e (subst Q (sym there) (subst P at typed.passed));
      types = placed ∙ ap (λ v. types_of old ++ v ∷ inner) typed.typed ∙ ap (λ ts. types_of old ++ ts) (sym typed.headed);
      counted = ap (λ k. k + 1) count ∙ typed.counted ∙ ap (λ k. k + a.size) e;
    }

pub next-stops : (a : Part) (s : ℕ) (f : Flow) (old begun : Walk) (part : ℕ) (x : CheckRefusal) → part ≡ length old.parts.items + 1 → spot begun ≡ spot old
    → Stops (spot begun) (a.moments s part f) x → Stops (spot old) (a.moments s (length old.parts.items + 1) f) x
next-stops a s f old begun part x e at h = subst (λ k. Stops (spot old) (a.moments s k f) x) e (subst (λ r. Stops r (a.moments s part f) x) at h)

-- ---- the same part under another name, and behind moments that begin no part

pub as-part : (a b : Part) (p : Start) (new : Walk) (o : Result PartType CheckRefusal) → a ≡ b → Answers b p new o → Answers a p new o
as-part a b p new o e h = subst (λ c. Answers c p new o) (sym e) h

pub same-table : (a : Part) (s n : ℕ) (f : Flow) (from : Spot) (old begun new : Walk) (o : Result PartType CheckRefusal) → begun.parts ≡ old.parts
    → Answers a (record { statement = s; part = n; flow = f; from = from; types = types_of begun }) new o → Answers a (record { statement = s; part = n; flow = f; from = from; types = types_of old }) new o
same-table a s n f from old begun new o e h = subst (λ ts. Answers a (record { statement = s; part = n; flow = f; from = from; types = ts }) new o) (ap (λ ps. map type_of ps.items) e) h

-- ---- forms of one part

module _ (type : Flow → PartTypeOf) (conditions : Flow → Fails) (site : Option Place) (asked : PartTypeOf → Fails) (a : Part) (p : Start) where
  abbrev begins : Moment
  begins = begin_part p.statement p.part (conditions p.flow) site

  pub one-begins : (x : CheckRefusal) → Stops p.from (begins ∷ []) x → Stops p.from (moments_of (form_of_one type conditions site asked a) p) x
  one-begins x h = stops-first p.from begins _ x h

  pub one-inside : (old : Walk) (x : CheckRefusal) → Passes p.from (begins ∷ []) (spot old) → p.part ≡ length old.parts.items
      → Stops (spot old) (a.moments p.statement (length old.parts.items + 1) p.flow) x → Stops p.from (moments_of (form_of_one type conditions site asked a) p) x
  one-inside old x b e h =
      let k : Stops (spot old) (a.moments p.statement (p.part + 1) p.flow) x = subst (λ n. Stops (spot old) (a.moments p.statement (n + 1) p.flow) x) (sym e) h in
      stops-later p.from (spot old) begins _ x b (stops-here (spot old) (a.moments p.statement (p.part + 1) p.flow) _ x k)

  module _ (old mid : Walk) (number : ℕ) (inside : PartType) (b : Passes p.from (begins ∷ []) (spot old)) (e : p.part ≡ length old.parts.items) (none : (type p.flow).bound ≡ 0)
      (next : NextTypes a (start p.statement (length old.parts.items + 1) p.flow old) mid number inside) where
    abbrev behind : ℕ → ℕ → List Moment
    behind n bound = ask p.statement n (asked (a.type p.flow)) ∷ end_part p.statement p.part bound ∷ []

    here : number ≡ p.part + 1
    here = next.numbered ∙ ap (λ n. n + 1) (sym e)

    passed : Passes (spot old) (a.moments p.statement (p.part + 1) p.flow) (spot mid)
    passed = subst (λ n. Passes (spot old) (a.moments p.statement (n + 1) p.flow) (spot mid)) (sym e) next.passed

    pub one-stops : (x : CheckRefusal) → Stops (spot mid) (behind number 0) x → Stops p.from (moments_of (form_of_one type conditions site asked a) p) x
    one-stops x h =
        let k : Stops (spot mid) (behind (p.part + 1) 0) x = subst (λ n. Stops (spot mid) (behind n 0) x) here h in
        let l : Stops (spot mid) (behind (p.part + 1) (type p.flow).bound) x = subst (λ n. Stops (spot mid) (behind (p.part + 1) n) x) (sym none) k in
        stops-later p.from (spot old) begins _ x b (stops-behind (spot old) (spot mid) (a.moments p.statement (p.part + 1) p.flow) _ x passed l)

    pub one-passes : (new : Walk) → Passes (spot mid) (behind number 0) (spot new) → Passes p.from (moments_of (form_of_one type conditions site asked a) p) (spot new)
    one-passes new h =
        let k : Passes (spot mid) (behind (p.part + 1) 0) (spot new) = subst (λ n. Passes (spot mid) (behind n 0) (spot new)) here h in
        let l : Passes (spot mid) (behind (p.part + 1) (type p.flow).bound) (spot new) = subst (λ n. Passes (spot mid) (behind (p.part + 1) n) (spot new)) (sym none) k in
        passes-first p.from (spot old) (spot new) begins _ b (passes-append (spot old) (spot mid) (spot new) (a.moments p.statement (p.part + 1) p.flow) _ passed l)

    counts : (new : Walk) → new.parts ≡ mid.parts → length new.parts.items + 1 ≡ p.part + (1 + a.size)
    counts new same =
        let l : length new.parts.items ≡ length mid.parts.items = ap (λ ps. length ps.items) same in
        omega (arith, l, next.counted, e)

    pub one-answers : p.types ≡ types_of old → (new : Walk) (o : Result PartType CheckRefusal) → EndAnswers (type p.flow) (behind number 0) mid new o
        → Answers (form_of_one type conditions site asked a) p new o
    one-answers ts new (Ok t) h = record {
      typed = h.typed;
      passed = one-passes new h.passed;
      headed = refl;
      inside = ap (λ ps. map type_of ps.items) h.same ∙ next.types ∙ ap (λ us. us ++ a.types p.flow) (sym ts);
      counted = counts new h.same;
    }
    one-answers ts new (Err x) h = one-stops x h

pub no-bound : (form : OneForm) (a : Part) (f : Flow) → (one_type form a f).bound ≡ 0
no-bound OneForm.Elements a f = refl
no-bound OneForm.Pieces a f = refl
no-bound OneForm.Mark a f = refl
no-bound OneForm.Tee a f = refl

-- no key is asked for
pub unmarked : (r t : Spot) (s n : ℕ) (name : List ℕ) → Passes r (begin_part s n (fails_where Key false) (Some (Marks name)) ∷ []) t → Passes r (begin_part s n none_fails (Some (Marks name)) ∷ []) t
unfolding Passes
unmarked r t s n name h = h

pub unmarked-stops : (r : Spot) (s n : ℕ) (name : List ℕ) (x : CheckRefusal) → Stops r (begin_part s n (fails_where Key false) (Some (Marks name)) ∷ []) x → Stops r (begin_part s n none_fails (Some (Marks name)) ∷ []) x
unfolding Stops
unmarked-stops r s n name (CheckRefusal.Refused x) h = h
unmarked-stops r s n name CheckRefusal.NoMemory h = tt

-- ---- words

module _ (w : Word) (p : Start) where
  abbrev word_begins : Moment
  word_begins = begin_part p.statement p.part (word_fails w p.flow) (word_site w)

  pub word-begins : (x : CheckRefusal) → Stops p.from (word_begins ∷ []) x → Stops p.from (moments_of (word_part w) p) x
  word-begins x h = stops-first p.from word_begins _ x h

  pub word-ends : (r : Spot) (bound : ℕ) (x : CheckRefusal) → bound ≡ word_bound w p.flow → Passes p.from (word_begins ∷ []) r → Stops r (end_part p.statement p.part bound ∷ []) x
      → Stops p.from (moments_of (word_part w) p) x
  word-ends r bound x e b h = stops-later p.from r word_begins _ x b (subst (λ n. Stops r (end_part p.statement p.part n ∷ []) x) e h)

  pub word-typed : (old begun new : Walk) (bound : ℕ) (t : PartType) → bound ≡ word_bound w p.flow → Passes p.from (word_begins ∷ []) (spot begun) → Passes (spot begun) (end_part p.statement p.part bound ∷ []) (spot new)
      → begun.parts ≡ old.parts → new.parts ≡ begun.parts → type_of t ≡ word_type w p.flow → p.part ≡ length old.parts.items → p.types ≡ types_of old → Types (word_part w) p new t
  word-typed old begun new bound t e b h still same typed n ts =
      let q : Passes (spot begun) (end_part p.statement p.part (word_bound w p.flow) ∷ []) (spot new) = subst (λ k. Passes (spot begun) (end_part p.statement p.part k ∷ []) (spot new)) e h in
      let l : length new.parts.items ≡ p.part = ap (λ ps. length ps.items) (same ∙ still) ∙ sym n in
      record {
        typed = typed;
        passed = passes-first p.from (spot begun) (spot new) word_begins _ b q;
        headed = refl;
        inside = ap (λ ps. map type_of ps.items) (same ∙ still) ∙ sym ts ∙ sym (append-nil p.types);
        counted = ap (λ k. k + 1) l;
      }

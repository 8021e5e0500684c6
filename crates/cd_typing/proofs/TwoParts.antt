-- Forms of two parts, put together of what their steps answer.
use Rattle.std.proofs.Common.{◌≡◌, ℕ, ◌+◌, List, [], ◌∷◌, ◌++◌, length, ap, sym, ◌∙◌, subst, arith}
use Rattle.std.specs.Prelude.{IsErrAnd, IfOk, Result, Ok, Err}
use Rattle.cd_types.specs.Flows.{PartType as PartTypeOf}
use Rattle.cd_types.specs.Moments.{Moment, ask}
use Rattle.cd_types.specs.Parts.{Part}
use Rattle.cd_part_types.specs.declared.part_type.PartType.{PartType}
use Rattle.cd_part_types.specs.Types.{type_of}
use Rattle.cd_typing.specs.declared.forms.TwoForm.{TwoForm}
use Rattle.cd_typing.specs.declared.refusal.CheckRefusal.{CheckRefusal}
use Rattle.cd_typing.specs.declared.walk.Walk.{Walk}
use Rattle.cd_typing.specs.PartForms.{two_input, two_conditions, two_first, first_moments, FirstAnswers}
use Rattle.cd_typing.specs.Spots.{Passes, Stops}
use Rattle.cd_typing.specs.Walking.{spot, types_of, Start, start, Moves, NextTypes}
use Rattle.cd_typing.proofs.Steps.{passes-append, passes-first, stops-here, stops-first, stops-behind, stops-later}

-- ---- the first part

pub first-err : (form : TwoForm) (a : Part) (p : Start) (new : Walk) (o : Result PartType CheckRefusal) (x : CheckRefusal) → IsErrAnd o (λ y. y ≡ x) → Stops p.from (first_moments form a p) x
    → FirstAnswers form a p new o
first-err form a p new (Ok t) x h s = absurd h
first-err form a p new (Err y) x h s = subst (Stops p.from (first_moments form a p)) (sym h) s

module _ (form : TwoForm) (a : Part) (p : Start) where
  abbrev begins : Moment
  begins = ask p.statement p.part (two_conditions form p.flow)

  abbrev inner : List Moment
  inner = a.moments p.statement (p.part + 1) (two_input form p.flow)

  pub first-begins : (x : CheckRefusal) → Stops p.from (begins ∷ []) x → Stops p.from (first_moments form a p) x
  first-begins x h = stops-first p.from begins _ x h

  module _ (old : Walk) (b : Passes p.from (begins ∷ []) (spot old)) (e : p.part ≡ length old.parts.items) where
    pub first-inside : (x : CheckRefusal) → Stops (spot old) (a.moments p.statement (length old.parts.items + 1) (two_input form p.flow)) x → Stops p.from (first_moments form a p) x
    first-inside x h =
        let k : Stops (spot old) inner x = subst (λ n. Stops (spot old) (a.moments p.statement (n + 1) (two_input form p.flow)) x) (sym e) h in
        stops-later p.from (spot old) begins _ x b (stops-here (spot old) inner _ x k)

    module _ (mid : Walk) (number : ℕ) (t : PartType) (next : NextTypes a (start p.statement (length old.parts.items + 1) (two_input form p.flow) old) mid number t) where
      abbrev behind : ℕ → PartTypeOf → List Moment
      behind n u = ask p.statement n (two_first form u) ∷ []

      here : number ≡ p.part + 1
      here = next.numbered ∙ ap (λ n. n + 1) (sym e)

      passed : Passes (spot old) inner (spot mid)
      passed = subst (λ n. Passes (spot old) (a.moments p.statement (n + 1) (two_input form p.flow)) (spot mid)) (sym e) next.passed

      first-stops : (x : CheckRefusal) → Stops (spot mid) (behind number (type_of t)) x → Stops p.from (first_moments form a p) x
      first-stops x h =
          let k : Stops (spot mid) (behind (p.part + 1) (type_of t)) x = subst (λ n. Stops (spot mid) (behind n (type_of t)) x) here h in
          let l : Stops (spot mid) (behind (p.part + 1) (a.type (two_input form p.flow))) x = subst (λ u. Stops (spot mid) (behind (p.part + 1) u) x) next.typed k in
          stops-later p.from (spot old) begins _ x b (stops-behind (spot old) (spot mid) inner _ x passed l)

      first-passes : Passes (spot mid) (behind number (type_of t)) (spot mid) → Passes p.from (first_moments form a p) (spot mid)
      first-passes h =
          let k : Passes (spot mid) (behind (p.part + 1) (type_of t)) (spot mid) = subst (λ n. Passes (spot mid) (behind n (type_of t)) (spot mid)) here h in
          let l : Passes (spot mid) (behind (p.part + 1) (a.type (two_input form p.flow))) (spot mid) = subst (λ u. Passes (spot mid) (behind (p.part + 1) u) (spot mid)) next.typed k in
          passes-first p.from (spot old) (spot mid) begins _ b (passes-append (spot old) (spot mid) (spot mid) inner _ passed l)

      counts : length mid.parts.items + 1 ≡ p.part + 1 + a.size
      counts = omega (arith, next.counted, e)

      pub first-answers : p.types ≡ types_of old → (o : Result PartType CheckRefusal) → Moves (spot mid) (behind number (type_of t)) (spot mid) o → IfOk o (λ u. u ≡ t) → FirstAnswers form a p mid o
      first-answers ts (Ok u) h same = record {
        typed = ap type_of same ∙ next.typed;
        passed = first-passes h;
        types = next.types ∙ ap (λ us. us ++ a.types (two_input form p.flow)) (sym ts);
        counted = counts;
      }
      first-answers ts (Err x) h same = first-stops x h

-- Both parts of a form of two, put together of what their steps answer.
use Rattle.std.proofs.Common.{◌≡◌, ℕ, ◌+◌, List, [], ◌∷◌, ◌++◌, length, map, refl, ap, sym, ◌∙◌, subst, arith, append_assoc}
use Rattle.std.specs.Prelude.{Result, Ok, Err}
use Rattle.cd_types.specs.Conditions.{Fails}
use Rattle.cd_types.specs.Flows.{Flow, PartType as PartTypeOf}
use Rattle.cd_types.specs.Forms.{form_of_two}
use Rattle.cd_types.specs.Moments.{Moment, ask, end_part}
use Rattle.cd_types.specs.Parts.{Part}
use Rattle.cd_part_types.specs.declared.part_type.PartType.{PartType}
use Rattle.cd_part_types.specs.Types.{type_of}
use Rattle.cd_typing.specs.declared.forms.TwoForm.{TwoForm}
use Rattle.cd_typing.specs.declared.refusal.CheckRefusal.{CheckRefusal}
use Rattle.cd_typing.specs.declared.walk.Walk.{Walk}
use Rattle.cd_typing.specs.PartForms.{two_input, two_conditions, two_first, first_moments, FirstTypes}
use Rattle.cd_typing.specs.Spots.{Passes, Stops}
use Rattle.cd_typing.specs.Walking.{spot, types_of, Start, start, moments_of, Answers, NextTypes, EndAnswers}
use Rattle.cd_typing.proofs.Steps.{passes-append, stops-here, stops-behind}

module _ (form : TwoForm) (type : Flow → PartTypeOf) (second : PartTypeOf → PartTypeOf → Fails) (whole : Flow → Fails) (a b : Part) (p : Start) where
  abbrev both : Part
  both = form_of_two type (two_input form) (two_conditions form) (two_first form) second whole a b

  abbrev input : Flow
  input = two_input form p.flow

  abbrev behind : ℕ → ℕ → List Moment
  behind n bound = ask p.statement n (second (a.type input) (b.type input)) ∷ ask p.statement p.part (whole p.flow) ∷ end_part p.statement p.part bound ∷ []

  abbrev front : List Moment
  front = first_moments form a p

  abbrev later : List Moment
  later = b.moments p.statement (p.part + 1 + a.size) input

  in_order : front ++ (later ++ behind (p.part + 1 + a.size) (type p.flow).bound) ≡ moments_of both p
  in_order =
      let z : List Moment = behind (p.part + 1 + a.size) (type p.flow).bound in
      sym (append_assoc front later z)
      ∙ ap (λ ms. ms ++ z) (append_assoc (ask p.statement p.part (two_conditions form p.flow) ∷ a.moments p.statement (p.part + 1) input) (ask p.statement (p.part + 1) (two_first form (a.type input)) ∷ []) later)

  stops-so : (x : CheckRefusal) → Stops p.from (front ++ (later ++ behind (p.part + 1 + a.size) (type p.flow).bound)) x → Stops p.from (moments_of both p) x
  stops-so x h = subst (λ ms. Stops p.from ms x) in_order h

  pub two-first-stops : (x : CheckRefusal) → Stops p.from front x → Stops p.from (moments_of both p) x
  two-first-stops x h = stops-so x (stops-here p.from front _ x h)

  module _ (mid : Walk) (t : PartType) (w : FirstTypes form a p mid t) where
    pub two-second-stops : (x : CheckRefusal) → Stops (spot mid) (b.moments p.statement (length mid.parts.items + 1) input) x → Stops p.from (moments_of both p) x
    two-second-stops x h =
        let k : Stops (spot mid) later x = subst (λ n. Stops (spot mid) (b.moments p.statement n input) x) w.counted h in
        stops-so x (stops-behind p.from (spot mid) front _ x w.passed (stops-here (spot mid) later _ x k))

    module _ (last : Walk) (number : ℕ) (u : PartType) (next : NextTypes b (start p.statement (length mid.parts.items + 1) input mid) last number u) where
      here : number ≡ p.part + 1 + a.size
      here = next.numbered ∙ w.counted

      passed : Passes (spot mid) later (spot last)
      passed = subst (λ n. Passes (spot mid) (b.moments p.statement n input) (spot last)) w.counted next.passed

      module _ (bound : ℕ) (is : bound ≡ (type p.flow).bound) where
        two-end-stops : (x : CheckRefusal) → Stops (spot last) (behind number bound) x → Stops p.from (moments_of both p) x
        two-end-stops x h =
            let k : Stops (spot last) (behind (p.part + 1 + a.size) bound) x = subst (λ n. Stops (spot last) (behind n bound) x) here h in
            let l : Stops (spot last) (behind (p.part + 1 + a.size) (type p.flow).bound) x = subst (λ n. Stops (spot last) (behind (p.part + 1 + a.size) n) x) is k in
            stops-so x (stops-behind p.from (spot mid) front _ x w.passed (stops-behind (spot mid) (spot last) later _ x passed l))

        two-passes : (new : Walk) → Passes (spot last) (behind number bound) (spot new) → Passes p.from (moments_of both p) (spot new)
        two-passes new h =
            let k : Passes (spot last) (behind (p.part + 1 + a.size) bound) (spot new) = subst (λ n. Passes (spot last) (behind n bound) (spot new)) here h in
            let l : Passes (spot last) (behind (p.part + 1 + a.size) (type p.flow).bound) (spot new) = subst (λ n. Passes (spot last) (behind (p.part + 1 + a.size) n) (spot new)) is k in
            subst (λ ms. Passes p.from ms (spot new)) in_order
            (passes-append p.from (spot mid) (spot new) front _ w.passed (passes-append (spot mid) (spot last) (spot new) later _ passed l))

        counts-two : (new : Walk) → new.parts ≡ last.parts → length new.parts.items + 1 ≡ p.part + (1 + a.size + b.size)
        counts-two new same =
            let l : length new.parts.items ≡ length last.parts.items = ap (λ ps. length ps.items) same in
            omega (arith, l, next.counted, w.counted)

        table : (new : Walk) → new.parts ≡ last.parts → types_of new ≡ p.types ++ (a.types input ++ b.types input)
        table new same =
            ap (λ ps. map type_of ps.items) same ∙ next.types ∙ ap (λ ts. ts ++ b.types input) w.types ∙ append_assoc p.types (a.types input) (b.types input)

        pub two-answers : (new : Walk) (o : Result PartType CheckRefusal) → EndAnswers (type p.flow) (behind number bound) last new o → Answers both p new o
        two-answers new (Ok v) h = record {
          typed = h.typed;
          passed = two-passes new h.passed;
          headed = refl;
          inside = table new h.same;
          counted = counts-two new h.same;
        }
        two-answers new (Err x) h = two-end-stops x h

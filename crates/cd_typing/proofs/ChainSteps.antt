-- Walking the members of a chain.
use Rattle.std.proofs.Common.{◌≡◌, ℕ, ◌+◌, ◌<◌, ◌≤◌, ◌==◌, Bool, true, false, List, [], ◌∷◌, ◌++◌, length, map, drop, get_or, refl, ap, sym, ◌∙◌, subst, arith, append_assoc, Result, Ok, Err}
use Rattle.std.proofs.lemmas.List.{append-nil, map-append}
use Rattle.cd_elem.specs.declared.script.Join.{Join}
use Rattle.cd_elem.specs.declared.script.Pipe.{Pipe}
use Rattle.cd_types.specs.Chains.{member_types, member_fails, chain_moments, chain_types, chain_part, chain_type, chain_type_of, chain_bound}
use Rattle.cd_types.specs.Flows.{Flow, PartType as PartTypeOf}
use Rattle.cd_types.specs.Moments.{Moment, ask, end_part}
use Rattle.cd_types.specs.Parts.{Part, sizes, is_last}
use Rattle.cd_types.specs.Trees.{part}
use Rattle.cd_part_types.specs.declared.part_type.PartType.{PartType}
use Rattle.cd_part_types.specs.Types.{type_of}
use Rattle.cd_typing.specs.declared.refusal.CheckRefusal.{CheckRefusal}
use Rattle.cd_typing.specs.declared.walk.Walk.{Walk}
use Rattle.cd_typing.specs.Spots.{Passes, Stops, Leads}
use Rattle.cd_typing.specs.Walking.{spot, types_of, Start, start, moments_of, Answers, NextTypes, EndAnswers}
use Rattle.cd_typing.proofs.SequenceSteps.{drop_more, drop_none}
use Rattle.cd_typing.proofs.Steps.{passes-append, leads-same, leads-on, leads-behind, leads-stops, leads-passes, stops-here, stops-behind, stops-first}

-- where the rest of the members is still to be walked, for what comes to the next one
pub record Chained (p : Start) (j : Join) (all rest : List Part) (now : Walk) (members : List PartTypeOf) (to : Flow) (is_first : Bool) : Type 0 where
  pub leads : Leads p.from (chain_moments p.statement (p.part + 1) j true p.flow all) (spot now) (chain_moments p.statement (length now.parts.items + 1) j is_first to rest)
  pub types : p.types ++ chain_types p.flow all ≡ types_of now ++ chain_types to rest
  pub gathered : member_types p.flow all ≡ members ++ member_types to rest
  pub counted : length now.parts.items + 1 + sizes rest ≡ p.part + 1 + sizes all

pub begun : (s n : ℕ) (j : Join) (f : Flow) (all : List Part) (now : Walk) (members : List PartType) → n ≡ length now.parts.items → members ≡ [] → Chained (start s n f now) j all all now (map type_of members) f true
begun s n j f all now members e none = record {
  leads = subst (λ k. Leads (spot now) (chain_moments s (n + 1) j true f all) (spot now) (chain_moments s (k + 1) j true f all)) e (leads-same _ _);
  types = refl;
  gathered = ap (λ ms. map type_of ms ++ member_types f all) (sym none);
  counted = ap (λ k. k + 1 + sizes all) (sym e);
}

pub opened : (p : Start) (j : Join) (all : List Part) (ps : List Pipe) (i : ℕ) (q : Pipe) (now : Walk) (members : List PartTypeOf) (to : Flow) (is_first : Bool) → i < length ps → q ≡ get_or ps i q
    → Chained p j all (map part (drop i ps)) now members to is_first → Chained p j all (part q ∷ map part (drop (i + 1) ps)) now members to is_first
opened p j all ps i q now members to is_first h e w = subst (λ rest. Chained p j all rest now members to is_first) (drop_more ps i q h e) w

pub at_end : (p : Start) (j : Join) (all : List Part) (ps : List Pipe) (i : ℕ) (now : Walk) (members : List PartTypeOf) (to : Flow) (is_first : Bool) → length ps ≤ i
    → Chained p j all (map part (drop i ps)) now members to is_first → Chained p j all [] now members to is_first
at_end p j all ps i now members to is_first h w = subst (λ rest. Chained p j all rest now members to is_first) (drop_none ps i h) w

pub not_first : (i : ℕ) → (i + 1 == 0) ≡ false
not_first i = grind arith

module _ (p : Start) (j : Join) (all more : List Part) (a : Part) (now : Walk) (members : List PartTypeOf) (to : Flow) (is_first : Bool) (w : Chained p j all (a ∷ more) now members to is_first) where
  abbrev n : ℕ
  n = length now.parts.items + 1

  stops_so : (x : CheckRefusal) → Stops (spot now) (chain_moments p.statement n j is_first to (a ∷ more)) x → Stops p.from (moments_of (chain_part j all) p) x
  stops_so x h = stops-here p.from _ _ x (leads-stops p.from (spot now) _ _ x w.leads h)

  pub part_stops : (x : CheckRefusal) → Stops (spot now) (a.moments p.statement n to) x → Stops p.from (moments_of (chain_part j all) p) x
  part_stops x h = stops_so x (stops-here (spot now) (a.moments p.statement n to) _ x h)

  module _ (new : Walk) (number : ℕ) (t : PartType) (typed : NextTypes a (start p.statement n to now) new number t) (last : Bool) (l : last ≡ is_last more) where
    abbrev asked : ℕ → PartTypeOf → Bool → Moment
    asked k u b = ask p.statement k (member_fails j a.invertible u is_first b)

    abbrev there : Moment
    there = asked n (a.type to) (is_last more)

    as_asked : (P : Moment → Type 0) → P (asked number (type_of t) last) → P there
    as_asked P h =
        let i : P (asked n (type_of t) last) = subst (λ k. P (asked k (type_of t) last)) typed.numbered h in
        let k : P (asked n (a.type to) last) = subst (λ u. P (asked n u last)) typed.typed i in
        subst (λ b. P (asked n (a.type to) b)) l k

    pub ask_stops : (x : CheckRefusal) → Stops (spot new) (asked number (type_of t) last ∷ []) x → Stops p.from (moments_of (chain_part j all) p) x
    ask_stops x h =
        let k : Stops (spot new) (there ∷ []) x = as_asked (λ m. Stops (spot new) (m ∷ []) x) h in
        stops_so x (stops-behind (spot now) (spot new) (a.moments p.statement n to) _ x typed.passed (stops-first (spot new) there _ x k))

    leads_on : Passes (spot new) (there ∷ []) (spot new)
        → Leads p.from (chain_moments p.statement (p.part + 1) j true p.flow all) (spot new) (chain_moments p.statement (length new.parts.items + 1) j false (a.type to).to more)
    leads_on h =
        let s = p.statement in
        let l : Leads (spot now) (chain_moments s n j is_first to (a ∷ more)) (spot new) (chain_moments s (n + a.size) j false (a.type to).to more) =
        leads-on (spot now) (spot new) (spot new) _ _ _ (leads-behind (spot now) (spot new) (a.moments s n to) _ typed.passed) (leads-behind (spot new) (spot new) (there ∷ []) _ h)
        in
        subst (λ k. Leads p.from (chain_moments s (p.part + 1) j true p.flow all) (spot new) (chain_moments s k j false (a.type to).to more)) (sym typed.counted)
        (leads-on p.from (spot now) (spot new) _ _ _ w.leads l)

    pub chained_on : (ts us : List PartType) (still : Bool) → members ≡ map type_of ts → us ≡ ts ++ t ∷ [] → still ≡ false → Passes (spot new) (asked number (type_of t) last ∷ []) (spot new)
        → Chained p j all more new (map type_of us) t.to still
    chained_on ts us still m e later h =
        let P : PartTypeOf → Type 0 = λ u. Chained p j all more new (members ++ u ∷ []) u.to false in
        let k : Passes (spot new) (there ∷ []) (spot new) = as_asked (λ m. Passes (spot new) (m ∷ []) (spot new)) h in
        let count_on : length new.parts.items + 1 + sizes more ≡ p.part + 1 + sizes all = omega (arith, typed.counted, w.counted) in
        let there_on : P (a.type to) = record {
          leads = leads_on k;
          types = w.types ∙ sym (append_assoc (types_of now) (a.types to) (chain_types (a.type to).to more)) ∙ ap (λ vs. vs ++ chain_types (a.type to).to more) (sym typed.types);
          gathered = w.gathered ∙ sym (append_assoc members (a.type to ∷ []) (member_types (a.type to).to more));
          counted = count_on;
        } in
        let here : P (type_of t) = subst P (sym typed.typed) there_on in
        let list : members ++ type_of t ∷ [] ≡ map type_of us = ap (λ ms. ms ++ type_of t ∷ []) m ∙ sym (map-append type_of ts (t ∷ [])) ∙ ap (map type_of) (sym e) in
        let Q : List PartTypeOf → Type 0 = λ ms. Chained p j all more new ms t.to false in
        subst (λ b. Chained p j all more new (map type_of us) t.to b) (sym later) (subst Q list here)

-- behind the last member
module _ (p : Start) (j : Join) (all : List Part) (now : Walk) (members : List PartTypeOf) (to : Flow) (is_first : Bool) (w : Chained p j all [] now members to is_first) where
  passed : Passes p.from (chain_moments p.statement (p.part + 1) j true p.flow all) (spot now)
  passed = leads-passes p.from (spot now) _ w.leads

  all_types : members ≡ member_types p.flow all
  all_types = sym (w.gathered ∙ append-nil members)

  counts : (new : Walk) → new.parts ≡ now.parts → length new.parts.items + 1 ≡ p.part + (1 + sizes all)
  counts new same =
      let l : length new.parts.items ≡ length now.parts.items = ap (λ ps. length ps.items) same in
      omega (arith, l, w.counted)

  abbrev ends : List PartTypeOf → List Moment
  ends ms = end_part p.statement p.part (chain_bound j ms) ∷ []

  answers_so : (new : Walk) (o : Result PartType CheckRefusal) → EndAnswers (chain_type j all p.flow) (ends (member_types p.flow all)) now new o → Answers (chain_part j all) p new o
  answers_so new (Ok t) h = record {
    typed = h.typed;
    passed = passes-append p.from (spot now) (spot new) _ _ passed h.passed;
    headed = refl;
    inside = ap (λ ps. map type_of ps.items) h.same ∙ sym (append-nil (types_of now)) ∙ sym w.types;
    counted = counts new h.same;
  }
  answers_so new (Err x) h = stops-behind p.from (spot now) _ _ x passed h

  pub answers : (new : Walk) (o : Result PartType CheckRefusal) → EndAnswers (chain_type_of j p.flow members) (ends members) now new o → Answers (chain_part j all) p new o
  answers new o h = answers_so new o (subst (λ ms. EndAnswers (chain_type_of j p.flow ms) (ends ms) now new o) all_types h)

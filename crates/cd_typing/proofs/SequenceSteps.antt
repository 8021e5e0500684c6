-- Walking the parts of a sequence.
use Rattle.std.proofs.Common.{◌≡◌, ℕ, suc, ◌+◌, ◌<◌, ◌≤◌, ◌==◌, Bool, true, false, ◌&&◌, List, [], ◌∷◌, ◌++◌, length, map, drop, get_or, None, refl, ap, sym, ◌∙◌, subst, arith, drop-cons, add-one, append_assoc, inl, inr, Result, Ok, Err}
use Rattle.std.proofs.lemmas.List.{append-nil, drop_all}
use Rattle.std.proofs.lemmas.Bool.{cases_lt}
use Rattle.cd_elem.specs.declared.script.Pipe.{Pipe}
use Rattle.cd_types.specs.Flows.{Flow, Unit, PartType as PartTypeOf, join}
use Rattle.cd_types.specs.Moments.{Moment, ask, end_part}
use Rattle.cd_types.specs.Parts.{Part, sizes, is_last}
use Rattle.cd_types.specs.Sequences.{all_exact, all_idle, joined_from, last_result, sequence_fails, sequence_moments, sequence_part, sequence_type, sequence_types}
use Rattle.cd_types.specs.Trees.{part}
use Rattle.cd_part_types.specs.declared.part_type.PartType.{PartType}
use Rattle.cd_part_types.specs.declared.sequences.JoinedParts.{JoinedParts}
use Rattle.cd_part_types.specs.Results.{result_of}
use Rattle.cd_part_types.specs.Sequences.{IsJoined}
use Rattle.cd_part_types.specs.Types.{type_of}
use Rattle.cd_typing.specs.declared.refusal.CheckRefusal.{CheckRefusal}
use Rattle.cd_typing.specs.declared.walk.Walk.{Walk}
use Rattle.cd_typing.specs.Members.{JoinsOn}
use Rattle.cd_typing.specs.Spots.{Passes, Stops, Leads}
use Rattle.cd_typing.specs.Walking.{spot, types_of, Start, start, moments_of, Answers, NextTypes, EndAnswers}
use Rattle.cd_typing.proofs.Steps.{passes-append, leads-same, leads-on, leads-behind, leads-stops, leads-passes, stops-here, stops-behind, stops-first}

-- ---- the parts behind one

pub drop_more : (ps : List Pipe) (i : ℕ) (p : Pipe) → i < length ps → p ≡ get_or ps i p → map part (drop i ps) ≡ part p ∷ map part (drop (i + 1) ps)
drop_more ps i p h e = ap (map part) (drop-cons ps i p h) ∙ ap (λ q. part q ∷ map part (drop (suc i) ps)) (sym e) ∙ ap (λ k. part p ∷ map part (drop k ps)) (sym (add-one i))

pub drop_none : (ps : List Pipe) (i : ℕ) → length ps ≤ i → map part (drop i ps) ≡ []
drop_none ps i h = ap (map part) (drop_all i ps h)

pub is_last_so : (ps : List Pipe) (i : ℕ) (p : Pipe) → i < length ps → (i + 1 == length ps) ≡ is_last (map part (drop (i + 1) ps))
is_last_so ps i p h =
    elim (cases_lt (i + 1) (length ps)) [
      | inl k ↦
          let e : (i + 1 == length ps) ≡ false = grind arith in
          e ∙ ap (λ ds. is_last (map part ds)) (sym (drop-cons ps (i + 1) p k))
      | inr k ↦
          let e : (i + 1 == length ps) ≡ true = grind arith in
          e ∙ ap is_last (sym (drop_none ps (i + 1) k))
    ]

pub empty_so : (ps : List Pipe) → (length ps == 0) ≡ is_last (map part ps)
empty_so [] = refl
empty_so (p ∷ ps) = grind arith

and_assoc : (a b c : Bool) → (a && (b && c)) ≡ ((a && b) && c)
and_assoc true b c = refl
and_assoc false b c = refl

and_true : (b : Bool) → (b && true) ≡ b
and_true true = refl
and_true false = refl

-- ---- where the rest of the parts is still to be walked

pub record Walked (p : Start) (all rest : List Part) (now : Walk) (joined : JoinedParts) : Type 0 where
  pub leads : Leads p.from (sequence_moments p.statement (p.part + 1) None p.flow all) (spot now) (sequence_moments p.statement (length now.parts.items + 1) joined.to p.flow rest)
  pub types : p.types ++ sequence_types p.flow all ≡ types_of now ++ sequence_types p.flow rest
  pub gives : joined_from None p.flow all ≡ joined_from joined.to p.flow rest
  pub results : last_result Unit p.flow all ≡ last_result (result_of joined.result) p.flow rest
  pub exactness : all_exact p.flow all ≡ (joined.exact && all_exact p.flow rest)
  pub idleness : all_idle p.flow all ≡ (joined.idle && all_idle p.flow rest)
  pub counted : length now.parts.items + 1 + sizes rest ≡ p.part + 1 + sizes all

pub begun : (s n : ℕ) (f : Flow) (all : List Part) (now : Walk) (joined : JoinedParts) → n ≡ length now.parts.items → joined.to ≡ None → result_of joined.result ≡ Unit → joined.exact ≡ true → joined.idle ≡ true
    → Walked (start s n f now) all all now joined
begun s n f all now joined e to r exact idle =
    let l : Leads (spot now) (sequence_moments s (n + 1) None f all) (spot now) (sequence_moments s (length now.parts.items + 1) None f all) =
    subst (λ k. Leads (spot now) (sequence_moments s (n + 1) None f all) (spot now) (sequence_moments s (k + 1) None f all)) e (leads-same _ _)
    in
    record {
      leads = subst (λ g. Leads (spot now) (sequence_moments s (n + 1) None f all) (spot now) (sequence_moments s (length now.parts.items + 1) g f all)) (sym to) l;
      types = refl;
      gives = ap (λ g. joined_from g f all) (sym to);
      results = ap (λ u. last_result u f all) (sym r);
      exactness = ap (λ b. b && all_exact f all) (sym exact);
      idleness = ap (λ b. b && all_idle f all) (sym idle);
      counted = ap (λ k. k + 1 + sizes all) (sym e);
    }

-- the next one is this part
pub opened : (p : Start) (all : List Part) (ps : List Pipe) (i : ℕ) (q : Pipe) (now : Walk) (joined : JoinedParts) → i < length ps → q ≡ get_or ps i q
    → Walked p all (map part (drop i ps)) now joined → Walked p all (part q ∷ map part (drop (i + 1) ps)) now joined
opened p all ps i q now joined h e w = subst (λ rest. Walked p all rest now joined) (drop_more ps i q h e) w

pub at_end : (p : Start) (all : List Part) (ps : List Pipe) (i : ℕ) (now : Walk) (joined : JoinedParts) → length ps ≤ i → Walked p all (map part (drop i ps)) now joined → Walked p all [] now joined
at_end p all ps i now joined h w = subst (λ rest. Walked p all rest now joined) (drop_none ps i h) w

module _ (p : Start) (all more : List Part) (a : Part) (now : Walk) (joined : JoinedParts) (w : Walked p all (a ∷ more) now joined) where
  abbrev n : ℕ
  n = length now.parts.items + 1

  stops_so : (x : CheckRefusal) → Stops (spot now) (sequence_moments p.statement n joined.to p.flow (a ∷ more)) x → Stops p.from (moments_of (sequence_part all) p) x
  stops_so x h = stops-here p.from _ _ x (leads-stops p.from (spot now) _ _ x w.leads h)

  pub part_stops : (x : CheckRefusal) → Stops (spot now) (a.moments p.statement n p.flow) x → Stops p.from (moments_of (sequence_part all) p) x
  part_stops x h = stops_so x (stops-here (spot now) (a.moments p.statement n p.flow) _ x h)

  module _ (new : Walk) (number : ℕ) (t : PartType) (typed : NextTypes a (start p.statement n p.flow now) new number t) (last : Bool) (l : last ≡ is_last more) where
    abbrev asked : ℕ → PartTypeOf → Bool → Moment
    asked k u b = ask p.statement k (sequence_fails joined.to p.flow u b)

    abbrev there : Moment
    there = asked n (a.type p.flow) (is_last more)

    as_asked : (P : Moment → Type 0) → P (asked number (type_of t) last) → P there
    as_asked P h =
        let i : P (asked n (type_of t) last) = subst (λ k. P (asked k (type_of t) last)) typed.numbered h in
        let j : P (asked n (a.type p.flow) last) = subst (λ u. P (asked n u last)) typed.typed i in
        subst (λ b. P (asked n (a.type p.flow) b)) l j

    pub ask_stops : (x : CheckRefusal) → Stops (spot new) (asked number (type_of t) last ∷ []) x → Stops p.from (moments_of (sequence_part all) p) x
    ask_stops x h =
        let k : Stops (spot new) (there ∷ []) x = as_asked (λ m. Stops (spot new) (m ∷ []) x) h in
        stops_so x (stops-behind (spot now) (spot new) (a.moments p.statement n p.flow) _ x typed.passed (stops-first (spot new) there _ x k))

    leads_on : Passes (spot new) (there ∷ []) (spot new)
        → Leads p.from (sequence_moments p.statement (p.part + 1) None p.flow all) (spot new) (sequence_moments p.statement (length new.parts.items + 1) (join joined.to (a.type p.flow).to) p.flow more)
    leads_on h =
        let s = p.statement in
        let f = p.flow in
        let l : Leads (spot now) (sequence_moments s n joined.to f (a ∷ more)) (spot new) (sequence_moments s (n + a.size) (join joined.to (a.type f).to) f more) =
        leads-on (spot now) (spot new) (spot new) _ _ _ (leads-behind (spot now) (spot new) (a.moments s n f) _ typed.passed) (leads-behind (spot new) (spot new) (there ∷ []) _ h)
        in
        subst (λ k. Leads p.from (sequence_moments s (p.part + 1) None f all) (spot new) (sequence_moments s k (join joined.to (a.type f).to) f more)) (sym typed.counted)
        (leads-on p.from (spot now) (spot new) _ _ _ w.leads l)

    pub walked_on : (next : JoinedParts) → JoinsOn joined (type_of t) next → Passes (spot new) (asked number (type_of t) last ∷ []) (spot new) → Walked p all more new next
    walked_on next j h =
        let f = p.flow in
        let to : next.to ≡ join joined.to (a.type f).to = j.to ∙ ap (λ u. join joined.to u.to) typed.typed in
        let result : result_of next.result ≡ (a.type f).result = j.result ∙ ap (λ u. u.result) typed.typed in
        let exact : next.exact ≡ (joined.exact && (a.type f).exact) = j.exact ∙ ap (λ u. joined.exact && u.exact) typed.typed in
        let idle : next.idle ≡ (joined.idle && (a.type f).idle) = j.idle ∙ ap (λ u. joined.idle && u.idle) typed.typed in
        let k : Passes (spot new) (there ∷ []) (spot new) = as_asked (λ m. Passes (spot new) (m ∷ []) (spot new)) h in
        record {
          leads = subst (λ g. Leads p.from (sequence_moments p.statement (p.part + 1) None f all) (spot new) (sequence_moments p.statement (length new.parts.items + 1) g f more)) (sym to) (leads_on k);
          types = w.types ∙ sym (append_assoc (types_of now) (a.types f) (sequence_types f more)) ∙ ap (λ ts. ts ++ sequence_types f more) (sym typed.types);
          gives = w.gives ∙ ap (λ g. joined_from g f more) (sym to);
          results = w.results ∙ ap (λ u. last_result u f more) (sym result);
          exactness = w.exactness ∙ and_assoc joined.exact (a.type f).exact (all_exact f more) ∙ ap (λ b. b && all_exact f more) (sym exact);
          idleness = w.idleness ∙ and_assoc joined.idle (a.type f).idle (all_idle f more) ∙ ap (λ b. b && all_idle f more) (sym idle);
          counted = omega (arith, typed.counted, w.counted);
        }

-- behind the last part
module _ (p : Start) (all : List Part) (now : Walk) (joined : JoinedParts) (w : Walked p all [] now joined) where
  pub is_joined : IsJoined p.flow all joined
  is_joined = record { gives = w.gives; results = w.results; exactness = w.exactness ∙ and_true joined.exact; idleness = w.idleness ∙ and_true joined.idle }

  passed : Passes p.from (sequence_moments p.statement (p.part + 1) None p.flow all) (spot now)
  passed = leads-passes p.from (spot now) _ w.leads

  counts : (new : Walk) → new.parts ≡ now.parts → length new.parts.items + 1 ≡ p.part + (1 + sizes all)
  counts new same =
      let l : length new.parts.items ≡ length now.parts.items = ap (λ ps. length ps.items) same in
      omega (arith, l, w.counted)

  pub answers : (new : Walk) (o : Result PartType CheckRefusal) → EndAnswers (sequence_type all p.flow) (end_part p.statement p.part 0 ∷ []) now new o → Answers (sequence_part all) p new o
  answers new (Ok t) h = record {
    typed = h.typed;
    passed = passes-append p.from (spot now) (spot new) _ _ passed h.passed;
    headed = refl;
    inside = ap (λ ps. map type_of ps.items) h.same ∙ sym (append-nil (types_of now)) ∙ sym w.types;
    counted = counts new h.same;
  }
  answers new (Err x) h = stops-behind p.from (spot now) _ _ x passed h

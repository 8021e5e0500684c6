-- Members in a row: what is built of them, their places, and what they give.
use Rattle.std.proofs.Common.{◌≡◌, ℕ, suc, ◌+◌, Bool, true, false, ◌&&◌, IsTrue, List, [], ◌∷◌, ◌++◌, length, map, refl, ap, sym, ◌∙◌, subst, append_assoc, arith}
use Rattle.std.proofs.lemmas.List.{map-append}
use Rattle.cd_elem.specs.declared.script.Pipe.{Pipe}
use Rattle.cd_meaning.specs.Meaning.{piped, sequence_form}
use Rattle.cd_meaning.specs.Places.{Place}
use Rattle.cd_meaning.specs.Pipes.{all_of, pipe_meaning}
use Rattle.cd_meaning.specs.RunShapes.{Seen}
use Rattle.cd_meaning.proofs.Halves.{IsSame, chain_halves, sequence_halves}
use Rattle.cd_types.specs.Fitting.{FitInChain, FitInSequence, AllExactOnCuts}
use Rattle.cd_types.specs.Flows.{Flow, Sort, sort_in}
use Rattle.cd_types.specs.Numbering.{StandFrom}
use Rattle.cd_types.specs.Trees.{part}
use Rattle.cd_types.proofs.FormFacts.{pipe_facts}
use Rattle.cd_build.specs.Built.{is_built, all_true}
use Rattle.cd_build.specs.Builds.{AreBuilt, chain_meaning, sequence_meaning}
use Rattle.cd_build.proofs.Chains.{chain_output}
use Rattle.cd_build.proofs.Chains as chains
use Rattle.cd_build.proofs.Sequences as sequences
use Rattle.cd_build.proofs.Trees.{both, members_are_lawful}

pub built_halves : (ps qs : List Pipe) → AreBuilt (ps ++ qs) → AreBuilt ps × AreBuilt qs
built_halves [] qs h = (refl, h)
built_halves (p ∷ ps) qs h =
    let b = both (is_built p) (all_true (map is_built (ps ++ qs))) h in
    let rest = built_halves ps qs b.1 in
    (one_more (is_built p) (all_true (map is_built ps)) b.0 rest.0, rest.1) where
      one_more : (a c : Bool) → IsTrue a → IsTrue c → IsTrue (a && c)
      one_more true c h k = k
      one_more false c h k = h

-- ---- places

pub stand_halves : (place : ℕ → Place) (s : ℕ) (xs ys : List Place) → StandFrom place s (xs ++ ys) → StandFrom place s xs × StandFrom place (s + length xs) ys
stand_halves place s [] ys h = (tt, subst (λ (n : ℕ). StandFrom place n ys) (plus_none s) h) where
  plus_none : (n : ℕ) → n ≡ n + 0
  plus_none n = omega arith
stand_halves place s (x ∷ xs) ys h =
    let rest = stand_halves place (s + 1) xs ys h.1 in
    ((h.0, rest.0), subst (λ (n : ℕ). StandFrom place n ys) (plus_one s (length xs)) rest.1) where
      plus_one : (n k : ℕ) → n + 1 + k ≡ n + suc k
      plus_one n k = omega arith

pub chain_places : (p : Pipe) (ps : List Pipe) (q : Pipe) (qs : List Pipe) → (chain_meaning (p ∷ ps ++ q ∷ qs)).places ≡ (chain_meaning (p ∷ ps)).places ++ (chain_meaning (q ∷ qs)).places
chain_places p [] q qs = refl
chain_places p (r ∷ rs) q qs =
    ap (λ l. (pipe_meaning p).places ++ l) (chain_places r rs q qs)
    ∙ sym (append_assoc (pipe_meaning p).places (chain_meaning (r ∷ rs)).places (chain_meaning (q ∷ qs)).places)

pub sequence_places : (p : Pipe) (ps : List Pipe) (q : Pipe) (qs : List Pipe) → (sequence_meaning (p ∷ ps ++ q ∷ qs)).places ≡ (sequence_meaning (p ∷ ps)).places ++ (sequence_meaning (q ∷ qs)).places
sequence_places p [] q qs = refl
sequence_places p (r ∷ rs) q qs =
    ap (λ l. (pipe_meaning p).places ++ l) (sequence_places r rs q qs)
    ∙ sym (append_assoc (pipe_meaning p).places (sequence_meaning (r ∷ rs)).places (sequence_meaning (q ∷ qs)).places)

-- ---- what the typing says

pub chain_halves_fit : (f : Flow) (ps qs : List Pipe) → FitInChain f (map part (ps ++ qs)) → FitInChain f (map part ps) × FitInChain (chain_output f (map part ps)) (map part qs)
chain_halves_fit f ps qs h = chains.halves_fit f (map part ps) (map part qs) (subst (FitInChain f) (map-append part ps qs) h)

pub sequence_halves_fit : (k : Sort) (f : Flow) (ps : List Pipe) (q : Pipe) (qs : List Pipe) → FitInSequence k f (map part (ps ++ q ∷ qs))
    → FitInSequence k f (map part ps) × AllExactOnCuts f (map part ps) × FitInSequence k f (map part (q ∷ qs))
sequence_halves_fit k f ps q qs h = sequences.halves_fit k f (map part ps) (part q) (map part qs) (subst (FitInSequence k f) (map-append part ps (q ∷ qs)) h)

pub chain_flow : (f : Flow) (p : Pipe) (ps : List Pipe) → FitInChain f (map part (p ∷ ps)) → (chain_meaning (p ∷ ps)).gives (sort_in f) ≡ sort_in (chain_output f (map part (p ∷ ps)))
chain_flow f p [] h = (pipe_facts p).gives h.0.reached h.0.statement h.0.number f h.0.pass
chain_flow f p (q ∷ ps) h =
    ap (λ g. (chain_meaning (q ∷ ps)).gives g) ((pipe_facts p).gives h.0.reached h.0.statement h.0.number f h.0.pass)
    ∙ chain_flow ((part p).type f).to q ps h.1

-- ---- runs

pub chain_same : (f : Flow) (site : ℕ) (p : Pipe) (ps : List Pipe) (q : Pipe) (qs : List Pipe) → AreBuilt (p ∷ ps) → AreBuilt (q ∷ qs) → (z : Seen)
    → IsSame ((chain_meaning (p ∷ ps ++ q ∷ qs)).run (sort_in f) site z) ((piped (chain_meaning (p ∷ ps)) (chain_meaning (q ∷ qs))).run (sort_in f) site z)
chain_same f site p ps q qs a b z xs e =
    let front = members_are_lawful (p ∷ ps) a in
    let back = members_are_lawful (q ∷ qs) b in
    ap (λ ms. (all_of piped (pipe_meaning p ∷ ms)).run (sort_in f) site z xs e) (map-append pipe_meaning ps (q ∷ qs))
    ∙ chain_halves (pipe_meaning p) (map pipe_meaning ps) (pipe_meaning q) (map pipe_meaning qs) front.1 back.0 back.1 (sort_in f) site z xs e

pub sequence_same : (f : Flow) (site : ℕ) (p : Pipe) (ps : List Pipe) (q : Pipe) (qs : List Pipe) (z : Seen)
    → IsSame ((sequence_meaning (p ∷ ps ++ q ∷ qs)).run (sort_in f) site z) ((sequence_form (sequence_meaning (p ∷ ps)) (sequence_meaning (q ∷ qs))).run (sort_in f) site z)
sequence_same f site p ps q qs z xs e =
    ap (λ ms. (all_of sequence_form (pipe_meaning p ∷ ms)).run (sort_in f) site z xs e) (map-append pipe_meaning ps (q ∷ qs))
    ∙ sequence_halves (pipe_meaning p) (map pipe_meaning ps) (pipe_meaning q) (map pipe_meaning qs) (sort_in f) site z xs e

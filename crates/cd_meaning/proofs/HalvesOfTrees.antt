-- Chains and sequences of trees are cut in two anywhere.
use Rattle.std.proofs.Common.{◌≡◌, ℕ, true, false, ◌&&◌, Bool, IsTrue, List, [], ◌∷◌, ◌++◌, map, refl, ap, sym, ◌∙◌, subst}
use Rattle.std.proofs.lemmas.List.{map-append}
use Rattle.cd_elem.specs.declared.script.Join.{Join}
use Rattle.cd_elem.specs.declared.script.Pipe.{Pipe}
use Rattle.cd_elem.specs.declared.script.Pipe.TheVariants as pipe
use Rattle.cd_meaning.specs.Stream.{Flow, Item, End}
use Rattle.cd_meaning.specs.RunShapes.{Seen}
use Rattle.cd_meaning.specs.Meaning.{Meaning, piped, sequence_form}
use Rattle.cd_meaning.specs.Pipes.{all_of, pipe_meaning, chain_is, sequence_is}
use Rattle.cd_meaning.specs.LawfulTrees.{IsLawfulTree, all_lawful, judged, chain_is_judged}
use Rattle.cd_meaning.proofs.Halves.{AllLawful, chain_halves, sequence_halves}
use Rattle.cd_meaning.proofs.Lawful.Trees.{tree_is_lawful}

both : (a b : Bool) → IsTrue (a && b) → IsTrue a × IsTrue b
both true b h = (refl, h)
both false b h = let f : ⊥ = cc in absurd f

pub trees_are_lawful : (ps : List Pipe) → IsTrue (all_lawful (map judged ps)) → AllLawful (map pipe_meaning ps)
trees_are_lawful [] h = tt
trees_are_lawful (p ∷ ps) h =
    let b = both (judged p).lawful (all_lawful (map judged ps)) h in
    (tree_is_lawful p b.0, trees_are_lawful ps b.1)

pub members_are_lawful : (ps : List Pipe) → IsLawfulTree (pipe.Chain Join.Plain ps) → AllLawful (map pipe_meaning ps)
members_are_lawful ps h = trees_are_lawful ps (subst (λ j. IsTrue j.lawful) (chain_is_judged Join.Plain ps) h)

pub chain_in_halves : (p : Pipe) (ps : List Pipe) (q : Pipe) (qs : List Pipe) → IsLawfulTree (pipe.Chain Join.Plain ps) → IsLawfulTree (pipe.Chain Join.Plain (q ∷ qs))
    → (flow : Flow) (site : ℕ) (seen : Seen) (xs : List Item) (e : End)
    → (pipe_meaning (pipe.Chain Join.Plain (p ∷ ps ++ q ∷ qs))).run flow site seen xs e
    ≡ (pipe_meaning (pipe.Chain Join.Plain (pipe.Chain Join.Plain (p ∷ ps) ∷ pipe.Chain Join.Plain (q ∷ qs) ∷ []))).run flow site seen xs e
chain_in_halves p ps q qs k l flow site seen xs e =
    let run = λ (m : Meaning). m.run flow site seen xs e in
    let behind = members_are_lawful (q ∷ qs) l in
    let front = pipe.Chain Join.Plain (p ∷ ps) in
    let back = pipe.Chain Join.Plain (q ∷ qs) in
    ap run (chain_is Join.Plain (p ∷ ps ++ q ∷ qs) ∙ ap (λ ms. all_of piped (pipe_meaning p ∷ ms)) (map-append pipe_meaning ps (q ∷ qs)))
    ∙ chain_halves (pipe_meaning p) (map pipe_meaning ps) (pipe_meaning q) (map pipe_meaning qs) (members_are_lawful ps k) behind.0 behind.1 flow site seen xs e
    ∙ sym (ap run (chain_is Join.Plain (front ∷ back ∷ []) ∙ ap (λ m. piped m (pipe_meaning back)) (chain_is Join.Plain (p ∷ ps))
    ∙ ap (λ m. piped (all_of piped (map pipe_meaning (p ∷ ps))) m) (chain_is Join.Plain (q ∷ qs))))

pub sequence_in_halves : (p : Pipe) (ps : List Pipe) (q : Pipe) (qs : List Pipe) (flow : Flow) (site : ℕ) (seen : Seen) (xs : List Item) (e : End)
    → (pipe_meaning (pipe.Sequence (p ∷ ps ++ q ∷ qs))).run flow site seen xs e
    ≡ (pipe_meaning (pipe.Sequence (pipe.Sequence (p ∷ ps) ∷ pipe.Sequence (q ∷ qs) ∷ []))).run flow site seen xs e
sequence_in_halves p ps q qs flow site seen xs e =
    let run = λ (m : Meaning). m.run flow site seen xs e in
    let front = pipe.Sequence (p ∷ ps) in
    let back = pipe.Sequence (q ∷ qs) in
    ap run (sequence_is (p ∷ ps ++ q ∷ qs) ∙ ap (λ ms. all_of sequence_form (pipe_meaning p ∷ ms)) (map-append pipe_meaning ps (q ∷ qs)))
    ∙ sequence_halves (pipe_meaning p) (map pipe_meaning ps) (pipe_meaning q) (map pipe_meaning qs) flow site seen xs e
    ∙ sym (ap run (sequence_is (front ∷ back ∷ []) ∙ ap (λ m. sequence_form m (pipe_meaning back)) (sequence_is (p ∷ ps))
    ∙ ap (λ m. sequence_form (all_of sequence_form (map pipe_meaning (p ∷ ps))) m) (sequence_is (q ∷ qs))))

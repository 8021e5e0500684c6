-- The nodes of members in a row, from those of two halves of them.
use Rattle.std.proofs.Common.{◌≡◌, ℕ, ◌+◌, Bool, true, false, ◌&&◌, List, [], ◌∷◌, ◌++◌, length, map, refl, ap, sym, ◌∙◌, subst, arith}
use Rattle.std.proofs.lemmas.List.{length-append, map-append}
use Rattle.cd_elem.specs.declared.script.Join.{Join}
use Rattle.cd_elem.specs.declared.script.Pipe.{Pipe}
use Rattle.cd_fuse.specs.Follows.{AreInTurn}
use Rattle.cd_fuse.specs.Fuses.{AreBeside}
use Rattle.cd_meaning.specs.Meaning.{Meaning}
use Rattle.cd_meaning.specs.Places.{Place}
use Rattle.cd_meaning.specs.Pipes.{pipe_meaning}
use Rattle.cd_node.specs.Makes.{IsUnstarted}
use Rattle.cd_node.specs.Trees.{IsWell, StandsAt, bound_of, seen}
use Rattle.cd_node.specs.declared.node.Node.{Node}
use Rattle.cd_step.specs.Parts.{Part}
use Rattle.cd_types.specs.Chains.{chain_part}
use Rattle.cd_types.specs.Fitting.{FitInChain, FitInSequence, AllExactOnCuts}
use Rattle.cd_types.specs.Flows.{Flow, Sort, join}
use Rattle.cd_types.specs.Flows as flows
use Rattle.cd_types.specs.Parts.{Part as TypedPart}
use Rattle.cd_types.specs.Sequences.{joined_outputs, sequence_part}
use Rattle.cd_types.specs.Numbering.{StandFrom}
use Rattle.cd_types.specs.Trees.{part}
use Rattle.cd_types.proofs.Sums.{bounds_append}
use Rattle.cd_build.specs.Builds.{AreBuilt, IsBuiltAs, chain_meaning, chain_of, sequence_meaning, sequence_of}
use Rattle.cd_build.specs.BuiltNodes.{IsBuiltPart}
use Rattle.cd_build.specs.declared.pipes.Built.{Built}
use Rattle.cd_build.proofs.Chains.{IsFusedOf, chain_output, beside, fused_is_built}
use Rattle.cd_build.proofs.Chains as chains
use Rattle.cd_build.proofs.Outputs.{compared}
use Rattle.cd_build.proofs.Rows.{stand_halves, chain_places, sequence_places, chain_flow, chain_same, sequence_same}
use Rattle.cd_build.proofs.Sequences.{IsFollowedOf, in_turn, followed_is_built, outputs_behind}
use Rattle.cd_build.proofs.Sequences as sequences

-- ---- one member

one_bound : (a : TypedPart) (f : Flow) → 0 + flows.bound_of (a.types f ++ []) ≡ flows.bound_of (a.types f)
one_bound a f = let e = bounds_append (a.types f) [] in omega arith

chain_of_one : (a : TypedPart) (m : Meaning) (f : Flow) (site : ℕ) (p : Part) → IsBuiltAs a m f site p → IsBuiltAs (chain_part Join.Plain (a ∷ [])) m f site p
chain_of_one a m f site p u = record {
  means = u.means;
  gives = u.gives;
  takes = u.takes;
  idle = u.idle;
  exact = λ e. u.graded (u.pieces ∙ compared f p.takes (a.type f).idle u.takes u.idle e);
  pieces = u.pieces;
  graded = u.graded;
  sites = u.sites;
}

and_so : (b : Bool) → (b && true) ≡ true → b ≡ true
and_so true e = e
and_so false e = e

sequence_of_one : (a : TypedPart) (m : Meaning) (f : Flow) (site : ℕ) (p : Part) → IsBuiltAs a m f site p → IsBuiltAs (sequence_part (a ∷ [])) m f site p
sequence_of_one a m f site p u = record {
  means = u.means;
  gives = u.gives;
  takes = u.takes;
  idle = λ e. u.idle (and_so (a.type f).idle e);
  exact = λ e. u.exact (and_so (a.type f).exact e);
  pieces = u.pieces;
  graded = u.graded;
  sites = u.sites;
}

pub one_chained : (p : Pipe) (f : Flow) (site : ℕ) (b : Built) → IsBuiltPart (part p) (pipe_meaning p) f site b → IsBuiltPart (chain_of (p ∷ [])) (chain_meaning (p ∷ [])) f site b
one_chained p f site b h = record {
  node = record {
    well = h.node.well;
    unstarted = h.node.unstarted;
    is_as = chain_of_one (part p) (pipe_meaning p) f site (seen b.node) h.node.is_as;
    bound = h.node.bound ∙ sym (one_bound (part p) f);
    places = h.node.places;
  };
  gives = h.gives;
  next = h.next;
}

pub one_in_sequence : (p : Pipe) (f : Flow) (site : ℕ) (b : Built) → IsBuiltPart (part p) (pipe_meaning p) f site b → IsBuiltPart (sequence_of (p ∷ [])) (sequence_meaning (p ∷ [])) f site b
one_in_sequence p f site b h = record {
  node = record {
    well = h.node.well;
    unstarted = h.node.unstarted;
    is_as = sequence_of_one (part p) (pipe_meaning p) f site (seen b.node) h.node.is_as;
    bound = h.node.bound ∙ sym (one_bound (part p) f);
    places = h.node.places;
  };
  gives = h.gives;
  next = h.next;
}

-- ---- two halves

-- what a node is that is made of two
pub record IsMadeOf (a b n : Node) : Type 0 where
  pub well : IsWell n
  pub unstarted : IsUnstarted (seen n)
  pub bound : bound_of n ≡ bound_of a + bound_of b
  pub places : (place : ℕ → Place) → StandsAt a place → StandsAt b place → StandsAt n place

pub moved : (x : TypedPart) (m : Meaning) (f g : Flow) (s t : ℕ) (p : Part) → f ≡ g → s ≡ t → IsBuiltAs x m f s p → IsBuiltAs x m g t p
moved x m f g s t p e k h = subst (λ j. IsBuiltAs x m j t p) e (subst (λ (n : ℕ). IsBuiltAs x m f n p) k h)

stands_so : (place : ℕ → Place) (site middle : ℕ) (xs ys zs : List Place) (a b n : Node) → IsMadeOf a b n → middle ≡ site + length xs → zs ≡ xs ++ ys
    → ((place : ℕ → Place) → StandFrom place site xs → StandsAt a place) → ((place : ℕ → Place) → StandFrom place middle ys → StandsAt b place) → StandFrom place site zs → StandsAt n place
stands_so place site middle xs ys zs a b n made e k u l h =
    let both = stand_halves place site xs ys (subst (StandFrom place site) k h) in
    made.places place (u place both.0) (l place (subst (λ (m : ℕ). StandFrom place m ys) (sym e) both.1))

module _ (f : Flow) (site : ℕ) (p : Pipe) (ps : List Pipe) (q : Pipe) (qs : List Pipe) (a b : Built) where
  module _ (u : IsBuiltPart (chain_of (p ∷ ps)) (chain_meaning (p ∷ ps)) f site a)
      (l : IsBuiltPart (chain_of (q ∷ qs)) (chain_meaning (q ∷ qs)) a.gives a.next b)
    where
      lower : IsBuiltAs (chain_of (q ∷ qs)) (chain_meaning (q ∷ qs)) (chain_output f (map part (p ∷ ps))) (site + length (chain_meaning (p ∷ ps)).places) (seen b.node)
      lower = moved (chain_of (q ∷ qs)) (chain_meaning (q ∷ qs)) a.gives (chain_output f (map part (p ∷ ps))) a.next (site + length (chain_meaning (p ∷ ps)).places) (seen b.node) u.gives u.next l.node.is_as

      pub chain_beside : AreBeside (seen a.node) (seen b.node)
      chain_beside = beside f (part p) (map part ps) (map part (q ∷ qs)) (chain_meaning (p ∷ ps)) (chain_meaning (q ∷ qs)) (chain_meaning (p ∷ ps ++ q ∷ qs)) site (seen a.node) (seen b.node) u.node.is_as lower

      pub chain_joined : (n : Node) → AreBuilt (p ∷ ps) → AreBuilt (q ∷ qs) → FitInChain f (map part (p ∷ ps)) → IsMadeOf a.node b.node n → IsFusedOf (seen a.node) (seen b.node) (seen n)
          → IsBuiltPart (chain_of (p ∷ ps ++ q ∷ qs)) (chain_meaning (p ∷ ps ++ q ∷ qs)) f site (record { node = n; gives = b.gives; next = b.next })
      chain_joined n first second fits made fused =
          let upper_places = (chain_meaning (p ∷ ps)).places in
          let lower_places = (chain_meaning (q ∷ qs)).places in
          let counted : length (chain_meaning (p ∷ ps ++ q ∷ qs)).places ≡ length upper_places + length lower_places = ap length (chain_places p ps q qs) ∙ length-append upper_places lower_places in
          let same_parts = sym (map-append part ps (q ∷ qs)) in
          record {
            node = record {
              well = made.well;
              unstarted = made.unstarted;
              is_as = subst (λ l. IsBuiltAs (chain_part Join.Plain (part p ∷ l)) (chain_meaning (p ∷ ps ++ q ∷ qs)) f site (seen n)) same_parts
                  (fused_is_built f (part p) (map part ps) (map part (q ∷ qs)) (chain_meaning (p ∷ ps)) (chain_meaning (q ∷ qs)) (chain_meaning (p ∷ ps ++ q ∷ qs)) site (seen a.node) (seen b.node) u.node.is_as lower
                  (seen n) fused (chain_flow f p ps fits) (chain_same f site p ps q qs first second) counted);
              bound = made.bound ∙ sums (bound_of a.node) (bound_of b.node) _ _ u.node.bound (l.node.bound ∙ ap (λ g. flows.bound_of ((chain_of (q ∷ qs)).types g)) u.gives)
                  ∙ sym (chains.bounds_of_halves f (map part (p ∷ ps)) (map part (q ∷ qs)))
                  ∙ ap (λ l. flows.bound_of ((chain_part Join.Plain (part p ∷ l)).types f)) same_parts;
              places = λ place h. stands_so place site a.next upper_places lower_places (chain_meaning (p ∷ ps ++ q ∷ qs)).places a.node b.node n made u.next (chain_places p ps q qs) u.node.places l.node.places h;
            };
            gives = l.gives ∙ ap (λ g. chain_output g (map part (q ∷ qs))) u.gives ∙ sym (chains.output_behind f (map part (p ∷ ps)) (map part (q ∷ qs)))
                ∙ ap (λ l. chain_output f (part p ∷ l)) same_parts;
            next = let e = u.next in let k = l.next in omega arith;
          } where
            sums : (x y v w : ℕ) → x ≡ v → y ≡ w → x + y ≡ v + w
            sums x y v w e k = omega arith

module _ (k : Sort) (f : Flow) (site : ℕ) (p : Pipe) (ps : List Pipe) (q : Pipe) (qs : List Pipe) (a b : Built)
    (first : FitInSequence k f (map part (p ∷ ps))) (exact : AllExactOnCuts f (map part (p ∷ ps))) (second : FitInSequence k f (map part (q ∷ qs)))
    (u : IsBuiltPart (sequence_of (p ∷ ps)) (sequence_meaning (p ∷ ps)) f site a)
    (l : IsBuiltPart (sequence_of (q ∷ qs)) (sequence_meaning (q ∷ qs)) f a.next b)
  where
    later : IsBuiltAs (sequence_of (q ∷ qs)) (sequence_meaning (q ∷ qs)) f (site + length (sequence_meaning (p ∷ ps)).places) (seen b.node)
    later = moved (sequence_of (q ∷ qs)) (sequence_meaning (q ∷ qs)) f f a.next (site + length (sequence_meaning (p ∷ ps)).places) (seen b.node) refl u.next l.node.is_as

    pub sequence_in_turn : AreInTurn (seen a.node) (seen b.node)
    sequence_in_turn = in_turn k f (part p) (map part ps) (part q) (map part qs) (sequence_meaning (p ∷ ps)) (sequence_meaning (q ∷ qs)) (sequence_meaning (p ∷ ps ++ q ∷ qs)) site (seen a.node) (seen b.node)
        first exact second u.node.is_as later

    pub sequence_joined : (n : Node) → IsMadeOf a.node b.node n → IsFollowedOf (seen a.node) (seen b.node) (seen n)
        → IsBuiltPart (sequence_of (p ∷ ps ++ q ∷ qs)) (sequence_meaning (p ∷ ps ++ q ∷ qs)) f site (record { node = n; gives = join a.gives b.gives; next = b.next })
    sequence_joined n made followed =
        let earlier_places = (sequence_meaning (p ∷ ps)).places in
        let later_places = (sequence_meaning (q ∷ qs)).places in
        let counted : length (sequence_meaning (p ∷ ps ++ q ∷ qs)).places ≡ length earlier_places + length later_places = ap length (sequence_places p ps q qs) ∙ length-append earlier_places later_places in
        let same_parts = sym (map-append part ps (q ∷ qs)) in
        record {
          node = record {
            well = made.well;
            unstarted = made.unstarted;
            is_as = subst (λ l. IsBuiltAs (sequence_part (part p ∷ l)) (sequence_meaning (p ∷ ps ++ q ∷ qs)) f site (seen n)) same_parts
                (followed_is_built k f (part p) (map part ps) (part q) (map part qs) (sequence_meaning (p ∷ ps)) (sequence_meaning (q ∷ qs)) (sequence_meaning (p ∷ ps ++ q ∷ qs)) site (seen a.node) (seen b.node)
                first exact second u.node.is_as later (seen n) followed (sequence_same f site p ps q qs) counted);
            bound = made.bound ∙ sums (bound_of a.node) (bound_of b.node) _ _ u.node.bound l.node.bound
                ∙ sym (sequences.bounds_of_halves f (map part (p ∷ ps)) (map part (q ∷ qs)))
                ∙ ap (λ l. flows.bound_of ((sequence_part (part p ∷ l)).types f)) same_parts;
            places = λ place h. stands_so place site a.next earlier_places later_places (sequence_meaning (p ∷ ps ++ q ∷ qs)).places a.node b.node n made u.next (sequence_places p ps q qs) u.node.places l.node.places h;
          };
          gives = ap (λ g. join g b.gives) u.gives ∙ ap (join (joined_outputs f (map part (p ∷ ps)))) l.gives
              ∙ sym (outputs_behind k f (part p) (map part ps) (part q) (map part qs) second)
              ∙ ap (λ l. joined_outputs f (part p ∷ l)) same_parts;
          next = let e = u.next in let k = l.next in omega arith;
        } where
          sums : (x y v w : ℕ) → x ≡ v → y ≡ w → x + y ≡ v + w
          sums x y v w e k = omega arith

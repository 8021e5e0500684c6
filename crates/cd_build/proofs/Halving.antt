-- What the builders of rows ask and answer, of a row that is cut in two.
use Rattle.std.proofs.Common.{◌≡◌, ◌<◌, ℕ, ◌+◌, ◌*◌, List, [], ◌∷◌, ◌++◌, length, map, take, drop, ap, sym, ◌∙◌, subst, arith}
use Rattle.std.proofs.lemmas.List.{length-append, take-append-drop}
use Rattle.cd_elem.specs.declared.script.Pipe.{Pipe}
use Rattle.cd_fuse.specs.Follows.{AreInTurn}
use Rattle.cd_fuse.specs.Fuses.{AreBeside}
use Rattle.cd_node.specs.Trees.{seen}
use Rattle.cd_node.specs.declared.node.Node.{Node}
use Rattle.cd_types.specs.Fitting.{FitInChain, FitInSequence, AllExactOnCuts}
use Rattle.cd_types.specs.Flows.{Flow, Sort, join}
use Rattle.cd_types.specs.Parts.{sizes}
use Rattle.cd_types.specs.Trees.{part}
use Rattle.cd_build.specs.Builds.{AreBuilt, chain_meaning, chain_of, sequence_meaning, sequence_of}
use Rattle.cd_build.specs.BuiltNodes.{IsBuiltPart}
use Rattle.cd_build.specs.declared.pipes.Built.{Built}
use Rattle.cd_build.proofs.BuiltRows.{IsMadeOf, chain_beside, chain_joined, sequence_in_turn, sequence_joined}
use Rattle.cd_build.proofs.Chains.{IsFusedOf, chain_output}
use Rattle.cd_build.proofs.Rows.{built_halves, chain_halves_fit, sequence_halves_fit, chain_places, sequence_places}
use Rattle.cd_build.proofs.Sequences.{IsFollowedOf}
use Rattle.cd_build.proofs.Trees.{sizes_of_halves, some_size}

-- a row is cut in two, and none of the two is empty
pub record IsCutIn (ps xs ys : List Pipe) : Type 0 where
  pub whole : xs ++ ys ≡ ps
  pub first : 0 < length xs
  pub second : 0 < length ys

pub cut_at : (middle : ℕ) (ps xs ys : List Pipe) → xs ≡ take middle ps → ys ≡ drop middle ps → 0 < length xs → 0 < length ys → IsCutIn ps xs ys
cut_at middle ps xs ys e k first second = record { whole = ap (λ l. l ++ ys) e ∙ ap (λ l. take middle ps ++ l) k ∙ take-append-drop middle ps; first = first; second = second }

pub first_smaller : (ps xs ys : List Pipe) → IsCutIn ps xs ys → 2 * sizes (map part xs) + 1 < 2 * sizes (map part ps) + 1
first_smaller ps xs ys c =
    let e = sizes_of_halves xs ys in
    let k = ap (λ l. sizes (map part l)) c.whole in
    let s = some_size ys c.second in
    omega arith

pub second_smaller : (ps xs ys : List Pipe) → IsCutIn ps xs ys → 2 * sizes (map part ys) + 1 < 2 * sizes (map part ps) + 1
second_smaller ps xs ys c =
    let e = sizes_of_halves xs ys in
    let k = ap (λ l. sizes (map part l)) c.whole in
    let s = some_size xs c.first in
    omega arith

-- ---- chains

module _ (ps xs ys : List Pipe) (c : IsCutIn ps xs ys) (built : AreBuilt ps) where
  built_both : AreBuilt xs × AreBuilt ys
  built_both = built_halves xs ys (subst AreBuilt (sym c.whole) built)

  pub built_first : AreBuilt xs
  built_first = built_both.0

  pub built_second : AreBuilt ys
  built_second = built_both.1

chain_room : (xs ys : List Pipe) → 0 < length xs → 0 < length ys → length (chain_meaning (xs ++ ys)).places ≡ length (chain_meaning xs).places + length (chain_meaning ys).places
chain_room [] ys h k = absurd (omega arith)
chain_room (x ∷ xs) [] h k = absurd (omega arith)
chain_room (x ∷ xs) (y ∷ ys) h k = ap length (chain_places x xs y ys) ∙ length-append (chain_meaning (x ∷ xs)).places (chain_meaning (y ∷ ys)).places

sequence_room : (xs ys : List Pipe) → 0 < length xs → 0 < length ys → length (sequence_meaning (xs ++ ys)).places ≡ length (sequence_meaning xs).places + length (sequence_meaning ys).places
sequence_room [] ys h k = absurd (omega arith)
sequence_room (x ∷ xs) [] h k = absurd (omega arith)
sequence_room (x ∷ xs) (y ∷ ys) h k = ap length (sequence_places x xs y ys) ∙ length-append (sequence_meaning (x ∷ xs)).places (sequence_meaning (y ∷ ys)).places

module _ (f : Flow) (site most : ℕ) (ps xs ys : List Pipe) (c : IsCutIn ps xs ys) (built : AreBuilt ps) where
  module _ (fits : FitInChain f (map part ps)) (room : site + length (chain_meaning ps).places < most) where
    both_fit : FitInChain f (map part xs) × FitInChain (chain_output f (map part xs)) (map part ys)
    both_fit = chain_halves_fit f xs ys (subst (λ l. FitInChain f (map part l)) (sym c.whole) fits)

    pub chain_first_fits : FitInChain f (map part xs)
    chain_first_fits = both_fit.0

    pub chain_first_room : site + length (chain_meaning xs).places < most
    chain_first_room =
        let e = chain_room xs ys c.first c.second in
        let k = ap (λ l. length (chain_meaning l).places) c.whole in
        omega arith

    module _ (a : Built) (u : IsBuiltPart (chain_of xs) (chain_meaning xs) f site a) where
      pub chain_second_fits : FitInChain a.gives (map part ys)
      chain_second_fits = subst (λ g. FitInChain g (map part ys)) (sym u.gives) both_fit.1

      pub chain_second_room : a.next + length (chain_meaning ys).places < most
      chain_second_room =
          let e = chain_room xs ys c.first c.second in
          let k = ap (λ l. length (chain_meaning l).places) c.whole in
          let n = u.next in
          omega arith

      module _ (b : Built) (l : IsBuiltPart (chain_of ys) (chain_meaning ys) a.gives a.next b) where
        pub halves_beside : AreBeside (seen a.node) (seen b.node)
        halves_beside = of_rows xs ys c.first c.second u l where
          of_rows : (xs ys : List Pipe) → 0 < length xs → 0 < length ys → IsBuiltPart (chain_of xs) (chain_meaning xs) f site a → IsBuiltPart (chain_of ys) (chain_meaning ys) a.gives a.next b
              → AreBeside (seen a.node) (seen b.node)
          of_rows [] ys h k u l = absurd (omega arith)
          of_rows (x ∷ xs) [] h k u l = absurd (omega arith)
          of_rows (x ∷ xs) (y ∷ ys) h k u l = chain_beside f site x xs y ys a b u l

        pub chain_of_halves : (n : Node) → IsMadeOf a.node b.node n → IsFusedOf (seen a.node) (seen b.node) (seen n)
            → IsBuiltPart (chain_of ps) (chain_meaning ps) f site (record { node = n; gives = b.gives; next = b.next })
        chain_of_halves n made fused =
            subst (λ l. IsBuiltPart (chain_of l) (chain_meaning l) f site (record { node = n; gives = b.gives; next = b.next })) c.whole
            (of_rows xs ys c.first c.second (built_first ps xs ys c built) (built_second ps xs ys c built) both_fit.0 u l) where
              of_rows : (xs ys : List Pipe) → 0 < length xs → 0 < length ys → AreBuilt xs → AreBuilt ys → FitInChain f (map part xs)
                  → IsBuiltPart (chain_of xs) (chain_meaning xs) f site a → IsBuiltPart (chain_of ys) (chain_meaning ys) a.gives a.next b
                  → IsBuiltPart (chain_of (xs ++ ys)) (chain_meaning (xs ++ ys)) f site (record { node = n; gives = b.gives; next = b.next })
              of_rows [] ys h k v w t u l = absurd (omega arith)
              of_rows (x ∷ xs) [] h k v w t u l = absurd (omega arith)
              of_rows (x ∷ xs) (y ∷ ys) h k v w t u l = chain_joined f site x xs y ys a b u l n v w t made fused

-- ---- sequences

module _ (k : Sort) (f : Flow) (site most : ℕ) (ps xs ys : List Pipe) (c : IsCutIn ps xs ys)
    (fits : FitInSequence k f (map part ps)) (room : site + length (sequence_meaning ps).places < most)
  where
    halves_fit : (xs ys : List Pipe) → 0 < length ys → FitInSequence k f (map part (xs ++ ys)) → FitInSequence k f (map part xs) × AllExactOnCuts f (map part xs) × FitInSequence k f (map part ys)
    halves_fit xs [] h t = absurd (omega arith)
    halves_fit xs (y ∷ ys) h t = sequence_halves_fit k f xs y ys t

    all_fit : FitInSequence k f (map part xs) × AllExactOnCuts f (map part xs) × FitInSequence k f (map part ys)
    all_fit = halves_fit xs ys c.second (subst (λ l. FitInSequence k f (map part l)) (sym c.whole) fits)

    pub sequence_first_fits : FitInSequence k f (map part xs)
    sequence_first_fits = all_fit.0

    pub sequence_second_fits : FitInSequence k f (map part ys)
    sequence_second_fits = all_fit.2

    pub sequence_first_room : site + length (sequence_meaning xs).places < most
    sequence_first_room =
        let e = sequence_room xs ys c.first c.second in
        let k = ap (λ l. length (sequence_meaning l).places) c.whole in
        omega arith

    module _ (a : Built) (u : IsBuiltPart (sequence_of xs) (sequence_meaning xs) f site a) where
      pub sequence_second_room : a.next + length (sequence_meaning ys).places < most
      sequence_second_room =
          let e = sequence_room xs ys c.first c.second in
          let k = ap (λ l. length (sequence_meaning l).places) c.whole in
          let n = u.next in
          omega arith

      module _ (b : Built) (l : IsBuiltPart (sequence_of ys) (sequence_meaning ys) f a.next b) where
        pub halves_in_turn : AreInTurn (seen a.node) (seen b.node)
        halves_in_turn = of_rows xs ys c.first c.second all_fit.0 all_fit.1 all_fit.2 u l where
          of_rows : (xs ys : List Pipe) → 0 < length xs → 0 < length ys → FitInSequence k f (map part xs) → AllExactOnCuts f (map part xs) → FitInSequence k f (map part ys)
              → IsBuiltPart (sequence_of xs) (sequence_meaning xs) f site a → IsBuiltPart (sequence_of ys) (sequence_meaning ys) f a.next b → AreInTurn (seen a.node) (seen b.node)
          of_rows [] ys h j v w t u l = absurd (omega arith)
          of_rows (x ∷ xs) [] h j v w t u l = absurd (omega arith)
          of_rows (x ∷ xs) (y ∷ ys) h j v w t u l = sequence_in_turn k f site x xs y ys a b v w t u l

        pub sequence_of_halves : (n : Node) → IsMadeOf a.node b.node n → IsFollowedOf (seen a.node) (seen b.node) (seen n)
            → IsBuiltPart (sequence_of ps) (sequence_meaning ps) f site (record { node = n; gives = join a.gives b.gives; next = b.next })
        sequence_of_halves n made followed =
            subst (λ l. IsBuiltPart (sequence_of l) (sequence_meaning l) f site (record { node = n; gives = join a.gives b.gives; next = b.next })) c.whole
            (of_rows xs ys c.first c.second all_fit.0 all_fit.1 all_fit.2 u l) where
              of_rows : (xs ys : List Pipe) → 0 < length xs → 0 < length ys → FitInSequence k f (map part xs) → AllExactOnCuts f (map part xs) → FitInSequence k f (map part ys)
                  → IsBuiltPart (sequence_of xs) (sequence_meaning xs) f site a → IsBuiltPart (sequence_of ys) (sequence_meaning ys) f a.next b
                  → IsBuiltPart (sequence_of (xs ++ ys)) (sequence_meaning (xs ++ ys)) f site (record { node = n; gives = join a.gives b.gives; next = b.next })
              of_rows [] ys h j v w t u l = absurd (omega arith)
              of_rows (x ∷ xs) [] h j v w t u l = absurd (omega arith)
              of_rows (x ∷ xs) (y ∷ ys) h j v w t u l = sequence_joined k f site x xs y ys a b v w t u l n made followed

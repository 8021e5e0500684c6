-- The leaf of a splitter of bytes, sieves and an end, as members of a chain.
use Rattle.std.proofs.Common.{◌≡◌, ℕ, ◌+◌, ◌≤◌, ◌<◌, nat_lt, true, false, IsTrue, List, [], ◌∷◌, ◌++◌, length, map, Some, None, inr, refl, ap, sym, ◌∙◌, subst, arith}
use Rattle.std.proofs.lemmas.Bool.{ltb-false}
use Rattle.cd_elem.specs.Limits.{chunk_limit}
use Rattle.cd_elem.specs.declared.kind.Kind.{Kind}
use Rattle.cd_elem.specs.declared.script.Join.{Join}
use Rattle.cd_elem.specs.declared.script.Pipe.{Pipe}
use Rattle.cd_elem.specs.declared.script.Pipe.TheVariants as pipe
use Rattle.cd_elem.specs.declared.word.Word.{Word}
use Rattle.cd_elem.specs.declared.word.SplitWord.{SplitWord}
use Rattle.cd_meaning.specs.Meaning.{Meaning, piped}
use Rattle.cd_meaning.specs.Places.{Place}
use Rattle.cd_meaning.specs.Pipes.{all_of, pipe_meaning}
use Rattle.cd_meaning.specs.Pipes as meanings
use Rattle.cd_meaning.specs.RunShapes.{Seen}
use Rattle.cd_meaning.specs.Stream.{Item, End, Sort}
use Rattle.cd_meaning.specs.WordMeanings.{word_meaning}
use Rattle.cd_node.specs.Makes.{IsUnstarted}
use Rattle.cd_node.specs.Trees.{IsWell, StandsAt, bound_of, seen}
use Rattle.cd_node.specs.declared.node.Node.{Node}
use Rattle.cd_slices.specs.Chains as slices
use Rattle.cd_slices.specs.Chains.{IsCutter, HasRange, sieve_word, end_word, words_of}
use Rattle.cd_slices.specs.Stages.{gives_of}
use Rattle.cd_slices.specs.declared.sieve.Sieve.{Sieve}
use Rattle.cd_slices.specs.declared.sieve.Sieve.TheVariants as sieve
use Rattle.cd_slices.specs.declared.tail.SliceEnd.{SliceEnd}
use Rattle.cd_slices.specs.declared.tail.SliceEnd.TheVariants as last
use Rattle.cd_step.specs.Parts.{of_pieces}
use Rattle.cd_types.specs.declared.refusal.RefusalKind.TheVariants.{KindMismatch}
use Rattle.cd_types.specs.Chains.{chain_part, chain_types}
use Rattle.cd_types.specs.Fitting.{FitInChain, Fits}
use Rattle.cd_types.specs.Flows.{Flow}
use Rattle.cd_types.specs.Flows as flows
use Rattle.cd_types.specs.Parts.{Part as TypedPart, word_part}
use Rattle.cd_types.specs.Trees.{part}
use Rattle.cd_types.proofs.Sums.{bounds_append}
use Rattle.cd_build.specs.Built.{is_built, all_true, is_split_in_range, word_is}
use Rattle.cd_build.specs.Builds.{AreBuilt, IsPassed, chain_meaning, chain_of}
use Rattle.cd_build.specs.BuiltNodes.{IsBuiltPart}
use Rattle.cd_build.proofs.Chains.{chain_output}
use Rattle.cd_build.proofs.Nodes.{typed_word}
use Rattle.cd_build.proofs.Trees.{both}
use Rattle.cd_build.proofs.TypedSplits.{split_has_type}
use Rattle.cd_build.proofs.TypedWords.{of_and}

-- the pipe of a word
abbrev pub word_pipe : Word → Pipe
word_pipe w = pipe.Word w

-- the pipes of sieves
abbrev pub sieve_pipes : List Sieve → List Pipe
sieve_pipes ws = map (λ (w : Sieve). pipe.Word (sieve_word w)) ws

-- the members of a chain that is one leaf
abbrev pub members_of : SplitWord → List Sieve → SliceEnd → List Pipe
members_of cut ws end = map word_pipe (words_of cut ws end)

-- ---- words as members

parts_of : (ws : List Word) → map part (map word_pipe ws) ≡ map word_part ws
parts_of [] = refl
parts_of (w ∷ ws) = ap (λ (a : TypedPart). a ∷ map part (map word_pipe ws)) (typed_word w) ∙ ap (λ (l : List TypedPart). word_part w ∷ l) (parts_of ws)

meanings_of : (ws : List Word) → map pipe_meaning (map word_pipe ws) ≡ map word_meaning ws
meanings_of [] = refl
meanings_of (w ∷ ws) = ap (λ (m : Meaning). m ∷ map pipe_meaning (map word_pipe ws)) (meanings.word_is w) ∙ ap (λ (l : List Meaning). word_meaning w ∷ l) (meanings_of ws)

tail_is : (ws : List Sieve) (end : SliceEnd) → map word_pipe (map sieve_word ws ++ end_word end ∷ []) ≡ sieve_pipes ws ++ word_pipe (end_word end) ∷ []
tail_is [] end = refl
tail_is (w ∷ ws) end = ap (λ (l : List Pipe). word_pipe (sieve_word w) ∷ l) (tail_is ws end)

-- members whose first one cuts, whose last one is an end, and which are sieves between the two
pub members_are : (ps : List Pipe) (first last : Pipe) (between : List Pipe) (cut : SplitWord) (ws : List Sieve) (end : SliceEnd)
    → ps ≡ first ∷ between ++ last ∷ [] → first ≡ pipe.Word (Word.Split cut) → between ≡ sieve_pipes ws → last ≡ pipe.Word (end_word end) → ps ≡ members_of cut ws end
members_are ps first last between cut ws end whole one sifts two =
    whole
    ∙ ap (λ (p : Pipe). p ∷ between ++ last ∷ []) one
    ∙ ap (λ (l : List Pipe). word_pipe (Word.Split cut) ∷ l ++ last ∷ []) sifts
    ∙ ap (λ (p : Pipe). word_pipe (Word.Split cut) ∷ sieve_pipes ws ++ p ∷ []) two
    ∙ ap (λ (l : List Pipe). word_pipe (Word.Split cut) ∷ l) (sym (tail_is ws end))

-- ---- what the typing says of the splitter

in_range : (w : SplitWord) → IsPassed (Word.Split w) (Some Kind.Bytes) → IsTrue (is_split_in_range w) → IsCutter w → HasRange w
in_range (SplitWord.Lines n) h r c = let t = split_has_type (SplitWord.Lines n) Kind.Bytes h r in (t.1.0, t.1.1, tt)
in_range (SplitWord.Split separator n) h r c = let t = split_has_type (SplitWord.Split separator n) Kind.Bytes h r in (t.1.0, t.1.1, t.2 refl)
in_range (SplitWord.Exact n) h r c = let t = split_has_type (SplitWord.Exact n) Kind.Bytes h r in (t.1.0, t.1.1, tt)
in_range (SplitWord.ChunksOf n) h r c = let t = split_has_type (SplitWord.ChunksOf n) Kind.Bytes h r in (t.1.0, t.1.1, tt)
in_range SplitWord.Flat h r c = absurd c
in_range SplitWord.Unlines h r c = absurd c

pub splitter_has_range : (ps : List Pipe) (more : List Pipe) (first : Pipe) (cut : SplitWord) (f : Flow) → ps ≡ first ∷ more → first ≡ pipe.Word (Word.Split cut) → f ≡ Some Kind.Bytes
    → ((w : Word) (g : Flow) → Fits g (word_part w) → IsPassed w g) → AreBuilt ps → FitInChain f (map part ps) → IsCutter cut → HasRange cut
splitter_has_range ps more first cut f whole one bytes passes built fits c =
    let same : ps ≡ pipe.Word (Word.Split cut) ∷ more = whole ∙ ap (λ (p : Pipe). p ∷ more) one in
    let b = both (is_built (pipe.Word (Word.Split cut))) (all_true (map is_built more)) (subst AreBuilt same built) in
    let h = subst (λ (g : Flow). FitInChain g (map part (pipe.Word (Word.Split cut) ∷ more))) bytes (subst (λ (qs : List Pipe). FitInChain f (map part qs)) same fits) in
    in_range cut (passes (Word.Split cut) (Some Kind.Bytes) (subst (Fits (Some Kind.Bytes)) (typed_word (Word.Split cut)) h.0)) (subst IsTrue (word_is (Word.Split cut)) b.0) c

-- ---- the type of the chain

abbrev Behind : List Sieve → SliceEnd → List TypedPart
Behind ws end = map word_part (map sieve_word ws ++ end_word end ∷ [])

sifted_output : (n : ℕ) (ws : List Sieve) (end : SliceEnd) → chain_output (Some (Kind.Blocks n)) (Behind ws end) ≡ gives_of end
sifted_output n [] (last.Count m) = refl
sifted_output n [] (last.Join false) = refl
sifted_output n [] (last.Join true) = refl
sifted_output n (sieve.Pass ∷ ws) end = sifted_output n ws end
sifted_output n (sieve.Take m ∷ ws) end = sifted_output n ws end
sifted_output n (sieve.TakeWhile t ∷ ws) end = sifted_output n ws end
sifted_output n (sieve.Filter t ∷ ws) end = sifted_output n ws end

sifted_bound : (n : ℕ) (ws : List Sieve) (end : SliceEnd) → flows.bound_of (chain_types (Some (Kind.Blocks n)) (Behind ws end)) ≡ 0
sifted_bound n [] (last.Count m) = refl
sifted_bound n [] (last.Join false) = refl
sifted_bound n [] (last.Join true) = refl
sifted_bound n (sieve.Pass ∷ ws) end = let e = sifted_bound n ws end in omega arith
sifted_bound n (sieve.Take m ∷ ws) end = let e = sifted_bound n ws end in omega arith
sifted_bound n (sieve.TakeWhile t ∷ ws) end = let e = sifted_bound n ws end in omega arith
sifted_bound n (sieve.Filter t ∷ ws) end = let e = sifted_bound n ws end in omega arith

abbrev Typed : SplitWord → List Sieve → SliceEnd → TypedPart
Typed cut ws end = chain_part Join.Plain (map word_part (words_of cut ws end))

sliced_output : (cut : SplitWord) (ws : List Sieve) (end : SliceEnd) → IsCutter cut → ((Typed cut ws end).type (Some Kind.Bytes)).to ≡ gives_of end
sliced_output (SplitWord.Lines n) ws end c = sifted_output n ws end
sliced_output (SplitWord.Split separator n) ws end c = sifted_output n ws end
sliced_output (SplitWord.Exact n) ws end c = sifted_output n ws end
sliced_output (SplitWord.ChunksOf n) ws end c = sifted_output n ws end
sliced_output SplitWord.Flat ws end c = absurd c
sliced_output SplitWord.Unlines ws end c = absurd c

sliced_bound : (cut : SplitWord) (ws : List Sieve) (end : SliceEnd) → IsCutter cut → slices.bound_of cut ≡ flows.bound_of ((Typed cut ws end).types (Some Kind.Bytes))
sliced_bound (SplitWord.Lines n) ws end c = let e = sifted_bound n ws end in omega arith
sliced_bound (SplitWord.Split separator n) ws end c = let e = sifted_bound n ws end in omega arith
sliced_bound (SplitWord.Exact n) ws end c = let e = sifted_bound n ws end in omega arith
sliced_bound (SplitWord.ChunksOf n) ws end c = let e = sifted_bound n ws end in omega arith
sliced_bound SplitWord.Flat ws end c = absurd c
sliced_bound SplitWord.Unlines ws end c = absurd c

-- ---- the chain has no places

abbrev AreSiteless : List Word → Type 0
AreSiteless [] = Unit {0}
AreSiteless (w ∷ ws) = ((word_meaning w).places ≡ []) × AreSiteless ws

no_places : (ws : List Word) → AreSiteless ws → (all_of piped (map word_meaning ws)).places ≡ []
no_places [] h = refl
no_places (w ∷ []) h = h.0
no_places (w ∷ v ∷ ws) h = ap (λ (l : List Place). l ++ (all_of piped (map word_meaning (v ∷ ws))).places) h.0 ∙ no_places (v ∷ ws) h.1

sieve_siteless : (w : Sieve) → (word_meaning (sieve_word w)).places ≡ []
sieve_siteless sieve.Pass = refl
sieve_siteless (sieve.Take n) = refl
sieve_siteless (sieve.TakeWhile t) = refl
sieve_siteless (sieve.Filter t) = refl

end_siteless : (end : SliceEnd) → (word_meaning (end_word end)).places ≡ []
end_siteless (last.Count n) = refl
end_siteless (last.Join false) = refl
end_siteless (last.Join true) = refl

cut_siteless : (cut : SplitWord) → (word_meaning (Word.Split cut)).places ≡ []
cut_siteless (SplitWord.Lines n) = refl
cut_siteless (SplitWord.Split separator n) = refl
cut_siteless (SplitWord.Exact n) = refl
cut_siteless (SplitWord.ChunksOf n) = refl
cut_siteless SplitWord.Flat = refl
cut_siteless SplitWord.Unlines = refl

tail_siteless : (ws : List Sieve) (end : SliceEnd) → AreSiteless (map sieve_word ws ++ end_word end ∷ [])
tail_siteless [] end = (end_siteless end, tt)
tail_siteless (w ∷ ws) end = (sieve_siteless w, tail_siteless ws end)

sliced_places : (cut : SplitWord) (ws : List Sieve) (end : SliceEnd) → (slices.chain_meaning cut ws end).places ≡ []
sliced_places cut ws end = no_places (words_of cut ws end) (cut_siteless cut, tail_siteless ws end)

-- ---- the node

-- what is told of the leaf
pub record IsSliced (cut : SplitWord) (ws : List Sieve) (end : SliceEnd) (n : Node) : Type 0 where
  pub cutter : IsCutter cut
  pub well : IsWell n
  pub unstarted : IsUnstarted (seen n)
  pub gives : (seen n).gives ≡ gives_of end
  pub takes : (seen n).takes ≡ Some Kind.Bytes
  pub pieces : (seen n).grade.pieces ≡ of_pieces (seen n).takes
  pub exact : (seen n).grade.exact ≡ true
  pub sites : (t : ℕ) → (seen n).sites t ≡ false
  pub places : (place : ℕ → Place) → StandsAt n place
  pub bound : bound_of n ≡ slices.bound_of cut
  pub means : (z : Seen) (site : ℕ) (told : Seen) (xs : List Item) (e : End) → (seen n).run z xs e ≡ (slices.chain_meaning cut ws end).run (Some Sort.Bytes) site told xs e

never : {A : Type 0} → false ≡ true → A
never e = let no : ⊥ = cc in absurd no

leaf_built : (cut : SplitWord) (ws : List Sieve) (end : SliceEnd) (site : ℕ) (n : Node) (to : Flow) → IsSliced cut ws end n → to ≡ gives_of end
    → IsBuiltPart (Typed cut ws end) (slices.chain_meaning cut ws end) (Some Kind.Bytes) site (record { node = n; gives = to; next = site })
leaf_built cut ws end site n to h out =
    let none = ap length (sliced_places cut ws end) in
    record {
      node = record {
        well = h.well;
        unstarted = h.unstarted;
        is_as = record {
          means = λ z xs e. h.means z site z xs e;
          gives = h.gives ∙ sym (sliced_output cut ws end h.cutter);
          takes = inr h.takes;
          idle = λ e. never e;
          exact = λ e. h.exact;
          pieces = h.pieces;
          graded = λ e. h.exact;
          sites = λ t e. never (sym (h.sites t) ∙ e);
        };
        bound = h.bound ∙ sliced_bound cut ws end h.cutter;
        places = λ place s. h.places place;
      };
      gives = out ∙ sym (sliced_output cut ws end h.cutter);
      next = omega arith;
    }

-- The leaf of the members is built for their chain.
pub sliced_built : (ps : List Pipe) (f : Flow) (cut : SplitWord) (ws : List Sieve) (end : SliceEnd) (site : ℕ) (n : Node) (to : Flow) → ps ≡ members_of cut ws end → f ≡ Some Kind.Bytes
    → IsSliced cut ws end n → to ≡ gives_of end → IsBuiltPart (chain_of ps) (chain_meaning ps) f site (record { node = n; gives = to; next = site })
sliced_built ps f cut ws end site n to same bytes h out =
    let words = words_of cut ws end in
    let leaf = leaf_built cut ws end site n to h out in
    let typed : Typed cut ws end ≡ chain_of ps = ap (chain_part Join.Plain) (sym (parts_of words)) ∙ sym (ap chain_of same) in
    let means : slices.chain_meaning cut ws end ≡ chain_meaning ps = ap (all_of piped) (sym (meanings_of words)) ∙ sym (ap chain_meaning same) in
    subst (λ (a : TypedPart). IsBuiltPart a (chain_meaning ps) f site (record { node = n; gives = to; next = site })) typed
    (subst (λ (m : Meaning). IsBuiltPart (Typed cut ws end) m f site (record { node = n; gives = to; next = site })) means
    (subst (λ (g : Flow). IsBuiltPart (Typed cut ws end) (slices.chain_meaning cut ws end) g site (record { node = n; gives = to; next = site })) (sym bytes) leaf))

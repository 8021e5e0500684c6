-- The nodes of words.
use Rattle.std.proofs.Common.{◌≡◌, ◌⊎◌, inl, inr, ℕ, ◌+◌, ◌==◌, true, false, List, [], ◌∷◌, length, Some, None, refl, ap, sym, ◌∙◌, subst, arith}
use Rattle.std.proofs.lemmas.Bool.{eqb-true}
use Rattle.cd_elem.specs.declared.kind.Kind.{Kind}
use Rattle.cd_elem.specs.declared.word.Word.{Word}
use Rattle.cd_elem.specs.declared.word.ElemWord.{ElemWord}
use Rattle.cd_elem.specs.declared.word.SourceWord.{SourceWord}
use Rattle.cd_elem.specs.declared.word.SinkWord.{SinkWord}
use Rattle.cd_meaning.specs.Places.{Place}
use Rattle.cd_meaning.specs.RunShapes.{Seen}
use Rattle.cd_meaning.specs.Stream.{Item, End}
use Rattle.cd_meaning.specs.WordMeanings.{word_meaning}
use Rattle.cd_node.specs.Makes.{IsUnstarted}
use Rattle.cd_node.specs.Trees.{IsWell, StandsAt, bound_of, seen}
use Rattle.cd_node.specs.declared.node.Node.{Node}
use Rattle.cd_step.specs.Parts.{of_pieces, pieces_at}
use Rattle.cd_types.specs.Flows.{Flow, sort_in}
use Rattle.cd_types.specs.Numbering.{StandFrom}
use Rattle.cd_types.specs.Parts.{word_part}
use Rattle.cd_types.specs.WordTypes.{word_bound, word_gives, is_source}
use Rattle.cd_build.specs.Builds.{IsPassed}
use Rattle.cd_build.specs.BuiltNodes.{IsBuiltNode, IsBuiltPart, IsWordNode}
use Rattle.cd_build.specs.declared.pipes.Built.{Built}
use Rattle.cd_build.proofs.TypedWords.{bytes_come, only_sink_null}

never : {A : Type 0} → false ≡ true → A
never e = let no : ⊥ = cc in absurd no

-- nothing is refused at this word, for this
pub passed : (w v : Word) (f g : Flow) → w ≡ v → f ≡ g → IsPassed w f → IsPassed v g
passed w v f g e k h = subst (IsPassed v) k (subst (λ x. IsPassed x f) e h)

-- ---- words that are no sites

pub word_built : (w : Word) (f : Flow) (site : ℕ) (n : Node) (to : Flow) → IsWordNode w f n → to ≡ word_gives w f
    → IsBuiltPart (word_part w) (word_meaning w) f site (record { node = n; gives = to; next = site })
word_built w f site n to h out =
    let none = ap length h.siteless in
    record {
      node = record {
        well = h.well;
        unstarted = h.unstarted;
        is_as = record {
          means = λ z xs e. h.means z site z xs e;
          gives = h.gives;
          takes = h.takes;
          idle = h.idle;
          exact = λ e. h.exact;
          pieces = h.pieces;
          graded = λ e. h.exact;
          sites = λ t e. never (sym (h.sites t) ∙ e);
        };
        bound = let e = h.bound in omega arith;
        places = λ place s. h.places place;
      };
      gives = out;
      next = omega arith;
    }

-- the word is this one, and this comes to it
pub word_so : (w v : Word) (f g : Flow) (site : ℕ) (n : Node) (to : Flow) → w ≡ v → f ≡ g → IsWordNode v g n → to ≡ word_gives w f
    → IsBuiltPart (word_part w) (word_meaning w) f site (record { node = n; gives = to; next = site })
word_so w v f g site n to same comes h out =
    word_built w f site n to (subst (λ x. IsWordNode x f n) (sym same) (subst (λ j. IsWordNode v j n) (sym comes) h)) out

pub pieces_come : (k : Kind) → ((m : ℕ) × (k ≡ Kind.Blocks m)) ⊎ ((m : ℕ) × (k ≡ Kind.Texts m)) → pieces_at k ≡ true
pieces_come k (inl e) = ap pieces_at e.1
pieces_come k (inr e) = ap pieces_at e.1

-- an element word on pieces is `sinkNull`
pub null_node : (w : ElemWord) (k : Kind) (n : Node) → pieces_at k ≡ true → IsPassed (Word.Elem w) (Some k) → IsWordNode (Word.Elem ElemWord.SinkNull) (Some k) n → IsWordNode (Word.Elem w) (Some k) n
null_node w k n pieces h made = subst (λ (v : ElemWord). IsWordNode (Word.Elem v) (Some k) n) (sym (only_sink_null w k pieces h)) made

-- ---- words that are sites

-- what is told of the node of a word that is this site
pub record IsSiteNode (w : Word) (f : Flow) (site : ℕ) (p : Place) (n : Node) : Type 0 where
  pub place : (word_meaning w).places ≡ p ∷ []
  pub none : word_bound w f ≡ 0
  pub well : IsWell n
  pub unstarted : IsUnstarted (seen n)
  pub gives : (seen n).gives ≡ word_gives w f
  pub takes : ((seen n).takes ≡ None) ⊎ ((seen n).takes ≡ f)
  pub idle : is_source w ≡ true → (seen n).takes ≡ None
  pub pieces : (seen n).grade.pieces ≡ of_pieces (seen n).takes
  pub exact : (seen n).grade.exact ≡ true
  pub sites : (t : ℕ) → (seen n).sites t ≡ (t == site)
  pub places : (place : ℕ → Place) → place site ≡ p → StandsAt n place
  pub bound : bound_of n ≡ 0
  pub means : (z : Seen) (xs : List Item) (end : End) → (seen n).run z xs end ≡ (word_meaning w).run (sort_in f) site z xs end

pub site_built : (w : Word) (f : Flow) (site : ℕ) (p : Place) (n : Node) → IsSiteNode w f site p n → IsBuiltNode (word_part w) (word_meaning w) f site n
site_built w f site p n h =
    let one = ap length h.place in
    record {
      well = h.well;
      unstarted = h.unstarted;
      is_as = record {
        means = h.means;
        gives = h.gives;
        takes = h.takes;
        idle = h.idle;
        exact = λ e. h.exact;
        pieces = h.pieces;
        graded = λ e. h.exact;
        sites = λ t e. let same = eqb-true t site (sym (h.sites t) ∙ e) in (omega arith, omega arith);
      };
      bound = let e = h.bound in let b = h.none in omega arith;
      places = λ place s. let stands = subst (λ ps. StandFrom place site ps) h.place s in h.places place stands.0;
    }

-- the word is this one, and its node is in this
pub site_part : (w v : Word) (f : Flow) (site : ℕ) (p : Place) (n : Node) (b : Built) → w ≡ v → IsSiteNode v f site p n → b.node ≡ n → b.gives ≡ word_gives w f → b.next ≡ site + 1
    → IsBuiltPart (word_part w) (word_meaning w) f site b
site_part w v f site p n b same h node out next =
    let one = ap length (ap (λ x. (word_meaning x).places) same ∙ h.place) in
    record {
      node = subst (λ x. IsBuiltNode (word_part x) (word_meaning x) f site b.node) (sym same) (subst (IsBuiltNode (word_part v) (word_meaning v) f site) (sym node) (site_built v f site p n h));
      gives = out;
      next = omega arith;
    }

pub source_part : (w : Word) (v u : SourceWord) (f : Flow) (site : ℕ) (p : Place) (n : Node) (b : Built) → w ≡ Word.Source v → v ≡ u → IsSiteNode (Word.Source u) f site p n → b.node ≡ n
    → b.gives ≡ word_gives w f → b.next ≡ site + 1 → IsBuiltPart (word_part w) (word_meaning w) f site b
source_part w v u f site p n b e k h node out next = site_part w (Word.Source u) f site p n b (e ∙ ap (λ (x : SourceWord). Word.Source x) k) h node out next

pub sink_part : (w : Word) (v u : SinkWord) (f : Flow) (site : ℕ) (p : Place) (n : Node) (b : Built) → w ≡ Word.Sink v → v ≡ u → IsSiteNode (Word.Sink u) f site p n → b.node ≡ n
    → b.gives ≡ word_gives w f → b.next ≡ site + 1 → IsBuiltPart (word_part w) (word_meaning w) f site b
sink_part w v u f site p n b e k h node out next = site_part w (Word.Sink u) f site p n b (e ∙ ap (λ (x : SinkWord). Word.Sink x) k) h node out next

-- bytes come to a word that is a sink
pub sink_takes : (w : Word) (v : SinkWord) (f : Flow) → w ≡ Word.Sink v → IsPassed w f → f ≡ Some Kind.Bytes
sink_takes w v f e h = bytes_come v f (passed w (Word.Sink v) f f e refl h)

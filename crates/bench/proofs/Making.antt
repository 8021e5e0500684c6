-- How the trees that are timed are made.
use Rattle.std.proofs.Common.{◌≡◌, ℕ, ◌==◌, ◌||◌, Bool, true, false, Option, Some, None, refl, ap, sym, ◌∙◌, subst, arith}
use Rattle.std.proofs.lemmas.Bool.{eqb-true}
use Rattle.cd_elem.specs.declared.kind.Kind.{Kind}
use Rattle.cd_elem.specs.declared.kind.Kind.TheVariants.{Bytes}
use Rattle.cd_fuse.specs.Fuses.{AreBeside}
use Rattle.cd_meaning.proofs.Moves.Fused.{IsGrade}
use Rattle.cd_meaning.specs.Rest.{Grade, net_if}
use Rattle.cd_step.specs.Parts.{AreApart, Meets, both_sites, of_pieces}
use Rattle.cd_node.specs.Makes.{IsUnstarted}
use Rattle.cd_node.specs.Trees.{IsWell, StandsAt, seen}
use Rattle.cd_node.specs.declared.node.Node.{Node}
use Rattle.bench.specs.TimedTrees.{IsMade, IsReady, OnBytes, back_sites, front_sites, no_sites, places}

is_grade : (g : Grade) → (g.pieces ≡ true → g.exact ≡ true) → IsGrade g
is_grade g h s = by_cases g.pieces g.exact h where
  by_cases : (p e : Bool) → (p ≡ true → e ≡ true) → net_if p (net_if e s) ≡ net_if p s
  by_cases false true h = refl
  by_cases false false h = refl
  by_cases true true h = refl
  by_cases true false h = let no_way : false ≡ true = h refl in cc

bytes_meet : Meets (Some Bytes) (Some Bytes)
bytes_meet = (refl, omega arith)

-- one that gives bytes stands beside one that takes them
pub beside : (t g : Option Kind) (a b : ℕ → Bool) (x y : Node) → IsMade t (Some Bytes) a x → IsMade (Some Bytes) g b y → AreApart a b → AreBeside (seen x) (seen y)
beside t g a b x y h i r = record {
  apart = λ s e. i.own s ∙ r s (sym (h.own s) ∙ e);
  graded = is_grade (seen x).grade h.exact;
  meets = subst (λ j. Meets j (seen y).takes) (sym h.gives_it) (subst (λ j. Meets (Some Bytes) j) (sym i.takes_it) bytes_meet);
}

-- what is told of the node of a fusion
pub record IsFusedOf (x y n : Node) : Type 0 where
  pub well : IsWell n
  pub unstarted : IsUnstarted (seen n)
  pub gives : (seen n).gives ≡ (seen y).gives
  pub takes : (seen n).takes ≡ (seen x).takes
  pub pieces : (seen n).grade.pieces ≡ of_pieces (seen n).takes
  pub exact : (seen n).grade.exact ≡ (seen x).grade.pieces
  pub own : (t : ℕ) → (seen n).sites t ≡ both_sites (seen x).sites (seen y).sites t
  pub stands : StandsAt x places → StandsAt y places → StandsAt n places

pub fused_made : (t g : Option Kind) (a b : ℕ → Bool) (x y n : Node) → IsMade t (Some Bytes) a x → IsMade (Some Bytes) g b y → IsFusedOf x y n → IsMade t g (both_sites a b) n
fused_made t g a b x y n h i f =
    let pieces : (seen n).grade.pieces ≡ of_pieces t = f.pieces ∙ ap of_pieces (f.takes ∙ h.takes_it) in
    record {
      well = f.well;
      unstarted = f.unstarted;
      takes_it = f.takes ∙ h.takes_it;
      gives_it = f.gives ∙ i.gives_it;
      pieces = pieces;
      exact = λ e. f.exact ∙ h.pieces ∙ sym pieces ∙ e;
      own = λ s. f.own s ∙ ap (λ z. z || (seen y).sites s) (h.own s) ∙ ap (λ z. a s || z) (i.own s);
      stands = f.stands h.stands i.stands;
    }

-- ---- sites

pub none_apart : (b : ℕ → Bool) → AreApart no_sites b
none_apart b s e = let no_way : false ≡ true = e in cc

pub apart_none : (a : ℕ → Bool) → AreApart a no_sites
apart_none a s e = refl

pub ends_apart : AreApart front_sites back_sites
ends_apart s e = let one : s ≡ 1 = eqb-true s 1 (first (s == 1) e) in subst (λ n. (n == 2) ≡ false) (sym one) refl where
  first : (b : Bool) → (b || false) ≡ true → b ≡ true
  first true h = refl
  first false h = h

-- ---- before the first step

on_bytes : (k : Option Kind) → k ≡ Some Bytes → OnBytes k
on_bytes k e = subst OnBytes (sym e) refl

on_none : (k : Option Kind) → k ≡ None → OnBytes k
on_none k e = subst OnBytes (sym e) tt

pub chain_ready : (n : Node) → IsMade (Some Bytes) (Some Bytes) no_sites n → IsReady n
chain_ready n h = (
  record {
    well = h.well;
    stands = h.stands;
    no_ticket = h.unstarted.no_ticket;
    gives = on_bytes (seen n).gives h.gives_it;
    takes = on_bytes (seen n).takes h.takes_it;
  },
  h.unstarted.unbegun.is_at,
)

pub pipeline_ready : (a : ℕ → Bool) (n : Node) → IsMade None None a n → IsReady n
pipeline_ready a n h = (
  record {
    well = h.well;
    stands = h.stands;
    no_ticket = h.unstarted.no_ticket;
    gives = on_none (seen n).gives h.gives_it;
    takes = on_none (seen n).takes h.takes_it;
  },
  h.unstarted.unbegun.is_at,
)

-- Sequences that are cut in two: what the typing says of both halves, and the node in which the nodes of the two follow each other.
use Rattle.std.proofs.Common.{◌≡◌, ℕ, ◌+◌, ◌≤◌, ◌<◌, ◌⊎◌, inl, inr, Bool, true, false, ◌&&◌, List, [], ◌∷◌, ◌++◌, length, Some, None, refl, ap, sym, ◌∙◌, subst, append_assoc, arith}
use Rattle.cd_elem.specs.declared.kind.Kind.{Kind}
use Rattle.cd_fuse.specs.Follows.{AreInTurn}
use Rattle.cd_meaning.specs.Meaning.{Meaning, sequence_form}
use Rattle.cd_meaning.specs.RunShapes.{Seen}
use Rattle.cd_meaning.specs.Sections.{sequence}
use Rattle.cd_meaning.specs.Stream.{Item, End}
use Rattle.cd_meaning.proofs.Halves.{IsSame, same_in_turn}
use Rattle.cd_step.proofs.Sides.{shared_right}
use Rattle.cd_step.specs.Parts.{Part, of_pieces, both_sites, joined, shared, Agree}
use Rattle.cd_types.specs.Fitting.{FitInSequence, IsExactOnCuts, AllExactOnCuts, IsOfSort}
use Rattle.cd_types.specs.Flows.{Flow, Sort, bound_of, is_cut, join, kind_bound, larger, sort_in}
use Rattle.cd_types.specs.Parts.{Part as TypedPart, is_last}
use Rattle.cd_types.specs.Sequences.{all_exact, all_idle, joined_from, joined_outputs, sequence_part, sequence_types}
use Rattle.cd_types.proofs.Fitting.{keeps_kind}
use Rattle.cd_types.proofs.Sums.{bounds_append}
use Rattle.cd_build.specs.Builds.{IsBuiltAs}
use Rattle.cd_build.proofs.Outputs.{agree_so, shares, shared_so, joined_is, join_in_turn, or_so, apart}

-- ---- what two lists of parts give

of_sort : (k : Sort) (g h : Flow) → IsOfSort k g → IsOfSort k h → IsOfSort k (join g h)
of_sort k None h a b = b
of_sort k (Some i) None a b = a
of_sort k (Some i) (Some j) a b = keeps_kind i (larger (kind_bound i) (kind_bound j)) ∙ a

from_sort : (k : Sort) (g f : Flow) (xs : List TypedPart) → IsOfSort k g → FitInSequence k f xs → IsOfSort k (joined_from g f xs)
from_sort k g f [] o h = o
from_sort k g f (x ∷ xs) o h = from_sort k (join g (x.type f).to) f xs (of_sort k g (x.type f).to o h.1) h.3

pub outputs_of_sort : (k : Sort) (f : Flow) (x : TypedPart) (xs : List TypedPart) → FitInSequence k f (x ∷ xs) → IsOfSort k (joined_outputs f (x ∷ xs))
outputs_of_sort k f x xs h = from_sort k (x.type f).to f xs h.1 h.3

joined_behind : (g f : Flow) (xs ys : List TypedPart) → joined_from g f (xs ++ ys) ≡ joined_from (joined_from g f xs) f ys
joined_behind g f [] ys = refl
joined_behind g f (x ∷ xs) ys = joined_behind (join g (x.type f).to) f xs ys

-- behind what gives g, parts give what they join to it
joined_in_turn : (k : Sort) (g h f : Flow) (ys : List TypedPart) → IsOfSort k h → FitInSequence k f ys → joined_from (join g h) f ys ≡ join g (joined_from h f ys)
joined_in_turn k g h f [] o t = refl
joined_in_turn k g h f (y ∷ ys) o t =
    ap (λ j. joined_from j f ys) (join_in_turn k g h (y.type f).to o t.1)
    ∙ joined_in_turn k g (join h (y.type f).to) f ys (of_sort k h (y.type f).to o t.1) t.3

pub outputs_behind : (k : Sort) (f : Flow) (x : TypedPart) (xs : List TypedPart) (y : TypedPart) (ys : List TypedPart) → FitInSequence k f (y ∷ ys)
    → joined_outputs f (x ∷ xs ++ y ∷ ys) ≡ join (joined_outputs f (x ∷ xs)) (joined_outputs f (y ∷ ys))
outputs_behind k f x xs y ys t =
    joined_behind (x.type f).to f xs (y ∷ ys)
    ∙ joined_in_turn k (joined_outputs f (x ∷ xs)) (y.type f).to f ys t.1 t.3

-- ---- the halves of a sequence

-- the first half's members all stand before another one
pub halves_fit : (k : Sort) (f : Flow) (xs : List TypedPart) (y : TypedPart) (ys : List TypedPart) → FitInSequence k f (xs ++ y ∷ ys)
    → FitInSequence k f xs × AllExactOnCuts f xs × FitInSequence k f (y ∷ ys)
halves_fit k f [] y ys h = (tt, tt, h)
halves_fit k f (x ∷ xs) y ys h =
    let rest = halves_fit k f xs y ys h.3 in
    let exact : IsExactOnCuts f x = h.2 (not_last xs) in
    ((h.0, h.1, (λ e. exact), rest.0), (exact, rest.1), rest.2) where
      not_last : (xs : List TypedPart) → is_last (xs ++ y ∷ ys) ≡ false
      not_last [] = refl
      not_last (z ∷ xs) = refl

both : (a b : Bool) → (a && b) ≡ true → (a ≡ true) × (b ≡ true)
both true b e = (refl, e)
both false b e = let no : ⊥ = cc in absurd no

and_true : (a b : Bool) → a ≡ true → b ≡ true → (a && b) ≡ true
and_true true b e h = h
and_true false b e h = e

all_exact_so : (f : Flow) (xs : List TypedPart) → is_cut f ≡ true → AllExactOnCuts f xs → all_exact f xs ≡ true
all_exact_so f [] c h = refl
all_exact_so f (x ∷ xs) c h = and_true (x.type f).exact (all_exact f xs) (h.0 c) (all_exact_so f xs c h.1)

exact_behind : (f : Flow) (xs ys : List TypedPart) → all_exact f (xs ++ ys) ≡ true → all_exact f ys ≡ true
exact_behind f [] ys e = e
exact_behind f (x ∷ xs) ys e = exact_behind f xs ys (both (x.type f).exact (all_exact f (xs ++ ys)) e).1

idle_both : (f : Flow) (xs ys : List TypedPart) → all_idle f (xs ++ ys) ≡ true → (all_idle f xs ≡ true) × (all_idle f ys ≡ true)
idle_both f [] ys e = (refl, e)
idle_both f (x ∷ xs) ys e =
    let b = both (x.type f).idle (all_idle f (xs ++ ys)) e in
    let rest = idle_both f xs ys b.1 in
    (and_true (x.type f).idle (all_idle f xs) b.0 rest.0, rest.1)

types_behind : (f : Flow) (xs ys : List TypedPart) → sequence_types f (xs ++ ys) ≡ sequence_types f xs ++ sequence_types f ys
types_behind f [] ys = refl
types_behind f (x ∷ xs) ys = ap (λ l. x.types f ++ l) (types_behind f xs ys) ∙ sym (append_assoc (x.types f) (sequence_types f xs) (sequence_types f ys))

pub bounds_of_halves : (f : Flow) (xs ys : List TypedPart)
    → bound_of ((sequence_part (xs ++ ys)).types f) ≡ bound_of ((sequence_part xs).types f) + bound_of ((sequence_part ys).types f)
bounds_of_halves f xs ys =
    let e = ap bound_of (types_behind f xs ys) in
    let b = bounds_append (sequence_types f xs) (sequence_types f ys) in
    omega arith

-- what a node is in which two follow each other
pub record IsFollowedOf (a b n : Part) : Type 0 where
  pub gives : n.gives ≡ joined a.gives b.gives
  pub takes : n.takes ≡ shared a.takes b.takes
  pub pieces : n.grade.pieces ≡ of_pieces n.takes
  pub exact : n.grade.exact ≡ b.grade.exact
  pub sites : (t : ℕ) → n.sites t ≡ both_sites a.sites b.sites t
  pub means : (z : Seen) (xs : List Item) (e : End) → n.run z xs e ≡ sequence (a.run z) (b.run z) xs e

-- a first half is exact where bytes or characters come, and where it takes pieces or nothing
first_exact : (f : Flow) (a : Part) → (a.takes ≡ None) ⊎ (a.takes ≡ f) → (is_cut f ≡ true → a.grade.exact ≡ true) → (of_pieces a.takes ≡ true → a.grade.exact ≡ true)
    → a.grade.exact ≡ true
first_exact f a (inl e) h k = k (ap of_pieces e)
first_exact None a (inr e) h k = k (ap of_pieces e)
first_exact (Some Kind.Bytes) a (inr e) h k = h refl
first_exact (Some Kind.Chars) a (inr e) h k = h refl
first_exact (Some (Kind.Blocks m)) a (inr e) h k = k (ap of_pieces e)
first_exact (Some (Kind.Texts m)) a (inr e) h k = k (ap of_pieces e)

-- Two nodes that are built, of parts one behind the other.
module _ (k : Sort) (f : Flow) (x : TypedPart) (xs : List TypedPart) (y : TypedPart) (ys : List TypedPart) (ma mb mw : Meaning) (site : ℕ) (a b : Part)
    (first : FitInSequence k f (x ∷ xs)) (exact : AllExactOnCuts f (x ∷ xs)) (second : FitInSequence k f (y ∷ ys))
    (u : IsBuiltAs (sequence_part (x ∷ xs)) ma f site a)
    (l : IsBuiltAs (sequence_part (y ∷ ys)) mb f (site + length ma.places) b)
  where
    pub in_turn : AreInTurn a b
    in_turn = record {
      apart = apart a.sites b.sites (site + length ma.places) (λ t e. (u.sites t e).1) (λ t e. (l.sites t e).0);
      exact = first_exact f a u.takes (λ c. u.exact (all_exact_so f (x ∷ xs) c exact)) (λ e. u.graded (u.pieces ∙ e));
      first = u.pieces;
      second = l.pieces;
      gives = subst (λ g. Agree g b.gives) (sym u.gives) (subst (Agree (joined_outputs f (x ∷ xs))) (sym l.gives)
          (agree_so k (joined_outputs f (x ∷ xs)) (joined_outputs f (y ∷ ys)) (outputs_of_sort k f x xs first) (outputs_of_sort k f y ys second)));
      takes = shares f a.takes b.takes u.takes l.takes;
    }

    module _ (n : Part) (h : IsFollowedOf a b n)
        (same : (z : Seen) → IsSame (mw.run (sort_in f) site z) ((sequence_form ma mb).run (sort_in f) site z))
        (places : length mw.places ≡ length ma.places + length mb.places)
      where
        site_so : (t : ℕ) → (a.sites t ≡ true) ⊎ (b.sites t ≡ true) → (site ≤ t) × (t < site + length mw.places)
        site_so t (inl e) = let o = (u.sites t e).0 in let k = (u.sites t e).1 in (o, omega arith)
        site_so t (inr e) = let o = (l.sites t e).0 in let k = (l.sites t e).1 in (omega arith, omega arith)

        none_shared : (a.takes ≡ None) → (b.takes ≡ None) → shared a.takes b.takes ≡ None
        none_shared e g = ap (λ t. shared t b.takes) e ∙ g

        pub followed_is_built : IsBuiltAs (sequence_part (x ∷ xs ++ y ∷ ys)) mw f site n
        followed_is_built = record {
          means = λ z zs e.
              h.means z zs e
              ∙ same_in_turn (a.run z) (ma.run (sort_in f) site z) (b.run z) (mb.run (sort_in f) (site + length ma.places) z) (u.means z) (l.means z) zs e
              ∙ sym (same z zs e);
          gives = h.gives ∙ ap (λ g. joined g b.gives) u.gives ∙ ap (joined (joined_outputs f (x ∷ xs))) l.gives
              ∙ joined_is (joined_outputs f (x ∷ xs)) (joined_outputs f (y ∷ ys)) ∙ sym (outputs_behind k f x xs y ys second);
          takes = subst (λ t. (t ≡ None) ⊎ (t ≡ f)) (sym h.takes) (shared_so f a.takes b.takes u.takes l.takes);
          idle = λ e. let i = idle_both f (x ∷ xs) (y ∷ ys) e in h.takes ∙ none_shared (u.idle i.0) (l.idle i.1);
          exact = λ e. h.exact ∙ l.exact (exact_behind f (x ∷ xs) (y ∷ ys) e);
          pieces = h.pieces;
          graded = λ e. h.exact ∙ l.graded (l.pieces ∙ shared_right a.takes b.takes (shares f a.takes b.takes u.takes l.takes) (ap of_pieces (sym h.takes) ∙ sym h.pieces ∙ e));
          sites = λ t e. site_so t (or_so (a.sites t) (b.sites t) (sym (h.sites t) ∙ e));
        }

-- Chains that are cut in two: what the typing says of both halves, and the node that fuses the nodes of the two.
use Rattle.std.proofs.Common.{◌≡◌, ℕ, ◌+◌, ◌≤◌, ◌<◌, ◌⊎◌, inl, inr, true, List, [], ◌∷◌, ◌++◌, length, None, refl, ap, sym, ◌∙◌, subst, append_assoc, arith}
use Rattle.cd_elem.specs.declared.script.Join.{Join}
use Rattle.cd_fuse.specs.Fuses.{AreBeside}
use Rattle.cd_meaning.specs.Fusion.{fuse}
use Rattle.cd_meaning.specs.Meaning.{Meaning, piped}
use Rattle.cd_meaning.specs.RunShapes.{Seen}
use Rattle.cd_meaning.specs.Stream.{Item, End}
use Rattle.cd_meaning.proofs.Halves.{IsSame, same_fused}
use Rattle.cd_step.specs.Parts.{Part, of_pieces, both_sites, Meets}
use Rattle.cd_types.specs.Chains.{member_types, chain_part, chain_types, last_output}
use Rattle.cd_types.specs.Fitting.{FitInChain}
use Rattle.cd_types.specs.Flows.{Flow, bound_of, sort_in}
use Rattle.cd_types.specs.Parts.{Part as TypedPart}
use Rattle.cd_types.proofs.Sums.{bounds_append}
use Rattle.cd_build.specs.Builds.{IsBuiltAs}
use Rattle.cd_build.proofs.Outputs.{compared, meets, is_grade, or_so, apart}

-- what a chain of these gives
abbrev pub chain_output : Flow → List TypedPart → Flow
chain_output f parts = last_output f (member_types f parts)

pub output_behind : (f : Flow) (xs ys : List TypedPart) → chain_output f (xs ++ ys) ≡ chain_output (chain_output f xs) ys
output_behind f [] ys = refl
output_behind f (x ∷ xs) ys = output_behind (x.type f).to xs ys

pub types_behind : (f : Flow) (xs ys : List TypedPart) → chain_types f (xs ++ ys) ≡ chain_types f xs ++ chain_types (chain_output f xs) ys
types_behind f [] ys = refl
types_behind f (x ∷ xs) ys =
    ap (λ l. x.types f ++ l) (types_behind (x.type f).to xs ys)
    ∙ sym (append_assoc (x.types f) (chain_types (x.type f).to xs) (chain_types (chain_output (x.type f).to xs) ys))

pub halves_fit : (f : Flow) (xs ys : List TypedPart) → FitInChain f (xs ++ ys) → FitInChain f xs × FitInChain (chain_output f xs) ys
halves_fit f [] ys h = (tt, h)
halves_fit f (x ∷ xs) ys h =
    let rest = halves_fit (x.type f).to xs ys h.1 in
    ((h.0, rest.0), rest.1)

pub bounds_of_halves : (f : Flow) (xs ys : List TypedPart)
    → bound_of ((chain_part Join.Plain (xs ++ ys)).types f) ≡ bound_of ((chain_part Join.Plain xs).types f) + bound_of ((chain_part Join.Plain ys).types (chain_output f xs))
bounds_of_halves f xs ys =
    let e = ap bound_of (types_behind f xs ys) in
    let b = bounds_append (chain_types f xs) (chain_types (chain_output f xs) ys) in
    omega arith

-- what a node is that fuses two
pub record IsFusedOf (a b n : Part) : Type 0 where
  pub gives : n.gives ≡ b.gives
  pub takes : n.takes ≡ a.takes
  pub pieces : n.grade.pieces ≡ of_pieces n.takes
  pub exact : n.grade.exact ≡ a.grade.pieces
  pub sites : (t : ℕ) → n.sites t ≡ both_sites a.sites b.sites t
  pub means : (z : Seen) (xs : List Item) (e : End) → n.run z xs e ≡ fuse (a.run z) (b.run z) xs e

-- Two nodes that are built, of members one behind the other.
module _ (f : Flow) (x : TypedPart) (xs ys : List TypedPart) (ma mb mw : Meaning) (site : ℕ) (a b : Part)
    (u : IsBuiltAs (chain_part Join.Plain (x ∷ xs)) ma f site a)
    (l : IsBuiltAs (chain_part Join.Plain ys) mb (chain_output f (x ∷ xs)) (site + length ma.places) b)
  where
    pub beside : AreBeside a b
    beside = record {
      apart = apart a.sites b.sites (site + length ma.places) (λ t e. (u.sites t e).1) (λ t e. (l.sites t e).0);
      graded = is_grade a.grade u.graded;
      meets = subst (λ g. Meets g b.takes) (sym u.gives) (meets (chain_output f (x ∷ xs)) b.takes l.takes);
    }

    module _ (n : Part) (h : IsFusedOf a b n)
        (flow : ma.gives (sort_in f) ≡ sort_in (chain_output f (x ∷ xs)))
        (same : (z : Seen) → IsSame (mw.run (sort_in f) site z) ((piped ma mb).run (sort_in f) site z))
        (places : length mw.places ≡ length ma.places + length mb.places)
      where
        pieces_so : a.grade.pieces ≡ true → n.grade.exact ≡ true
        pieces_so e = h.exact ∙ e

        site_so : (t : ℕ) → (a.sites t ≡ true) ⊎ (b.sites t ≡ true) → (site ≤ t) × (t < site + length mw.places)
        site_so t (inl e) = let o = (u.sites t e).0 in let k = (u.sites t e).1 in (o, omega arith)
        site_so t (inr e) = let o = (l.sites t e).0 in let k = (l.sites t e).1 in (omega arith, omega arith)

        second : (z : Seen) → IsSame (b.run z) (mb.run (ma.gives (sort_in f)) (site + length ma.places) z)
        second z ys e = l.means z ys e ∙ ap (λ g. mb.run g (site + length ma.places) z ys e) (sym flow)

        pub fused_is_built : IsBuiltAs (chain_part Join.Plain (x ∷ xs ++ ys)) mw f site n
        fused_is_built = record {
          means = λ z zs e.
              h.means z zs e
              ∙ same_fused (a.run z) (ma.run (sort_in f) site z) (b.run z) (mb.run (ma.gives (sort_in f)) (site + length ma.places) z) (u.means z) (second z) zs e
              ∙ sym (same z zs e);
          gives = h.gives ∙ l.gives ∙ sym (output_behind f (x ∷ xs) ys);
          takes = subst (λ k. (k ≡ None) ⊎ (k ≡ f)) (sym h.takes) u.takes;
          idle = λ e. h.takes ∙ u.idle e;
          exact = λ e. pieces_so (u.pieces ∙ compared f a.takes (x.type f).idle u.takes u.idle e);
          pieces = h.pieces;
          graded = λ e. pieces_so (u.pieces ∙ ap of_pieces (sym h.takes) ∙ sym h.pieces ∙ e);
          sites = λ t e. site_so t (or_so (a.sites t) (b.sites t) (sym (h.sites t) ∙ e));
        }

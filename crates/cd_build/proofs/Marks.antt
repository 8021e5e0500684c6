-- The node of `mark` round a node.
use Rattle.std.proofs.Common.{◌≡◌, ◌≤◌, ◌<◌, ◌⊎◌, inl, inr, ℕ, suc, ◌+◌, ◌==◌, ◌||◌, Bool, true, false, List, ◌∷◌, length, None, refl, ap, sym, ◌∙◌, arith}
use Rattle.std.proofs.lemmas.Bool.{eqb-true}
use Rattle.cd_elem.specs.declared.script.Pipe.{Pipe}
use Rattle.cd_elem.specs.declared.script.Pipe.TheVariants as pipe
use Rattle.cd_meaning.specs.Meaning.{Meaning, mark_form}
use Rattle.cd_meaning.specs.Pipes.{pipe_meaning}
use Rattle.cd_meaning.specs.Pipes as meanings
use Rattle.cd_meaning.specs.Places.{Place, Marks}
use Rattle.cd_meaning.specs.Run.{Run, start, Then, Ends, follow}
use Rattle.cd_meaning.specs.RunShapes.{Seen}
use Rattle.cd_meaning.specs.Sources.{marked}
use Rattle.cd_meaning.specs.Stream.{Item, End, Do, Open, Close, Done}
use Rattle.cd_node.specs.Makes.{IsUnstarted}
use Rattle.cd_node.specs.Trees.{IsWell, StandsAt, bound_of, seen}
use Rattle.cd_node.specs.declared.node.Node.{Node}
use Rattle.cd_step.specs.Parts.{of_pieces}
use Rattle.cd_types.specs.Flows.{Flow, sort_in}
use Rattle.cd_types.specs.Forms.{mark_part}
use Rattle.cd_types.specs.Parts.{Part as TypedPart}
use Rattle.cd_types.specs.Rows.Trees as typed
use Rattle.cd_types.specs.Trees.{part}
use Rattle.cd_build.specs.Built.{is_built, mark_is}
use Rattle.cd_build.specs.BuiltNodes.{IsBuiltNode, IsBuiltPart}
use Rattle.cd_build.specs.declared.pipes.Built.{Built}

-- what a tree is at a bracket
pub mark_so : (p : Pipe) (name : List ℕ) (b c : Pipe) → p ≡ pipe.Mark name b → c ≡ b
    → (part p ≡ mark_part name (part c)) × (pipe_meaning p ≡ mark_form name (pipe_meaning c)) × (is_built p ≡ is_built c)
mark_so p name b c e k =
    let same : p ≡ pipe.Mark name c = e ∙ ap (pipe.Mark name) (sym k) in
    (ap part same ∙ typed.mark_is name c, ap pipe_meaning same ∙ meanings.mark_is name c, ap is_built same ∙ mark_is name c)

-- what is told of the node of a bracket at this site round a node
pub record IsMarkedOf (site : ℕ) (b n : Node) : Type 0 where
  pub well : IsWell n
  pub unstarted : IsUnstarted (seen n)
  pub gives : (seen n).gives ≡ (seen b).gives
  pub takes : (seen n).takes ≡ (seen b).takes
  pub pieces : (seen n).grade.pieces ≡ of_pieces (seen n).takes
  pub exact : (seen n).grade.exact ≡ (seen b).grade.exact
  pub sites : (t : ℕ) → (seen n).sites t ≡ ((t == site) || (seen b).sites t)
  pub places : (place : ℕ → Place) (name : List ℕ) → place site ≡ Marks name → StandsAt b place → StandsAt n place
  pub bound : bound_of n ≡ bound_of b
  pub means : (z : Seen) (xs : List Item) (end : End) → (seen n).run z xs end ≡ marked site ((seen b).run z) xs end

-- the bracket's site is before those of the body
pub not_inside : (a : TypedPart) (m : Meaning) (f : Flow) (site : ℕ) (n : Node) → IsBuiltNode a m f (site + 1) n → (seen n).sites site ≡ false
not_inside a m f site n h = by ((seen n).sites site) refl where
  by : (b : Bool) → (seen n).sites site ≡ b → (seen n).sites site ≡ false
  by true e = let x = (h.is_as.sites site e).0 in absurd (omega (arith, x))
  by false e = e

taken : (x y f : Flow) → x ≡ y → (y ≡ None) ⊎ (y ≡ f) → (x ≡ None) ⊎ (x ≡ f)
taken x y f e (inl h) = inl (e ∙ h)
taken x y f e (inr h) = inr (e ∙ h)

within : (t site : ℕ) (p : Place) (ps : List Place) (inside : Bool) → (inside ≡ true → (site + 1 ≤ t) × (t < site + 1 + length ps)) → ((t == site) || inside) ≡ true → (site ≤ t) × (t < site + length (p ∷ ps))
within t site p ps inside h e = by (t == site) refl e where
  by : (b : Bool) → (t == site) ≡ b → (b || inside) ≡ true → (site ≤ t) × (t < site + length (p ∷ ps))
  by true i x = let y = eqb-true t site i in (omega (arith, y), omega (arith, y))
  by false i x = let y = h x in let y0 = y.0 in let y1 = y.1 in (omega (arith, y0), omega (arith, y1))

-- what stands between the opening and the closing
abbrev bracket : ℕ → Run → Run
bracket site r = Then start (Do (Open site)) (follow r (λ t v. Then t (Do (Close site)) (Ends t (Done v))))

pub mark_built : (name : List ℕ) (a : TypedPart) (m : Meaning) (f : Flow) (site : ℕ) (b : Built) (n : Node) → IsBuiltPart a m f (site + 1) b → IsMarkedOf site b.node n
    → IsBuiltPart (mark_part name a) (mark_form name m) f site (record { node = n; gives = b.gives; next = b.next })
mark_built name a m f site b n k h =
    let body = k.node.is_as in
    let next = k.next in
    let one : site + 1 ≡ suc site = omega arith in
    let pieces : (seen b.node).grade.pieces ≡ (seen n).grade.pieces = body.pieces ∙ ap of_pieces (sym h.takes) ∙ sym h.pieces in
    record {
      node = record {
        well = h.well;
        unstarted = h.unstarted;
        is_as = record {
          means = λ z xs e. h.means z xs e ∙ ap (bracket site) (body.means z xs e ∙ ap (λ s. m.run (sort_in f) s z xs e) one);
          gives = h.gives ∙ body.gives;
          takes = taken (seen n).takes (seen b.node).takes f h.takes body.takes;
          idle = λ e. h.takes ∙ body.idle e;
          exact = λ e. h.exact ∙ body.exact e;
          pieces = h.pieces;
          graded = λ e. h.exact ∙ body.graded (pieces ∙ e);
          sites = λ t e. within t site (Marks name) m.places ((seen b.node).sites t) (body.sites t) (sym (h.sites t) ∙ e);
        };
        bound = let x = h.bound in let y = k.node.bound in omega (arith, x, y);
        places = λ place s. h.places place name s.0 (k.node.places place s.1);
      };
      gives = k.gives;
      next = omega (arith, next);
    }

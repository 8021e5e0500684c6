-- The end of a whole, and what is given back of it.
use Rattle.std.proofs.Common.{◌≡◌, ◌+◌, ◌≤◌, ℕ, Option, Some, None, refl, sym, ◌∙◌, subst, arith}
use Rattle.cd_meaning.specs.Places.{Place}
use Rattle.cd_step.specs.declared.protocol.Move.TheVariants.{Done as PlainDone}
use Rattle.cd_step.specs.declared.control.Side.{Side}
use Rattle.cd_step.specs.declared.control.Side.TheVariants.{Upper, Lower}
use Rattle.cd_step.specs.declared.control.Flow.TheVariants.{Finish}
use Rattle.cd_step.specs.declared.control.Made.{Made}
use Rattle.cd_step.specs.declared.control.Found.{Found}
use Rattle.cd_step.specs.declared.control.Found.TheVariants.{Own, AtUpper, AtLower}
use Rattle.cd_step.specs.Parts.{Chunk, Part, rest_items, IsGiven, weight_any, Kept, IsHeld}
use Rattle.cd_step.specs.Flows.{FlowLaw, Retires, IsOver, IsThere, IsBack, IsFound, picked, RetireLaw}
use Rattle.cd_step.proofs.Sides.{retired_of}
use Rattle.cd_node.specs.Controls.{whole_pair, pair_is_at, pair_fits, pair_left, at_side, seen_pair, IsPlaced}
use Rattle.cd_node.specs.Nodes.{GivesBack}
use Rattle.cd_node.specs.Turns.{StepsOn, Ended}
use Rattle.cd_node.specs.declared.control.PairControl.{PairControl}
use Rattle.cd_node.specs.declared.protocol.NodeMove.{NodeMove}
use Rattle.cd_node.proofs.PlainWords.{steps_plain}

-- ---- both parts are retired

back_is : (f : Found) (a b a' b' : Part) (up down : Option Chunk) → Retires a up a' → Retires b down b' → IsThere f a b → IsBack f a b a' b' (picked f up down)
back_is (Own r) a b a' b' up down h k t = refl
back_is AtUpper a b a' b' up down h k t = let x = h.3 t in (x.0, x.1, h.2)
back_is AtLower a b a' b' up down h k t = let x = k.3 t in (x.0, x.1, k.2)

pub record Finished (stands : (ℕ → Place) → Type 0) (p : Part) (m : NodeMove) (c : PairControl) (a b : Part) : Type 0 where
  pub goes : StepsOn stands m p (whole_pair c a b)
  pub placed : pair_is_at c a b
  pub kept : Kept p (whole_pair c a b)
  pub held : IsHeld (whole_pair c a b)

pub finished : (stands : (ℕ → Place) → Type 0) (p : Part) (n : ℕ) (made : Made) (found : Found) (m : NodeMove) (c : PairControl) (a b a' b' : Part)
    → FlowLaw whole_pair pair_is_at pair_fits pair_left p n c (Finish made found) a b → Ended made found m a b a' b' → Finished stands p m c a' b'
finished stands p n made found m c a b a' b' h e =
    let r = picked found e.up e.down in
    let k = h.1 e.value r a' b' e.means (back_is found a b a' b' e.up e.down e.upper e.lower h.0) (retired_of a a' e.up e.upper) (retired_of b b' e.down e.lower) in
    record { goes = rw e.is (steps_plain stands (PlainDone e.value r) p (whole_pair c a' b') k.0); placed = k.1; kept = k.2; held = k.3 }

-- ---- no step follows

found_is : (f : Found) (w a b a' b' : Part) (up down : Option Chunk) → Retires a up a' → Retires b down b' → IsFound f w a b → (rest_items (picked f up down) ≡ w.unread) × IsGiven w.takes (picked f up down)
found_is (Own r) w a b a' b' up down h k t = t
found_is AtUpper w a b a' b' up down h k t = let x = h.3 t.2 in (x.0 ∙ t.0, t.1 up x.1)
found_is AtLower w a b a' b' up down h k t = let x = k.3 t.2 in (x.0 ∙ t.0, t.1 down x.1)

found_at_side : (out : Option Side) (f : Found) (p a b : Part) → IsFound f p a b → IsFound f (at_side out p a b) a b
found_at_side None f p a b h = h
found_at_side (Some Upper) (Own r) p a b h = h
found_at_side (Some Upper) AtUpper p a b h = h
found_at_side (Some Upper) AtLower p a b h = h
found_at_side (Some Lower) (Own r) p a b h = h
found_at_side (Some Lower) AtUpper p a b h = h
found_at_side (Some Lower) AtLower p a b h = h

side_retires : (out : Option Side) (p a b : Part) (r : Option Chunk) (q : Part) → (q.floor ≡ p.floor) × Kept p q × (q.held + weight_any r ≤ p.held)
    → ((IsOver (at_side out p a b) → ⊥) → (rest_items r ≡ (at_side out p a b).unread) × IsGiven (at_side out p a b).takes r) → Retires (at_side out p a b) r q
side_retires None p a b r q h k = (h.0, h.1, h.2, k)
side_retires (Some Upper) p a b r q h k = (h.0, h.1, h.2, k)
side_retires (Some Lower) p a b r q h k = (h.0, h.1, h.2, k)

found_side : (out : Option Side) (c c' : PairControl) (f : Found) (a b : Part) → IsPlaced out c a b → RetireLaw whole_pair pair_is_at pair_fits c f c' a b → (IsOver (seen_pair c out a b) → ⊥) → IsFound f (seen_pair c out a b) a b
found_side None c c' f a b i h n = h.1 i n
found_side (Some Upper) c c' f a b i h n = found_at_side (Some Upper) f (whole_pair c a b) a b (h.2 i.0 n)
found_side (Some Lower) c c' f a b i h n = found_at_side (Some Lower) f (whole_pair c a b) a b (h.3 i.0 n)

pub retired : (out : Option Side) (c c' : PairControl) (f : Found) (r : Option Chunk) (a b a' b' : Part) (up down : Option Chunk) → IsPlaced out c a b → r ≡ picked f up down → Retires a up a' → Retires b down b'
    → RetireLaw whole_pair pair_is_at pair_fits c f c' a b → Retires (seen_pair c out a b) r (seen_pair c' None a' b') × pair_is_at c' a' b'
retired out c c' f r a b a' b' up down i k ra rb h =
    let l = h.0 a' b' up down ra rb in (
      subst (λ x. Retires (seen_pair c out a b) x (seen_pair c' None a' b')) (sym k) (side_retires out (whole_pair c a b) a b (picked f up down) (whole_pair c' a' b') (l.0, l.1, l.2)
          (λ n. found_is f (seen_pair c out a b) a b a' b' up down ra rb (found_side out c c' f a b i h n))),
      l.3,
    )

pub retired_held : (p q : Part) (r : Option Chunk) → Retires p r q → IsHeld p → IsHeld q
retired_held p q r h k = let n = h.2 in let e = h.1.4 in omega (arith, n, e, k)

pub retires_back : (p q : Part) (r : Option Chunk) → Retires p r q → GivesBack p r
retires_back p q r h = (let n = h.2 in omega (arith, n), h.3)

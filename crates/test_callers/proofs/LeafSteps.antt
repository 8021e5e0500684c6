-- Tickets while a word with a site is stepped by hand.
use Rattle.std.proofs.Common.{◌≡◌, ◌||◌, Bool, true, false, List, refl, ap}
use Rattle.cd_step.specs.Parts.{Part}
use Rattle.cd_scope.specs.declared.table.Held.{Held}
use Rattle.cd_node.specs.Nodes.{AreHeld, fed_node}
use Rattle.cd_node.specs.declared.protocol.NodeInput.{NodeInput}
use Rattle.cd_node.specs.declared.protocol.NodeInput.TheVariants.{Start, Chunk, End, Next, Acquired, Gave, GaveEnd, Wrote, Closed}
use Rattle.cd_node.proofs.Tickets.{ticket_own}
use Rattle.test_callers.specs.declared.leaf_runs.Leaf.{Leaf}
use Rattle.test_callers.specs.declared.leaf_runs.Leaf.TheVariants as leaf
use Rattle.test_callers.specs.Leaves.{IsInputHeld, IsOnBytes, seen_leaf}

pub leaf_takes : (l : Leaf) → IsOnBytes (seen_leaf l).takes
leaf_takes (leaf.Source l) = tt
leaf_takes (leaf.Sink l) = refl

-- the ticket of an input is of the scope
pub input_held : (i : NodeInput) (table : List Held) (p : Part) → AreHeld table (fed_node i p) → IsInputHeld table i
input_held (Acquired t) table p h = h t.site.0 t.descriptor.0 (ap (λ b. b || p.tickets t.site.0 t.descriptor.0) (ticket_own t))
input_held Start table p h = tt
input_held (Chunk c) table p h = tt
input_held End table p h = tt
input_held Next table p h = tt
input_held (Gave c) table p h = tt
input_held GaveEnd table p h = tt
input_held Wrote table p h = tt
input_held Closed table p h = tt

or_right : (a b : Bool) → b ≡ true → (a || b) ≡ true
or_right true b e = refl
or_right false b e = e

-- and those that a part has without its input
pub part_held : (i : NodeInput) (table : List Held) (p : Part) → AreHeld table (fed_node i p) → AreHeld table p
part_held (Acquired t) table p h = λ s d e. h s d (or_right _ (p.tickets s d) e)
part_held Start table p h = h
part_held (Chunk c) table p h = h
part_held End table p h = h
part_held Next table p h = h
part_held (Gave c) table p h = h
part_held GaveEnd table p h = h
part_held Wrote table p h = h
part_held Closed table p h = h

-- A tree that is stepped by hand.
use Rattle.std.proofs.Common.{◌≡◌, ◌∙◌, ℕ, List, refl, sym, subst}
use Rattle.cd_meaning.specs.Places.{Place}
use Rattle.cd_scope.specs.declared.table.Held.{Held}
use Rattle.cd_step.specs.Parts.{Kept, Part}
use Rattle.cd_node.specs.Nodes.{AreHeld, GoesNode, fed_node}
use Rattle.cd_node.specs.declared.protocol.NodeInput.{NodeInput}
use Rattle.cd_node.specs.declared.protocol.NodeInput.TheVariants.{Start, Chunk, End, Next, Acquired, Gave, GaveEnd, Wrote, Closed}
use Rattle.cd_node.specs.declared.protocol.NodeMove.{NodeMove}
use Rattle.cd_node.specs.declared.protocol.NodeMove.TheVariants.{Emit, Need, Acquire, Read, Write, Release, Done, Fault}
use Rattle.cd_node.proofs.Held.{held_by, held_kept}
use Rattle.cd_run.proofs.MoveSteps.{at_read, writes_at}
use Rattle.test_callers.specs.Leaves.{IsOnBytes}
use Rattle.test_callers.specs.Trees.{MayBeDone}

-- what a move of a tree asks for may be done, where the scope made its tickets
pub may_be_done : (table : List Held) (place : ℕ → Place) (m : NodeMove) (p q : Part) → GoesNode place m p q → Kept p q → AreHeld table p → MayBeDone table place m
may_be_done table place (Emit d) p q go kept held = tt
may_be_done table place Need p q go kept held = tt
may_be_done table place (Acquire s) p q go kept held = go.file
may_be_done table place (Read s d) p q go kept held = (at_read place p q (Read s d) go s d refl table (held_kept table p q kept held)).readable
may_be_done table place (Write s d c) p q go kept held = (go.bytes, writes_at place p q (Write s d c) go s d c refl table (held_kept table p q kept held))
may_be_done table place (Release t) p q go kept held = held_by table t p q held go
may_be_done table place (Done v r) p q go kept held = tt
may_be_done table place (Fault f) p q go kept held = tt

pub fed_takes : (i : NodeInput) (p : Part) → (fed_node i p).takes ≡ p.takes
fed_takes Start p = refl
fed_takes (Chunk c) p = refl
fed_takes End p = refl
fed_takes Next p = refl
fed_takes (Acquired t) p = refl
fed_takes (Gave c) p = refl
fed_takes GaveEnd p = refl
fed_takes Wrote p = refl
fed_takes Closed p = refl

-- a step changes nothing of what it takes
pub still_on_bytes : (i : NodeInput) (p q : Part) → Kept (fed_node i p) q → IsOnBytes p.takes → IsOnBytes q.takes
still_on_bytes i p q kept on = subst IsOnBytes (sym (kept.3 ∙ fed_takes i p)) on

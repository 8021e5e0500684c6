-- A step of a bracket round a node.
use Rattle.std.proofs.Common.{ℕ, [], refl}
use Rattle.cd_meaning.specs.Places.{Place, Marks}
use Rattle.cd_step.specs.Flows.{Same}
use Rattle.cd_step.specs.Parts.{Part, Kept}
use Rattle.cd_step.specs.declared.protocol.Move.TheVariants.{Emit as PlainEmit, Need as PlainNeed, Done as PlainDone, Fault as PlainFault}
use Rattle.cd_step.proofs.Moving.{after_acts, goes_after, kept_after}
use Rattle.cd_node.specs.Marks.{MarksPlace, whole_mark}
use Rattle.cd_node.specs.Nodes.{GoesNode}
use Rattle.cd_node.specs.Turns.{StepsOn}
use Rattle.cd_node.specs.declared.mark.Mark.{Mark}
use Rattle.cd_node.specs.declared.protocol.NodeMove.{NodeMove}
use Rattle.cd_node.specs.declared.protocol.NodeMove.TheVariants.{Emit, Need, Acquire, Read, Write, Release, Done, Fault}
use Rattle.cd_node.proofs.Marking.{mark_kept}

pub node_after : (place : ℕ → Place) (m : NodeMove) (p q r : Part) → Same p q → GoesNode place m q r → GoesNode place m p r
node_after place (Emit d) p q r s h = goes_after (PlainEmit d) p q r s h
node_after place Need p q r s h = goes_after PlainNeed p q r s h
node_after place (Acquire n) p q r s h = record { own = h.own; file = h.file; acts = record { is_at = h.acts.is_at; goes = after_acts _ p q r s h.acts.goes } }
node_after place (Read n d) p q r s h = record { is_at = h.is_at; own = h.own; readable = h.readable; goes = after_acts [] p q r s h.goes; stops = h.stops }
node_after place (Write n d c) p q r s h = record { own = h.own; writable = h.writable; bytes = h.bytes; some = h.some; acts = record { is_at = h.acts.is_at; goes = after_acts _ p q r s h.acts.goes } }
node_after place (Release t) p q r s h = record { own = h.own; live = s.kept.5 t.site.0 t.descriptor.0 h.live; gone = h.gone; acts = record { is_at = h.acts.is_at; goes = after_acts _ p q r s h.acts.goes } }
node_after place (Done v x) p q r s h = goes_after (PlainDone v x) p q r s h
node_after place (Fault f) p q r s h = goes_after (PlainFault f) p q r s h

-- a move of the bracket itself
pub own_steps : (stands : (ℕ → Place) → Type 0) (m : Mark) (made : NodeMove) (w q : Part) → ((place : ℕ → Place) → MarksPlace m place → GoesNode place made w q)
    → StepsOn (λ place. stands place × MarksPlace m place) made w q
own_steps stands m made w q h = record { some = (λ s. Marks [], h (λ s. Marks []) ([], refl)); all = λ place k. h place k.1 }

-- a move of the body
pub body_steps : (stands own : (ℕ → Place) → Type 0) (made result : NodeMove) (w p q x y : Part) → StepsOn stands made p q → Same w x → ((place : ℕ → Place) → GoesNode place made p q → GoesNode place result x y)
    → StepsOn (λ place. stands place × own place) result w y
body_steps stands own made result w p q x y h s f = record {
  some = (h.some.0, node_after h.some.0 result w x y s (f h.some.0 h.some.1));
  all = λ place k. node_after place result w x y s (f place (h.all place k.0));
}

-- where the body's step is refused
pub refused_kept : (w : Part) (m : Mark) (p q : Part) → Same w (whole_mark m p) → Kept p q → Kept w (whole_mark m q)
refused_kept w m p q s k = kept_after w (whole_mark m p) (whole_mark m q) s.kept (mark_kept m.stand m.stand m.port.site.0 m.port.ticket m.port.ticket p q (λ n d e. e) k)

-- The steps of the trees that are timed.
use Rattle.std.proofs.Common.{◌≡◌, ℕ, zero, suc, Bool, true, false, Option, Some, None, refl, sym, ◌∙◌, subst}
use Rattle.cd_elem.specs.declared.kind.Kind.{Kind}
use Rattle.cd_elem.specs.declared.kind.Kind.TheVariants.{Bytes}
use Rattle.cd_scope.specs.Uses.{HasFile}
use Rattle.cd_step.specs.Parts.{Chunk, IsChunk, IsOf, Kept, Part}
use Rattle.cd_node.specs.Nodes.{GoesNode, HasNoTicket, fed_node}
use Rattle.cd_node.specs.Trees.{IsWell, StandsAt, seen}
use Rattle.cd_node.specs.declared.node.Node.{Node}
use Rattle.cd_node.specs.declared.protocol.NodeMove.{NodeMove}
use Rattle.cd_node.specs.declared.protocol.NodeMove.TheVariants.{Emit, Need, Acquire, Read, Write, Release, Done, Fault}
use Rattle.bench.specs.TimedTrees.{IsTimed, IsTimedMove, OnBytes, input_of, places}
use Rattle.bench.specs.declared.steps.Answer.{Answer}
use Rattle.bench.specs.declared.steps.Answer.TheVariants as answer

-- ---- what comes into a tree changes neither its tickets nor its kinds

fed_tickets : (a : Answer) (p : Part) (s d : ℕ) → (fed_node (input_of a) p).tickets s d ≡ p.tickets s d
fed_tickets answer.Start p s d = refl
fed_tickets answer.Next p s d = refl
fed_tickets (answer.Chunk c) p s d = refl
fed_tickets (answer.Gave c) p s d = refl
fed_tickets answer.Wrote p s d = refl

fed_gives : (a : Answer) (p : Part) → (fed_node (input_of a) p).gives ≡ p.gives
fed_gives answer.Start p = refl
fed_gives answer.Next p = refl
fed_gives (answer.Chunk c) p = refl
fed_gives (answer.Gave c) p = refl
fed_gives answer.Wrote p = refl

fed_takes : (a : Answer) (p : Part) → (fed_node (input_of a) p).takes ≡ p.takes
fed_takes answer.Start p = refl
fed_takes answer.Next p = refl
fed_takes (answer.Chunk c) p = refl
fed_takes (answer.Gave c) p = refl
fed_takes answer.Wrote p = refl

pub fed_no_ticket : (a : Answer) (p : Part) → HasNoTicket p → HasNoTicket (fed_node (input_of a) p)
fed_no_ticket a p h s d = fed_tickets a p s d ∙ h s d

pub none_kept : (p q : Part) → Kept p q → HasNoTicket p → HasNoTicket q
none_kept p q k h s d = by (q.tickets s d) refl where
  by : (b : Bool) → q.tickets s d ≡ b → q.tickets s d ≡ false
  by false e = e
  by true e = let no_way : false ≡ true = sym (h s d) ∙ k.5 s d e in cc

-- what a step keeps of a tree
pub timed_kept : (a : Answer) (n m : Node) → IsTimed n → IsWell m → StandsAt m places → Kept (fed_node (input_of a) (seen n)) (seen m) → IsTimed m
timed_kept a n m h w s k = record {
  well = w;
  stands = s;
  no_ticket = none_kept (fed_node (input_of a) (seen n)) (seen m) k (fed_no_ticket a (seen n) h.no_ticket);
  gives = subst OnBytes (sym (k.2 ∙ fed_gives a (seen n))) h.gives;
  takes = subst OnBytes (sym (k.3 ∙ fed_takes a (seen n))) h.takes;
}

-- ---- moves

gives_bytes : (k : Option Kind) (c : Chunk) → OnBytes k → IsOf k c → IsChunk Bytes c
gives_bytes None c o h = absurd h
gives_bytes (Some k) c o h = subst (λ j. IsChunk j c) o h

no_file : (s : ℕ) → HasFile (places s) → ⊥
no_file zero h = h
no_file (suc zero) h = h
no_file (suc (suc s)) h = h

pub timed_move : (m : NodeMove) (p q : Part) → GoesNode places m p q → OnBytes p.gives → HasNoTicket p → IsTimedMove m
timed_move (Emit d) p q g o h = gives_bytes p.gives d o g.0
timed_move Need p q g o h = tt
timed_move (Acquire s) p q g o h = no_file s.0 g.file
timed_move (Read s d) p q g o h = tt
timed_move (Write s d c) p q g o h = tt
timed_move (Release t) p q g o h = let no_way : false ≡ true = sym (h t.site.0 t.descriptor.0) ∙ g.live in cc
timed_move (Done v r) p q g o h = tt
timed_move (Fault f) p q g o h = tt

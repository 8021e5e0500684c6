-- A node's plain words are those of a part without sites.
use Rattle.std.proofs.Common.{◌≡◌, ℕ, refl, subst}
use Rattle.cd_meaning.specs.Places.{Place, ReadsInput}
use Rattle.cd_step.specs.declared.protocol.Input.{Input}
use Rattle.cd_step.specs.declared.protocol.Input.TheVariants.{Start as PlainStart, Chunk as PlainChunk, End as PlainEnd, Next as PlainNext}
use Rattle.cd_step.specs.declared.protocol.Move.{Move}
use Rattle.cd_step.specs.declared.protocol.Move.TheVariants.{Emit as PlainEmit, Need as PlainNeed, Done as PlainDone, Fault as PlainFault}
use Rattle.cd_step.specs.declared.protocol.Stand.{Stand}
use Rattle.cd_step.specs.declared.protocol.Stand.TheVariants.{Fresh as IsFresh, Wait as IsWait, Gave as HasGiven, Over as IsOver}
use Rattle.cd_step.specs.Parts.{Opens, Writes, Closes, Part, IsReads, part_at, Answers, fed, Goes}
use Rattle.cd_node.specs.Nodes.{AnswersNode, GoesNode, fed_node}
use Rattle.cd_node.specs.PlainWords.{node_input, node_move, IsPlain}
use Rattle.cd_node.specs.Turns.{StepsOn}
use Rattle.cd_node.specs.declared.protocol.NodeInput.{NodeInput}
use Rattle.cd_node.specs.declared.protocol.NodeInput.TheVariants.{Start, Chunk, End, Next, Acquired, Gave, GaveEnd, Wrote, Closed}

pub answers_plain : (p : Part) (i : Input) → AnswersNode p (node_input i) → Answers p i
answers_plain p PlainStart h = h
answers_plain p (PlainChunk c) h = h
answers_plain p PlainEnd h = h
answers_plain p PlainNext h = h

pub answers_node : (p : Part) (i : Input) → Answers p i → AnswersNode p (node_input i)
answers_node p PlainStart h = h
answers_node p (PlainChunk c) h = h
answers_node p PlainEnd h = h
answers_node p PlainNext h = h

pub fed_plain : (i : Input) (p : Part) → fed_node (node_input i) p ≡ fed i p
fed_plain PlainStart p = refl
fed_plain (PlainChunk c) p = refl
fed_plain PlainEnd p = refl
fed_plain PlainNext p = refl

pub goes_plain : (place : ℕ → Place) (m : Move) (p q : Part) → GoesNode place (node_move m) p q → Goes m p q
goes_plain place (PlainEmit d) p q h = h
goes_plain place PlainNeed p q h = h
goes_plain place (PlainDone v r) p q h = h
goes_plain place (PlainFault f) p q h = h

pub goes_node : (place : ℕ → Place) (m : Move) (p q : Part) → Goes m p q → GoesNode place (node_move m) p q
goes_node place (PlainEmit d) p q h = h
goes_node place PlainNeed p q h = h
goes_node place (PlainDone v r) p q h = h
goes_node place (PlainFault f) p q h = h

-- a plain move is the same step wherever the sites are
pub steps_plain : (stands : (ℕ → Place) → Type 0) (m : Move) (p q : Part) → Goes m p q → StepsOn stands (node_move m) p q
steps_plain stands m p q h = record { some = (λ s. ReadsInput, goes_node (λ s. ReadsInput) m p q h); all = λ place e. goes_node place m p q h }

-- ---- a part that no site keeps waiting hears plain words alone

not_opens : (s : Stand) (t : ℕ) → part_at s ≡ Opens t → ⊥
not_opens IsFresh t e = cc
not_opens IsWait t e = cc
not_opens HasGiven t e = cc
not_opens IsOver t e = cc

not_writes : (s : Stand) → part_at s ≡ Writes → ⊥
not_writes IsFresh e = cc
not_writes IsWait e = cc
not_writes HasGiven e = cc
not_writes IsOver e = cc

not_closes : (s : Stand) → part_at s ≡ Closes → ⊥
not_closes IsFresh e = cc
not_closes IsWait e = cc
not_closes HasGiven e = cc
not_closes IsOver e = cc

not_reads : (s : Stand) → IsReads (part_at s) → ⊥
not_reads IsFresh e = e
not_reads IsWait e = e
not_reads HasGiven e = e
not_reads IsOver e = e

pub stand_plain : (i : NodeInput) (p : Part) (s : Stand) → p.at ≡ part_at s → AnswersNode p i → IsPlain i
stand_plain Start p s e h = tt
stand_plain (Chunk c) p s e h = tt
stand_plain End p s e h = tt
stand_plain Next p s e h = tt
stand_plain (Acquired t) p s e h = absurd (not_opens s t.site.0 (subst (λ x. x ≡ Opens t.site.0) e h))
stand_plain (Gave c) p s e h = absurd (not_reads s (subst IsReads e h.0))
stand_plain GaveEnd p s e h = absurd (not_reads s (subst IsReads e h))
stand_plain Wrote p s e h = absurd (not_writes s (subst (λ x. x ≡ Writes) e h))
stand_plain Closed p s e h = absurd (not_closes s (subst (λ x. x ≡ Closes) e h))

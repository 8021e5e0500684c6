use Rattle.std.proofs.Common.{ℕ, ◌+◌, ◌≤◌, List, refl, sym, ap, ◌∙◌, subst}
use Rattle.std.specs.Prelude.{Contains}
use Rattle.cd_elem.specs.declared.site.Site.{Site}
use Rattle.cd_meaning.specs.Places.{Place}
use Rattle.cd_meaning.specs.Stream.{Effect}
use Rattle.cd_world.specs.Live.{Open}
use Rattle.cd_scope.specs.declared.table.Held.{Held}
use Rattle.cd_scope.specs.Calls.{does, held_at}
use Rattle.cd_scope.specs.State.{held_in, room_in}
use Rattle.cd_scope.specs.Table.{IsOpen}
use Rattle.cd_scope.specs.Uses.{WritesAt}
use Rattle.cd_node.specs.Nodes.{GoesNode, fed_node}
use Rattle.cd_node.specs.declared.protocol.NodeInput.TheVariants.{Acquired, End}
use Rattle.cd_node.proofs.Held.{held_by, held_kept, held_released}
use Rattle.cd_run.specs.Ends.{Faulted}
use Rattle.cd_run.specs.Gathers.{waiting}
use Rattle.cd_run.specs.Going.{Going, outside, places_of}
use Rattle.cd_run.specs.Statements.{Spends, within, left_run}
use Rattle.cd_run.proofs.Gathering.{as_for, may_write, none_for, none_left, none_waits}
use Rattle.cd_run.proofs.MoveSteps.{acquires_waits, releases_waits, emits, needs, acquires, reads, writes, releases, is_done, faults, emits_falls, needs_falls, acquires_falls, writes_falls, releases_falls, next_answers, end_answers, acquired_answers, wrote_answers, closed_answers, emits_forgets, needs_forgets, acquires_forgets, reads_forgets, writes_forgets, releases_forgets, fed_sites, acquired_there, writes_at, at_read, as_open}
use Rattle.cd_run.proofs.Rooms.{spends_none, acquires_room, acquires_spends, emits_spends, needs_spends, reads_spends, releases_spends, spends_after, spent, writes_spends}
use Rattle.cd_run.proofs.RunSteps.{acquire_stays, release_stays}
use Rattle.cd_run.proofs.Steps.{refused}
use Rattle.cd_run.proofs.WriteSteps.{is_writable}
use Rattle.cd_run.proofs.drive.advance.Goals as goal

pub returns-in_default-clause-told : goal.returns-in_default-clause-told
returns-in_default-clause-told g c = λ tells s base placed same o m left k w0 go. refused s m (held_in c.loop-made.scope) (λ all z. does (waiting c.loop-made.buffers.gathered) (within (left_run (fed_node c.loop-made.input (g.N.StatementNode.seen c.loop-made.node))) k all z)) w0 (outside (g.W.World.log c.loop-made.world) (g.W.World.files c.loop-made.world)) (outside (g.W.World.log c.loop-made.world) (g.W.World.files c.loop-made.world)) (c.loop-made.invariant.told tells s base placed same o m left k w0 go) refl

pub returns-in-Err-clause-told : goal.returns-in-Err-clause-told
returns-in-Err-clause-told g c = λ tells s base placed same o m left k w0 go. subst (λ (t : List Held). Faulted s m c.in-Err.fault t w0 (outside (g.W.World.log c.write_before.new.world) (g.W.World.files c.write_before.new.world))) (sym (ap held_in c.abandon_move.ensures)) (c.in-Err.ensures.told tells s base (held_in c.loop-made.scope) same (as_open (places_of c.args.sites.now) s.place placed base (g.W.World.live c.loop-made.world) (held_in c.loop-made.scope) (c.loop-made.invariant.open base o)) (as_for (places_of c.args.sites.now) s.place placed (held_in c.loop-made.scope) c.loop-made.buffers.gathered c.loop-made.invariant.waits) m left (within (left_run (fed_node c.loop-made.input (g.N.StatementNode.seen c.loop-made.node))) k) w0 (c.loop-made.invariant.told tells s base placed same o m left k w0 go))

pub returns-in-Err-clause-spent : goal.returns-in-Err-clause-spent
returns-in-Err-clause-spent g c = λ most few. subst (λ n. (room_in c.args.scope.now) ≤ n + most) (sym (ap room_in c.abandon_move.ensures)) (spent (fed_node c.args.first (g.N.StatementNode.seen c.args.node.now)) (fed_node c.loop-made.input (g.N.StatementNode.seen c.loop-made.node)) (room_in c.args.scope.now) (room_in c.loop-made.scope) c.loop-made.invariant.room most few)

pub returns-in-Err-clause-stays : goal.returns-in-Err-clause-stays
returns-in-Err-clause-stays g c = λ h none has. subst (λ (t : List Held). Contains t h) (sym (ap held_in c.abandon_move.ensures)) (c.loop-made.invariant.stays h none has)

pub loop-made-init : goal.loop-made-init
loop-made-init g c = record {
  well = c.requires.well;
  answers = c.requires.answers;
  sites = refl;
  stands = c.requires.stands;
  held = c.requires.held;
  waits = none_for (places_of c.args.sites.now) (held_in c.args.scope.now) c.clear.new.self c.clear.ensures;
  stays = λ h none has. has;
  room = spends_none (fed_node c.args.first (g.N.StatementNode.seen c.args.node.now)) (room_in c.args.scope.now);
  calm = refl;
  «open» = λ base o. o;
  forgets = λ x ig. ig;
  told = λ tells s base placed same o m left k w0 go. subst (λ (es : List Effect). Going s m (held_in c.args.scope.now) left (λ all z. does es (within (left_run (fed_node c.args.first (g.N.StatementNode.seen c.args.node.now))) k all z)) w0 (outside (g.W.World.log c.args.world.now) (g.W.World.files c.args.world.now))) (sym (none_waits c.clear.new.self c.clear.ensures)) go;
}

pub abandon_move-requires : goal.abandon_move-requires
abandon_move-requires g c = λ ticket is. held_by (held_in c.loop-made.scope) ticket (fed_node c.loop-made.input (g.N.StatementNode.seen c.loop-made.node)) (g.N.StatementNode.seen c.step.new.self) c.loop-made.invariant.held (subst (λ x. GoesNode (places_of c.args.sites.now) x (fed_node c.loop-made.input (g.N.StatementNode.seen c.loop-made.node)) (g.N.StatementNode.seen c.step.new.self)) is (c.in-Ok.ensures.law (places_of c.args.sites.now) c.loop-made.invariant.stands))

pub write_before-requires : goal.write_before-requires
write_before-requires g c = record { writable = may_write (places_of c.args.sites.now) c.requires.open.0 (g.W.World.live c.loop-made.world) (held_in c.loop-made.scope) (c.loop-made.invariant.open c.requires.open.0 c.requires.open.1) c.loop-made.buffers.gathered c.loop-made.invariant.waits }

pub put-requires-clause-waits : goal.put-requires-clause-waits
put-requires-clause-waits g c = may_write (places_of c.args.sites.now) c.requires.open.0 (g.W.World.live c.write_before.new.world) (held_in c.loop-made.scope) (subst (λ (l : List Open). IsOpen (places_of c.args.sites.now) c.requires.open.0 (held_in c.loop-made.scope) l) (sym c.write_before.ensures.live) (c.loop-made.invariant.open c.requires.open.0 c.requires.open.1)) c.write_before.new.self (c.write_before.ensures.stays (places_of c.args.sites.now) (held_in c.loop-made.scope) c.loop-made.invariant.waits)

pub returns-in_default-clause-spent : goal.returns-in_default-clause-spent
returns-in_default-clause-spent g c = spent (fed_node c.args.first (g.N.StatementNode.seen c.args.node.now)) (fed_node c.loop-made.input (g.N.StatementNode.seen c.loop-made.node)) (room_in c.args.scope.now) (room_in c.loop-made.scope) c.loop-made.invariant.room

pub returns-in-Read-clause-spent : goal.returns-in-Read-clause-spent
returns-in-Read-clause-spent g c = spent (fed_node c.args.first (g.N.StatementNode.seen c.args.node.now)) (fed_node c.loop-made.input (g.N.StatementNode.seen c.loop-made.node)) (room_in c.args.scope.now) (room_in c.loop-made.scope) c.loop-made.invariant.room

pub returns-in-Done-clause-spent : goal.returns-in-Done-clause-spent
returns-in-Done-clause-spent g c = spent (fed_node c.args.first (g.N.StatementNode.seen c.args.node.now)) (fed_node c.loop-made.input (g.N.StatementNode.seen c.loop-made.node)) (room_in c.args.scope.now) (room_in c.loop-made.scope) c.loop-made.invariant.room

pub returns-in-Fault-clause-spent : goal.returns-in-Fault-clause-spent
returns-in-Fault-clause-spent g c = spent (fed_node c.args.first (g.N.StatementNode.seen c.args.node.now)) (fed_node c.loop-made.input (g.N.StatementNode.seen c.loop-made.node)) (room_in c.args.scope.now) (room_in c.loop-made.scope) c.loop-made.invariant.room

pub returns-in-Err-acquire-clause-spent : goal.returns-in-Err-acquire-clause-spent
returns-in-Err-acquire-clause-spent g c = λ most few. subst (λ n. (room_in c.args.scope.now) ≤ n + most) (sym c.in-Err-acquire.ensures.same_room) (spent (fed_node c.args.first (g.N.StatementNode.seen c.args.node.now)) (fed_node c.loop-made.input (g.N.StatementNode.seen c.loop-made.node)) (room_in c.args.scope.now) (room_in c.loop-made.scope) c.loop-made.invariant.room most few)

pub returns-in-Err-put-clause-spent : goal.returns-in-Err-put-clause-spent
returns-in-Err-put-clause-spent g c = spent (fed_node c.args.first (g.N.StatementNode.seen c.args.node.now)) (fed_node c.loop-made.input (g.N.StatementNode.seen c.loop-made.node)) (room_in c.args.scope.now) (room_in c.loop-made.scope) c.loop-made.invariant.room

pub returns-in-Err-release-clause-spent : goal.returns-in-Err-release-clause-spent
returns-in-Err-release-clause-spent g c = λ most few. subst (λ n. (room_in c.args.scope.now) ≤ n + most) (sym c.release.ensures.room) (spent (fed_node c.args.first (g.N.StatementNode.seen c.args.node.now)) (fed_node c.loop-made.input (g.N.StatementNode.seen c.loop-made.node)) (room_in c.args.scope.now) (room_in c.loop-made.scope) c.loop-made.invariant.room most few)

pub returns-in-Read-clause-told : goal.returns-in-Read-clause-told
returns-in-Read-clause-told g c = λ tells s base placed same o m left k w0 go. reads s m k w0 (outside (g.W.World.log c.write_before.new.world) (g.W.World.files c.write_before.new.world)) (places_of c.args.sites.now) (fed_node c.loop-made.input (g.N.StatementNode.seen c.loop-made.node)) (g.N.StatementNode.seen c.step.new.self) c.in-Ok.made (c.in-Ok.ensures.law (places_of c.args.sites.now) c.loop-made.invariant.stands) (waiting c.loop-made.buffers.gathered) (waiting c.write_before.new.self) c.in-Ok-write_before.ensures.waits (c.in-Ok-write_before.ensures.told tells s base (held_in c.loop-made.scope) same (as_open (places_of c.args.sites.now) s.place placed base (g.W.World.live c.loop-made.world) (held_in c.loop-made.scope) (c.loop-made.invariant.open base o)) (as_for (places_of c.args.sites.now) s.place placed (held_in c.loop-made.scope) c.loop-made.buffers.gathered c.loop-made.invariant.waits) m left (within (left_run (fed_node c.loop-made.input (g.N.StatementNode.seen c.loop-made.node))) k) w0 (c.loop-made.invariant.told tells s base placed same o m left k w0 go)) c.in-Read.site c.in-Read.descriptor c.in-Read.is

pub returns-in-Read-clause-forgets : goal.returns-in-Read-clause-forgets
returns-in-Read-clause-forgets g c = λ x ig. reads_forgets (places_of c.args.sites.now) (fed_node c.loop-made.input (g.N.StatementNode.seen c.loop-made.node)) (g.N.StatementNode.seen c.step.new.self) c.in-Ok.made (c.in-Ok.ensures.law (places_of c.args.sites.now) c.loop-made.invariant.stands) x (c.loop-made.invariant.forgets x ig) c.in-Read.site c.in-Read.descriptor c.in-Read.is

pub returns-in-Read-clause-paused : goal.returns-in-Read-clause-paused
returns-in-Read-clause-paused g c = at_read (places_of c.args.sites.now) (fed_node c.loop-made.input (g.N.StatementNode.seen c.loop-made.node)) (g.N.StatementNode.seen c.step.new.self) c.in-Ok.made (c.in-Ok.ensures.law (places_of c.args.sites.now) c.loop-made.invariant.stands) c.in-Read.site c.in-Read.descriptor c.in-Read.is (held_in c.loop-made.scope) (held_kept (held_in c.loop-made.scope) (fed_node c.loop-made.input (g.N.StatementNode.seen c.loop-made.node)) (g.N.StatementNode.seen c.step.new.self) c.step.ensures.kept c.loop-made.invariant.held)

pub returns-in-Read-clause-room : goal.returns-in-Read-clause-room
returns-in-Read-clause-room g c = spends_after (fed_node c.args.first (g.N.StatementNode.seen c.args.node.now)) (fed_node c.loop-made.input (g.N.StatementNode.seen c.loop-made.node)) (g.N.StatementNode.seen c.step.new.self) (room_in c.args.scope.now) (room_in c.loop-made.scope) (room_in c.loop-made.scope) c.loop-made.invariant.room (reads_spends (places_of c.args.sites.now) (fed_node c.loop-made.input (g.N.StatementNode.seen c.loop-made.node)) (g.N.StatementNode.seen c.step.new.self) c.in-Ok.made (c.in-Ok.ensures.law (places_of c.args.sites.now) c.loop-made.invariant.stands) (room_in c.loop-made.scope) c.in-Read.site c.in-Read.descriptor c.in-Read.is)

pub returns-in-Done-clause-told : goal.returns-in-Done-clause-told
returns-in-Done-clause-told g c = λ tells s base placed same o m left k w0 go. is_done s m k w0 (outside (g.W.World.log c.write_before.new.world) (g.W.World.files c.write_before.new.world)) (places_of c.args.sites.now) (fed_node c.loop-made.input (g.N.StatementNode.seen c.loop-made.node)) (g.N.StatementNode.seen c.step.new.self) c.in-Ok.made (c.in-Ok.ensures.law (places_of c.args.sites.now) c.loop-made.invariant.stands) (waiting c.loop-made.buffers.gathered) (waiting c.write_before.new.self) c.in-Ok-write_before.ensures.waits (c.in-Ok-write_before.ensures.told tells s base (held_in c.loop-made.scope) same (as_open (places_of c.args.sites.now) s.place placed base (g.W.World.live c.loop-made.world) (held_in c.loop-made.scope) (c.loop-made.invariant.open base o)) (as_for (places_of c.args.sites.now) s.place placed (held_in c.loop-made.scope) c.loop-made.buffers.gathered c.loop-made.invariant.waits) m left (within (left_run (fed_node c.loop-made.input (g.N.StatementNode.seen c.loop-made.node))) k) w0 (c.loop-made.invariant.told tells s base placed same o m left k w0 go)) c.in-Done.value c.in-Done.rest c.in-Done.is

pub returns-in-Fault-clause-told : goal.returns-in-Fault-clause-told
returns-in-Fault-clause-told g c = λ tells s base placed same o m left k w0 go. faults s m k w0 (outside (g.W.World.log c.write_before.new.world) (g.W.World.files c.write_before.new.world)) (places_of c.args.sites.now) (fed_node c.loop-made.input (g.N.StatementNode.seen c.loop-made.node)) (g.N.StatementNode.seen c.step.new.self) c.in-Ok.made (c.in-Ok.ensures.law (places_of c.args.sites.now) c.loop-made.invariant.stands) (waiting c.loop-made.buffers.gathered) (waiting c.write_before.new.self) c.in-Ok-write_before.ensures.waits (c.in-Ok-write_before.ensures.told tells s base (held_in c.loop-made.scope) same (as_open (places_of c.args.sites.now) s.place placed base (g.W.World.live c.loop-made.world) (held_in c.loop-made.scope) (c.loop-made.invariant.open base o)) (as_for (places_of c.args.sites.now) s.place placed (held_in c.loop-made.scope) c.loop-made.buffers.gathered c.loop-made.invariant.waits) m left (within (left_run (fed_node c.loop-made.input (g.N.StatementNode.seen c.loop-made.node))) k) w0 (c.loop-made.invariant.told tells s base placed same o m left k w0 go)) c.in-Fault.fault c.in-Fault.is

pub acquire-requires-clause-file : goal.acquire-requires-clause-file
acquire-requires-clause-file g c = (subst (λ x. GoesNode (places_of c.args.sites.now) x (fed_node c.loop-made.input (g.N.StatementNode.seen c.loop-made.node)) (g.N.StatementNode.seen c.step.new.self)) c.in-Acquire.is (c.in-Ok.ensures.law (places_of c.args.sites.now) c.loop-made.invariant.stands)).file

pub acquire-requires-clause-room : goal.acquire-requires-clause-room
acquire-requires-clause-room g c = acquires_room (places_of c.args.sites.now) (fed_node c.loop-made.input (g.N.StatementNode.seen c.loop-made.node)) (g.N.StatementNode.seen c.step.new.self) c.in-Ok.made (c.in-Ok.ensures.law (places_of c.args.sites.now) c.loop-made.invariant.stands) (room_in c.loop-made.scope) c.in-Acquire.site c.in-Acquire.is (fed_node c.args.first (g.N.StatementNode.seen c.args.node.now)) (room_in c.args.scope.now) c.requires.room c.loop-made.invariant.room

pub returns-in-Err-acquire-clause-told : goal.returns-in-Err-acquire-clause-told
returns-in-Err-acquire-clause-told g c = λ tells s base placed same o m left k w0 go. c.in-Err-acquire.ensures.told tells s base placed same (subst (λ (l : List Open). IsOpen (places_of c.args.sites.now) base (held_in c.loop-made.scope) l) (sym c.write_before.ensures.live) (c.loop-made.invariant.open base o)) m left (within (left_run (g.N.StatementNode.seen c.step.new.self)) k) w0 (acquires s m k w0 (outside (g.W.World.log c.write_before.new.world) (g.W.World.files c.write_before.new.world)) (places_of c.args.sites.now) (fed_node c.loop-made.input (g.N.StatementNode.seen c.loop-made.node)) (g.N.StatementNode.seen c.step.new.self) c.in-Ok.made (c.in-Ok.ensures.law (places_of c.args.sites.now) c.loop-made.invariant.stands) (waiting c.loop-made.buffers.gathered) (waiting c.write_before.new.self) c.in-Ok-write_before.ensures.waits (c.in-Ok-write_before.ensures.told tells s base (held_in c.loop-made.scope) same (as_open (places_of c.args.sites.now) s.place placed base (g.W.World.live c.loop-made.world) (held_in c.loop-made.scope) (c.loop-made.invariant.open base o)) (as_for (places_of c.args.sites.now) s.place placed (held_in c.loop-made.scope) c.loop-made.buffers.gathered c.loop-made.invariant.waits) m left (within (left_run (fed_node c.loop-made.input (g.N.StatementNode.seen c.loop-made.node))) k) w0 (c.loop-made.invariant.told tells s base placed same o m left k w0 go)) c.in-Acquire.site c.in-Acquire.is)

pub put-requires-clause-writable : goal.put-requires-clause-writable
put-requires-clause-writable g c = is_writable (places_of c.args.sites.now) c.requires.open.0 (g.W.World.live c.write_before.new.world) (held_in c.loop-made.scope) (subst (λ (l : List Open). IsOpen (places_of c.args.sites.now) c.requires.open.0 (held_in c.loop-made.scope) l) (sym c.write_before.ensures.live) (c.loop-made.invariant.open c.requires.open.0 c.requires.open.1)) c.in-Write.site.0 c.in-Write.descriptor (places_of c.args.sites.now c.in-Write.site.0) refl (writes_at (places_of c.args.sites.now) (fed_node c.loop-made.input (g.N.StatementNode.seen c.loop-made.node)) (g.N.StatementNode.seen c.step.new.self) c.in-Ok.made (c.in-Ok.ensures.law (places_of c.args.sites.now) c.loop-made.invariant.stands) c.in-Write.site c.in-Write.descriptor c.in-Write.chunk c.in-Write.is (held_in c.loop-made.scope) (held_kept (held_in c.loop-made.scope) (fed_node c.loop-made.input (g.N.StatementNode.seen c.loop-made.node)) (g.N.StatementNode.seen c.step.new.self) c.step.ensures.kept c.loop-made.invariant.held))

pub returns-in-Err-put-clause-told : goal.returns-in-Err-put-clause-told
returns-in-Err-put-clause-told g c = λ tells s base placed same o m left k w0 go. c.in-Err-put.ensures.told tells s base (held_in c.loop-made.scope) same (as_open (places_of c.args.sites.now) s.place placed base (g.W.World.live c.write_before.new.world) (held_in c.loop-made.scope) (subst (λ (l : List Open). IsOpen (places_of c.args.sites.now) base (held_in c.loop-made.scope) l) (sym c.write_before.ensures.live) (c.loop-made.invariant.open base o))) (c.write_before.ensures.stays s.place (held_in c.loop-made.scope) (as_for (places_of c.args.sites.now) s.place placed (held_in c.loop-made.scope) c.loop-made.buffers.gathered c.loop-made.invariant.waits)) (subst (λ (f : ℕ → Place). WritesAt (f c.in-Write.site.0) c.in-Write.descriptor.0 (Contains (held_in c.loop-made.scope) (held_at c.in-Write.site.0 c.in-Write.descriptor))) (sym placed) (writes_at (places_of c.args.sites.now) (fed_node c.loop-made.input (g.N.StatementNode.seen c.loop-made.node)) (g.N.StatementNode.seen c.step.new.self) c.in-Ok.made (c.in-Ok.ensures.law (places_of c.args.sites.now) c.loop-made.invariant.stands) c.in-Write.site c.in-Write.descriptor c.in-Write.chunk c.in-Write.is (held_in c.loop-made.scope) (held_kept (held_in c.loop-made.scope) (fed_node c.loop-made.input (g.N.StatementNode.seen c.loop-made.node)) (g.N.StatementNode.seen c.step.new.self) c.step.ensures.kept c.loop-made.invariant.held))) m left (within (left_run (g.N.StatementNode.seen c.step.new.self)) k) w0 (writes s m k w0 (outside (g.W.World.log c.write_before.new.world) (g.W.World.files c.write_before.new.world)) (places_of c.args.sites.now) (fed_node c.loop-made.input (g.N.StatementNode.seen c.loop-made.node)) (g.N.StatementNode.seen c.step.new.self) c.in-Ok.made (c.in-Ok.ensures.law (places_of c.args.sites.now) c.loop-made.invariant.stands) (waiting c.loop-made.buffers.gathered) (waiting c.write_before.new.self) c.in-Ok-write_before.ensures.waits (c.in-Ok-write_before.ensures.told tells s base (held_in c.loop-made.scope) same (as_open (places_of c.args.sites.now) s.place placed base (g.W.World.live c.loop-made.world) (held_in c.loop-made.scope) (c.loop-made.invariant.open base o)) (as_for (places_of c.args.sites.now) s.place placed (held_in c.loop-made.scope) c.loop-made.buffers.gathered c.loop-made.invariant.waits) m left (within (left_run (fed_node c.loop-made.input (g.N.StatementNode.seen c.loop-made.node))) k) w0 (c.loop-made.invariant.told tells s base placed same o m left k w0 go)) c.in-Write.site c.in-Write.descriptor c.in-Write.chunk c.in-Write.is)

pub release-requires-clause-there : goal.release-requires-clause-there
release-requires-clause-there g c = held_by (held_in c.loop-made.scope) c.in-Release.ticket (fed_node c.loop-made.input (g.N.StatementNode.seen c.loop-made.node)) (g.N.StatementNode.seen c.step.new.self) c.loop-made.invariant.held (subst (λ x. GoesNode (places_of c.args.sites.now) x (fed_node c.loop-made.input (g.N.StatementNode.seen c.loop-made.node)) (g.N.StatementNode.seen c.step.new.self)) c.in-Release.is (c.in-Ok.ensures.law (places_of c.args.sites.now) c.loop-made.invariant.stands))

pub returns-in-Err-release-clause-held : goal.returns-in-Err-release-clause-held
returns-in-Err-release-clause-held g c = held_released (held_in c.loop-made.scope) _ c.in-Release.ticket (fed_node c.loop-made.input (g.N.StatementNode.seen c.loop-made.node)) (g.N.StatementNode.seen c.step.new.self) c.loop-made.invariant.held c.step.ensures.kept (subst (λ x. GoesNode (places_of c.args.sites.now) x (fed_node c.loop-made.input (g.N.StatementNode.seen c.loop-made.node)) (g.N.StatementNode.seen c.step.new.self)) c.in-Release.is (c.in-Ok.ensures.law (places_of c.args.sites.now) c.loop-made.invariant.stands)) c.release.ensures.others

pub returns-in-Err-release-clause-told : goal.returns-in-Err-release-clause-told
returns-in-Err-release-clause-told g c = λ tells s base placed same o m left k w0 go. c.in-Err-release.ensures.told tells s base same (as_open (places_of c.args.sites.now) s.place placed base (g.W.World.live c.write_before.new.world) (held_in c.loop-made.scope) (subst (λ (l : List Open). IsOpen (places_of c.args.sites.now) base (held_in c.loop-made.scope) l) (sym c.write_before.ensures.live) (c.loop-made.invariant.open base o))) m left (within (left_run (g.N.StatementNode.seen c.step.new.self)) k) w0 (releases s m k w0 (outside (g.W.World.log c.write_before.new.world) (g.W.World.files c.write_before.new.world)) (places_of c.args.sites.now) (fed_node c.loop-made.input (g.N.StatementNode.seen c.loop-made.node)) (g.N.StatementNode.seen c.step.new.self) c.in-Ok.made (c.in-Ok.ensures.law (places_of c.args.sites.now) c.loop-made.invariant.stands) (waiting c.loop-made.buffers.gathered) (waiting c.write_before.new.self) c.in-Ok-write_before.ensures.waits (c.in-Ok-write_before.ensures.told tells s base (held_in c.loop-made.scope) same (as_open (places_of c.args.sites.now) s.place placed base (g.W.World.live c.loop-made.world) (held_in c.loop-made.scope) (c.loop-made.invariant.open base o)) (as_for (places_of c.args.sites.now) s.place placed (held_in c.loop-made.scope) c.loop-made.buffers.gathered c.loop-made.invariant.waits) m left (within (left_run (fed_node c.loop-made.input (g.N.StatementNode.seen c.loop-made.node))) k) w0 (c.loop-made.invariant.told tells s base placed same o m left k w0 go)) c.in-Release.ticket c.in-Release.is)

pub loop-made-smaller-in-Emit : goal.loop-made-smaller-in-Emit
loop-made-smaller-in-Emit g c = emits_falls (places_of c.args.sites.now) (fed_node c.loop-made.input (g.N.StatementNode.seen c.loop-made.node)) (g.N.StatementNode.seen c.step.new.self) c.in-Ok.made (c.in-Ok.ensures.law (places_of c.args.sites.now) c.loop-made.invariant.stands) c.in-Emit.chunk c.in-Emit.is

pub loop-made-smaller-in-Need : goal.loop-made-smaller-in-Need
loop-made-smaller-in-Need g c = needs_falls (places_of c.args.sites.now) (fed_node c.loop-made.input (g.N.StatementNode.seen c.loop-made.node)) (g.N.StatementNode.seen c.step.new.self) c.in-Ok.made (c.in-Ok.ensures.law (places_of c.args.sites.now) c.loop-made.invariant.stands) c.in-Need.is

pub loop-made-smaller-in-Ok-acquire : goal.loop-made-smaller-in-Ok-acquire
loop-made-smaller-in-Ok-acquire g c = acquires_falls (places_of c.args.sites.now) (fed_node c.loop-made.input (g.N.StatementNode.seen c.loop-made.node)) (g.N.StatementNode.seen c.step.new.self) c.in-Ok.made (c.in-Ok.ensures.law (places_of c.args.sites.now) c.loop-made.invariant.stands) c.in-Acquire.site c.in-Acquire.is

pub loop-made-smaller-in-Ok-put : goal.loop-made-smaller-in-Ok-put
loop-made-smaller-in-Ok-put g c = writes_falls (places_of c.args.sites.now) (fed_node c.loop-made.input (g.N.StatementNode.seen c.loop-made.node)) (g.N.StatementNode.seen c.step.new.self) c.in-Ok.made (c.in-Ok.ensures.law (places_of c.args.sites.now) c.loop-made.invariant.stands) c.in-Write.site c.in-Write.descriptor c.in-Write.chunk c.in-Write.is

pub loop-made-smaller : goal.loop-made-smaller
loop-made-smaller g c = releases_falls (places_of c.args.sites.now) (fed_node c.loop-made.input (g.N.StatementNode.seen c.loop-made.node)) (g.N.StatementNode.seen c.step.new.self) c.in-Ok.made (c.in-Ok.ensures.law (places_of c.args.sites.now) c.loop-made.invariant.stands) c.in-Release.ticket c.in-Release.is

pub loop-made-preserved-in-Emit : goal.loop-made-preserved-in-Emit
loop-made-preserved-in-Emit g c = record {
  well = c.in-Ok.ensures.well;
  answers = next_answers (places_of c.args.sites.now) (fed_node c.loop-made.input (g.N.StatementNode.seen c.loop-made.node)) (g.N.StatementNode.seen c.step.new.self) c.in-Ok.made (c.in-Ok.ensures.law (places_of c.args.sites.now) c.loop-made.invariant.stands) c.in-Emit.chunk c.in-Emit.is;
  sites = c.step.ensures.kept.1 ∙ fed_sites c.loop-made.input (g.N.StatementNode.seen c.loop-made.node) ∙ c.loop-made.invariant.sites;
  stands = c.step.ensures.places (places_of c.args.sites.now) c.loop-made.invariant.stands;
  held = (held_kept (held_in c.loop-made.scope) (fed_node c.loop-made.input (g.N.StatementNode.seen c.loop-made.node)) (g.N.StatementNode.seen c.step.new.self) c.step.ensures.kept c.loop-made.invariant.held);
  waits = c.write_before.ensures.stays (places_of c.args.sites.now) (held_in c.loop-made.scope) c.loop-made.invariant.waits;
  stays = λ h none has. c.loop-made.invariant.stays h none has;
  room = spends_after (fed_node c.args.first (g.N.StatementNode.seen c.args.node.now)) (fed_node c.loop-made.input (g.N.StatementNode.seen c.loop-made.node)) (g.N.StatementNode.seen c.step.new.self) (room_in c.args.scope.now) (room_in c.loop-made.scope) (room_in c.loop-made.scope) c.loop-made.invariant.room (emits_spends (places_of c.args.sites.now) (fed_node c.loop-made.input (g.N.StatementNode.seen c.loop-made.node)) (g.N.StatementNode.seen c.step.new.self) c.in-Ok.made (c.in-Ok.ensures.law (places_of c.args.sites.now) c.loop-made.invariant.stands) (room_in c.loop-made.scope) c.in-Emit.chunk c.in-Emit.is);
  calm = c.in-Ok-write_before.ensures.cause ∙ c.loop-made.invariant.calm;
  «open» = λ base o. (subst (λ (l : List Open). IsOpen (places_of c.args.sites.now) base (held_in c.loop-made.scope) l) (sym c.write_before.ensures.live) (c.loop-made.invariant.open base o));
  forgets = λ x ig. emits_forgets (places_of c.args.sites.now) (fed_node c.loop-made.input (g.N.StatementNode.seen c.loop-made.node)) (g.N.StatementNode.seen c.step.new.self) c.in-Ok.made (c.in-Ok.ensures.law (places_of c.args.sites.now) c.loop-made.invariant.stands) x (c.loop-made.invariant.forgets x ig) c.in-Emit.chunk c.in-Emit.is;
  told = λ tells s base placed same o m left k w0 go. emits s m k w0 (outside (g.W.World.log c.write_before.new.world) (g.W.World.files c.write_before.new.world)) (places_of c.args.sites.now) (fed_node c.loop-made.input (g.N.StatementNode.seen c.loop-made.node)) (g.N.StatementNode.seen c.step.new.self) c.in-Ok.made (c.in-Ok.ensures.law (places_of c.args.sites.now) c.loop-made.invariant.stands) (waiting c.loop-made.buffers.gathered) (waiting c.write_before.new.self) c.in-Ok-write_before.ensures.waits (c.in-Ok-write_before.ensures.told tells s base (held_in c.loop-made.scope) same (as_open (places_of c.args.sites.now) s.place placed base (g.W.World.live c.loop-made.world) (held_in c.loop-made.scope) (c.loop-made.invariant.open base o)) (as_for (places_of c.args.sites.now) s.place placed (held_in c.loop-made.scope) c.loop-made.buffers.gathered c.loop-made.invariant.waits) m left (within (left_run (fed_node c.loop-made.input (g.N.StatementNode.seen c.loop-made.node))) k) w0 (c.loop-made.invariant.told tells s base placed same o m left k w0 go)) c.in-Emit.chunk c.in-Emit.is;
}

pub loop-made-preserved-in-Need : goal.loop-made-preserved-in-Need
loop-made-preserved-in-Need g c = record {
  well = c.in-Ok.ensures.well;
  answers = end_answers (places_of c.args.sites.now) (fed_node c.loop-made.input (g.N.StatementNode.seen c.loop-made.node)) (g.N.StatementNode.seen c.step.new.self) c.in-Ok.made (c.in-Ok.ensures.law (places_of c.args.sites.now) c.loop-made.invariant.stands) c.in-Need.is;
  sites = c.step.ensures.kept.1 ∙ fed_sites c.loop-made.input (g.N.StatementNode.seen c.loop-made.node) ∙ c.loop-made.invariant.sites;
  stands = c.step.ensures.places (places_of c.args.sites.now) c.loop-made.invariant.stands;
  held = (held_kept (held_in c.loop-made.scope) (fed_node c.loop-made.input (g.N.StatementNode.seen c.loop-made.node)) (g.N.StatementNode.seen c.step.new.self) c.step.ensures.kept c.loop-made.invariant.held);
  waits = c.write_before.ensures.stays (places_of c.args.sites.now) (held_in c.loop-made.scope) c.loop-made.invariant.waits;
  stays = λ h none has. c.loop-made.invariant.stays h none has;
  room = spends_after (fed_node c.args.first (g.N.StatementNode.seen c.args.node.now)) (fed_node c.loop-made.input (g.N.StatementNode.seen c.loop-made.node)) (fed_node End (g.N.StatementNode.seen c.step.new.self)) (room_in c.args.scope.now) (room_in c.loop-made.scope) (room_in c.loop-made.scope) c.loop-made.invariant.room (needs_spends (places_of c.args.sites.now) (fed_node c.loop-made.input (g.N.StatementNode.seen c.loop-made.node)) (g.N.StatementNode.seen c.step.new.self) c.in-Ok.made (c.in-Ok.ensures.law (places_of c.args.sites.now) c.loop-made.invariant.stands) (room_in c.loop-made.scope) c.in-Need.is);
  calm = c.in-Ok-write_before.ensures.cause ∙ c.loop-made.invariant.calm;
  «open» = λ base o. (subst (λ (l : List Open). IsOpen (places_of c.args.sites.now) base (held_in c.loop-made.scope) l) (sym c.write_before.ensures.live) (c.loop-made.invariant.open base o));
  forgets = λ x ig. needs_forgets (places_of c.args.sites.now) (fed_node c.loop-made.input (g.N.StatementNode.seen c.loop-made.node)) (g.N.StatementNode.seen c.step.new.self) c.in-Ok.made (c.in-Ok.ensures.law (places_of c.args.sites.now) c.loop-made.invariant.stands) x (c.loop-made.invariant.forgets x ig) c.in-Need.is;
  told = λ tells s base placed same o m left k w0 go. needs s m k w0 (outside (g.W.World.log c.write_before.new.world) (g.W.World.files c.write_before.new.world)) (places_of c.args.sites.now) (fed_node c.loop-made.input (g.N.StatementNode.seen c.loop-made.node)) (g.N.StatementNode.seen c.step.new.self) c.in-Ok.made (c.in-Ok.ensures.law (places_of c.args.sites.now) c.loop-made.invariant.stands) (waiting c.loop-made.buffers.gathered) (waiting c.write_before.new.self) c.in-Ok-write_before.ensures.waits (c.in-Ok-write_before.ensures.told tells s base (held_in c.loop-made.scope) same (as_open (places_of c.args.sites.now) s.place placed base (g.W.World.live c.loop-made.world) (held_in c.loop-made.scope) (c.loop-made.invariant.open base o)) (as_for (places_of c.args.sites.now) s.place placed (held_in c.loop-made.scope) c.loop-made.buffers.gathered c.loop-made.invariant.waits) m left (within (left_run (fed_node c.loop-made.input (g.N.StatementNode.seen c.loop-made.node))) k) w0 (c.loop-made.invariant.told tells s base placed same o m left k w0 go)) c.in-Need.is;
}

pub loop-made-preserved-in-Ok-acquire : goal.loop-made-preserved-in-Ok-acquire
loop-made-preserved-in-Ok-acquire g c = record {
  well = c.in-Ok.ensures.well;
  answers = acquired_answers (places_of c.args.sites.now) (fed_node c.loop-made.input (g.N.StatementNode.seen c.loop-made.node)) (g.N.StatementNode.seen c.step.new.self) c.in-Ok.made (c.in-Ok.ensures.law (places_of c.args.sites.now) c.loop-made.invariant.stands) c.in-Acquire.site c.in-Ok-acquire.ticket c.in-Acquire.is (ap (λ (x : Site). x.0) c.in-Ok-acquire.ensures.site);
  sites = c.step.ensures.kept.1 ∙ fed_sites c.loop-made.input (g.N.StatementNode.seen c.loop-made.node) ∙ c.loop-made.invariant.sites;
  stands = c.step.ensures.places (places_of c.args.sites.now) c.loop-made.invariant.stands;
  held = acquired_there (held_in c.loop-made.scope) _ c.in-Acquire.site c.in-Ok-acquire.ticket (g.N.StatementNode.seen c.step.new.self) (ap (λ (x : Site). x.0) c.in-Ok-acquire.ensures.site) c.in-Ok-acquire.ensures.table (held_kept (held_in c.loop-made.scope) (fed_node c.loop-made.input (g.N.StatementNode.seen c.loop-made.node)) (g.N.StatementNode.seen c.step.new.self) c.step.ensures.kept c.loop-made.invariant.held);
  waits = none_left (places_of c.args.sites.now) (held_in c.acquire.new.scope) c.write_before.new.self (acquires_waits c.in-Ok.made (waiting c.loop-made.buffers.gathered) (waiting c.write_before.new.self) c.in-Ok-write_before.ensures.waits c.in-Acquire.site c.in-Acquire.is);
  stays = λ h none has. acquire_stays c.in-Acquire.site.0 c.in-Ok-acquire.ticket.descriptor (held_in c.loop-made.scope) (held_in c.acquire.new.scope) c.in-Ok-acquire.ensures.table h (c.loop-made.invariant.stays h none has);
  room = spends_after (fed_node c.args.first (g.N.StatementNode.seen c.args.node.now)) (fed_node c.loop-made.input (g.N.StatementNode.seen c.loop-made.node)) (fed_node (Acquired c.in-Ok-acquire.ticket) (g.N.StatementNode.seen c.step.new.self)) (room_in c.args.scope.now) (room_in c.loop-made.scope) (room_in c.acquire.new.scope) c.loop-made.invariant.room (acquires_spends (places_of c.args.sites.now) (fed_node c.loop-made.input (g.N.StatementNode.seen c.loop-made.node)) (g.N.StatementNode.seen c.step.new.self) c.in-Ok.made (c.in-Ok.ensures.law (places_of c.args.sites.now) c.loop-made.invariant.stands) (room_in c.loop-made.scope) c.in-Acquire.site c.in-Ok-acquire.ticket (room_in c.acquire.new.scope) c.in-Acquire.is c.in-Ok-acquire.ensures.less_room);
  calm = c.in-Ok-acquire.ensures.cause ∙ c.in-Ok-write_before.ensures.cause ∙ c.loop-made.invariant.calm;
  «open» = λ base o. c.acquire.ensures.open base (subst (λ (l : List Open). IsOpen (places_of c.args.sites.now) base (held_in c.loop-made.scope) l) (sym c.write_before.ensures.live) (c.loop-made.invariant.open base o));
  forgets = λ x ig. acquires_forgets (places_of c.args.sites.now) (fed_node c.loop-made.input (g.N.StatementNode.seen c.loop-made.node)) (g.N.StatementNode.seen c.step.new.self) c.in-Ok.made (c.in-Ok.ensures.law (places_of c.args.sites.now) c.loop-made.invariant.stands) x (c.loop-made.invariant.forgets x ig) c.in-Acquire.site c.in-Acquire.is;
  told = λ tells s base placed same o m left k w0 go. subst (λ (es : List Effect). Going s m (held_in c.acquire.new.scope) left (λ all z. does es (within (left_run (g.N.StatementNode.seen c.step.new.self)) k all z)) w0 (outside (g.W.World.log c.acquire.new.world) (g.W.World.files c.acquire.new.world))) (sym (acquires_waits c.in-Ok.made (waiting c.loop-made.buffers.gathered) (waiting c.write_before.new.self) c.in-Ok-write_before.ensures.waits c.in-Acquire.site c.in-Acquire.is)) (c.in-Ok-acquire.ensures.told tells s base placed same (subst (λ (l : List Open). IsOpen (places_of c.args.sites.now) base (held_in c.loop-made.scope) l) (sym c.write_before.ensures.live) (c.loop-made.invariant.open base o)) m left (within (left_run (g.N.StatementNode.seen c.step.new.self)) k) w0 (acquires s m k w0 (outside (g.W.World.log c.write_before.new.world) (g.W.World.files c.write_before.new.world)) (places_of c.args.sites.now) (fed_node c.loop-made.input (g.N.StatementNode.seen c.loop-made.node)) (g.N.StatementNode.seen c.step.new.self) c.in-Ok.made (c.in-Ok.ensures.law (places_of c.args.sites.now) c.loop-made.invariant.stands) (waiting c.loop-made.buffers.gathered) (waiting c.write_before.new.self) c.in-Ok-write_before.ensures.waits (c.in-Ok-write_before.ensures.told tells s base (held_in c.loop-made.scope) same (as_open (places_of c.args.sites.now) s.place placed base (g.W.World.live c.loop-made.world) (held_in c.loop-made.scope) (c.loop-made.invariant.open base o)) (as_for (places_of c.args.sites.now) s.place placed (held_in c.loop-made.scope) c.loop-made.buffers.gathered c.loop-made.invariant.waits) m left (within (left_run (fed_node c.loop-made.input (g.N.StatementNode.seen c.loop-made.node))) k) w0 (c.loop-made.invariant.told tells s base placed same o m left k w0 go)) c.in-Acquire.site c.in-Acquire.is));
}

pub loop-made-preserved-in-Ok-put : goal.loop-made-preserved-in-Ok-put
loop-made-preserved-in-Ok-put g c = record {
  well = c.in-Ok.ensures.well;
  answers = wrote_answers (places_of c.args.sites.now) (fed_node c.loop-made.input (g.N.StatementNode.seen c.loop-made.node)) (g.N.StatementNode.seen c.step.new.self) c.in-Ok.made (c.in-Ok.ensures.law (places_of c.args.sites.now) c.loop-made.invariant.stands) c.in-Write.site c.in-Write.descriptor c.in-Write.chunk c.in-Write.is;
  sites = c.step.ensures.kept.1 ∙ fed_sites c.loop-made.input (g.N.StatementNode.seen c.loop-made.node) ∙ c.loop-made.invariant.sites;
  stands = c.step.ensures.places (places_of c.args.sites.now) c.loop-made.invariant.stands;
  held = (held_kept (held_in c.loop-made.scope) (fed_node c.loop-made.input (g.N.StatementNode.seen c.loop-made.node)) (g.N.StatementNode.seen c.step.new.self) c.step.ensures.kept c.loop-made.invariant.held);
  waits = c.put.ensures.stays (places_of c.args.sites.now) (held_in c.loop-made.scope) (c.write_before.ensures.stays (places_of c.args.sites.now) (held_in c.loop-made.scope) c.loop-made.invariant.waits) (writes_at (places_of c.args.sites.now) (fed_node c.loop-made.input (g.N.StatementNode.seen c.loop-made.node)) (g.N.StatementNode.seen c.step.new.self) c.in-Ok.made (c.in-Ok.ensures.law (places_of c.args.sites.now) c.loop-made.invariant.stands) c.in-Write.site c.in-Write.descriptor c.in-Write.chunk c.in-Write.is (held_in c.loop-made.scope) (held_kept (held_in c.loop-made.scope) (fed_node c.loop-made.input (g.N.StatementNode.seen c.loop-made.node)) (g.N.StatementNode.seen c.step.new.self) c.step.ensures.kept c.loop-made.invariant.held));
  stays = λ h none has. c.loop-made.invariant.stays h none has;
  room = spends_after (fed_node c.args.first (g.N.StatementNode.seen c.args.node.now)) (fed_node c.loop-made.input (g.N.StatementNode.seen c.loop-made.node)) (g.N.StatementNode.seen c.step.new.self) (room_in c.args.scope.now) (room_in c.loop-made.scope) (room_in c.loop-made.scope) c.loop-made.invariant.room (writes_spends (places_of c.args.sites.now) (fed_node c.loop-made.input (g.N.StatementNode.seen c.loop-made.node)) (g.N.StatementNode.seen c.step.new.self) c.in-Ok.made (c.in-Ok.ensures.law (places_of c.args.sites.now) c.loop-made.invariant.stands) (room_in c.loop-made.scope) c.in-Write.site c.in-Write.descriptor c.in-Write.chunk c.in-Write.is);
  calm = c.in-Ok-put.ensures.cause ∙ c.in-Ok-write_before.ensures.cause ∙ c.loop-made.invariant.calm;
  «open» = λ base o. subst (λ (l : List Open). IsOpen (places_of c.args.sites.now) base (held_in c.loop-made.scope) l) (sym c.put.ensures.live) (subst (λ (l : List Open). IsOpen (places_of c.args.sites.now) base (held_in c.loop-made.scope) l) (sym c.write_before.ensures.live) (c.loop-made.invariant.open base o));
  forgets = λ x ig. writes_forgets (places_of c.args.sites.now) (fed_node c.loop-made.input (g.N.StatementNode.seen c.loop-made.node)) (g.N.StatementNode.seen c.step.new.self) c.in-Ok.made (c.in-Ok.ensures.law (places_of c.args.sites.now) c.loop-made.invariant.stands) x (c.loop-made.invariant.forgets x ig) c.in-Write.site c.in-Write.descriptor c.in-Write.chunk c.in-Write.is;
  told = λ tells s base placed same o m left k w0 go. c.in-Ok-put.ensures.told tells s base (held_in c.loop-made.scope) same (as_open (places_of c.args.sites.now) s.place placed base (g.W.World.live c.write_before.new.world) (held_in c.loop-made.scope) (subst (λ (l : List Open). IsOpen (places_of c.args.sites.now) base (held_in c.loop-made.scope) l) (sym c.write_before.ensures.live) (c.loop-made.invariant.open base o))) (c.write_before.ensures.stays s.place (held_in c.loop-made.scope) (as_for (places_of c.args.sites.now) s.place placed (held_in c.loop-made.scope) c.loop-made.buffers.gathered c.loop-made.invariant.waits)) (subst (λ (f : ℕ → Place). WritesAt (f c.in-Write.site.0) c.in-Write.descriptor.0 (Contains (held_in c.loop-made.scope) (held_at c.in-Write.site.0 c.in-Write.descriptor))) (sym placed) (writes_at (places_of c.args.sites.now) (fed_node c.loop-made.input (g.N.StatementNode.seen c.loop-made.node)) (g.N.StatementNode.seen c.step.new.self) c.in-Ok.made (c.in-Ok.ensures.law (places_of c.args.sites.now) c.loop-made.invariant.stands) c.in-Write.site c.in-Write.descriptor c.in-Write.chunk c.in-Write.is (held_in c.loop-made.scope) (held_kept (held_in c.loop-made.scope) (fed_node c.loop-made.input (g.N.StatementNode.seen c.loop-made.node)) (g.N.StatementNode.seen c.step.new.self) c.step.ensures.kept c.loop-made.invariant.held))) m left (within (left_run (g.N.StatementNode.seen c.step.new.self)) k) w0 (writes s m k w0 (outside (g.W.World.log c.write_before.new.world) (g.W.World.files c.write_before.new.world)) (places_of c.args.sites.now) (fed_node c.loop-made.input (g.N.StatementNode.seen c.loop-made.node)) (g.N.StatementNode.seen c.step.new.self) c.in-Ok.made (c.in-Ok.ensures.law (places_of c.args.sites.now) c.loop-made.invariant.stands) (waiting c.loop-made.buffers.gathered) (waiting c.write_before.new.self) c.in-Ok-write_before.ensures.waits (c.in-Ok-write_before.ensures.told tells s base (held_in c.loop-made.scope) same (as_open (places_of c.args.sites.now) s.place placed base (g.W.World.live c.loop-made.world) (held_in c.loop-made.scope) (c.loop-made.invariant.open base o)) (as_for (places_of c.args.sites.now) s.place placed (held_in c.loop-made.scope) c.loop-made.buffers.gathered c.loop-made.invariant.waits) m left (within (left_run (fed_node c.loop-made.input (g.N.StatementNode.seen c.loop-made.node))) k) w0 (c.loop-made.invariant.told tells s base placed same o m left k w0 go)) c.in-Write.site c.in-Write.descriptor c.in-Write.chunk c.in-Write.is);
}

pub loop-made-preserved : goal.loop-made-preserved
loop-made-preserved g c = record {
  well = c.in-Ok.ensures.well;
  answers = closed_answers (places_of c.args.sites.now) (fed_node c.loop-made.input (g.N.StatementNode.seen c.loop-made.node)) (g.N.StatementNode.seen c.step.new.self) c.in-Ok.made (c.in-Ok.ensures.law (places_of c.args.sites.now) c.loop-made.invariant.stands) c.in-Release.ticket c.in-Release.is;
  sites = c.step.ensures.kept.1 ∙ fed_sites c.loop-made.input (g.N.StatementNode.seen c.loop-made.node) ∙ c.loop-made.invariant.sites;
  stands = c.step.ensures.places (places_of c.args.sites.now) c.loop-made.invariant.stands;
  held = held_released (held_in c.loop-made.scope) _ c.in-Release.ticket (fed_node c.loop-made.input (g.N.StatementNode.seen c.loop-made.node)) (g.N.StatementNode.seen c.step.new.self) c.loop-made.invariant.held c.step.ensures.kept (subst (λ x. GoesNode (places_of c.args.sites.now) x (fed_node c.loop-made.input (g.N.StatementNode.seen c.loop-made.node)) (g.N.StatementNode.seen c.step.new.self)) c.in-Release.is (c.in-Ok.ensures.law (places_of c.args.sites.now) c.loop-made.invariant.stands)) c.release.ensures.others;
  waits = none_left (places_of c.args.sites.now) (held_in c.release.new.scope) c.write_before.new.self (releases_waits c.in-Ok.made (waiting c.loop-made.buffers.gathered) (waiting c.write_before.new.self) c.in-Ok-write_before.ensures.waits c.in-Release.ticket c.in-Release.is);
  stays = λ h none has. release_stays (places_of c.args.sites.now) (fed_node c.loop-made.input (g.N.StatementNode.seen c.loop-made.node)) (g.N.StatementNode.seen c.step.new.self) c.in-Ok.made (c.in-Ok.ensures.law (places_of c.args.sites.now) c.loop-made.invariant.stands) c.in-Release.ticket c.in-Release.is (g.N.StatementNode.seen c.args.node.now).sites (c.step.ensures.kept.1 ∙ fed_sites c.loop-made.input (g.N.StatementNode.seen c.loop-made.node) ∙ c.loop-made.invariant.sites) (held_in c.loop-made.scope) (held_in c.release.new.scope) c.release.ensures.others h none (c.loop-made.invariant.stays h none has);
  room = subst (λ n. Spends (fed_node c.args.first (g.N.StatementNode.seen c.args.node.now)) (room_in c.args.scope.now) (g.N.StatementNode.seen c.step.new.self) n) (sym c.release.ensures.room) (spends_after (fed_node c.args.first (g.N.StatementNode.seen c.args.node.now)) (fed_node c.loop-made.input (g.N.StatementNode.seen c.loop-made.node)) (g.N.StatementNode.seen c.step.new.self) (room_in c.args.scope.now) (room_in c.loop-made.scope) (room_in c.loop-made.scope) c.loop-made.invariant.room (releases_spends (places_of c.args.sites.now) (fed_node c.loop-made.input (g.N.StatementNode.seen c.loop-made.node)) (g.N.StatementNode.seen c.step.new.self) c.in-Ok.made (c.in-Ok.ensures.law (places_of c.args.sites.now) c.loop-made.invariant.stands) (room_in c.loop-made.scope) c.in-Release.ticket c.in-Release.is));
  calm = c.in-Ok-release.ensures.cause ∙ c.in-Ok-write_before.ensures.cause ∙ c.loop-made.invariant.calm;
  «open» = λ base o. c.release.ensures.open (places_of c.args.sites.now) base (subst (λ (l : List Open). IsOpen (places_of c.args.sites.now) base (held_in c.loop-made.scope) l) (sym c.write_before.ensures.live) (c.loop-made.invariant.open base o));
  forgets = λ x ig. releases_forgets (places_of c.args.sites.now) (fed_node c.loop-made.input (g.N.StatementNode.seen c.loop-made.node)) (g.N.StatementNode.seen c.step.new.self) c.in-Ok.made (c.in-Ok.ensures.law (places_of c.args.sites.now) c.loop-made.invariant.stands) x (c.loop-made.invariant.forgets x ig) c.in-Release.ticket c.in-Release.is;
  told = λ tells s base placed same o m left k w0 go. subst (λ (es : List Effect). Going s m (held_in c.release.new.scope) left (λ all z. does es (within (left_run (g.N.StatementNode.seen c.step.new.self)) k all z)) w0 (outside (g.W.World.log c.release.new.world) (g.W.World.files c.release.new.world))) (sym (releases_waits c.in-Ok.made (waiting c.loop-made.buffers.gathered) (waiting c.write_before.new.self) c.in-Ok-write_before.ensures.waits c.in-Release.ticket c.in-Release.is)) (c.in-Ok-release.ensures.told tells s base same (as_open (places_of c.args.sites.now) s.place placed base (g.W.World.live c.write_before.new.world) (held_in c.loop-made.scope) (subst (λ (l : List Open). IsOpen (places_of c.args.sites.now) base (held_in c.loop-made.scope) l) (sym c.write_before.ensures.live) (c.loop-made.invariant.open base o))) m left (within (left_run (g.N.StatementNode.seen c.step.new.self)) k) w0 (releases s m k w0 (outside (g.W.World.log c.write_before.new.world) (g.W.World.files c.write_before.new.world)) (places_of c.args.sites.now) (fed_node c.loop-made.input (g.N.StatementNode.seen c.loop-made.node)) (g.N.StatementNode.seen c.step.new.self) c.in-Ok.made (c.in-Ok.ensures.law (places_of c.args.sites.now) c.loop-made.invariant.stands) (waiting c.loop-made.buffers.gathered) (waiting c.write_before.new.self) c.in-Ok-write_before.ensures.waits (c.in-Ok-write_before.ensures.told tells s base (held_in c.loop-made.scope) same (as_open (places_of c.args.sites.now) s.place placed base (g.W.World.live c.loop-made.world) (held_in c.loop-made.scope) (c.loop-made.invariant.open base o)) (as_for (places_of c.args.sites.now) s.place placed (held_in c.loop-made.scope) c.loop-made.buffers.gathered c.loop-made.invariant.waits) m left (within (left_run (fed_node c.loop-made.input (g.N.StatementNode.seen c.loop-made.node))) k) w0 (c.loop-made.invariant.told tells s base placed same o m left k w0 go)) c.in-Release.ticket c.in-Release.is));
}

pub returns-in_default-clause-stays : goal.returns-in_default-clause-stays
returns-in_default-clause-stays g c = λ h none has. c.loop-made.invariant.stays h none has

pub returns-in-Read-clause-stays : goal.returns-in-Read-clause-stays
returns-in-Read-clause-stays g c = λ h none has. c.loop-made.invariant.stays h none has

pub returns-in-Done-clause-stays : goal.returns-in-Done-clause-stays
returns-in-Done-clause-stays g c = λ h none has. c.loop-made.invariant.stays h none has

pub returns-in-Fault-clause-stays : goal.returns-in-Fault-clause-stays
returns-in-Fault-clause-stays g c = λ h none has. c.loop-made.invariant.stays h none has

pub returns-in-Err-put-clause-stays : goal.returns-in-Err-put-clause-stays
returns-in-Err-put-clause-stays g c = λ h none has. c.loop-made.invariant.stays h none has

pub returns-in-Err-acquire-clause-stays : goal.returns-in-Err-acquire-clause-stays
returns-in-Err-acquire-clause-stays g c = λ h none has. subst (λ (l : List Held). Contains l h) (sym c.in-Err-acquire.ensures.table) (c.loop-made.invariant.stays h none has)

pub returns-in-Err-release-clause-stays : goal.returns-in-Err-release-clause-stays
returns-in-Err-release-clause-stays g c = λ h none has. release_stays (places_of c.args.sites.now) (fed_node c.loop-made.input (g.N.StatementNode.seen c.loop-made.node)) (g.N.StatementNode.seen c.step.new.self) c.in-Ok.made (c.in-Ok.ensures.law (places_of c.args.sites.now) c.loop-made.invariant.stands) c.in-Release.ticket c.in-Release.is (g.N.StatementNode.seen c.args.node.now).sites (c.step.ensures.kept.1 ∙ fed_sites c.loop-made.input (g.N.StatementNode.seen c.loop-made.node) ∙ c.loop-made.invariant.sites) (held_in c.loop-made.scope) (held_in c.release.new.scope) c.release.ensures.others h none (c.loop-made.invariant.stays h none has)

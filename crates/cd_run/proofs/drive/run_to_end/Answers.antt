use Rattle.std.proofs.Common.{◌≡◌, Bool, true, false, ℕ, List, get_or, refl, ap, sym, ◌∙◌, subst, arith}
use Rattle.std.specs.Prelude.{Contains}
use Rattle.cd_meaning.specs.Places.{Place}
use Rattle.cd_world.specs.Live.{Open}
use Rattle.cd_scope.specs.Calls.{held_at}
use Rattle.cd_scope.specs.State.{held_in, room_in}
use Rattle.cd_scope.specs.Table.{IsOpen}
use Rattle.cd_scope.specs.Uses.{ReadsAt}
use Rattle.cd_node.specs.Nodes.{fed_node}
use Rattle.cd_run.specs.Going.{outside, places_of}
use Rattle.cd_run.proofs.MoveSteps.{as_open}
use Rattle.cd_run.proofs.Rooms.{room_left, spends_after, spends_then, spent, told_spends}
use Rattle.cd_run.proofs.RunSteps.{at_read, done_at, forgotten_at, going_at, other_site, some_left, spends_at, still_ended, told_answers, told_held}
use Rattle.cd_run.proofs.WriteSteps.{is_readable}
use Rattle.cd_run.proofs.drive.run_to_end.Goals as goal

pub advance-requires-clause-room : goal.advance-requires-clause-room
advance-requires-clause-room g c = room_left (g.N.StatementNode.seen c.args.node.now) (fed_node c.loop-pause.input (g.N.StatementNode.seen c.loop-pause.node)) (room_in c.args.scope.now) (room_in c.loop-pause.scope) c.requires.room c.loop-pause.invariant.room

pub returns-in-Err-clause-told : goal.returns-in-Err-clause-told
returns-in-Err-clause-told g c = λ tells s base placed same size o m k w0 go. c.in-Err.ensures.told tells s base placed same (c.loop-pause.invariant.open base o) m c.loop-pause.left k w0 (c.loop-pause.invariant.told tells s base placed same size o m k w0 go)

pub returns-in-Err-clause-spent : goal.returns-in-Err-clause-spent
returns-in-Err-clause-spent g c = spends_then (g.N.StatementNode.seen c.args.node.now) (fed_node c.loop-pause.input (g.N.StatementNode.seen c.loop-pause.node)) (room_in c.args.scope.now) (room_in c.loop-pause.scope) (room_in c.advance.new.scope) c.loop-pause.invariant.room c.advance.ensures.spent

pub returns-in-Done-clause-told : goal.returns-in-Done-clause-told
returns-in-Done-clause-told g c = λ tells s base placed same size o m k w0 go. done_at c.in-Ok.pause c.in-Done.value c.in-Done.is s m (held_in c.advance.new.scope) c.loop-pause.left (g.N.StatementNode.seen c.advance.new.node) k w0 (outside (g.W.World.log c.advance.new.world) (g.W.World.files c.advance.new.world)) (c.in-Ok.ensures.told tells s base placed same (c.loop-pause.invariant.open base o) m c.loop-pause.left k w0 (c.loop-pause.invariant.told tells s base placed same size o m k w0 go))

pub returns-in-Done-clause-spent : goal.returns-in-Done-clause-spent
returns-in-Done-clause-spent g c = spends_then (g.N.StatementNode.seen c.args.node.now) (fed_node c.loop-pause.input (g.N.StatementNode.seen c.loop-pause.node)) (room_in c.args.scope.now) (room_in c.loop-pause.scope) (room_in c.advance.new.scope) c.loop-pause.invariant.room c.advance.ensures.spent

pub read_site-requires-clause-more : goal.read_site-requires-clause-more
read_site-requires-clause-more g c = some_left c.in-Ok.pause c.in-Waits.site c.in-Waits.descriptor c.in-Waits.is (places_of c.args.sites.now) (held_in c.advance.new.scope) (g.N.StatementNode.seen c.advance.new.node) _ c.in-Ok.ensures.paused (λ none. c.in-Ok.ensures.forgets c.in-Waits.site.0 (c.loop-pause.invariant.ended c.in-Waits.site.0 (let bound = c.requires.within c.in-Waits.site.0 (subst (λ (f : ℕ → Bool). f c.in-Waits.site.0 ≡ true) (c.in-Ok.ensures.sites ∙ c.loop-pause.invariant.sites) (at_read c.in-Ok.pause c.in-Waits.site c.in-Waits.descriptor c.in-Waits.is (places_of c.args.sites.now) (held_in c.advance.new.scope) (g.N.StatementNode.seen c.advance.new.node) c.in-Ok.ensures.paused).own) in omega (arith, bound, c.loop-pause.auto.left)) none))

pub read_site-requires-clause-readable : goal.read_site-requires-clause-readable
read_site-requires-clause-readable g c = is_readable (places_of c.args.sites.now) c.requires.open.0 (g.W.World.live c.advance.new.world) (held_in c.advance.new.scope) (c.in-Ok.ensures.open c.requires.open.0 (c.loop-pause.invariant.open c.requires.open.0 c.requires.open.1)) c.in-Waits.site.0 c.in-Waits.descriptor (places_of c.args.sites.now c.in-Waits.site.0) refl (at_read c.in-Ok.pause c.in-Waits.site c.in-Waits.descriptor c.in-Waits.is (places_of c.args.sites.now) (held_in c.advance.new.scope) (g.N.StatementNode.seen c.advance.new.node) c.in-Ok.ensures.paused).readable

pub read_site-requires-clause-within : goal.read_site-requires-clause-within
read_site-requires-clause-within g c = (let bound = c.requires.within c.in-Waits.site.0 (subst (λ (f : ℕ → Bool). f c.in-Waits.site.0 ≡ true) (c.in-Ok.ensures.sites ∙ c.loop-pause.invariant.sites) (at_read c.in-Ok.pause c.in-Waits.site c.in-Waits.descriptor c.in-Waits.is (places_of c.args.sites.now) (held_in c.advance.new.scope) (g.N.StatementNode.seen c.advance.new.node) c.in-Ok.ensures.paused).own) in omega (arith, bound, c.loop-pause.auto.left))

pub returns-in-Err-read_site-clause-others : goal.returns-in-Err-read_site-clause-others
returns-in-Err-read_site-clause-others g c = λ x none. ap (λ (l : List ℕ). get_or l x 0) c.in-Err-read_site.ensures.left ∙ c.loop-pause.invariant.others x none

pub returns-in-Err-read_site-clause-spent : goal.returns-in-Err-read_site-clause-spent
returns-in-Err-read_site-clause-spent g c = spent (g.N.StatementNode.seen c.args.node.now) (g.N.StatementNode.seen c.advance.new.node) (room_in c.args.scope.now) (room_in c.advance.new.scope) (spends_after (g.N.StatementNode.seen c.args.node.now) (fed_node c.loop-pause.input (g.N.StatementNode.seen c.loop-pause.node)) (g.N.StatementNode.seen c.advance.new.node) (room_in c.args.scope.now) (room_in c.loop-pause.scope) (room_in c.advance.new.scope) c.loop-pause.invariant.room (spends_at c.in-Ok.pause c.in-Waits.site c.in-Waits.descriptor c.in-Waits.is (fed_node c.loop-pause.input (g.N.StatementNode.seen c.loop-pause.node)) (room_in c.loop-pause.scope) (g.N.StatementNode.seen c.advance.new.node) (room_in c.advance.new.scope) c.in-Ok.ensures.room))

pub returns-in-Err-read_site-clause-told : goal.returns-in-Err-read_site-clause-told
returns-in-Err-read_site-clause-told g c = λ tells s base placed same size o m k w0 go. c.in-Err-read_site.ensures.told tells s base (held_in c.advance.new.scope) (g.N.StatementNode.seen c.advance.new.node) same size (as_open (places_of c.args.sites.now) s.place placed base (g.W.World.live c.advance.new.world) (held_in c.advance.new.scope) (c.in-Ok.ensures.open base (c.loop-pause.invariant.open base o))) (subst (λ (f : ℕ → Place). ReadsAt (f c.in-Waits.site.0) c.in-Waits.descriptor.0 (Contains (held_in c.advance.new.scope) (held_at c.in-Waits.site.0 c.in-Waits.descriptor))) (sym placed) (at_read c.in-Ok.pause c.in-Waits.site c.in-Waits.descriptor c.in-Waits.is (places_of c.args.sites.now) (held_in c.advance.new.scope) (g.N.StatementNode.seen c.advance.new.node) c.in-Ok.ensures.paused).readable) (at_read c.in-Ok.pause c.in-Waits.site c.in-Waits.descriptor c.in-Waits.is (places_of c.args.sites.now) (held_in c.advance.new.scope) (g.N.StatementNode.seen c.advance.new.node) c.in-Ok.ensures.paused).is_at (at_read c.in-Ok.pause c.in-Waits.site c.in-Waits.descriptor c.in-Waits.is (places_of c.args.sites.now) (held_in c.advance.new.scope) (g.N.StatementNode.seen c.advance.new.node) c.in-Ok.ensures.paused).stops m k w0 (going_at c.in-Ok.pause c.in-Waits.site c.in-Waits.descriptor c.in-Waits.is s m (held_in c.advance.new.scope) c.loop-pause.left (g.N.StatementNode.seen c.advance.new.node) k w0 (outside (g.W.World.log c.advance.new.world) (g.W.World.files c.advance.new.world)) (c.in-Ok.ensures.told tells s base placed same (c.loop-pause.invariant.open base o) m c.loop-pause.left k w0 (c.loop-pause.invariant.told tells s base placed same size o m k w0 go)))

pub loop-pause-preserved : goal.loop-pause-preserved
loop-pause-preserved g c = record {
  well = c.in-Ok.ensures.well;
  answers = told_answers c.in-Ok-read_site.told c.in-Waits.site.0 (g.N.StatementNode.seen c.advance.new.node) (at_read c.in-Ok.pause c.in-Waits.site c.in-Waits.descriptor c.in-Waits.is (places_of c.args.sites.now) (held_in c.advance.new.scope) (g.N.StatementNode.seen c.advance.new.node) c.in-Ok.ensures.paused).is_at c.in-Ok-read_site.ensures.telling;
  sites = c.in-Ok.ensures.sites ∙ c.loop-pause.invariant.sites;
  stands = c.advance.ensures.stands;
  held = told_held c.in-Ok-read_site.told (held_in c.advance.new.scope) (g.N.StatementNode.seen c.advance.new.node) c.in-Ok-read_site.ensures.telling c.in-Ok.ensures.held;
  stays = λ h none has. c.advance.ensures.stays h (subst (λ (f : ℕ → Bool). f h.site.0 ≡ false) (sym c.loop-pause.invariant.sites) none) (c.loop-pause.invariant.stays h none has);
  room = told_spends (g.N.StatementNode.seen c.args.node.now) (g.N.StatementNode.seen c.advance.new.node) c.in-Ok-read_site.told (room_in c.args.scope.now) (room_in c.advance.new.scope) c.in-Ok-read_site.ensures.telling (spends_after (g.N.StatementNode.seen c.args.node.now) (fed_node c.loop-pause.input (g.N.StatementNode.seen c.loop-pause.node)) (g.N.StatementNode.seen c.advance.new.node) (room_in c.args.scope.now) (room_in c.loop-pause.scope) (room_in c.advance.new.scope) c.loop-pause.invariant.room (spends_at c.in-Ok.pause c.in-Waits.site c.in-Waits.descriptor c.in-Waits.is (fed_node c.loop-pause.input (g.N.StatementNode.seen c.loop-pause.node)) (room_in c.loop-pause.scope) (g.N.StatementNode.seen c.advance.new.node) (room_in c.advance.new.scope) c.in-Ok.ensures.room));
  calm = c.in-Ok-read_site.ensures.cause ∙ c.in-Ok.ensures.cause ∙ c.loop-pause.invariant.calm;
  «open» = λ base o. subst (λ (l : List Open). IsOpen (places_of c.args.sites.now) base (held_in c.advance.new.scope) l) (sym c.read_site.ensures.live) (c.in-Ok.ensures.open base (c.loop-pause.invariant.open base o));
  ended = still_ended c.in-Ok-read_site.told c.in-Waits.site.0 (g.N.StatementNode.seen c.advance.new.node) c.loop-pause.left c.read_site.new.left (at_read c.in-Ok.pause c.in-Waits.site c.in-Waits.descriptor c.in-Waits.is (places_of c.args.sites.now) (held_in c.advance.new.scope) (g.N.StatementNode.seen c.advance.new.node) c.in-Ok.ensures.paused).is_at c.in-Ok-read_site.ensures.telling c.in-Ok-read_site.ensures.left c.read_site.auto.left
      (λ t lt none. forgotten_at c.in-Ok.pause c.in-Waits.site c.in-Waits.descriptor c.in-Waits.is t (g.N.StatementNode.seen c.advance.new.node) (c.in-Ok.ensures.forgets t (c.loop-pause.invariant.ended t lt none)));
  others = λ x none. c.in-Ok-read_site.ensures.left.others x (other_site (g.N.StatementNode.seen c.args.node.now).sites c.in-Waits.site.0 x (subst (λ (f : ℕ → Bool). f c.in-Waits.site.0 ≡ true) (c.in-Ok.ensures.sites ∙ c.loop-pause.invariant.sites) (at_read c.in-Ok.pause c.in-Waits.site c.in-Waits.descriptor c.in-Waits.is (places_of c.args.sites.now) (held_in c.advance.new.scope) (g.N.StatementNode.seen c.advance.new.node) c.in-Ok.ensures.paused).own) none) ∙ c.loop-pause.invariant.others x none;
  told = λ tells s base placed same size o m k w0 go. c.in-Ok-read_site.ensures.told tells s base (held_in c.advance.new.scope) (g.N.StatementNode.seen c.advance.new.node) same size (as_open (places_of c.args.sites.now) s.place placed base (g.W.World.live c.advance.new.world) (held_in c.advance.new.scope) (c.in-Ok.ensures.open base (c.loop-pause.invariant.open base o))) (subst (λ (f : ℕ → Place). ReadsAt (f c.in-Waits.site.0) c.in-Waits.descriptor.0 (Contains (held_in c.advance.new.scope) (held_at c.in-Waits.site.0 c.in-Waits.descriptor))) (sym placed) (at_read c.in-Ok.pause c.in-Waits.site c.in-Waits.descriptor c.in-Waits.is (places_of c.args.sites.now) (held_in c.advance.new.scope) (g.N.StatementNode.seen c.advance.new.node) c.in-Ok.ensures.paused).readable) (at_read c.in-Ok.pause c.in-Waits.site c.in-Waits.descriptor c.in-Waits.is (places_of c.args.sites.now) (held_in c.advance.new.scope) (g.N.StatementNode.seen c.advance.new.node) c.in-Ok.ensures.paused).is_at (at_read c.in-Ok.pause c.in-Waits.site c.in-Waits.descriptor c.in-Waits.is (places_of c.args.sites.now) (held_in c.advance.new.scope) (g.N.StatementNode.seen c.advance.new.node) c.in-Ok.ensures.paused).stops m k w0 (going_at c.in-Ok.pause c.in-Waits.site c.in-Waits.descriptor c.in-Waits.is s m (held_in c.advance.new.scope) c.loop-pause.left (g.N.StatementNode.seen c.advance.new.node) k w0 (outside (g.W.World.log c.advance.new.world) (g.W.World.files c.advance.new.world)) (c.in-Ok.ensures.told tells s base placed same (c.loop-pause.invariant.open base o) m c.loop-pause.left k w0 (c.loop-pause.invariant.told tells s base placed same size o m k w0 go)));
}

pub returns-in-Err-clause-stays : goal.returns-in-Err-clause-stays
returns-in-Err-clause-stays g c = λ h none has. c.advance.ensures.stays h (subst (λ (f : ℕ → Bool). f h.site.0 ≡ false) (sym c.loop-pause.invariant.sites) none) (c.loop-pause.invariant.stays h none has)

pub returns-in-Done-clause-stays : goal.returns-in-Done-clause-stays
returns-in-Done-clause-stays g c = λ h none has. c.advance.ensures.stays h (subst (λ (f : ℕ → Bool). f h.site.0 ≡ false) (sym c.loop-pause.invariant.sites) none) (c.loop-pause.invariant.stays h none has)

pub returns-in-Err-read_site-clause-stays : goal.returns-in-Err-read_site-clause-stays
returns-in-Err-read_site-clause-stays g c = λ h none has. c.advance.ensures.stays h (subst (λ (f : ℕ → Bool). f h.site.0 ≡ false) (sym c.loop-pause.invariant.sites) none) (c.loop-pause.invariant.stays h none has)

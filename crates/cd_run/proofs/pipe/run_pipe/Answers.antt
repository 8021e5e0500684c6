use Rattle.std.proofs.Common.{ℕ, List, [], sym, ◌∙◌, ap, subst, refl, arith}
use Rattle.cd_elem.specs.declared.script.Stmt.{Stmt}
use Rattle.cd_meaning.specs.Opens.{files_in}
use Rattle.cd_meaning.specs.Pipes.{pipe_meaning}
use Rattle.cd_meaning.specs.Places.{Place, place_in}
use Rattle.cd_meaning.specs.Run.{acts_at, start}
use Rattle.cd_meaning.specs.Scripts.{passed_sites, script_places, statement_meaning, value_puts}
use Rattle.cd_meaning.specs.Stream.{Ended}
use Rattle.cd_types.specs.Numbering.{first_site}
use Rattle.cd_world.specs.Live.{Open}
use Rattle.cd_scope.specs.State.{held_in, room_in}
use Rattle.cd_scope.specs.Table.{IsOpen}
use Rattle.cd_node.specs.Trees.{StandsAt, seen}
use Rattle.cd_run.specs.Going.{outside, places_of}
use Rattle.cd_run.specs.Statements.{behind}
use Rattle.cd_run.proofs.MoveSteps.{as_open}
use Rattle.cd_run.proofs.Pipes.{after_ok, begins, first_is_some, lawful_at, no_tickets, not_own, opens_few, opens_within, placed_by}
use Rattle.cd_run.proofs.Steps.{refused}
use Rattle.cd_run.proofs.pipe.run_pipe.Goals as goal

pub returns-in_default-clause-told : goal.returns-in_default-clause-told
returns-in_default-clause-told g c = λ script p typed e tells s base placed same size o m st next w0 is unread go.
    refused s m (held_in c.args.scope.now) (behind (λ all. statement_meaning (Stmt.Run p) all st (next all))) w0 (outside (g.W.World.log c.args.world.now) (g.W.World.files c.args.world.now)) (outside (g.W.World.log c.args.world.now) (g.W.World.files c.args.world.now)) go refl

pub run_node-requires-clause-well : goal.run_node-requires-clause-well
run_node-requires-clause-well g c = c.in-Ok.ensures.well

pub run_node-requires-clause-fresh : goal.run_node-requires-clause-fresh
run_node-requires-clause-fresh g c = c.in-Ok.ensures.unstarted.unbegun.is_at

pub run_node-requires-clause-stands : goal.run_node-requires-clause-stands
run_node-requires-clause-stands g c =
    let script = c.requires.runs.runs.script in
    let typed = c.requires.runs.runs.is_typed in
    let placed = placed_by c.as_slice-sites.result.now c.sites.result.now (script_places script) c.as_slice-sites.ensures (c.sites.ensures.places script typed) in
    subst (λ (f : ℕ → Place). StandsAt c.in-Ok.node f) (sym placed) (c.in-Ok.ensures.places script c.requires.runs.runs.pipe typed c.requires.runs.runs.runs)

pub run_node-requires-clause-within : goal.run_node-requires-clause-within
run_node-requires-clause-within g c = λ s own.
    let r = c.requires.runs.runs in
    c.requires.runs.sites s (c.in-Ok.ensures.sites r.script r.pipe r.is_typed r.runs s own)

pub run_node-requires-clause-local : goal.run_node-requires-clause-local
run_node-requires-clause-local g c = (c.sound_nodes.ensures.sound c.in-Ok.node c.in-Ok.ensures.well).local

pub run_node-requires-clause-held : goal.run_node-requires-clause-held
run_node-requires-clause-held g c = no_tickets (held_in c.args.scope.now) (seen c.in-Ok.node) c.in-Ok.ensures.unstarted.no_ticket

pub run_node-requires-clause-room : goal.run_node-requires-clause-room
run_node-requires-clause-room g c =
    let r = c.requires.runs.runs in
    opens_within (seen c.in-Ok.node) (files_in (pipe_meaning r.pipe).places) (room_in c.args.scope.now)
    (opens_few r.pipe (lawful_at r.script c.args.statement r.pipe r.is_typed.has_type r.runs) (first_site r.script c.args.statement) (first_is_some r.script c.args.statement) (seen c.in-Ok.node) (λ z. c.in-Ok.ensures.means r.script r.pipe r.is_typed r.runs z [] Ended))
    c.requires.runs.files

pub run_node-requires-clause-open : goal.run_node-requires-clause-open
run_node-requires-clause-open g c =
    let script = c.requires.open.0 in
    let typed = c.requires.open.1 in
    let placed = placed_by c.as_slice-sites.result.now c.sites.result.now (script_places script) c.as_slice-sites.ensures (c.sites.ensures.places script typed) in
    let now = c.requires.open.2 in
    (now.0, as_open (place_in (script_places script)) (places_of c.as_slice-sites.result.now) placed now.0 (g.W.World.live c.args.world.now) (held_in c.args.scope.now) now.1)

pub returns-in-Err-clause-told : goal.returns-in-Err-clause-told
returns-in-Err-clause-told g c = λ script p typed e tells s base at_place same size o m st next w0 is unread go.
    let placed = placed_by c.as_slice-sites.result.now c.sites.result.now (script_places script) c.as_slice-sites.ensures (c.sites.ensures.places script typed) in
    c.in-Err.ensures.told tells s base (at_place ∙ sym placed) same size (as_open (place_in (script_places script)) (places_of c.as_slice-sites.result.now) placed base (g.W.World.live c.args.world.now) (held_in c.args.scope.now) o) m (λ all v. acts_at start (value_puts v) (next all (passed_sites st (pipe_meaning p)))) w0 (begins s m (held_in c.args.scope.now) c.args.left.now w0 (outside (g.W.World.log c.args.world.now) (g.W.World.files c.args.world.now)) p (first_site script c.args.statement) st (seen c.in-Ok.node) next (λ z. c.in-Ok.ensures.means script p typed e z [] Ended) is (lawful_at script c.args.statement p typed.has_type e) unread go)

pub returns-in-Err-clause-stays : goal.returns-in-Err-clause-stays
returns-in-Err-clause-stays g c = λ script p typed e h other has. c.run_node.ensures.stays h (not_own (seen c.in-Ok.node) p (first_site script c.args.statement) (c.in-Ok.ensures.sites script p typed e) h.site.0 other) has

pub returns-in-Err-clause-others : goal.returns-in-Err-clause-others
returns-in-Err-clause-others g c = λ script p typed e x other. c.run_node.ensures.others x (not_own (seen c.in-Ok.node) p (first_site script c.args.statement) (c.in-Ok.ensures.sites script p typed e) x other)

pub returns-in-Err-clause-spent : goal.returns-in-Err-clause-spent
returns-in-Err-clause-spent g c = λ script p typed e. c.run_node.ensures.spent (files_in (pipe_meaning p).places) (opens_few p (lawful_at script c.args.statement p typed.has_type e) (first_site script c.args.statement) (first_is_some script c.args.statement) (seen c.in-Ok.node) (λ z. c.in-Ok.ensures.means script p typed e z [] Ended))

pub returns-in-Err-clause-open : goal.returns-in-Err-clause-open
returns-in-Err-clause-open g c = λ script p typed e base o.
    let placed = placed_by c.as_slice-sites.result.now c.sites.result.now (script_places script) c.as_slice-sites.ensures (c.sites.ensures.places script typed) in
    as_open (places_of c.as_slice-sites.result.now) (place_in (script_places script)) (sym placed) base (g.W.World.live c.run_node.new.world) (held_in c.run_node.new.scope) (c.run_node.ensures.open base (as_open (place_in (script_places script)) (places_of c.as_slice-sites.result.now) placed base (g.W.World.live c.args.world.now) (held_in c.args.scope.now) o))

pub returns-clause-told : goal.returns-clause-told
returns-clause-told g c = λ script p typed e tells s base at_place same size o m st next w0 is unread go.
    let placed = placed_by c.as_slice-sites.result.now c.sites.result.now (script_places script) c.as_slice-sites.ensures (c.sites.ensures.places script typed) in
    c.print_value.ensures.told tells s base (held_in c.run_node.new.scope) (ap (λ (f : ℕ → Place). f 0) at_place) same
    (as_open (place_in (script_places script)) s.place at_place base (g.W.World.live c.run_node.new.world) (held_in c.run_node.new.scope) (as_open (places_of c.as_slice-sites.result.now) (place_in (script_places script)) (sym placed) base (g.W.World.live c.run_node.new.world) (held_in c.run_node.new.scope) (c.run_node.ensures.open base (as_open (place_in (script_places script)) (places_of c.as_slice-sites.result.now) placed base (g.W.World.live c.args.world.now) (held_in c.args.scope.now) o)))) m c.run_node.new.left (λ all. next all (passed_sites st (pipe_meaning p))) w0
    (c.in-Ok-run_node.ensures.told tells s base (at_place ∙ sym placed) same size (as_open (place_in (script_places script)) (places_of c.as_slice-sites.result.now) placed base (g.W.World.live c.args.world.now) (held_in c.args.scope.now) o) m (λ all v. acts_at start (value_puts v) (next all (passed_sites st (pipe_meaning p)))) w0 (begins s m (held_in c.args.scope.now) c.args.left.now w0 (outside (g.W.World.log c.args.world.now) (g.W.World.files c.args.world.now)) p (first_site script c.args.statement) st (seen c.in-Ok.node) next (λ z. c.in-Ok.ensures.means script p typed e z [] Ended) is (lawful_at script c.args.statement p typed.has_type e) unread go))

pub returns-clause-stays : goal.returns-clause-stays
returns-clause-stays g c = λ script p typed e h other has. c.run_node.ensures.stays h (not_own (seen c.in-Ok.node) p (first_site script c.args.statement) (c.in-Ok.ensures.sites script p typed e) h.site.0 other) has

pub returns-clause-others : goal.returns-clause-others
returns-clause-others g c = λ script p typed e x other. c.run_node.ensures.others x (not_own (seen c.in-Ok.node) p (first_site script c.args.statement) (c.in-Ok.ensures.sites script p typed e) x other)

pub returns-clause-spent : goal.returns-clause-spent
returns-clause-spent g c = λ script p typed e. c.run_node.ensures.spent (files_in (pipe_meaning p).places) (opens_few p (lawful_at script c.args.statement p typed.has_type e) (first_site script c.args.statement) (first_is_some script c.args.statement) (seen c.in-Ok.node) (λ z. c.in-Ok.ensures.means script p typed e z [] Ended))

pub returns-clause-open : goal.returns-clause-open
returns-clause-open g c = λ script p typed e base o.
    let placed = placed_by c.as_slice-sites.result.now c.sites.result.now (script_places script) c.as_slice-sites.ensures (c.sites.ensures.places script typed) in
    subst (λ (l : List Open). IsOpen (place_in (script_places script)) base (held_in c.run_node.new.scope) l) (sym c.print_value.ensures.live)
    (as_open (places_of c.as_slice-sites.result.now) (place_in (script_places script)) (sym placed) base (g.W.World.live c.run_node.new.world) (held_in c.run_node.new.scope) (c.run_node.ensures.open base (as_open (place_in (script_places script)) (places_of c.as_slice-sites.result.now) placed base (g.W.World.live c.args.world.now) (held_in c.args.scope.now) o)))

pub returns-in_default-clause-spent : goal.returns-in_default-clause-spent
returns-in_default-clause-spent g c = λ script p typed e. omega arith

pub returns-clause-cause : goal.returns-clause-cause
returns-clause-cause g c = after_ok c.print_value.result _ _ _ c.in-Ok-run_node.ensures.cause c.print_value.ensures.cause

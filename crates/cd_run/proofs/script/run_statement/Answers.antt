use Rattle.std.proofs.Common.{◌≡◌, ℕ, suc, List, Some, refl, sym, ◌∙◌, ap, subst, arith}
use Rattle.cd_elem.specs.declared.script.Stmt.{Stmt}
use Rattle.cd_meaning.specs.Places.{Place, place_in}
use Rattle.cd_meaning.specs.Scripts.{script_places}
use Rattle.cd_types.specs.Numbering.{numbered}
use Rattle.cd_typed.specs.TypedScripts.{IsTyped}
use Rattle.cd_scope.specs.Calls.{site_at}
use Rattle.cd_scope.specs.Table.{IsOpen}
use Rattle.cd_run.specs.Ends.{MovedOn}
use Rattle.cd_run.specs.Going.{outside}
use Rattle.cd_run.specs.Runners.{table_of}
use Rattle.cd_run.specs.Scripts.{HasRun, after, held_after, rest_of}
use Rattle.cd_run.specs.Statements.{behind}
use Rattle.cd_run.proofs.ScriptRuns.{behind_statement, first_is, held_next, holds_on, if_ok, key_at, key_found, key_open, ran_next, released_next, releases_on, statement_goes}
use Rattle.cd_run.proofs.ScriptSteps.{files_here, hold_place, marks_file, may_run, numbered_here, one_script, run_unread}
use Rattle.cd_run.proofs.script.run_statement.Goals as goal

pub run_pipe-requires-clause-runs : goal.run_pipe-requires-clause-runs
run_pipe-requires-clause-runs g c = let n = c.requires.next in may_run n.0 n.1 c.args.number n.2 n.3 c.args.runner.now c.args.statement.now c.in-Run.field-0 n.5 n.6 c.in-Run.is

pub hold-requires-clause-ready : goal.hold-requires-clause-ready
hold-requires-clause-ready g c = let n = c.requires.next in (n.0, n.5.ready, marks_file (place_in (script_places n.0) c.first_site.result.0) c.in-Hold.field-1 (ap (place_in (script_places n.0)) (c.first_site.ensures n.0 n.4) ∙ hold_place n.0 n.1 c.args.number c.args.statement.now c.in-Hold.field-0 c.in-Hold.field-1 n.6 c.in-Hold.is))

pub hold-requires-clause-room : goal.hold-requires-clause-room
hold-requires-clause-room g c = let n = c.requires.next in let a = n.5.room in let b = files_here n.0 n.1 (Stmt.Hold c.in-Hold.field-0 c.in-Hold.field-1) (n.6.here ∙ ap (λ x. Some x) c.in-Hold.is) in omega (arith, a, b)

pub release_key-requires-clause-there : goal.release_key-requires-clause-there
release_key-requires-clause-there g c = let n = c.requires.next in let named = key_at n.0 n.1 c.args.number c.args.statement.now n.6 n.2 n.3 c.args.runner.now c.args.runner.now n.5 c.in-Release.field-0 (Stmt.Release c.in-Release.field-0) c.in-Some-key_of.key c.in-Release.is refl (c.in-Some-key_of.ensures.number n.0 n.4) in (site_at (n.2.key c.in-Release.field-0), key_found n.0 n.1 c.args.number c.args.statement.now n.6 n.2 n.3 c.args.runner.now c.args.runner.now n.5 c.in-Release.field-0 c.in-Some-key_of.key c.in-Release.is named, key_open n.0 n.1 c.args.number c.args.statement.now n.6 n.2 n.3 c.args.runner.now c.args.runner.now n.5 c.in-Release.field-0 c.in-Release.is)

pub returns-in-Run-clause-next : goal.returns-in-Run-clause-next
returns-in-Run-clause-next g c = λ script i st held h next. if_ok c.run_pipe.result (HasRun script (suc i) (after c.args.statement.now st) (held_after c.args.statement.now held) c.run_pipe.new.self) (ran_next script i c.args.number c.args.statement.now next st held c.args.runner.now c.run_pipe.new.self h (c.run_pipe.ensures.ready script h.ready) c.run_pipe.ensures.options c.in-Run.field-0 c.in-Run.is c.run_pipe.ensures.keys (c.run_pipe.ensures.stays script c.in-Run.field-0 h.ready (numbered_here script i c.args.number c.args.statement.now next ∙ ap (λ x. Some x) c.in-Run.is)) (c.run_pipe.ensures.others script c.in-Run.field-0 h.ready (numbered_here script i c.args.number c.args.statement.now next ∙ ap (λ x. Some x) c.in-Run.is)) (c.run_pipe.ensures.spent script c.in-Run.field-0 h.ready (numbered_here script i c.args.number c.args.statement.now next ∙ ap (λ x. Some x) c.in-Run.is)))

pub returns-in-Run-clause-open : goal.returns-in-Run-clause-open
returns-in-Run-clause-open g c = λ script ready base o. let n = c.requires.next in c.run_pipe.ensures.open script c.in-Run.field-0 ready (subst (λ (l : List Stmt). numbered l c.args.number ≡ Some (Stmt.Run c.in-Run.field-0)) (one_script n.0 script c.args.runner.now n.5.ready ready) (numbered_here n.0 n.1 c.args.number c.args.statement.now n.6 ∙ ap (λ x. Some x) c.in-Run.is)) base o

pub returns-in-Run-clause-told : goal.returns-in-Run-clause-told
returns-in-Run-clause-told g c = λ script i st held h next tells s base placed same size limit o m w0 go.
    behind_statement script i c.args.number c.args.statement.now next st held c.args.runner.now c.run_pipe.new.self h s m w0 (outside (g.W.World.log c.args.world.now) (g.W.World.files c.args.world.now)) (outside (g.W.World.log c.run_pipe.new.world) (g.W.World.files c.run_pipe.new.world)) go c.run_pipe.result _ (Stmt.Run c.in-Run.field-0) c.in-Run.is
    (c.run_pipe.ensures.told script c.in-Run.field-0 h.ready (numbered_here script i c.args.number c.args.statement.now next ∙ ap (λ x. Some x) c.in-Run.is) tells s base placed same size o m st (λ all st'. rest_of script (suc i) st' all) w0 (first_is script i c.args.number c.args.statement.now next st held c.args.runner.now c.run_pipe.new.self h) (run_unread script i c.args.number s.limit st held c.args.runner.now c.args.statement.now c.in-Run.field-0 h next c.in-Run.is limit) (statement_goes script i c.args.number c.args.statement.now next st held c.args.runner.now c.run_pipe.new.self h s m w0 (outside (g.W.World.log c.args.world.now) (g.W.World.files c.args.world.now)) (outside (g.W.World.log c.run_pipe.new.world) (g.W.World.files c.run_pipe.new.world)) go (Stmt.Run c.in-Run.field-0) c.in-Run.is))

pub returns-in-Some-clause-next : goal.returns-in-Some-clause-next
returns-in-Some-clause-next g c = λ script i st held h next. held_next script i c.args.number c.args.statement.now next st held c.args.runner.now c.hold.new.self h (c.hold.ensures.ready script h.ready) c.hold.ensures.options c.in-Hold.field-0 c.in-Hold.field-1 c.in-Some.key c.first_site.result c.hold.result c.in-Hold.is (key_at script i c.args.number c.args.statement.now next st held c.args.runner.now c.hold.new.self h c.in-Hold.field-0 (Stmt.Hold c.in-Hold.field-0 c.in-Hold.field-1) c.in-Some.key c.in-Hold.is refl (c.in-Some.ensures.number script (subst (λ (l : List Stmt). IsTyped l c.args.typed.now) (one_script c.requires.next.0 script c.args.runner.now c.requires.next.5.ready h.ready) c.requires.next.4))) (c.first_site.ensures script (subst (λ (l : List Stmt). IsTyped l c.args.typed.now) (one_script c.requires.next.0 script c.args.runner.now c.requires.next.5.ready h.ready) c.requires.next.4)) c.hold.ensures.keys c.hold.ensures.left c.hold.ensures.table c.hold.ensures.spent

pub returns-in-Some-clause-told : goal.returns-in-Some-clause-told
returns-in-Some-clause-told g c = λ script i st held h next tells s base placed same size limit o m w0 go.
    subst (λ (l : List ℕ). MovedOn s m c.hold.result (table_of c.hold.new.self) l (λ x. behind (rest_of script (suc i) (after c.args.statement.now st))) w0 (outside (g.W.World.log c.hold.new.world) (g.W.World.files c.hold.new.world))) (sym c.hold.ensures.left)
    (holds_on script i c.args.number c.args.statement.now next st held c.args.runner.now c.hold.new.self h s m w0 (outside (g.W.World.log c.args.world.now) (g.W.World.files c.args.world.now)) (outside (g.W.World.log c.hold.new.world) (g.W.World.files c.hold.new.world)) go c.hold.result c.in-Hold.field-0 c.in-Hold.field-1 c.first_site.result c.in-Hold.is (c.first_site.ensures script (subst (λ (l : List Stmt). IsTyped l c.args.typed.now) (one_script c.requires.next.0 script c.args.runner.now c.requires.next.5.ready h.ready) c.requires.next.4)) (c.hold.ensures.told script h.ready tells s base placed same o))

pub returns-in-Some-key_of-clause-next : goal.returns-in-Some-key_of-clause-next
returns-in-Some-key_of-clause-next g c = λ script i st held h next. if_ok c.release_key.result (HasRun script (suc i) (after c.args.statement.now st) (held_after c.args.statement.now held) c.release_key.new.self) (released_next script i c.args.number c.args.statement.now next st held c.args.runner.now c.release_key.new.self h (c.release_key.ensures.ready script h.ready) c.release_key.ensures.options c.in-Release.field-0 c.in-Release.is c.release_key.ensures.keys c.release_key.ensures.left (c.release_key.ensures.others (site_at (st.key c.in-Release.field-0)) (key_found script i c.args.number c.args.statement.now next st held c.args.runner.now c.release_key.new.self h c.in-Release.field-0 c.in-Some-key_of.key c.in-Release.is (key_at script i c.args.number c.args.statement.now next st held c.args.runner.now c.release_key.new.self h c.in-Release.field-0 (Stmt.Release c.in-Release.field-0) c.in-Some-key_of.key c.in-Release.is refl (c.in-Some-key_of.ensures.number script (subst (λ (l : List Stmt). IsTyped l c.args.typed.now) (one_script c.requires.next.0 script c.args.runner.now c.requires.next.5.ready h.ready) c.requires.next.4))))) c.release_key.ensures.room)

pub returns-in-Some-key_of-clause-told : goal.returns-in-Some-key_of-clause-told
returns-in-Some-key_of-clause-told g c = λ script i st held h next tells s base placed same size limit o m w0 go.
    subst (λ (l : List ℕ). MovedOn s m c.release_key.result (table_of c.release_key.new.self) l (λ x. behind (rest_of script (suc i) (after c.args.statement.now st))) w0 (outside (g.W.World.log c.release_key.new.world) (g.W.World.files c.release_key.new.world))) (sym c.release_key.ensures.left)
    (releases_on script i c.args.number c.args.statement.now next st held c.args.runner.now c.release_key.new.self h s m w0 (outside (g.W.World.log c.args.world.now) (g.W.World.files c.args.world.now)) (outside (g.W.World.log c.release_key.new.world) (g.W.World.files c.release_key.new.world)) go c.release_key.result c.in-Release.field-0 c.in-Release.is (c.release_key.ensures.told (site_at (st.key c.in-Release.field-0)) (key_found script i c.args.number c.args.statement.now next st held c.args.runner.now c.release_key.new.self h c.in-Release.field-0 c.in-Some-key_of.key c.in-Release.is (key_at script i c.args.number c.args.statement.now next st held c.args.runner.now c.release_key.new.self h c.in-Release.field-0 (Stmt.Release c.in-Release.field-0) c.in-Some-key_of.key c.in-Release.is refl (c.in-Some-key_of.ensures.number script (subst (λ (l : List Stmt). IsTyped l c.args.typed.now) (one_script c.requires.next.0 script c.args.runner.now c.requires.next.5.ready h.ready) c.requires.next.4)))) tells s base same (subst (λ (f : ℕ → Place). IsOpen f base (table_of c.args.runner.now) (g.W.World.live c.args.world.now)) (sym placed) o)))

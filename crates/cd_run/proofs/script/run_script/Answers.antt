use Rattle.std.proofs.Common.{◌+◌, ℕ, List, false, refl, sym, ◌∙◌, ap, subst}
use Rattle.cd_elem.specs.declared.script.Stmt.{Stmt}
use Rattle.cd_meaning.specs.Places.{place_in}
use Rattle.cd_meaning.specs.Scripts.{first_state, script_places, script_run}
use Rattle.cd_meaning.proofs.Opens.Scripts.{script_opens_once}
use Rattle.cd_run.specs.declared.options.Options.{Options}
use Rattle.cd_run.specs.Going.{AreSeparate, Going, outside}
use Rattle.cd_run.specs.Runners.{left_of, table_of}
use Rattle.cd_run.specs.Scripts.{HasRun}
use Rattle.cd_run.specs.Statements.{behind}
use Rattle.cd_run.proofs.ScriptStart.{begun, caused, first_run, never_begun, none_open, separate_places}
use Rattle.cd_run.proofs.script.run_script.Goals as goal

pub returns-in-Err-clause-told : goal.returns-in-Err-clause-told
returns-in-Err-clause-told g c = λ script typed tells s placed same size limit. never_begun s (script_run script) _ (outside (g.W.World.log c.args.world.now) (g.W.World.files c.args.world.now)) refl

pub run_statements-answer-requires-clause-first : goal.run_statements-answer-requires-clause-first
run_statements-answer-requires-clause-first g c =
    let script = c.requires.script.0 in
    let typed = c.requires.script.1 in
    subst (λ (l : List Stmt). HasRun l 0 first_state (λ name. false) c.in-Ok.runner) (sym (c.as_slice-statements.ensures ∙ c.statements.ensures ∙ c.script.ensures script typed))
    (first_run script c.in-Ok.runner (c.in-Ok.ensures.ready script typed) (c.typed_laws.ensures.scoped script c.args.typed.now typed) (λ s lt. c.in-Ok.ensures.left s lt ∙ ap (λ (o : Options). o.limit + 1) (sym c.in-Ok.ensures.options)) (c.in-Ok.ensures.room script typed))

pub run_statements-answer-requires-clause-open : goal.run_statements-answer-requires-clause-open
run_statements-answer-requires-clause-open g c = ((g.W.World.live c.args.world.now), (none_open (place_in (script_places c.as_slice-statements.result.now)) (table_of c.in-Ok.runner) (g.W.World.live c.args.world.now) c.in-Ok.ensures.table))

pub finish-requires : goal.finish-requires
finish-requires g c = record { «open» = (c.as_slice-statements.result.now, (g.W.World.live c.args.world.now), c.run_statements-answer.ensures.open (g.W.World.live c.args.world.now) (none_open (place_in (script_places c.as_slice-statements.result.now)) (table_of c.in-Ok.runner) (g.W.World.live c.args.world.now) c.in-Ok.ensures.table)) }

pub returns-in-Ok-clause-live : goal.returns-in-Ok-clause-live
returns-in-Ok-clause-live g c = c.finish.ensures.live c.as_slice-statements.result.now (g.W.World.live c.args.world.now) (c.run_statements-answer.ensures.open (g.W.World.live c.args.world.now) (none_open (place_in (script_places c.as_slice-statements.result.now)) (table_of c.in-Ok.runner) (g.W.World.live c.args.world.now) c.in-Ok.ensures.table))

pub returns-in-Ok-clause-cause : goal.returns-in-Ok-clause-cause
returns-in-Ok-clause-cause g c = caused c.run_statements-answer.result c.finish.result.answer _ _ _ c.run_statements-answer.ensures.cause c.finish.ensures.rose

pub returns-in-Ok-clause-told : goal.returns-in-Ok-clause-told
returns-in-Ok-clause-told g c = λ script typed tells s placed same size limit.
    let is = c.as_slice-statements.ensures ∙ c.statements.ensures ∙ c.script.ensures script typed in
    c.finish.ensures.told tells s (script_run script) (outside (g.W.World.log c.args.world.now) (g.W.World.files c.args.world.now))
    (c.run_statements-answer.ensures.told tells s (g.W.World.live c.args.world.now) (placed ∙ ap (λ (l : List Stmt). place_in (script_places l)) (sym is)) same (size ∙ ap (λ (o : Options). o.chunk) (sym c.in-Ok.ensures.options)) (limit ∙ ap (λ (o : Options). o.limit) (sym c.in-Ok.ensures.options)) (none_open (place_in (script_places c.as_slice-statements.result.now)) (table_of c.in-Ok.runner) (g.W.World.live c.args.world.now) c.in-Ok.ensures.table) (script_run script) (outside (g.W.World.log c.args.world.now) (g.W.World.files c.args.world.now))
    (subst (λ (l : List Stmt). Going s (script_run script) (table_of c.in-Ok.runner) (left_of c.in-Ok.runner) (behind (script_run l)) (outside (g.W.World.log c.args.world.now) (g.W.World.files c.args.world.now)) (outside (g.W.World.log c.args.world.now) (g.W.World.files c.args.world.now))) (sym is)
    (begun s (script_run script) (table_of c.in-Ok.runner) (left_of c.in-Ok.runner) (outside (g.W.World.log c.args.world.now) (g.W.World.files c.args.world.now)) c.in-Ok.ensures.table (script_opens_once script (c.typed_laws.ensures.lawful script c.args.typed.now typed) (c.typed_laws.ensures.scoped script c.args.typed.now typed))
    (subst AreSeparate (sym placed) (separate_places (script_places script) (c.typed_laws.ensures.apart script c.args.typed.now typed))) (λ x lt. c.in-Ok.ensures.left x lt ∙ ap (λ (n : ℕ). n + 1) (sym limit)))))

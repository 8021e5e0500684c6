use Rattle.std.proofs.Common.{ℕ, List, Some, ap, sym, ◌∙◌, subst}
use Rattle.std.specs.Option.{option_copied}
use Rattle.cd_elem.specs.declared.script.Stmt.{Stmt}
use Rattle.cd_meaning.specs.Pipes.{pipe_meaning}
use Rattle.cd_meaning.specs.Places.{place_in}
use Rattle.cd_meaning.specs.Scripts.{script_places}
use Rattle.cd_types.specs.Numbering.{StandFrom, numbered}
use Rattle.cd_build.proofs.statements.build.Goals as goal

pub returns-clause-gives : goal.returns-clause-gives
returns-clause-gives c =
    let h = c.in_ok-node-in-Some-Run.ensures in
    let script = c.requires.script in
    let typed = c.requires.is_typed in
    let at = sym (c.numbered_statement.ensures ∙ ap (λ (l : List Stmt). numbered l c.args.statement) (c.script.ensures script typed)) ∙ ap option_copied c.in-Some-Run.is ∙ ap (λ (x : Stmt). Some x) c.in-Some-Run.field-0-is in
    h.node.is_as.gives ∙ (c.parts_fit.ensures.runs script c.args.statement _ typed.has_type at).1

pub returns-clause-places : goal.returns-clause-places
returns-clause-places c = λ script p typed e.
    let h = c.in_ok-node-in-Some-Run.ensures in
    let place = place_in (script_places script) in
    let at = sym (c.numbered_statement.ensures ∙ ap (λ (l : List Stmt). numbered l c.args.statement) (c.script.ensures script typed)) ∙ ap option_copied c.in-Some-Run.is ∙ ap (λ (x : Stmt). Some x) c.in-Some-Run.field-0-is in
    h.node.places place (subst (λ (s : ℕ). StandFrom place s (pipe_meaning c.in-Some-Run.pipe).places) (sym (c.first_site-first.ensures script typed)) (c.numbering.ensures.stand script c.args.statement _ at))

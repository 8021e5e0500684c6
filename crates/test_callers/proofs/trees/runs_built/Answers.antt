use Rattle.std.proofs.Common.{List, Some, IsTrue, ap, sym, ◌∙◌, subst}
use Rattle.std.specs.Option.{option_copied}
use Rattle.cd_elem.specs.declared.script.Stmt.{Stmt}
use Rattle.cd_types.specs.Numbering.{numbered}
use Rattle.test_callers.proofs.trees.runs_built.Goals as goal

pub returns-in-Some-Run : goal.returns-in-Some-Run
returns-in-Some-Run c = λ script typed yes. record {
  script = script;
  pipe = c.in-Some-Run.pipe;
  is_typed = typed;
  runs = sym (c.get.ensures.value ∙ ap (λ (l : List Stmt). numbered l 1) (c.statements.ensures ∙ c.script.ensures script typed)) ∙ ap option_copied c.in-Some-Run.is ∙ ap (λ (x : Stmt). Some x) c.in-Some-Run.field-0-is;
  is_built = subst IsTrue c.is_built.ensures yes;
}

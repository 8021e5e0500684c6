use Rattle.std.proofs.Common.{ap, ◌∙◌}
use Rattle.cd_types.specs.Conditions.{lowest}
use Rattle.cd_typing.specs.PartForms.{one_asked}
use Rattle.cd_typing.proofs.walk.Walk.end_one.Goals as goal

pub returns-in-Ok : goal.returns-in-Ok
returns-in-Ok c = λ a e. record {
  typed = c.type_of_one.ensures a e;
  passed = c.in-Ok.ensures.moves (one_asked c.args.form (a.type c.args.flow)) (c.refused_behind_one-condition.ensures ∙ ap (λ u. lowest (one_asked c.args.form u)) e);
  same = c.ask_and_finish.ensures.parts;
}

pub returns-in-Err : goal.returns-in-Err
returns-in-Err c = λ a e. c.in-Err.ensures.moves (one_asked c.args.form (a.type c.args.flow)) (c.refused_behind_one-condition.ensures ∙ ap (λ u. lowest (one_asked c.args.form u)) e)

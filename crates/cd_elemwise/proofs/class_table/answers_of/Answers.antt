use Rattle.std.proofs.Common.{◌∙◌, arith, below_more, get_or-set_same, get_or-set_other, false}
use Rattle.std.proofs.lemmas.Grind.{common_steps}
use Rattle.cd_elemwise.proofs.class_table.answers_of.Goals as goal

pub loop-number-preserved : goal.loop-number-preserved
loop-number-preserved c = (
  below_more _ _
      (λ k h. get_or-set_other c.loop-number.answers c.loop-number.number k _ false (omega arith) ∙ c.loop-number.invariant.0 k h)
      (get_or-set_same c.loop-number.answers c.loop-number.number _ false (omega arith) ∙ c.is_in.ensures),
  grind (arith, common_steps),
)

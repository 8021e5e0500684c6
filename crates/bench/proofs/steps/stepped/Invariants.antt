use Rattle.std.proofs.Common.{Some}
use Rattle.cd_elem.specs.declared.kind.Kind.TheVariants as kind
use Rattle.cd_step.specs.Parts.{IsGiven}
use Rattle.cd_node.specs.Nodes.{AnswersNode}
use Rattle.cd_node.specs.Trees.{seen}
use Rattle.bench.specs.TimedTrees.{IsTimed, input_of}
use Rattle.bench.proofs.steps.stepped.Given as goal

abbrev pub invariant-loop : goal.invariant-loop
invariant-loop l = record {
  timed : IsTimed l.tree;
  answers : AnswersNode (seen l.tree) (input_of l.answer);
  given : IsGiven (Some kind.Bytes) l.flow.given;
}

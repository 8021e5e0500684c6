use Rattle.std.proofs.Common.{MatchOption, Option, subst}
use Rattle.cd_step.specs.Parts.{Kept, Part}
use Rattle.cd_node.specs.Nodes.{AnswersNode, GoesNode, fed_node}
use Rattle.cd_node.specs.Trees.{seen}
use Rattle.cd_node.specs.declared.protocol.NodeInput.{NodeInput}
use Rattle.bench.specs.TimedTrees.{IsTimed, input_of, places}
use Rattle.bench.specs.declared.steps.Answer.{Answer}
use Rattle.bench.proofs.Stepping.{timed_kept}
use Rattle.bench.proofs.steps.stepped.Goals as goal

pub loop-preserved : goal.loop-preserved
loop-preserved c =
    let a : Answer = c.loop.answer in
    let p : Part = seen c.loop.tree in
    let q : Part = seen c.step.new.self in
    let stands = c.loop.invariant.timed.stands in
    let kept : Kept (fed_node (input_of a) p) q = subst (λ (i : NodeInput). Kept (fed_node i p) q) c.node_input.ensures c.step.ensures.kept in
    let goes : GoesNode places c.in_ok-made.made (fed_node (input_of a) p) q = subst (λ (i : NodeInput). GoesNode places c.in_ok-made.made (fed_node i p) q) c.node_input.ensures (c.in_ok-made.ensures.law places stands) in
    let timed : IsTimed c.step.new.self = timed_kept a c.loop.tree c.step.new.self c.loop.invariant.timed c.in_ok-made.ensures.well (c.step.ensures.places places stands) kept in
    record {
      timed = timed;
      answers = subst (λ (next : Option Answer). MatchOption next (Unit {0}) (λ b. AnswersNode q (input_of b))) c.in-Some.is (c.in_ok-next.ensures.answers (fed_node (input_of a) p) q goes kept timed.takes);
      given = c.answer.ensures.given;
    }

use Rattle.std.proofs.Common.{subst, sym, arith, Result, Ok, Option, IfOk}
use Rattle.cd_elem.specs.declared.no_memory.NoMemory.{NoMemory}
use Rattle.cd_typed.specs.Sites.{place_of}
use Rattle.cd_scope.specs.declared.scope.Scope.{Scope}
use Rattle.cd_scope.specs.State.{held_in}
use Rattle.cd_node.specs.Nodes.{AreHeld, NodeStepped, fed_node}
use Rattle.cd_node.specs.declared.protocol.NodeInput.{NodeInput}
use Rattle.cd_node.specs.declared.protocol.NodeMove.{NodeMove}
use Rattle.test_callers.specs.declared.lines.StepError.{StepError}
use Rattle.test_callers.specs.Leaves.{AnswersMove, seen_leaf}
use Rattle.test_callers.proofs.LeafSteps.{input_held, leaf_takes, part_held}
use Rattle.test_callers.proofs.leaf_runs.step_all.Goals as goal

pub retire-rest-requires : goal.retire-rest-requires
retire-rest-requires c = subst (λ (x : Option NodeInput). AnswersMove (held_in c.respond.new.scope) (seen_leaf c.advance.new.self) (Ok x)) c.in-Ok-None.field-0-is (subst (λ (r : Result (Option NodeInput) StepError). AnswersMove (held_in c.respond.new.scope) (seen_leaf c.advance.new.self) r) c.in-Ok-None.is (c.respond.ensures.answers (fed_node c.loop.input (seen_leaf c.loop.leaf)) (seen_leaf c.advance.new.self) (subst (λ (r : Result NodeMove NoMemory). IfOk r (λ m. NodeStepped (λ s. place_of c.args.info.now) (seen_leaf c.loop.leaf) c.loop.input m (seen_leaf c.advance.new.self))) c.unwrap-made.ensures (c.advance.ensures.law (λ s. place_of c.args.info.now) c.loop.invariant.stands)) c.advance.ensures.kept (leaf_takes c.advance.new.self) c.loop.invariant.held))

pub retire-rest-requires-in-Err : goal.retire-rest-requires-in-Err
retire-rest-requires-in-Err c = (subst (λ (r : Result (Option NodeInput) StepError). AnswersMove (held_in c.respond.new.scope) (seen_leaf c.advance.new.self) r) c.in-Err.is (c.respond.ensures.answers (fed_node c.loop.input (seen_leaf c.loop.leaf)) (seen_leaf c.advance.new.self) (subst (λ (r : Result NodeMove NoMemory). IfOk r (λ m. NodeStepped (λ s. place_of c.args.info.now) (seen_leaf c.loop.leaf) c.loop.input m (seen_leaf c.advance.new.self))) c.unwrap-made.ensures (c.advance.ensures.law (λ s. place_of c.args.info.now) c.loop.invariant.stands)) c.advance.ensures.kept (leaf_takes c.advance.new.self) c.loop.invariant.held))

pub loop-preserved : goal.loop-preserved
loop-preserved c =
    let next = subst (λ (x : Option NodeInput). AnswersMove (held_in c.respond.new.scope) (seen_leaf c.advance.new.self) (Ok x)) c.in-Ok-Some.field-0-is (subst (λ (r : Result (Option NodeInput) StepError). AnswersMove (held_in c.respond.new.scope) (seen_leaf c.advance.new.self) r) c.in-Ok-Some.is (c.respond.ensures.answers (fed_node c.loop.input (seen_leaf c.loop.leaf)) (seen_leaf c.advance.new.self) (subst (λ (r : Result NodeMove NoMemory). IfOk r (λ m. NodeStepped (λ s. place_of c.args.info.now) (seen_leaf c.loop.leaf) c.loop.input m (seen_leaf c.advance.new.self))) c.unwrap-made.ensures (c.advance.ensures.law (λ s. place_of c.args.info.now) c.loop.invariant.stands)) c.advance.ensures.kept (leaf_takes c.advance.new.self) c.loop.invariant.held)) in record {
      fit = c.advance.ensures.fit;
      answers = next.0;
      stands = c.advance.ensures.places _ c.loop.invariant.stands;
      held = next.1;
      room = omega (arith, c.respond.ensures.room, c.loop.invariant.room);
      «open» = λ base o. c.respond.ensures.open base (c.loop.invariant.open base o);
    }

pub give_up-requires : goal.give_up-requires
give_up-requires c = input_held c.loop.input (held_in c.loop.scope) (seen_leaf c.loop.leaf) c.loop.invariant.held

pub retire-rest-requires-2 : goal.retire-rest-requires-2
retire-rest-requires-2 c = subst (λ (x : Scope). AreHeld (held_in x) (seen_leaf c.loop.leaf)) (sym c.give_up.ensures) (part_held c.loop.input (held_in c.loop.scope) (seen_leaf c.loop.leaf) c.loop.invariant.held)

use Rattle.std.proofs.Common.{Result, Ok, subst, sym, arith}
use Rattle.cd_scope.specs.State.{held_in}
use Rattle.cd_scope.specs.declared.scope.Scope.{Scope}
use Rattle.cd_node.specs.Nodes.{AreHeld, fed_node}
use Rattle.cd_node.specs.Trees.{seen}
use Rattle.cd_run.specs.Going.{places_of}
use Rattle.test_callers.specs.Trees.{IsAnswered}
use Rattle.test_callers.specs.declared.lines.StepError.{StepError}
use Rattle.test_callers.specs.declared.tree_runs.Answer.{Answer}
use Rattle.test_callers.proofs.LeafSteps.{input_held, part_held}
use Rattle.test_callers.proofs.TreeSteps.{may_be_done, still_on_bytes}
use Rattle.test_callers.proofs.tree_runs.step_all.Goals as goal

pub respond-requires-clause-may : goal.respond-requires-clause-may
respond-requires-clause-may c =
    may_be_done (held_in c.loop.scope) (places_of c.args.sites.now) c.in-Ok.made (fed_node c.loop.input (seen c.loop.node)) (seen c.step.new.self) (c.in-Ok.ensures.law (places_of c.args.sites.now) c.loop.invariant.stands) c.step.ensures.kept c.loop.invariant.held

pub loop-preserved : goal.loop-preserved
loop-preserved c =
    let table = held_in c.respond.new.scope in
    let p = fed_node c.loop.input (seen c.loop.node) in
    let q = seen c.step.new.self in
    let on = still_on_bytes c.loop.input (seen c.loop.node) q c.step.ensures.kept c.loop.invariant.takes in
    let answered = c.respond.ensures.answers p q (c.in-Ok.ensures.law (places_of c.args.sites.now) c.loop.invariant.stands) c.step.ensures.kept on c.loop.invariant.held in
    let next = subst (λ (x : Answer). IsAnswered table q (Ok x)) c.in-Ok-Next.field-0-is (subst (λ (r : Result Answer StepError). IsAnswered table q r) c.in-Ok-Next.is answered) in
    record {
      well = c.in-Ok.ensures.well;
      answers = next.0;
      takes = on;
      stands = c.step.ensures.places (places_of c.args.sites.now) c.loop.invariant.stands;
      held = next.1;
      room = omega (arith, c.respond.ensures.room, c.loop.invariant.room);
      «open» = λ base o. c.respond.ensures.open base (c.loop.invariant.open base o);
    }

pub give_up-requires : goal.give_up-requires
give_up-requires c = input_held c.loop.input (held_in c.loop.scope) (seen c.loop.node) c.loop.invariant.held

pub returns-clause-held : goal.returns-clause-held
returns-clause-held c = subst (λ (x : Scope). AreHeld (held_in x) (seen c.loop.node)) (sym c.give_up.ensures) (part_held c.loop.input (held_in c.loop.scope) (seen c.loop.node) c.loop.invariant.held)

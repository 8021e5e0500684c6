use Rattle.std.proofs.Common.{◌≤◌, ◌+◌, sym, subst}
use Rattle.std.specs.Prelude.{Contains}
use Rattle.cd_scope.specs.State.{held_in, room_in}
use Rattle.cd_scope.specs.Table.{IsOpen}
use Rattle.cd_scope.specs.declared.scope.Scope.{Scope}
use Rattle.cd_run.specs.Going.{outside, places_of}
use Rattle.cd_run.specs.Statements.{RunTo}
use Rattle.cd_run.proofs.Chain.{all_forgotten}
use Rattle.cd_run.proofs.drive.run_node.Goals as goal

pub run_to_end-answer-requires-clause-left : goal.run_to_end-answer-requires-clause-left
run_to_end-answer-requires-clause-left g c = λ s lt none. all_forgotten (g.N.StatementNode.seen c.args.node) c.args.left.now c.requires.local (λ x own. (c.requires.within x own).1) s none

pub returns-clause-spent : goal.returns-clause-spent
returns-clause-spent g c = λ most few. subst (λ (x : Scope). room_in c.args.scope.now ≤ room_in x + most) (sym c.abandon.ensures.scope) (c.run_to_end-answer.ensures.spent most few)

pub returns-clause-open : goal.returns-clause-open
returns-clause-open g c = λ base o. subst (λ (x : Scope). IsOpen (places_of c.args.sites.now) base (held_in x) (g.W.World.live c.run_to_end-answer.new.world)) (sym c.abandon.ensures.scope) (c.run_to_end-answer.ensures.open base o)

pub returns-clause-told : goal.returns-clause-told
returns-clause-told g c = λ tells s base placed same size o m k w0 go.
    subst (λ (x : Scope). RunTo s m c.run_to_end-answer.result (held_in x) c.run_to_end-answer.new.left k w0 (outside (g.W.World.log c.run_to_end-answer.new.world) (g.W.World.files c.run_to_end-answer.new.world))) (sym c.abandon.ensures.scope) (c.run_to_end-answer.ensures.told tells s base placed same size o m k w0 go)

pub returns-clause-stays : goal.returns-clause-stays
returns-clause-stays g c = λ h none has. subst (λ (x : Scope). Contains (held_in x) h) (sym c.abandon.ensures.scope) (c.run_to_end-answer.ensures.stays h none has)

use Rattle.std.proofs.Common.{sym, get_or}
use Rattle.cd_scope.specs.declared.table.Held.{Held}
use Rattle.cd_scope.specs.Calls.{held_at}
use Rattle.cd_scope.proofs.TableSteps.{descriptor_first, get_any}
use Rattle.cd_scope.proofs.scope.descriptor_of.Goals as goal

pub returns-then-held-site-clause-is : goal.returns-then-held-site-clause-is
returns-then-held-site-clause-is c =
    let none : Held = held_at 0 (record { 0 = 0 }) in
    let here : Held = get_or c.args.table.now c.loop-held.held-index none in
    sym (descriptor_first c.args.site.0 c.args.table.now c.loop-held.held-index here c.loop-held-test.true (get_any c.args.table.now c.loop-held.held-index here none c.loop-held-test.true) c.if-held-site.true c.loop-held.invariant.before)

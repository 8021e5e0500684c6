use Rattle.std.proofs.Common.{◌∙◌, ◌≡◌, true, sym, subst}
use Rattle.cd_scope.specs.declared.table.Held.{Held}
use Rattle.cd_scope.specs.Calls.{is_held}
use Rattle.cd_scope.proofs.TableSteps.{removes_first, get_any}
use Rattle.cd_scope.proofs.scope.position_of.Goals as goal

pub returns-then-is_held-clause-first : goal.returns-then-is_held-clause-first
returns-then-is_held-clause-first c =
    removes_first c.args.site.0 c.args.descriptor c.args.table.now c.loop-place.place c.loop-place-test.true
    (λ x. subst (λ (h : Held). is_held c.args.site.0 c.args.descriptor h ≡ true) (get_any c.args.table.now c.loop-place.place _ x c.loop-place-test.true) (sym c.is_held.ensures ∙ c.if-is_held.true))
    c.loop-place.invariant.before

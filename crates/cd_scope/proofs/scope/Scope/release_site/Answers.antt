use Rattle.std.proofs.Common.{List, sym, subst}
use Rattle.std.specs.Prelude.{Contains}
use Rattle.cd_scope.specs.declared.table.Held.{Held}
use Rattle.cd_scope.specs.State.{held_in}
use Rattle.cd_scope.proofs.TableSteps.{other_stays}
use Rattle.cd_scope.proofs.scope.Scope.release_site.Goals as goal

pub returns-clause-others : goal.returns-clause-others
returns-clause-others g c = λ h other has. subst (λ (l : List Held). Contains l h) (sym c.close.ensures.held) (other_stays c.args.site.0 c.descriptor_of-descriptor.result (held_in c.args.self.now) h other has)

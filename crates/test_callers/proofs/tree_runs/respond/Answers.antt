use Rattle.std.proofs.Common.{refl, ap, subst}
use Rattle.cd_elem.specs.declared.site.Site.{Site}
use Rattle.cd_world.specs.Memory.{live_in}
use Rattle.cd_scope.specs.State.{held_in}
use Rattle.cd_node.proofs.Held.{held_kept}
use Rattle.cd_run.specs.Going.{places_of}
use Rattle.cd_run.proofs.MoveSteps.{acquired_answers, acquired_there}
use Rattle.cd_run.proofs.WriteSteps.{is_readable, is_writable}
use Rattle.test_callers.specs.Trees.{MayBeDone}
use Rattle.test_callers.proofs.tree_runs.respond.Goals as goal

pub read-requires : goal.read-requires
read-requires c =
    let may = subst (MayBeDone (held_in c.args.scope.now) (places_of c.args.sites.now)) c.in-Read.is c.requires.may in
    record {
      readable = is_readable (places_of c.args.sites.now) c.requires.open.0 (live_in c.args.world.now) (held_in c.args.scope.now) c.requires.open.1 c.in-Read.site.0 c.in-Read.descriptor (places_of c.args.sites.now c.in-Read.site.0) refl may;
    }

pub write_chunk-requires-clause-writable : goal.write_chunk-requires-clause-writable
write_chunk-requires-clause-writable c =
    let may = subst (MayBeDone (held_in c.args.scope.now) (places_of c.args.sites.now)) c.in-Write.is c.requires.may in
    is_writable (places_of c.args.sites.now) c.requires.open.0 (live_in c.args.world.now) (held_in c.args.scope.now) c.requires.open.1 c.in-Write.site.0 c.in-Write.descriptor (places_of c.args.sites.now c.in-Write.site.0) refl may.1

pub returns-in-Ok-clause-answers : goal.returns-in-Ok-clause-answers
returns-in-Ok-clause-answers c = λ p q go kept on held.
    let same = ap (λ (x : Site). x.0) c.in-Ok.ensures.site in (
      acquired_answers (places_of c.args.sites.now) p q c.args.made go c.in-Acquire.site c.in-Ok.ticket c.in-Acquire.is same,
      acquired_there (held_in c.args.scope.now) (held_in c.acquire.new.scope) c.in-Acquire.site c.in-Ok.ticket q same c.in-Ok.ensures.table (held_kept (held_in c.args.scope.now) p q kept held),
    )

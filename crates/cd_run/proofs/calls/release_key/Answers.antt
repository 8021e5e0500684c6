use Rattle.std.proofs.Common.{◌≡◌, ◌++◌, ◌∷◌, [], Result, sym, subst}
use Rattle.std.specs.Prelude.{IsTrue}
use Rattle.cd_scope.specs.declared.errors.CloseFault.{CloseFault}
use Rattle.cd_scope.specs.Calls.{event, held_at}
use Rattle.cd_scope.specs.State.{held_in}
use Rattle.cd_scope.specs.Table.{ClosesWith, closing, descriptor_at, open_of}
use Rattle.cd_run.specs.declared.fault.RunFault.TheVariants.{CloseFault as CloseFaulted}
use Rattle.cd_run.specs.Ends.{Faulted}
use Rattle.cd_run.specs.Going.{outside}
use Rattle.cd_run.proofs.Steps.{closes_well, closes_badly}
use Rattle.cd_run.proofs.CallSteps.{descriptor_there}
use Rattle.cd_run.proofs.calls.release_key.Goals as goal

pub returns-in-Ok-clause-told : goal.returns-in-Ok-clause-told
returns-in-Ok-clause-told g c = λ tells s base same o m left todo w0 go.
    closes_well s m (held_in c.args.scope.now) (held_in c.release_site.new.self) todo w0 (outside (g.W.World.log c.args.world.now) (g.W.World.files c.args.world.now)) (outside (g.W.World.log c.release_site.new.world) (g.W.World.files c.release_site.new.world)) c.args.site (descriptor_at c.args.site.0 (held_in c.args.scope.now)) c.release_site.ensures.held (descriptor_there c.args.site.0 (held_in c.args.scope.now) c.requires.there) go (Unit {0}) _ (subst (λ (r : Result (Unit {0}) CloseFault). g.W.World.log c.release_site.new.world ≡ g.W.World.log c.args.world.now ++ event s.place (closing c.args.site.0 (descriptor_at c.args.site.0 (held_in c.args.scope.now)) r) ∷ []) c.in-Ok.is (c.release_site.ensures.log tells s.place))
    (λ ft. subst (λ (r : Result (Unit {0}) CloseFault). ClosesWith (open_of s.place (held_at c.args.site.0 (descriptor_at c.args.site.0 (held_in c.args.scope.now)))) r (g.W.World.files c.args.world.now) (g.W.World.files c.release_site.new.world)) c.in-Ok.is (c.release_site.ensures.files (subst IsTrue same ft) s.place base o))

pub returns-in-Err-clause-told : goal.returns-in-Err-clause-told
returns-in-Err-clause-told g c = λ tells s base same o m left todo w0 go.
    subst (λ y. Faulted s m (CloseFaulted y) (held_in c.release_site.new.self) w0 (outside (g.W.World.log c.release_site.new.world) (g.W.World.files c.release_site.new.world))) (sym c.in-Err.ensures.answers.0)
    (closes_badly s m (held_in c.args.scope.now) (held_in c.release_site.new.self) todo w0 (outside (g.W.World.log c.args.world.now) (g.W.World.files c.args.world.now)) (outside (g.W.World.log c.release_site.new.world) (g.W.World.files c.release_site.new.world)) c.args.site (descriptor_at c.args.site.0 (held_in c.args.scope.now)) c.release_site.ensures.held (descriptor_there c.args.site.0 (held_in c.args.scope.now) c.requires.there) go (Unit {0}) (record { site = c.in-Err.site }) (subst (λ (r : Result (Unit {0}) CloseFault). g.W.World.log c.release_site.new.world ≡ g.W.World.log c.args.world.now ++ event s.place (closing c.args.site.0 (descriptor_at c.args.site.0 (held_in c.args.scope.now)) r) ∷ []) c.in-Err.is (c.release_site.ensures.log tells s.place)))

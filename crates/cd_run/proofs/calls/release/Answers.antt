use Rattle.std.proofs.Common.{◌≡◌, ◌++◌, ◌∷◌, [], Result, sym, subst}
use Rattle.std.specs.Prelude.{IsTrue}
use Rattle.cd_scope.specs.declared.errors.CloseFault.{CloseFault}
use Rattle.cd_scope.specs.Calls.{event, held_at}
use Rattle.cd_scope.specs.State.{held_in}
use Rattle.cd_scope.specs.Table.{ClosesWith, closing, open_of}
use Rattle.cd_run.specs.declared.fault.RunFault.TheVariants.{CloseFault as CloseFaulted}
use Rattle.cd_run.specs.Ends.{Faulted}
use Rattle.cd_run.specs.Going.{outside}
use Rattle.cd_run.proofs.Steps.{closes_well, closes_badly}
use Rattle.cd_run.proofs.calls.release.Goals as goal

pub returns-in-Ok-clause-told : goal.returns-in-Ok-clause-told
returns-in-Ok-clause-told g c = λ tells s base same o m left todo w0 go.
    closes_well s m (held_in c.args.scope.now) (held_in c.release.new.self) todo w0 (outside (g.W.World.log c.args.world.now) (g.W.World.files c.args.world.now)) (outside (g.W.World.log c.release.new.world) (g.W.World.files c.release.new.world)) c.args.ticket.site c.args.ticket.descriptor c.release.ensures.held c.requires.there go (Unit {0}) _ (subst (λ (r : Result (Unit {0}) CloseFault). g.W.World.log c.release.new.world ≡ g.W.World.log c.args.world.now ++ event s.place (closing c.args.ticket.site.0 c.args.ticket.descriptor r) ∷ []) c.in-Ok.is (c.release.ensures.log tells s.place))
    (λ ft. subst (λ (r : Result (Unit {0}) CloseFault). ClosesWith (open_of s.place (held_at c.args.ticket.site.0 c.args.ticket.descriptor)) r (g.W.World.files c.args.world.now) (g.W.World.files c.release.new.world)) c.in-Ok.is (c.release.ensures.files (subst IsTrue same ft) s.place base o))

pub returns-in-Err-clause-told : goal.returns-in-Err-clause-told
returns-in-Err-clause-told g c = λ tells s base same o m left todo w0 go.
    subst (λ y. Faulted s m (CloseFaulted y) (held_in c.release.new.self) w0 (outside (g.W.World.log c.release.new.world) (g.W.World.files c.release.new.world))) (sym c.in-Err.ensures.answers.0)
    (closes_badly s m (held_in c.args.scope.now) (held_in c.release.new.self) todo w0 (outside (g.W.World.log c.args.world.now) (g.W.World.files c.args.world.now)) (outside (g.W.World.log c.release.new.world) (g.W.World.files c.release.new.world)) c.args.ticket.site c.args.ticket.descriptor c.release.ensures.held c.requires.there go (Unit {0}) (record { site = c.in-Err.site }) (subst (λ (r : Result (Unit {0}) CloseFault). g.W.World.log c.release.new.world ≡ g.W.World.log c.args.world.now ++ event s.place (closing c.args.ticket.site.0 c.args.ticket.descriptor r) ∷ []) c.in-Err.is (c.release.ensures.log tells s.place)))

use Rattle.std.proofs.Common.{◌≢◌, ℕ, ◌<◌, get_or}
use Rattle.cd_world.specs.declared.store.Member.{Member}
use Rattle.cd_world.proofs.store.Store.position_of.Given as goal

abbrev pub invariant-loop-place : goal.invariant-loop-place
invariant-loop-place l = (k : ℕ) (d : Member) → k < l.place → (get_or l.self.members.items k d).name ≢ l.name

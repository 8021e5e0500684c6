use Rattle.std.proofs.Common.{◌≡◌, map}
use Rattle.cd_world.specs.Store.{member_of}
use Rattle.cd_world.proofs.store.Store.new.Given as goal

abbrev pub invariant-loop-file : goal.invariant-loop-file
invariant-loop-file l = l.members.items ≡ map member_of l.yielded

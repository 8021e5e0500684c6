use Rattle.std.proofs.Common.{◌≡◌, ◌*◌, length}
use Rattle.bench.proofs.feed.copied.Given as goal

abbrev pub invariant-loop : goal.invariant-loop
invariant-loop l = l.count ≡ l.counter * length l.bytes

use Rattle.std.proofs.Common.{◌≡◌, ◌*◌, ◌%◌, ◌^◌, sum}
use Rattle.bench.proofs.feed.summed.Given as goal

abbrev pub invariant-loop : goal.invariant-loop
invariant-loop l = l.total ≡ l.counter * sum l.bytes % 2 ^ 64

use Rattle.std.proofs.Common.{◌≡◌, ◌+◌, ◌%◌, ◌^◌, take, sum}
use Rattle.bench.proofs.feed.sum_on.Given as goal

abbrev pub invariant-loop-byte : goal.invariant-loop-byte
invariant-loop-byte l = l.total ≡ (l.fn.before + sum (take l.byte-index l.bytes)) % 2 ^ 64

use Rattle.std.proofs.Common.{arith}
use Rattle.cd_elemwise.proofs.PlanLaws.{repeated_fits}
use Rattle.cd_elemwise.proofs.chunks.repeated_of.Goals as goal

pub chunk_of-requires-clause-most : goal.chunk_of-requires-clause-most
chunk_of-requires-clause-most c = repeated_fits c.args.times c.args.count _ _ c.in_ok-list-in-Bytes.list c.in_ok-list-in-Bytes.ensures (omega arith) c.requires.most

pub chunk_of-requires-in-Chars-clause-most : goal.chunk_of-requires-in-Chars-clause-most
chunk_of-requires-in-Chars-clause-most c = repeated_fits c.args.times c.args.count _ _ c.in_ok-list-in-Chars.list c.in_ok-list-in-Chars.ensures (omega arith) c.requires.most

use Rattle.cd_fuse.proofs.FuseTurns.{begin_start, begin_next, begin_chunk, begin_end}
use Rattle.cd_fuse.proofs.fuse.FuseControl.begin.Goals as goal

pub returns-in-Start : goal.returns-in-Start
returns-in-Start c = rw c.in-Start.is (λ a b l k inv h x. begin_start c.args.self.now a b inv h)

pub returns-in-Next : goal.returns-in-Next
returns-in-Next c = rw c.in-Next.is (λ a b l k inv h x. begin_next c.args.self.now a b inv h)

pub returns-in-Chunk : goal.returns-in-Chunk
returns-in-Chunk c = rw c.in-Chunk.is (λ a b l k inv h x. begin_chunk c.args.self.now a b c.in-Chunk.chunk inv h)

pub returns : goal.returns
returns c = rw c.in-End.is (λ a b l k inv h x. begin_end c.args.self.now a b inv h)

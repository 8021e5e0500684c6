-- Sealed sources: runs on nothing, from which sinks take a part each.
use Rattle.cd_meaning.specs.Run.{Stamp, start, Run, Component, last, outs_at}
use Rattle.cd_meaning.specs.Fusion.{fed, fuse_at, after, outs_between}

-- the source's run with a sink
abbrev pub fed_run : Run → Component → Run
fed_run a sink = fuse_at start a (fed a sink)

-- the source behind a sink that ended at t: what the sink gave back, and what it did not ask for
abbrev pub resealed : Run → Stamp → Run
resealed a t = outs_at start (outs_between t.net t.need a) (after t.need a)

-- the source behind this sink
abbrev pub left_by : Run → Component → Run
left_by a sink = resealed a (last (fed a sink))

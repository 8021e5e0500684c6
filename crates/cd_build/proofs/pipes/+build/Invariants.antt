use Rattle.std.proofs.Common.{◌+◌, ◌*◌, map}
use Rattle.cd_types.specs.Parts.{sizes}
use Rattle.cd_types.specs.Trees.{part}
use Rattle.cd_build.proofs.pipes.+build.Given as goal

abbrev pub decreases-build_pipe : goal.decreases-build_pipe
decreases-build_pipe l = 2 * (part l.pipe.now).size

abbrev pub decreases-build_chain : goal.decreases-build_chain
decreases-build_chain l = 2 * sizes (map part l.members.now) + 1

abbrev pub decreases-build_sequence : goal.decreases-build_sequence
decreases-build_sequence l = 2 * sizes (map part l.parts.now) + 1

abbrev pub decreases-build_mark : goal.decreases-build_mark
decreases-build_mark l = 2 * (part l.body.now).size + 1

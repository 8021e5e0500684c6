use Rattle.std.proofs.Common.{◌==◌, map, drop}
use Rattle.cd_types.specs.Trees.{part}
use Rattle.cd_part_types.specs.Types.{type_of}
use Rattle.cd_typing.specs.Walking.{start}
use Rattle.cd_typing.proofs.ChainSteps.{Chained}
use Rattle.cd_typing.proofs.SequenceSteps.{Walked}
use Rattle.cd_typing.proofs.walk.Walk.+typing.Given as goal

abbrev pub invariant-type_sequence-loop-place : goal.invariant-type_sequence-loop-place
invariant-type_sequence-loop-place l =
    Walked (start l.statement l.part l.flow l.initial.self) (map part l.pipes) (map part (drop l.place l.pipes)) l.self l.joined

abbrev pub invariant-type_chain-loop-place : goal.invariant-type_chain-loop-place
invariant-type_chain-loop-place l =
    Chained (start l.statement l.part l.flow l.initial.self) l.operator (map part l.pipes) (map part (drop l.place l.pipes)) l.self (map type_of l.members) l.to (l.place == 0)

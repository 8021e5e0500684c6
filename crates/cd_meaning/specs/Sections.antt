-- Sections and sequences: parts that read a part of one input each.
use Rattle.std.specs.Prelude.{ℕ, suc, ◌+◌, ◌==◌, max, not, if◌then◌else◌, length, drop}
use Rattle.cd_elem.specs.Ascii.{newline}
use Rattle.cd_meaning.specs.Stream.{Value, Done}
use Rattle.cd_meaning.specs.Run.{Stamp, stamp, Ends, Component, restamp, follow, past}
use Rattle.cd_meaning.specs.RunShapes.{each, passes, front, number}
use Rattle.cd_meaning.specs.ElementWords.{taken}
use Rattle.cd_meaning.specs.Fusion.{fuse_drained, second_value}

-- `exactly` and `exactlyE`
abbrev pub exactly : ℕ → Component → Component
exactly n = fuse_drained second_value (taken n)

-- the elements before the first newline, which is taken too
abbrev pub one_line : Component
one_line xs e =
    let line = front (λ x. not (number x == newline)) xs in
    let k = length line in
    each passes 0 line (if k == length xs then past k e Value.Unit else Ends (stamp (suc k) (suc k)) (Done Value.Unit))

abbrev pub line : Component → Component
line = fuse_drained second_value one_line

-- ---- parts that read one input after each other

-- a stamp of the second part, where the first ended at s
abbrev pub behind : Stamp → Stamp → Stamp
behind s t = stamp (max s.need (s.net + t.need)) (s.net + t.net)

abbrev pub sequence : Component → Component → Component
sequence a b xs e = follow (a xs e) (λ s v. restamp (behind s) (b (drop s.net xs) e))

-- Kinds that are joined, and a fusion and a sequence worked by hand over small inputs.
use Rattle.std.specs.Prelude.{◌≡◌, refl, ℕ, false, true, List, [], ◌∷◌, map, Option, Some, None, codes}
use Rattle.cd_elem.specs.Limits.{chunk_limit}
use Rattle.cd_elem.specs.declared.kind.Kind.TheVariants.{Bytes, Chars, Blocks, Texts}
use Rattle.cd_meaning.specs.ElementWords.{taken}
use Rattle.cd_meaning.specs.Known.{nothing_known}
use Rattle.cd_meaning.specs.Rest.{fresh}
use Rattle.cd_meaning.specs.Run.{stamp, Component, Run, Then, Ends}
use Rattle.cd_meaning.specs.Stream.{Elem, Value, Sort, Done, Ended, Out}
use Rattle.cd_step.specs.declared.protocol.Stand.TheVariants as stand
use Rattle.cd_step.specs.declared.control.Side.TheVariants.{Upper, Lower}
use Rattle.cd_step.specs.Parts.{Agree, At, Fresh, Gave, Over, Part, joined}
use Rattle.cd_step.specs.Reading.{part_of}
use Rattle.cd_fuse.specs.declared.follow.Follow.{Follow}
use Rattle.cd_fuse.specs.declared.fuse.Fuse.{Fuse}
use Rattle.cd_fuse.specs.declared.fuse.Upstream.TheVariants as upstream
use Rattle.cd_fuse.specs.Follows.{whole_follow}
use Rattle.cd_fuse.specs.Fuses.{whole_fuse}

-- ---- outputs that come one behind the other

-- pieces of at most 4 elements and of at most 9 agree, and are pieces of at most 9, whichever comes first
agree_unequal : Agree (Some (Blocks 4)) (Some (Blocks 9))
agree_unequal = refl

joined_unequal : joined (Some (Blocks 4)) (Some (Blocks 9)) ≡ Some (Blocks 9)
joined_unequal = refl

joined_unequal_first : joined (Some (Texts 9)) (Some (Texts 4)) ≡ Some (Texts 9)
joined_unequal_first = refl

-- where one of them gives nothing, the kind is the other's
joined_none : joined None (Some (Blocks 4)) ≡ Some (Blocks 4)
joined_none = refl

joined_one : joined (Some Bytes) None ≡ Some Bytes
joined_one = refl

-- ---- words on bytes that hold nothing

abbrev word : At → Component → Part
word at run = part_of at (record { pieces = false; exact = true }) (Some Bytes) (Some Bytes) chunk_limit 0 (fresh run)

abbrev run_on : Part → List ℕ → Run
run_on p numbers = p.run nothing_known (map Elem numbers) Ended

-- what is left of `takeE`, given back: these bytes
abbrev left : List ℕ → Option (Sort × List ℕ)
left numbers = Some (Sort.Bytes, numbers)

-- ---- `takeE 2 | takeE 1`

-- over `abc` it gives `a` after one byte, and is done
fusion_run : run_on (whole_fuse (record { stand = stand.Fresh; upstream = upstream.Fresh; back = None }) (word Fresh (taken 2)) (word Fresh (taken 1))) (codes "abc")
    ≡ Then (stamp 1 1) (Out (Elem 97)) (Ends (stamp 1 1) (Done Value.Unit))
fusion_run = refl

-- the upstream has ended and left `c`: that is unread, and counts 1
abbrev fusion_ended : Part
fusion_ended = whole_fuse (record { stand = stand.Gave; upstream = upstream.Ended; back = left (codes "c") }) (word Over (taken 0)) (word Gave (taken 0))

fusion_unread : fusion_ended.unread ≡ Elem 99 ∷ []
fusion_unread = refl

fusion_held : fusion_ended.held ≡ 1
fusion_held = refl

-- ---- `{ takeE 1; takeE 1 }`

-- over `abc` it gives `a` after one byte, `b` after two, and is done
sequence_run : run_on (whole_follow (record { stand = stand.Fresh; side = Upper; told = false; back = None }) (word Fresh (taken 1)) (word Fresh (taken 1))) (codes "abc")
    ≡ Then (stamp 1 1) (Out (Elem 97)) (Then (stamp 2 2) (Out (Elem 98)) (Ends (stamp 2 2) (Done Value.Unit)))
sequence_run = refl

-- The first part has ended and left `bc`: both are unread, and count 2. The second gives `b` before a further byte comes.
abbrev sequence_second : Part
sequence_second = whole_follow (record { stand = stand.Gave; side = Lower; told = false; back = left (codes "bc") }) (word Over (taken 0)) (word Fresh (taken 1))

sequence_unread : sequence_second.unread ≡ Elem 98 ∷ Elem 99 ∷ []
sequence_unread = refl

sequence_held : sequence_second.held ≡ 2
sequence_held = refl

sequence_second_run : run_on sequence_second (codes "d") ≡ Then (stamp 0 1) (Out (Elem 98)) (Ends (stamp 0 1) (Done Value.Unit))
sequence_second_run = refl

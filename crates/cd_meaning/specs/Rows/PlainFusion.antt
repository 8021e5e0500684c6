-- Fusion as the rules say it: what stands in A[j], and each operator.
use Rattle.std.specs.Prelude.{◌≡◌, List, ℕ, refl, [], ◌∷◌, codes, map}
use Rattle.cd_meaning.specs.Stream.{Item, Elem, Sort, Ended, Value, absent, present, Out, Do, Open, Close, Done}
use Rattle.cd_meaning.specs.Run.{stamp, start, Run, Then, Ends, Component}
use Rattle.cd_meaning.specs.RunShapes.{AtEnd, MayGoOn, Mark, number}
use Rattle.cd_meaning.specs.Sorts.{list_of, value_of}
use Rattle.cd_meaning.specs.ElementWords.{counted, dropped, filtered, head, passed, peek, taken}
use Rattle.cd_meaning.specs.Classes.{digit}
use Rattle.cd_meaning.specs.Sources.{given, source_file}
use Rattle.cd_meaning.specs.Fusion.{both, first_value}
use Rattle.cd_meaning.specs.PlainFusion.{act_at, effects_up_to, plain_fuse, plain_fuse_asked, plain_fuse_drained, plain_fuse_keep, plain_fuse_return, stamp_up_to}
use Rattle.cd_meaning.specs.Rows.Given.{at_end, does_at, done_at, gives_elem, told_of, waiting, waits_past, waits_reading}

abbrev of : List ℕ → List Item
of = map Elem

-- two effects, of which an output is between
abbrev opens : Run
opens = Then start (Do (Open 1)) (Then (stamp 2 2) (Out (Elem 97)) (Then (stamp 3 2) (Do (Close 1)) (Ends (stamp 4 3) (Done Value.Unit))))

none_stamp : stamp_up_to 0 opens ≡ start
none_stamp = refl

first_stamp : stamp_up_to 1 opens ≡ stamp 2 2
first_stamp = refl

past_stamp : stamp_up_to 2 opens ≡ stamp 4 3
past_stamp = refl

none_effects : effects_up_to 0 opens ≡ []
none_effects = refl

first_effects : effects_up_to 1 opens ≡ act_at start (Do (Open 1)) ∷ []
first_effects = refl

past_effects : effects_up_to 2 opens ≡ act_at start (Do (Open 1)) ∷ act_at (stamp 3 2) (Do (Close 1)) ∷ []
past_effects = refl

-- a file at site 1
abbrev file : List ℕ → Mark → Component
file bytes mark = source_file 1 (told_of 1 bytes mark).told

fuse_leaves_open : plain_fuse (file (codes "ab") AtEnd) (taken 1) [] Ended ≡ does_at 0 0 (Open 1) (gives_elem 0 97 (done_at 0 0 Value.Unit))
fuse_leaves_open = refl

fuse_asks_past : plain_fuse (file (codes "a") AtEnd) (taken 2) [] Ended ≡ does_at 0 0 (Open 1) (gives_elem 0 97 (does_at 0 0 (Close 1) (done_at 0 0 Value.Unit)))
fuse_asks_past = refl

fuse_none : plain_fuse (file (codes "a") AtEnd) (taken 0) [] Ended ≡ done_at 0 0 Value.Unit
fuse_none = refl

fuse_waits : plain_fuse (file (codes "a") MayGoOn) passed [] Ended ≡ does_at 0 0 (Open 1) (gives_elem 0 97 (waits_reading 0 0 1))
fuse_waits = refl

-- the stamps are those of the first part
fuse_stamps : plain_fuse (filtered (λ x. digit (number x))) passed (of (codes "a1b")) Ended ≡ gives_elem 2 49 (at_end 3)
fuse_stamps = refl

-- what the second part gives back is not given back by the whole, but by `|=`
fuse_leftover : plain_fuse passed (peek (value_of Sort.Bytes)) (of (codes "ab")) Ended ≡ done_at 1 1 (present (Value.Byte 97))
fuse_leftover = refl

keep_leftover : plain_fuse_keep passed (peek (value_of Sort.Bytes)) (of (codes "ab")) Ended ≡ done_at 1 0 (present (Value.Byte 97))
keep_leftover = refl

return_list : plain_fuse_return (list_of Sort.Bytes) (given (of (codes "ab"))) (peek (value_of Sort.Bytes)) [] Ended ≡ done_at 0 0 (Value.Pair (present (Value.Byte 97)) (Value.BytesV (codes "a")))
return_list = refl

asked_not : plain_fuse_asked (given (of (codes "ab"))) (dropped 2) [] Ended ≡ done_at 0 0 (Value.Pair absent Value.Unit)
asked_not = refl

asked_past : plain_fuse_asked (given (of (codes "ab"))) (dropped 3) [] Ended ≡ done_at 0 0 (Value.Pair (present Value.Unit) Value.Unit)
asked_past = refl

-- the first part goes on to its end, by its effects and with its stamps
both_drains : plain_fuse_drained both (file (codes "ab") AtEnd) (head (value_of Sort.Bytes)) [] Ended ≡ does_at 0 0 (Open 1) (does_at 0 0 (Close 1) (done_at 0 0 (Value.Pair Value.Unit (present (Value.Byte 97)))))
both_drains = refl

up_drains : plain_fuse_drained first_value counted (taken 0) (of (codes "ab")) Ended ≡ done_at 3 2 (Value.Num 2)
up_drains = refl

up_waits : plain_fuse_drained first_value (taken 3) (taken 1) (of (codes "ab")) waiting ≡ gives_elem 1 97 (waits_past 2)
up_waits = refl

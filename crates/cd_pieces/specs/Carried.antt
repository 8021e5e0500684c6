-- The piece words as scans, and what the typing asks of them.
use Rattle.std.specs.Prelude.{◌≡◌, ℕ, zero, suc, ◌+◌, ◌*◌, ◌≤◌, max, Bool, true, false, List, [], ◌∷◌, ◌++◌, length, map, replicate, Option, Some, None}
use Rattle.cd_elem.specs.Limits.{piece_limit, repeat_limit, collect_limit}
use Rattle.cd_elem.specs.declared.kind.Kind.{Kind}
use Rattle.cd_elem.specs.declared.kind.Kind.TheVariants.{Bytes, Chars, Blocks, Texts}
use Rattle.cd_elem.specs.declared.value.Value.{Value as Result}
use Rattle.cd_elem.specs.declared.word.PieceWord.{PieceWord}
use Rattle.cd_elem.specs.declared.word.PieceMap.{PieceMap}
use Rattle.cd_meaning.specs.Stream.{Sort, Item, Piece, Value, absent, present, Ending, Done, Act, Out}
use Rattle.cd_meaning.specs.RunShapes.{as_count, elements}
use Rattle.cd_meaning.specs.ElementWords.{kept}
use Rattle.cd_meaning.specs.Sorts.{literal_at, value_of}
use Rattle.cd_meaning.specs.Scan.{Scan, Reply, Go, Back}
use Rattle.cd_meaning.specs.Values.{value_meaning, values_of}
use Rattle.cd_step.specs.Parts.{Chunk, bound_at, sort_at, pieces_at}
use Rattle.cd_pieces.specs.declared.state.Sifting.{Sifting}
use Rattle.cd_pieces.specs.declared.state.Sifting.TheVariants as sift
use Rattle.cd_pieces.specs.declared.state.Answering.{Answering}
use Rattle.cd_pieces.specs.declared.state.Answering.TheVariants as answer
use Rattle.cd_pieces.specs.declared.state.Keeping.{Keeping}
use Rattle.cd_pieces.specs.declared.state.Keeping.TheVariants as keep
use Rattle.cd_pieces.specs.declared.state.Making.{Making}
use Rattle.cd_pieces.specs.declared.state.Making.TheVariants as make
use Rattle.cd_pieces.specs.declared.state.WordState.{WordState}
use Rattle.cd_pieces.specs.declared.state.WordState.TheVariants as state
use Rattle.cd_pieces.specs.Spelling.{spelled, spelled_for, passes, test_for, changed, longer_by, change_for}
use Rattle.cd_pieces.specs.Values.{piece_value, result_at}

-- ---- kinds

-- pieces of the same sort, and so many elements in one at most
abbrev pub widened : Kind → ℕ → Kind
widened Bytes m = Bytes
widened Chars m = Chars
widened (Blocks n) m = Blocks m
widened (Texts n) m = Texts m

-- ---- what the typing asks

-- what a word gives where these pieces come to it
abbrev pub map_gives : PieceMap → Kind → Kind
map_gives (PieceMap.Prefix literal) k = widened k (bound_at k + length (literal_at (sort_at k) literal))
map_gives (PieceMap.Suffix literal) k = widened k (bound_at k + length (literal_at (sort_at k) literal))
map_gives PieceMap.Reverse k = k

abbrev pub word_gives : PieceWord → Kind → Option Kind
word_gives PieceWord.Pass k = Some k
word_gives (PieceWord.Take n) k = Some k
word_gives (PieceWord.TakeWhile t) k = Some k
word_gives (PieceWord.Filter t) k = Some k
word_gives (PieceWord.Repeat n) k = Some k
word_gives (PieceWord.Map m) k = Some (map_gives m k)
word_gives (PieceWord.Intersperse literal) k = Some (widened k (max (bound_at k) (length (literal_at (sort_at k) literal))))
word_gives _ k = None

-- its number is in its range
abbrev pub IsInRange : PieceWord → Type 0
IsInRange (PieceWord.Repeat n) = n ≤ repeat_limit
IsInRange (PieceWord.Collect n) = n ≤ collect_limit
IsInRange _ = Unit {0}

-- pieces of this kind may flow
abbrev pub MayFlow : Option Kind → Type 0
MayFlow None = Unit {0}
MayFlow (Some k) = bound_at k ≤ piece_limit

-- the word has a type on a stream of this kind, and its numbers are in their ranges
abbrev pub HasType : PieceWord → Kind → Type 0
HasType w k = (pieces_at k ≡ true) × IsInRange w × MayFlow (word_gives w k)

-- the bound of the word: a piece counts its length and 1 more
abbrev pub bound_of : PieceWord → Kind → ℕ
bound_of PieceWord.Last k = bound_at k + 1
bound_of (PieceWord.Collect n) k = n * (bound_at k + 1)
bound_of _ k = 0

-- ---- states

-- what a word carries at first
abbrev pub first_state : PieceWord → Sort → WordState
first_state PieceWord.Pass s = state.Sift sift.Pass
first_state (PieceWord.Take n) s = state.Sift (sift.Take n)
first_state (PieceWord.TakeWhile t) s = state.Sift (sift.TakeWhile (test_for s t))
first_state (PieceWord.Filter t) s = state.Sift (sift.Filter (test_for s t))
first_state (PieceWord.Repeat n) s = state.Make (make.Repeat n)
first_state (PieceWord.Map m) s = state.Make (make.Change (change_for s m))
first_state (PieceWord.Intersperse literal) s = state.Make (make.Intersperse (spelled_for s literal) true)
first_state (PieceWord.Drop n) s = state.Sift (sift.Drop n)
first_state (PieceWord.DropWhile t) s = state.Sift (sift.DropWhile (test_for s t))
first_state PieceWord.Head s = state.Answer answer.Head
first_state PieceWord.Peek s = state.Answer answer.Peek
first_state PieceWord.Last s = state.Keep (keep.Last None)
first_state PieceWord.Length s = state.Sift (sift.Length 0)
first_state PieceWord.Null s = state.Sift sift.Null
first_state (PieceWord.Collect n) s = state.Keep (keep.Collect (n, []))

abbrev pub sift_gives : Sifting → Kind → Option Kind
sift_gives sift.Pass k = Some k
sift_gives (sift.Take n) k = Some k
sift_gives (sift.TakeWhile t) k = Some k
sift_gives (sift.Filter t) k = Some k
sift_gives _ k = None

abbrev pub make_gives : Making → Kind → Kind
make_gives (make.Change c) k = widened k (bound_at k + longer_by c)
make_gives (make.Repeat n) k = k
make_gives (make.Intersperse l first) k = widened k (max (bound_at k) (length (spelled l)))

-- what a state gives
abbrev pub gives_of : WordState → Kind → Option Kind
gives_of (state.Sift w) k = sift_gives w k
gives_of (state.Answer w) k = None
gives_of (state.Keep w) k = None
gives_of (state.Make w) k = Some (make_gives w k)

-- a state, or the answer of a word that has read the piece which decides it
pub data Carried : Type 0 where
  Doing : WordState → Carried
  Answered : Value → Carried

abbrev pub sifting : Sifting → Carried
sifting w = Doing (state.Sift w)

abbrev pub keeping : Keeping → Carried
keeping w = Doing (state.Keep w)

abbrev pub making : Making → Carried
making w = Doing (state.Make w)

-- ---- the value, where no further piece is asked for

abbrev pub list_value : List Result → Value
list_value vs = Value.ListV (values_of (map value_meaning vs))

abbrev pub ready_at : ℕ → Value → Option Value
ready_at zero v = Some v
ready_at (suc n) v = None

abbrev pub sift_ready : Sifting → Option Value
sift_ready (sift.Take n) = ready_at n Value.Unit
sift_ready (sift.Drop n) = ready_at n Value.Unit
sift_ready _ = None

abbrev pub keep_ready : Keeping → Option Value
keep_ready (keep.Last o) = None
keep_ready (keep.Collect c) = ready_at c.0 (list_value c.1)

abbrev pub state_ready : WordState → Option Value
state_ready (state.Sift w) = sift_ready w
state_ready (state.Answer w) = None
state_ready (state.Keep w) = keep_ready w
state_ready (state.Make w) = None

-- ---- what is done with a piece

-- it goes on where the piece passes, and else gives it back
abbrev pub or_back : Bool → List Act → Carried → Reply Carried
or_back true acts t = Go acts t
or_back false acts t = Back Value.Unit

abbrev pub sift_step : Sifting → Item → Reply Carried
sift_step sift.Pass x = Go (Out x ∷ []) (sifting sift.Pass)
sift_step (sift.Take zero) x = Go [] (sifting (sift.Take zero))
sift_step (sift.Take (suc n)) x = Go (Out x ∷ []) (sifting (sift.Take n))
sift_step (sift.TakeWhile t) x = or_back (passes t (elements x)) (Out x ∷ []) (sifting (sift.TakeWhile t))
sift_step (sift.Filter t) x = Go (kept (λ y. passes t (elements y)) x) (sifting (sift.Filter t))
sift_step (sift.Drop zero) x = Go [] (sifting (sift.Drop zero))
sift_step (sift.Drop (suc n)) x = Go [] (sifting (sift.Drop n))
sift_step (sift.DropWhile t) x = or_back (passes t (elements x)) [] (sifting (sift.DropWhile t))
sift_step (sift.Length n) x = Go [] (sifting (sift.Length (as_count (n + 1))))
sift_step sift.Null x = Back (Value.Bool false)
sift_step sift.SinkNull x = Go [] (sifting sift.SinkNull)

abbrev pub answer_step : Sort → Answering → Item → Reply Carried
answer_step k answer.Head x = Go [] (Answered (present (value_of k x)))
answer_step k answer.Peek x = Back (present (value_of k x))

abbrev pub collect_step : Sort → ℕ → List Result → Item → Reply Carried
collect_step k zero vs x = Go [] (keeping (keep.Collect (zero, vs)))
collect_step k (suc n) vs x = Go [] (keeping (keep.Collect (n, vs ++ result_at k (elements x) ∷ [])))

abbrev pub keep_step : Sort → Keeping → Item → Reply Carried
keep_step k (keep.Last o) x = Go [] (keeping (keep.Last (Some (k, elements x))))
keep_step k (keep.Collect c) x = collect_step k c.0 c.1 x

abbrev pub make_step : Making → Item → Reply Carried
make_step (make.Change c) x = Go (Out (Piece (changed c (elements x))) ∷ []) (making (make.Change c))
make_step (make.Repeat n) x = Go (replicate n (Out x)) (making (make.Repeat n))
make_step (make.Intersperse l true) x = Go (Out x ∷ []) (making (make.Intersperse l false))
make_step (make.Intersperse l false) x = Go (Out (Piece (spelled l)) ∷ Out x ∷ []) (making (make.Intersperse l false))

abbrev pub state_step : Sort → WordState → Item → Reply Carried
state_step k (state.Sift w) x = sift_step w x
state_step k (state.Answer w) x = answer_step k w x
state_step k (state.Keep w) x = keep_step k w x
state_step k (state.Make w) x = make_step w x

-- ---- the value at the end of the input

abbrev pub sift_value : Sifting → Value
sift_value (sift.Length n) = Value.Num n
sift_value sift.Null = Value.Bool true
sift_value _ = Value.Unit

abbrev pub last_value : Option Chunk → Value
last_value None = absent
last_value (Some c) = present (piece_value c)

abbrev pub keep_value : Keeping → Value
keep_value (keep.Last o) = last_value o
keep_value (keep.Collect c) = list_value c.1

abbrev pub state_value : WordState → Value
state_value (state.Sift w) = sift_value w
state_value (state.Answer w) = absent
state_value (state.Keep w) = keep_value w
state_value (state.Make w) = Value.Unit

-- ---- the scan

abbrev pub carried_ready : Carried → Option Value
carried_ready (Doing st) = state_ready st
carried_ready (Answered v) = Some v

abbrev pub carried_step : Sort → Carried → Item → Reply Carried
carried_step k (Doing st) x = state_step k st x
carried_step k (Answered v) x = Go [] (Answered v)

abbrev pub carried_ending : Carried → Ending
carried_ending (Doing st) = Done (state_value st)
carried_ending (Answered v) = Done Value.Unit

abbrev pub word_scan : Sort → Scan Carried
word_scan k = record { ready = carried_ready; step = carried_step k; close = λ s. []; ending = carried_ending }

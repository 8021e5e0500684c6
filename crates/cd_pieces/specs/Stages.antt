-- What is seen of a stage, and what holds of it between two steps.
use Rattle.std.specs.Prelude.{◌≡◌, ℕ, zero, ◌+◌, ◌*◌, ◌^◌, ◌<◌, ◌≤◌, Bool, true, false, List, [], ◌∷◌, length, replicate, Option, Some, None}
use Rattle.cd_elem.specs.Chunks.{is_cut}
use Rattle.cd_elem.specs.Limits.{piece_limit}
use Rattle.cd_elem.specs.declared.kind.Kind.{Kind}
use Rattle.cd_meaning.specs.Stream.{Sort, Act, Out}
use Rattle.cd_meaning.specs.Run.{stamp, acts_at}
use Rattle.cd_meaning.specs.Rest.{Rest, Grade}
use Rattle.cd_meaning.specs.Scan.{Go, Back}
use Rattle.cd_meaning.specs.Values.{value_meaning}
use Rattle.cd_step.specs.declared.protocol.Move.{Move}
use Rattle.cd_step.specs.declared.protocol.Move.TheVariants.{Done}
use Rattle.cd_step.specs.declared.protocol.Stand.{Stand}
use Rattle.cd_step.specs.declared.protocol.Stand.TheVariants.{Fresh, Wait, Gave, Over}
use Rattle.cd_step.specs.Parts.{Chunk, Part, part_at, pieces_at, chunk_at, sort_at, bound_at, weight, weight_any, IsChunk, IsOf, Goes}
use Rattle.cd_step.specs.Reading.{scan_rest, part_of}
use Rattle.cd_pieces.specs.declared.due.Due.{Due}
use Rattle.cd_pieces.specs.declared.reply.PieceReply.{PieceReply}
use Rattle.cd_pieces.specs.declared.reply.PieceReply.TheVariants as reply
use Rattle.cd_pieces.specs.declared.stage.PieceStage.{PieceStage}
use Rattle.cd_pieces.specs.declared.state.Sifting.{Sifting}
use Rattle.cd_pieces.specs.declared.state.Sifting.TheVariants as sift
use Rattle.cd_pieces.specs.declared.state.Keeping.{Keeping}
use Rattle.cd_pieces.specs.declared.state.Keeping.TheVariants as keep
use Rattle.cd_pieces.specs.declared.state.Making.{Making}
use Rattle.cd_pieces.specs.declared.state.Making.TheVariants as make
use Rattle.cd_pieces.specs.declared.state.WordState.{WordState}
use Rattle.cd_pieces.specs.declared.state.WordState.TheVariants as state
use Rattle.cd_pieces.specs.Spelling.{spelled, longer_by, IsSpelledFor, QuestionFits, ChangeFits}
use Rattle.cd_pieces.specs.Values.{piece_of, listed}
use Rattle.cd_pieces.specs.Carried.{Doing, Answered, gives_of, make_gives, state_value, carried_step, word_scan}

-- ---- what is due

-- a piece that is still to be given, so many times
abbrev pub due_acts : Option Due → List Act
due_acts None = []
due_acts (Some d) = replicate d.times (Out (piece_of d.piece))

abbrev pub due_weight : Option Due → ℕ
due_weight None = 0
due_weight (Some d) = weight d.piece

-- the piece came from pieces of the kind k, and goes to those of the kind j
abbrev pub DueFits : Kind → Option Kind → Option Due → Type 0
DueFits k j None = Unit {0}
DueFits k j (Some d) = (0 < d.times) × IsChunk k d.piece × IsOf j d.piece

-- what is due of d behind one time
abbrev pub IsLeftDue : Due → Option Due → Type 0
IsLeftDue d None = Unit {0}
IsLeftDue d (Some e) = (0 < e.times) × (e.piece ≡ d.piece)

-- a part that does these acts before all else
abbrev pub ahead : List Act → Rest → Rest
ahead acts p = record { unread = p.unread; floor = p.floor; run = λ ys e. acts_at (stamp p.floor 0) acts (p.run ys e) }

-- ---- what a word carries

-- how many elements, and how many it may
abbrev pub keep_carries : Keeping → ℕ
keep_carries (keep.Last o) = weight_any o
keep_carries (keep.Collect c) = listed c.1

abbrev pub carries : WordState → ℕ
carries (state.Keep w) = keep_carries w
carries _ = 0

abbrev pub keep_most : Kind → Keeping → ℕ
keep_most k (keep.Last o) = bound_at k + 1
keep_most k (keep.Collect c) = c.0 * (bound_at k + 1) + listed c.1

abbrev pub may_carry : Kind → WordState → ℕ
may_carry k (state.Keep w) = keep_most k w
may_carry k _ = 0

-- its literals are spelled as the pieces of this sort are
abbrev pub SiftFits : Sort → Sifting → Type 0
SiftFits k (sift.TakeWhile t) = QuestionFits k t.what
SiftFits k (sift.Filter t) = QuestionFits k t.what
SiftFits k (sift.DropWhile t) = QuestionFits k t.what
SiftFits k _ = Unit {0}

-- the last piece is of this kind
abbrev pub KeepFits : Kind → Keeping → Type 0
KeepFits k (keep.Last None) = Unit {0}
KeepFits k (keep.Last (Some c)) = IsChunk k c
KeepFits k (keep.Collect c) = Unit {0}

-- what it keeps is a piece
abbrev pub KeepsPieces : Keeping → Type 0
KeepsPieces (keep.Last None) = Unit {0}
KeepsPieces (keep.Last (Some c)) = is_cut c.0 ≡ false
KeepsPieces (keep.Collect c) = Unit {0}

abbrev pub LiteralsFit : Sort → Making → Type 0
LiteralsFit k (make.Change c) = ChangeFits k c
LiteralsFit k (make.Repeat n) = Unit {0}
LiteralsFit k (make.Intersperse l first) = IsSpelledFor k l

-- its literals are spelled as its pieces are, and what it makes may flow
abbrev pub MakeFits : Kind → Making → Type 0
MakeFits k w = LiteralsFit (sort_at k) w × (bound_at (make_gives w k) ≤ piece_limit)

-- its state fits what it reads
abbrev pub StateFits : Kind → WordState → Type 0
StateFits k (state.Sift w) = SiftFits (sort_at k) w
StateFits k (state.Answer w) = Unit {0}
StateFits k (state.Keep w) = KeepFits k w
StateFits k (state.Make w) = MakeFits k w

-- t is of the same word as s, and carries no more than s may
abbrev pub IsSameWord : Kind → WordState → WordState → Type 0
IsSameWord k s t = (gives_of t k ≡ gives_of s k) × (StateFits k s → StateFits k t) × (may_carry k t ≤ may_carry k s)

-- the word asks for a further piece
abbrev pub is_some_left : ℕ → Bool
is_some_left zero = false
is_some_left _ = true

abbrev pub asks_of : WordState → Bool
asks_of (state.Sift (sift.Take n)) = is_some_left n
asks_of (state.Sift (sift.Drop n)) = is_some_left n
asks_of (state.Keep (keep.Collect c)) = is_some_left c.0
asks_of _ = true

-- ---- what a word does with a piece

-- from s it does so with this piece. Where it goes on, it then carries t.
abbrev pub IsReply : Kind → WordState → Chunk → PieceReply → WordState → Type 0
IsReply k s c reply.Skip t = carried_step (sort_at k) (Doing s) (piece_of c) ≡ Go [] (Doing t)
IsReply k s c (reply.Give d due) t = carried_step (sort_at k) (Doing s) (piece_of c) ≡ Go (Out (piece_of d) ∷ due_acts due) (Doing t)
IsReply k s c (reply.End v) t = carried_step (sort_at k) (Doing s) (piece_of c) ≡ Go [] (Answered (value_meaning v))
IsReply k s c (reply.Back v d) t = carried_step (sort_at k) (Doing s) (piece_of c) ≡ Back (value_meaning v)

-- what it gives is of the kind j, and what it gives back is the piece
abbrev pub ReplyFits : Kind → Option Kind → Chunk → PieceReply → Type 0
ReplyFits k j c reply.Skip = Unit {0}
ReplyFits k j c (reply.Give d due) = IsOf j d × DueFits k j due
ReplyFits k j c (reply.End v) = Unit {0}
ReplyFits k j c (reply.Back v d) = d ≡ c

pub record Replies (k : Kind) (s : WordState) (c : Chunk) (r : PieceReply) (t : WordState) : Type 0 where
  pub reply : IsReply k s c r t
  pub fits : ReplyFits k (gives_of t k) c r
  pub same : IsSameWord k s t
  pub more : carries t ≤ carries s + weight c

-- what a step with this piece asks of the state
abbrev pub ReadsMade : Chunk → Making → Type 0
ReadsMade c (make.Change m) = ChangeFits c.0 m × (length c.1 + longer_by m ≤ piece_limit)
ReadsMade c (make.Repeat n) = Unit {0}
ReadsMade c (make.Intersperse l first) = IsSpelledFor c.0 l × (length (spelled l) ≤ piece_limit)

abbrev pub ReadsKept : Chunk → Keeping → Type 0
ReadsKept c (keep.Last o) = Unit {0}
ReadsKept c (keep.Collect l) = listed l.1 + weight c < 2 ^ 64

abbrev pub KeptPieces : WordState → Type 0
KeptPieces (state.Keep w) = KeepsPieces w
KeptPieces _ = Unit {0}

abbrev pub ReadsPiece : Chunk → WordState → Type 0
ReadsPiece c (state.Sift w) = SiftFits c.0 w
ReadsPiece c (state.Answer w) = Unit {0}
ReadsPiece c (state.Keep w) = ReadsKept c w
ReadsPiece c (state.Make w) = ReadsMade c w

-- ---- the stage

-- what is compared of a word: all nets, and that of its end
abbrev pub grade_of : Kind → Grade
grade_of k = record { pieces = pieces_at k; exact = true }

abbrev pub held_of : PieceStage → ℕ
held_of e = carries e.state + due_weight e.due

abbrev pub stage_most : PieceStage → ℕ
stage_most e = e.most

abbrev pub stage_one : PieceStage → ℕ
stage_one e = chunk_at e.takes

abbrev pub seen_stage : PieceStage → Part
seen_stage e =
    part_of (part_at e.stand) (grade_of e.takes) (gives_of e.state e.takes) (Some e.takes) (e.most + chunk_at e.takes) (held_of e)
    (ahead (due_acts e.due) (scan_rest (word_scan (sort_at e.takes)) e.told (Doing e.state) []))

-- what holds of a stage also after a refusal
pub record IsWell (e : PieceStage) : Type 0 where
  pub pieces : pieces_at e.takes ≡ true
  pub state : StateFits e.takes e.state
  pub within : may_carry e.takes e.state ≤ e.most
  pub due : DueFits e.takes (gives_of e.state e.takes) e.due

abbrev pub StandFits : Stand → Bool → Option Due → WordState → Type 0
StandFits Fresh told due st = (told ≡ false) × (due ≡ None)
StandFits Wait told due st = (told ≡ false) × (due ≡ None) × (asks_of st ≡ true)
StandFits Gave told due st = told ≡ false
StandFits Over told due st = Unit {0}

abbrev pub stage_fits : PieceStage → Type 0
stage_fits e = StandFits e.stand e.told e.due e.state × IsWell e

-- what no step changes of a stage
abbrev pub IsSameStage : PieceStage → PieceStage → Type 0
IsSameStage e f = (f.takes ≡ e.takes) × (f.most ≡ e.most) × (gives_of f.state f.takes ≡ gives_of e.state e.takes)

-- the part that carries s and has this piece
abbrev pub seen_from : WordState → Chunk → PieceStage → Part
seen_from s c e =
    part_of (part_at e.stand) (grade_of e.takes) (gives_of e.state e.takes) (Some e.takes) (e.most + chunk_at e.takes) 0
    (scan_rest (word_scan (sort_at e.takes)) false (Doing s) (piece_of c ∷ []))

-- what the word said of this piece, which it asked for
pub record IsAnswered (e : PieceStage) (s : WordState) (c : Chunk) (r : PieceReply) : Type 0 where
  pub asks : asks_of s ≡ true
  pub piece : IsChunk e.takes c
  pub reply : IsReply e.takes s c r e.state
  pub fits : ReplyFits e.takes (gives_of e.state e.takes) c r

abbrev pub with_due : Due → PieceStage → PieceStage
with_due d e = record e { due = Some d }

abbrev pub Went : PieceStage → Move → PieceStage → Type 0
Went e m f = Goes m (seen_stage e) (seen_stage f)

-- the move that ends a stage with its value
abbrev pub IsFinal : WordState → Move → Type 0
IsFinal s (Done v None) = value_meaning v ≡ state_value s
IsFinal s _ = ⊥

-- What is seen of a stage, and what holds of it between two steps.
use Rattle.std.specs.Prelude.{◌≡◌, ℕ, zero, ◌+◌, ◌≤◌, Bool, true, false, List, length, Option, Some, None, IsTrue}
use Rattle.cd_elem.specs.Chunks.{is_cut}
use Rattle.cd_elem.specs.Limits.{repeat_limit}
use Rattle.cd_meaning.specs.Stream.{Sort}
use Rattle.cd_meaning.specs.Rest.{Grade}
use Rattle.cd_meaning.specs.Values.{value_meaning}
use Rattle.cd_step.specs.declared.protocol.Move.{Move}
use Rattle.cd_step.specs.declared.protocol.Move.TheVariants.{Done}
use Rattle.cd_step.specs.declared.protocol.Stand.{Stand}
use Rattle.cd_step.specs.declared.protocol.Stand.TheVariants.{Fresh, Wait, Gave, Over}
use Rattle.cd_step.specs.Parts.{Chunk, Part, part_at, pieces_at, chunk_at, items, rest_items, weight_any, IsGiven, Goes}
use Rattle.cd_step.specs.Reading.{scan_rest, part_of}
use Rattle.cd_elemwise.specs.declared.state.WordState.{WordState}
use Rattle.cd_elemwise.specs.declared.state.WordState.TheVariants as state
use Rattle.cd_elemwise.specs.declared.stage.ElemStage.{ElemStage}
use Rattle.cd_elemwise.specs.declared.plan.ChunkPlan.{ChunkPlan}
use Rattle.cd_elemwise.specs.Plans.{IsPlan}
use Rattle.cd_elemwise.specs.Carried.{Carried, Doing, MapFits, kind_of, gives_of, list_sort, gathered, state_ready, state_value, word_scan}

-- what is compared of a word: the net of its end, and on pieces all nets
abbrev pub grade_of : Sort → Grade
grade_of k = record { pieces = pieces_at (kind_of k); exact = true }

-- how many elements it carries beside its list, and how many it may
abbrev pub carries : WordState → ℕ
carries (state.Last (Some single)) = 1
carries _ = 0

abbrev pub may_carry : WordState → ℕ
may_carry (state.Last o) = 1
may_carry (state.Collect n) = n
may_carry _ = 0

-- its state fits what it reads
abbrev pub StateFits : WordState → Sort → Sort → Type 0
StateFits (state.Map by) k listed = MapFits by k
StateFits (state.Repeat n) k listed = IsTrue (is_cut k) × (n ≤ repeat_limit)
StateFits (state.Sum n) k listed = k ≡ Sort.Bytes
StateFits (state.Collect n) k listed = IsTrue (is_cut k) × (listed ≡ k)
StateFits state.SinkNull k listed = Unit {0}
StateFits _ k listed = IsTrue (is_cut k)

-- it keeps no list, changes no chunk, and takes cut streams alone
abbrev pub IsPlain : WordState → Type 0
IsPlain (state.Filter c) = ⊥
IsPlain (state.Map by) = ⊥
IsPlain (state.Collect n) = ⊥
IsPlain state.SinkNull = ⊥
IsPlain _ = Unit {0}

-- t is of the same word as s
abbrev pub IsSameWord : WordState → WordState → Type 0
IsSameWord s t = ((k : Sort) → gives_of t k ≡ gives_of s k) × (may_carry t ≡ may_carry s) × ((k listed : Sort) → StateFits s k listed → StateFits t k listed)

abbrev pub carried : ElemStage → Carried
carried e = Doing e.state (gathered e.list)

abbrev pub held_of : ElemStage → ℕ
held_of e = carries e.state + length (gathered e.list) + weight_any e.keep

abbrev pub seen_stage : ElemStage → Part
seen_stage e =
    part_of (part_at e.stand) (grade_of e.sort) (gives_of e.state e.sort) (Some (kind_of e.sort)) (e.most + chunk_at (kind_of e.sort)) (held_of e)
    (scan_rest (word_scan e.sort) e.told (carried e) (rest_items e.keep))

abbrev pub StandFits : Stand → Bool → Sort → WordState → List ℕ → Option Chunk → Type 0
StandFits Fresh told k s l keep = (told ≡ false) × (keep ≡ None)
StandFits Wait told k s l keep = (told ≡ false) × (keep ≡ None) × (state_ready k s l ≡ None)
StandFits Gave told k s l keep = told ≡ false
StandFits Over told k s l keep = keep ≡ None

-- it carries no more than it may
abbrev pub KeepsBounds : ElemStage → Type 0
KeepsBounds e = (may_carry e.state + length (gathered e.list) ≤ e.most) × IsGiven (Some (kind_of e.sort)) e.keep

abbrev pub stage_fits : ElemStage → Type 0
stage_fits e =
    StandFits e.stand e.told e.sort e.state (gathered e.list) e.keep
    × StateFits e.state e.sort (list_sort e.list)
    × KeepsBounds e

-- what no step changes of a stage
abbrev pub IsSameStage : ElemStage → ElemStage → Type 0
IsSameStage e f = (f.sort ≡ e.sort) × (f.most ≡ e.most) × (gives_of f.state f.sort ≡ gives_of e.state e.sort)

-- the stage that has this chunk
abbrev pub with_chunk : Chunk → ElemStage → ElemStage
with_chunk c e = record e { keep = Some c }

-- the part that carries s and has this chunk
abbrev pub seen_from : Carried → Chunk → ElemStage → Part
seen_from s c e =
    part_of (part_at e.stand) (grade_of e.sort) (gives_of e.state e.sort) (Some (kind_of e.sort)) (e.most + chunk_at (kind_of e.sort)) (held_of (with_chunk c e))
    (scan_rest (word_scan e.sort) false s (items c))

-- what it carries is that of a plan for this chunk
abbrev pub IsPlanned : ElemStage → Chunk → ChunkPlan → Type 0
IsPlanned e c plan = (s : Carried) × IsPlan e.sort s c.1 plan (carried e)

abbrev pub Went : ElemStage → Move → ElemStage → Type 0
Went e m f = Goes m (seen_stage e) (seen_stage f)

-- the stage asks for a further element
abbrev pub asks_of : WordState → Bool
asks_of (state.Take zero) = false
asks_of (state.Drop zero) = false
asks_of (state.Collect zero) = false
asks_of _ = true

-- the move that ends a stage with its value
abbrev pub IsFinal : ElemStage → Move → Type 0
IsFinal e (Done v None) = value_meaning v ≡ state_value e.sort e.state (gathered e.list)
IsFinal e _ = ⊥

abbrev pub stage_most : ElemStage → ℕ
stage_most e = e.most

abbrev pub stage_one : ElemStage → ℕ
stage_one e = chunk_at (kind_of e.sort)

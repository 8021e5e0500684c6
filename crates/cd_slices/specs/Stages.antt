-- What is seen of the stage, and what holds of it between two steps.
use Rattle.std.specs.Prelude.{◌≡◌, ℕ, ◌+◌, ◌<◌, ◌≤◌, Bool, true, false, List, [], ◌∷◌, ◌++◌, length, map, take, drop, Option, Some, None}
use Rattle.cd_elem.specs.Limits.{chunk_limit}
use Rattle.cd_elem.specs.declared.kind.Kind.{Kind}
use Rattle.cd_elem.specs.declared.kind.Kind.TheVariants as kind
use Rattle.cd_meaning.specs.Stream.{Sort, Elem, Piece, Value, Act, Out}
use Rattle.cd_meaning.specs.RunShapes.{as_count}
use Rattle.cd_meaning.specs.Rest.{Grade}
use Rattle.cd_meaning.specs.Scan.{Scan, Go}
use Rattle.cd_meaning.specs.Values.{value_meaning}
use Rattle.cd_step.specs.CutChunks.{elems}
use Rattle.cd_step.specs.declared.protocol.Move.{Move}
use Rattle.cd_step.specs.declared.protocol.Move.TheVariants.{Emit, Need, Done}
use Rattle.cd_step.specs.declared.protocol.Stand.{Stand}
use Rattle.cd_step.specs.declared.protocol.Stand.TheVariants.{Fresh, Wait, Gave, Over}
use Rattle.cd_step.specs.Parts.{Chunk, Part, part_at, rest_items, weight_any, IsGiven, Goes}
use Rattle.cd_step.specs.Reading.{scan_rest, part_of, IsRead, IsSilent}
use Rattle.cd_split.specs.declared.rule.CutRule.{CutRule}
use Rattle.cd_split.specs.Cutting.{Line, cut_scan}
use Rattle.cd_split.specs.Joining.{line_end}
use Rattle.cd_slices.specs.declared.cut.Cut.{Cut}
use Rattle.cd_slices.specs.declared.cut.Cut.TheVariants as cut
use Rattle.cd_slices.specs.declared.cut.SliceRule.{SliceRule}
use Rattle.cd_slices.specs.declared.sieve.Verdict.{Verdict}
use Rattle.cd_slices.specs.declared.sieve.Verdict.TheVariants.{Keeps, Drops, Refuses}
use Rattle.cd_slices.specs.declared.slicer.Slicer.{Slicer}
use Rattle.cd_slices.specs.declared.slicer.Step.{Step}
use Rattle.cd_slices.specs.declared.slicer.Step.TheVariants.{Read, Stopped}
use Rattle.cd_slices.specs.declared.slicer.Stop.{Stop}
use Rattle.cd_slices.specs.declared.slicer.Stop.TheVariants as stop
use Rattle.cd_slices.specs.declared.stage.SliceStage.{SliceStage}
use Rattle.cd_slices.specs.declared.tail.SliceEnd.{SliceEnd}
use Rattle.cd_slices.specs.declared.tail.SliceEnd.TheVariants as last
use Rattle.cd_slices.specs.declared.tail.Tail.{Tail}
use Rattle.cd_slices.specs.Slicing.{Standing, standing, sink_of, is_ready, sieved, slice_scan}

-- ---- the words behind the splitter

abbrev pub stands : Tail → Standing
stands t = standing t.sieves.items t.over (sink_of t.end)

-- the bytes that are given for a piece that comes through
abbrev pub end_bytes : SliceEnd → List ℕ → List ℕ
end_bytes (last.Count n) p = []
end_bytes (last.Join lines) p = p ++ line_end lines

abbrev pub end_next : SliceEnd → SliceEnd
end_next (last.Count n) = last.Count (as_count (n + 1))
end_next (last.Join lines) = last.Join lines

-- and for one that comes
abbrev pub bytes_by : Verdict → SliceEnd → List ℕ → List ℕ
bytes_by Keeps k p = end_bytes k p
bytes_by Drops k p = []
bytes_by Refuses k p = []

abbrev pub bytes_given : Tail → List ℕ → List ℕ
bytes_given t p = bytes_by (sieved t.sieves.items p) t.end p

-- what no step changes of the last word
abbrev pub IsSameEnd : SliceEnd → SliceEnd → Type 0
IsSameEnd (last.Count m) (last.Count n) = Unit {0}
IsSameEnd (last.Join a) (last.Join b) = b ≡ a
IsSameEnd _ _ = ⊥

-- ---- the splitter

abbrev pub cut_rule : SliceRule → CutRule
cut_rule r = record { separator = r.separator; short = r.short; most = r.most }

-- these bytes are read up to the last one, at which it does so
abbrev pub IsCutOff : CutRule → Line → List ℕ → List Act → Line → Type 0
IsCutOff r s xs acts t = (front : List ℕ) × (x : ℕ) × (m : Line) × (xs ≡ front ++ x ∷ []) × IsSilent (cut_scan r) s (elems front) m × ((cut_scan r).step m (Elem x) ≡ Go acts t)

-- what comes first of the bytes, where l stand since the last piece
abbrev pub IsNext : SliceRule → Bool → List ℕ → List ℕ → Cut → Type 0
IsNext r fresh l xs (cut.Piece len used then) =
    (0 < used) × (used ≤ length xs) × (len ≤ used) × (length l + len ≤ r.most)
    × IsCutOff (cut_rule r) (fresh, l) (take used xs) (Out (Piece (l ++ take len xs)) ∷ []) (then, [])
IsNext r fresh l xs cut.LineEnd = (0 < length xs) × (l ≡ []) × IsCutOff (cut_rule r) (fresh, l) (take 1 xs) [] (true, [])
IsNext r fresh l xs cut.Rest = IsSilent (cut_scan (cut_rule r)) (fresh, l) (elems xs) (fresh, l ++ xs) × (length l + length xs < r.most)

-- ---- both

abbrev pub scan_of : Slicer → Scan (Line × Standing)
scan_of e = slice_scan (cut_rule e.rule)

abbrev pub state_of : Slicer → Line × Standing
state_of e = ((e.fresh, e.open), stands e.tail)

-- pieces of the greatest length may be joined
abbrev pub MayJoin : SliceEnd → ℕ → Type 0
MayJoin (last.Count n) most = Unit {0}
MayJoin (last.Join lines) most = most < chunk_limit

-- the open piece is not full
abbrev pub IsOpen : Slicer → Type 0
IsOpen e = (length e.open < e.rule.most) × (e.rule.most ≤ chunk_limit) × MayJoin e.tail.end e.rule.most

-- what is made for this word is at most a chunk
abbrev pub HasRoom : SliceEnd → List ℕ → Type 0
HasRoom (last.Count n) out = out ≡ []
HasRoom (last.Join lines) out = length out ≤ chunk_limit

-- what no step changes, where it holds no more than before
abbrev pub IsSame : Slicer → Slicer → Type 0
IsSame e f = (f.rule ≡ e.rule) × IsSameEnd e.tail.end f.tail.end × (length f.open ≤ length e.open)

-- the bytes are read, and this is added to what is made
abbrev pub Reads : Slicer → List ℕ → List ℕ → Slicer → List ℕ → Type 0
Reads e xs out f made = (more : List ℕ) × (made ≡ out ++ more) × IsRead (scan_of e) (state_of e) (elems xs) (map Out (elems more)) (state_of f)

-- why it has stopped before these bytes
abbrev pub StopsAt : Slicer → List ℕ → List ℕ → Stop → Type 0
StopsAt e xs made stop.Rest = (is_ready (stands e.tail) ≡ false) × IsSilent (scan_of e) (state_of e) (elems xs) ((e.fresh, e.open ++ xs), stands e.tail) × (length e.open + length xs < e.rule.most)
StopsAt e xs made stop.Full = 0 < length made
StopsAt e xs made stop.Over = is_ready (stands e.tail) ≡ true

abbrev pub Steps : Slicer → List ℕ → List ℕ → Step → Slicer → List ℕ → Type 0
Steps e xs out (Read n) f made = (0 < n) × (n ≤ length xs) × Reads e (take n xs) out f made
Steps e xs out (Stopped s) f made = (f ≡ e) × (made ≡ out) × StopsAt e xs out s

-- so many of the bytes are read
abbrev pub Runs : Slicer → List ℕ → List ℕ → ℕ × Stop → Slicer → List ℕ → Type 0
Runs e xs out r f made = (r.0 ≤ length xs) × Reads e (take r.0 xs) out f made × StopsAt f (drop r.0 xs) made r.1

-- ---- the stage

abbrev pub grade : Grade
grade = record { pieces = false; exact = true }

abbrev pub gives_of : SliceEnd → Option Kind
gives_of (last.Count n) = None
gives_of (last.Join lines) = Some kind.Bytes

abbrev pub slices_held : SliceStage → ℕ
slices_held e = length e.slicer.open + weight_any e.keep

abbrev pub seen_slices : SliceStage → Part
seen_slices e =
    part_of (part_at e.stand) grade (gives_of e.slicer.tail.end) (Some kind.Bytes) (e.slicer.rule.most + chunk_limit) (slices_held e)
    (scan_rest (scan_of e.slicer) e.told (state_of e.slicer) (rest_items e.keep))

-- where it waits, it takes a further piece
abbrev pub SlicesStand : Stand → Bool → Option Chunk → Bool → Type 0
SlicesStand Fresh told keep over = (told ≡ false) × (keep ≡ None)
SlicesStand Wait told keep over = (told ≡ false) × (keep ≡ None) × (over ≡ false)
SlicesStand Gave told keep over = told ≡ true → keep ≡ None
SlicesStand Over told keep over = keep ≡ None

-- what it does at the end of the input is done
abbrev pub IsClosed : SliceStage → Type 0
IsClosed e = e.told ≡ true → e.slicer.open ≡ []

abbrev pub slices_fit : SliceStage → Type 0
slices_fit e = SlicesStand e.stand e.told e.keep (is_ready (stands e.slicer.tail)) × IsOpen e.slicer × IsGiven (Some kind.Bytes) e.keep × IsClosed e

abbrev pub slices_most : SliceStage → ℕ
slices_most e = e.slicer.rule.most

abbrev pub slices_one : SliceStage → ℕ
slices_one e = chunk_limit

-- what no step changes
abbrev pub IsSameStage : SliceStage → SliceStage → Type 0
IsSameStage e f = (f.slicer.rule ≡ e.slicer.rule) × IsSameEnd e.slicer.tail.end f.slicer.tail.end

-- it has this of its last chunk
abbrev pub with_chunk : Option Chunk → SliceStage → SliceStage
with_chunk c e = record e { keep = c }

abbrev pub Went : SliceStage → Move → SliceStage → Type 0
Went e m f = Goes m (seen_slices e) (seen_slices f)

-- ---- its moves

-- it ends with this value, and gives this back
abbrev pub IsEnd : Value → Option Chunk → Move → Type 0
IsEnd v r (Done u s) = (value_meaning u ≡ v) × (s ≡ r)
IsEnd v r _ = ⊥

-- the bytes are open, and what was made is given, or it asks
abbrev pub IsGivenOr : List ℕ → Move → SliceStage → Type 0
IsGivenOr [] m f = (m ≡ Need) × (f.stand ≡ Wait)
IsGivenOr (x ∷ out) m f = (m ≡ Emit (Sort.Bytes, x ∷ out)) × (f.stand ≡ Gave)

abbrev pub Opens : SliceStage → List ℕ → List ℕ → Move → SliceStage → Type 0
Opens e xs out m f =
    IsGivenOr out m f × (f.told ≡ e.told) × (f.keep ≡ None) × (f.slicer.rule ≡ e.slicer.rule) × (f.slicer.tail ≡ e.slicer.tail) × (f.slicer.fresh ≡ e.slicer.fresh) × (f.slicer.open ≡ e.slicer.open ++ xs)

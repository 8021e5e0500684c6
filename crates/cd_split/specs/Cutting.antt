-- Elements that are cut into pieces: the scan, what is seen of the stage, and what holds of it between two steps.
use Rattle.std.specs.Prelude.{◌≡◌, ℕ, ◌+◌, ◌<◌, ◌≤◌, ◌==◌, Bool, true, false, if◌then◌else◌, List, [], ◌∷◌, ◌++◌, length, map, take, Option, Some, None}
use Rattle.std.specs.List.{position_or_len}
use Rattle.cd_elem.specs.Limits.{chunk_limit}
use Rattle.cd_elem.specs.declared.kind.Kind.{Kind}
use Rattle.cd_elem.specs.declared.kind.Kind.TheVariants as kind
use Rattle.cd_meaning.specs.Stream.{Sort, Item, Piece, Value, Done, Out}
use Rattle.cd_meaning.specs.RunShapes.{number}
use Rattle.cd_meaning.specs.Rest.{Grade}
use Rattle.cd_meaning.specs.Scan.{Scan, Reply, Go}
use Rattle.cd_step.specs.CutChunks.{kind_of}
use Rattle.cd_step.specs.declared.protocol.Move.{Move}
use Rattle.cd_step.specs.declared.protocol.Stand.{Stand}
use Rattle.cd_step.specs.declared.protocol.Stand.TheVariants.{Fresh, Wait, Gave, Over}
use Rattle.cd_step.specs.Parts.{Chunk, Part, part_at, rest_items, weight_any, chunk_at, IsGiven, Goes}
use Rattle.cd_step.specs.Flows.{Same}
use Rattle.cd_step.specs.Reading.{scan_rest, part_of}
use Rattle.cd_split.specs.declared.rule.CutRule.{CutRule}
use Rattle.cd_split.specs.declared.open_piece.OpenPiece.{OpenPiece}
use Rattle.cd_split.specs.declared.open_piece.OpenPiece.TheVariants as variant
use Rattle.cd_split.specs.declared.cutter.Cutter.{Cutter}

-- ---- the scan

-- it ends a line
abbrev pub is_end : Option ℕ → ℕ → Bool
is_end None x = false
is_end (Some separator) x = x == separator

-- whether the line has given no piece yet, and the elements since its last piece
abbrev pub Line : Type 0
Line = Bool × List ℕ

-- the piece at the end of a line: an empty one only where the line has given none
abbrev pub last_piece : Line → List Item
last_piece (fresh, []) = if fresh then Piece [] ∷ [] else []
last_piece (fresh, x ∷ l) = Piece (x ∷ l) ∷ []

-- the piece at the end of the input
abbrev pub short_piece : Bool → List ℕ → List Item
short_piece false l = []
short_piece true [] = []
short_piece true (x ∷ l) = Piece (x ∷ l) ∷ []

-- what an element does that ends a line, or that makes a piece full
abbrev pub cut_reply : Bool → Bool → Line → ℕ → Reply Line
cut_reply true full s x = Go (map Out (last_piece s)) (true, [])
cut_reply false true s x = Go (Out (Piece (s.1 ++ x ∷ [])) ∷ []) (false, [])
cut_reply false false s x = Go [] (s.0, s.1 ++ x ∷ [])

abbrev pub cut_scan : CutRule → Scan Line
cut_scan r = record {
  ready = λ s. None;
  step = λ s x. cut_reply (is_end r.separator (number x)) (length s.1 + 1 == r.most) s (number x);
  close = λ s. map Out (short_piece r.short s.1);
  ending = λ s. Done Value.Unit;
}

-- ---- the stage

abbrev pub numbers : OpenPiece → List ℕ
numbers (variant.Bytes bytes) = bytes
numbers (variant.Chars chars) = chars

-- of what it is cut from
abbrev pub sort_of : OpenPiece → Sort
sort_of (variant.Bytes bytes) = Sort.Bytes
sort_of (variant.Chars chars) = Sort.Chars

-- pieces of at most n of these elements
abbrev pub pieces_to : ℕ → Kind → Kind
pieces_to n kind.Bytes = kind.Blocks n
pieces_to n kind.Chars = kind.Texts n
pieces_to n (kind.Blocks m) = kind.Blocks n
pieces_to n (kind.Texts m) = kind.Texts n

abbrev pub line : Cutter → Line
line e = (e.fresh, numbers e.piece)

abbrev pub cutter_held : Cutter → ℕ
cutter_held e = length (numbers e.piece) + weight_any e.keep

-- what is compared of it: the net of its end
abbrev pub cut_grade : Grade
cut_grade = record { pieces = false; exact = true }

abbrev pub seen_cutter : Cutter → Part
seen_cutter e =
    part_of (part_at e.stand) cut_grade (Some (pieces_to e.rule.most (kind_of (sort_of e.piece)))) (Some (kind_of (sort_of e.piece))) (e.rule.most + chunk_at (kind_of (sort_of e.piece))) (cutter_held e)
    (scan_rest (cut_scan e.rule) e.told (line e) (rest_items e.keep))

-- a separator of bytes is one of ASCII
abbrev pub SeparatorFits : Option ℕ → Sort → Type 0
SeparatorFits None k = Unit {0}
SeparatorFits (Some separator) k = k ≡ Sort.Bytes → separator ≤ 127

abbrev pub RuleFits : CutRule → Sort → Type 0
RuleFits r k = (r.most ≤ chunk_limit) × SeparatorFits r.separator k

-- the open piece is not full
abbrev pub IsOpen : Cutter → Type 0
IsOpen e = (length (numbers e.piece) < e.rule.most) × RuleFits e.rule (sort_of e.piece)

-- once the end was told, nothing is unread
abbrev pub CutterStands : Stand → Bool → Option Chunk → Type 0
CutterStands Fresh told keep = (told ≡ false) × (keep ≡ None)
CutterStands Wait told keep = (told ≡ false) × (keep ≡ None)
CutterStands Gave told keep = told ≡ true → keep ≡ None
CutterStands Over told keep = keep ≡ None

abbrev pub cutter_fits : Cutter → Type 0
cutter_fits e = CutterStands e.stand e.told e.keep × IsOpen e × IsGiven (Some (kind_of (sort_of e.piece))) e.keep

abbrev pub cutter_most : Cutter → ℕ
cutter_most e = e.rule.most

abbrev pub cutter_one : Cutter → ℕ
cutter_one e = chunk_at (kind_of (sort_of e.piece))

-- ---- its steps

-- what no step changes
abbrev pub IsSameCutter : Cutter → Cutter → Type 0
IsSameCutter e f = (f.rule ≡ e.rule) × (sort_of f.piece ≡ sort_of e.piece)

-- it has this of its last chunk
abbrev pub with_chunk : Option Chunk → Cutter → Cutter
with_chunk c e = record e { keep = c }

abbrev pub Went : Cutter → Move → Cutter → Type 0
Went e m f = Goes m (seen_cutter e) (seen_cutter f)

-- with the chunk c it means the same as before with b
abbrev pub IsPassed : Cutter → Option Chunk → Cutter → Option Chunk → Type 0
IsPassed e b f c = Same (seen_cutter (with_chunk b e)) (seen_cutter (with_chunk c f))

-- a separator does not come first where its line has given a piece and nothing since
abbrev pub IsAtPiece : Cutter → Chunk → Type 0
IsAtPiece e c = e.fresh ≡ false → numbers e.piece ≡ [] → position_or_len (is_end e.rule.separator) (take 1 c.1) ≡ 1

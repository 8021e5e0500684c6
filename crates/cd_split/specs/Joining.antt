-- Pieces that are joined to elements: the scan, what is seen of the stage, and what holds of it between two steps.
use Rattle.std.specs.Prelude.{◌≡◌, ℕ, ◌+◌, Bool, true, false, List, [], ◌∷◌, ◌++◌, map, Option, Some, None}
use Rattle.cd_elem.specs.Ascii.{newline}
use Rattle.cd_elem.specs.declared.kind.Kind.{Kind}
use Rattle.cd_meaning.specs.Stream.{Value, Done, Act, Out}
use Rattle.cd_meaning.specs.RunShapes.{elements}
use Rattle.cd_meaning.specs.Rest.{Grade}
use Rattle.cd_meaning.specs.Scan.{Scan, Go}
use Rattle.cd_meaning.specs.Sorts.{elements_of}
use Rattle.cd_step.specs.CutChunks.{elems, kind_of}
use Rattle.cd_step.specs.declared.protocol.Move.{Move}
use Rattle.cd_step.specs.declared.protocol.Stand.{Stand}
use Rattle.cd_step.specs.declared.protocol.Stand.TheVariants.{Fresh, Wait, Gave, Over}
use Rattle.cd_step.specs.Parts.{Chunk, Part, part_at, weight_any, chunk_at, sort_at, pieces_at, IsGiven, Goes}
use Rattle.cd_step.specs.Reading.{acting, scan_rest, part_of}
use Rattle.cd_split.specs.declared.joiner.Joiner.{Joiner}

-- ---- the scan

-- what comes behind each piece
abbrev pub line_end : Bool → List ℕ
line_end false = []
line_end true = newline ∷ []

-- a piece as elements that are given
abbrev pub joined : Bool → List ℕ → List Act
joined lines piece = map Out (elems (piece ++ line_end lines))

abbrev pub join_scan : Bool → Scan (Unit {0})
join_scan lines = record { ready = λ s. None; step = λ s x. Go (joined lines (elements x)) tt; close = λ s. []; ending = λ s. Done Value.Unit }

-- ---- the stage

-- the acts that are left of a piece
abbrev pub left : Bool → Option Chunk → List Act
left lines None = []
left lines (Some c) = joined lines c.1

-- elements of these pieces
abbrev pub flattened : Kind → Kind
flattened k = kind_of (elements_of (sort_at k))

-- what is compared of it: all nets, and that of its end
abbrev pub join_grade : Kind → Grade
join_grade k = record { pieces = pieces_at k; exact = true }

abbrev pub joiner_most : Joiner → ℕ
joiner_most e = 0

abbrev pub joiner_one : Joiner → ℕ
joiner_one e = chunk_at e.takes

abbrev pub seen_joiner : Joiner → Part
seen_joiner e =
    part_of (part_at e.stand) (join_grade e.takes) (Some (flattened e.takes)) (Some e.takes) (joiner_most e + joiner_one e) (weight_any e.keep)
    (acting (left e.lines e.keep) (scan_rest (join_scan e.lines) e.told tt []))

-- it takes pieces
abbrev pub TakesPieces : Joiner → Type 0
TakesPieces e = pieces_at e.takes ≡ true

abbrev pub JoinerStands : Stand → Bool → Option Chunk → Type 0
JoinerStands Gave told keep = told ≡ false
JoinerStands Fresh told keep = (told ≡ false) × (keep ≡ None)
JoinerStands Wait told keep = (told ≡ false) × (keep ≡ None)
JoinerStands Over told keep = keep ≡ None

abbrev pub joiner_fits : Joiner → Type 0
joiner_fits e = JoinerStands e.stand e.told e.keep × TakesPieces e × IsGiven (Some e.takes) e.keep

-- ---- its steps

-- what no step changes
abbrev pub IsSameJoiner : Joiner → Joiner → Type 0
IsSameJoiner e f = (f.lines ≡ e.lines) × (f.takes ≡ e.takes)

-- it has this left of a piece
abbrev pub with_piece : Option Chunk → Joiner → Joiner
with_piece c e = record e { keep = c }

abbrev pub Joined : Joiner → Move → Joiner → Type 0
Joined e m f = Goes m (seen_joiner e) (seen_joiner f)

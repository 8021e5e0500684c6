-- From elements to pieces, and back.
use Rattle.std.specs.Prelude.{ℕ, suc, ◌+◌, ◌==◌, Bool, true, false, if◌then◌else◌, List, [], ◌∷◌, ◌++◌, length}
use Rattle.cd_elem.specs.Ascii.{newline}
use Rattle.cd_meaning.specs.Stream.{Item, Piece, Value, End, Ended, Halted, Out}
use Rattle.cd_meaning.specs.Run.{stamp, Run, Then, Component, outs_at, past}
use Rattle.cd_meaning.specs.RunShapes.{each_to_end, number, elements, piece, elements_out}

-- what is made of elements that are too few for a whole piece
abbrev pub no_piece : List Item → List Item
no_piece held = []

abbrev pub short_piece : List Item → List Item
short_piece [] = []
short_piece (x ∷ xs) = piece (x ∷ xs) ∷ []

-- Pieces of n elements, each at its last one. i elements stand before xs, of which the last are held.
abbrev pub grouped : (List Item → List Item) → ℕ → ℕ → List Item → List Item → End → Run
grouped short n i held [] Ended = outs_at (stamp (suc i) i) (short held) (past i Ended Value.Unit)
grouped short n i held [] (Halted h) = past i (Halted h) Value.Unit
grouped short n i held (x ∷ xs) e =
    if length held + 1 == n
    then Then (stamp (suc i) (suc i)) (Out (piece (held ++ x ∷ []))) (grouped short n (suc i) [] xs e)
    else grouped short n (suc i) (held ++ x ∷ []) xs e

abbrev pub exact : ℕ → Component
exact n = grouped no_piece n 0 []

abbrev pub chunks_of : ℕ → Component
chunks_of n = grouped short_piece n 0 []

-- the piece that a separator ends: of an empty line, or of what is held
abbrev pub line_end : Bool → List Item → List Item
line_end fresh [] = if fresh then Piece [] ∷ [] else []
line_end fresh (x ∷ xs) = piece (x ∷ xs) ∷ []

-- Lines in pieces of at most n. The held elements are those since the last separator or piece; fresh says that the line has given no piece yet.
abbrev pub lines_from : ℕ → ℕ → ℕ → Bool → List Item → List Item → End → Run
lines_from separator n i fresh held [] Ended = outs_at (stamp (suc i) i) (short_piece held) (past i Ended Value.Unit)
lines_from separator n i fresh held [] (Halted h) = past i (Halted h) Value.Unit
lines_from separator n i fresh held (x ∷ xs) e =
    if number x == separator
    then outs_at (stamp (suc i) (suc i)) (line_end fresh held) (lines_from separator n (suc i) true [] xs e)
    else
    (if length held + 1 == n
    then Then (stamp (suc i) (suc i)) (Out (piece (held ++ x ∷ []))) (lines_from separator n (suc i) false [] xs e)
    else lines_from separator n (suc i) fresh (held ++ x ∷ []) xs e)

abbrev pub split : ℕ → ℕ → Component
split separator n = lines_from separator n 0 true []

abbrev pub lines : ℕ → Component
lines = split newline

abbrev pub flat : Component
flat = each_to_end (λ x. elements_out (elements x))

abbrev pub unlines : Component
unlines = each_to_end (λ x. elements_out (elements x ++ newline ∷ []))

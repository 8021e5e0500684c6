-- Zips: two runs side by side.
use Rattle.std.specs.Prelude.{ℕ, max, nat_le, Bool, if◌then◌else◌, List, [], ◌++◌, length}
use Rattle.cd_meaning.specs.Stream.{Item, Piece, Value, Ended, Ending, Done, Halts, Act, Out, Do}
use Rattle.cd_meaning.specs.Run.{Stamp, at_need, start, Run, Then, Ends, Component}
use Rattle.cd_meaning.specs.RunShapes.{elements}
use Rattle.cd_meaning.specs.ElementWords.{passed}
use Rattle.cd_meaning.specs.Fusion.{both}

-- ---- `zipSource`

-- the ending of a part, without its value
abbrev pub no_value : Ending → Ending
no_value (Done v) = Done Value.Unit
no_value (Halts h) = Halts h

-- b's effects up to its next piece, then x, the separator and that piece; rest goes on with what is left of b
abbrev pub paired : List ℕ → Item → (Run → Run) → Run → Run
paired separator x rest (Then s (Out y) b) = Then start (Out (Piece (elements x ++ separator ++ elements y))) (rest b)
paired separator x rest (Then s (Do e) b) = Then start (Do e) (paired separator x rest b)
paired separator x rest (Ends s e) = Ends start (no_value e)

-- a's effects up to its next piece, then what b makes of it; it ends as the first part that has no further piece
abbrev pub zip_runs : List ℕ → Run → Run → Run
zip_runs separator (Then s (Out x) a) b = paired separator x (zip_runs separator a) b
zip_runs separator (Then s (Do e) a) b = Then start (Do e) (zip_runs separator a b)
zip_runs separator (Ends s e) b = Ends start (no_value e)

-- both on nothing
abbrev pub zip_source : List ℕ → Component → Component → Component
zip_source separator a b xs e = zip_runs separator (a [] Ended) (b [] Ended)

-- ---- `zipSink`, `zipConduit`, `tee`

-- Two runs on n values, by need, at equal need a's acts and ending before b's.

-- what the first part does at s comes before what the second does at t
abbrev pub is_first : Stamp → Stamp → Bool
is_first s t = nat_le s.need t.need

-- a's act at s, in its place among b's; rest goes on with what is left of a
abbrev pub placed : ℕ → Stamp → Act → (Run → Run) → Run → Run
placed n s act rest (Then t y b) =
    if is_first s t then Then (at_need n s.need) act (rest (Then t y b)) else Then (at_need n t.need) y (placed n s act rest b)
placed n s act rest (Ends t (Done v)) = Then (at_need n s.need) act (rest (Ends t (Done v)))
placed n s act rest (Ends t (Halts h)) =
    if is_first s t then Then (at_need n s.need) act (rest (Ends t (Halts h))) else Ends (at_need n t.need) (Halts h)

-- a ends at s; b goes on where a is done, and else up to there
abbrev pub ended : ℕ → Stamp → Ending → Run → Run
ended n s (Done u) (Then t y b) = Then (at_need n t.need) y (ended n s (Done u) b)
ended n s (Done u) (Ends t (Done v)) = Ends (at_need n (max s.need t.need)) (Done (both u v))
ended n s (Done u) (Ends t (Halts h)) = Ends (at_need n t.need) (Halts h)
ended n s (Halts g) (Then t y b) =
    if is_first s t then Ends (at_need n s.need) (Halts g) else Then (at_need n t.need) y (ended n s (Halts g) b)
ended n s (Halts g) (Ends t (Done v)) = Ends (at_need n s.need) (Halts g)
ended n s (Halts g) (Ends t (Halts h)) =
    if is_first s t then Ends (at_need n s.need) (Halts g) else Ends (at_need n t.need) (Halts h)

abbrev pub merge : ℕ → Run → Run → Run
merge n (Then s act a) b = placed n s act (merge n a) b
merge n (Ends s e) b = ended n s e b

-- both on the same input
abbrev pub zip_sink : Component → Component → Component
zip_sink a b xs e = merge (length xs) (a xs e) (b xs e)

-- the part beside one that passes all values on
abbrev pub tee : Component → Component
tee a = zip_sink a passed

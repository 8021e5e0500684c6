-- What a script does at each of its sites, and what that says of where effects go and of what is seen.
use Rattle.std.specs.Prelude.{ℕ, zero, suc, ◌==◌, nat_le, if◌then◌else◌, List, [], ◌∷◌, length, get_or, take}
use Rattle.cd_meaning.specs.Stream.{Effect, Open, Put, Close}
use Rattle.cd_meaning.specs.RunShapes.{AtEnd, TooLong, Told, Seen}

-- A site reads a file or standard input, writes a file or standard output, or marks a file, which stands for a while.
pub data Place : Type 0 where
  Reads : List ℕ → Place
  ReadsInput : Place
  Writes : List ℕ → Place
  WritesOutput : Place
  Marks : List ℕ → Place

-- the place of a site of a script with these places; sites count from 1, and site 0 is where results are printed
abbrev pub place_in : List Place → ℕ → Place
place_in places site = get_or (WritesOutput ∷ places) site WritesOutput

-- ---- effects by output

-- The output of what is put at a place: 0 is standard output, and each written file has the number of its site.
abbrev pub output_at : Place → ℕ → ℕ
output_at (Reads name) s = s
output_at ReadsInput s = s
output_at (Writes name) s = s
output_at WritesOutput s = 0
output_at (Marks name) s = s

-- of the i-th place and those behind it, that of site s
abbrev pub output_from : ℕ → List Place → ℕ → ℕ
output_from s places zero = s
output_from s [] (suc n) = s
output_from s (p ∷ places) (suc zero) = output_at p s
output_from s (p ∷ places) (suc (suc n)) = output_from s places (suc n)

-- the output of a site of a script with these places; sites count from 1, and site 0 is where results are printed
abbrev pub output_of : List Place → ℕ → ℕ
output_of places s = output_from s places s

-- the bytes that an output gets
abbrev pub sent_to : List Place → ℕ → List Effect → List ℕ
sent_to places output [] = []
sent_to places output (Open s ∷ es) = sent_to places output es
sent_to places output (Put s b ∷ es) = if output_of places s == output then b ∷ sent_to places output es else sent_to places output es
sent_to places output (Close s ∷ es) = sent_to places output es

-- ---- what is seen of whole files

-- these bytes in all, of which no more than the limit may be read
abbrev pub told_whole : ℕ → List ℕ → Told
told_whole limit bytes = if nat_le (length bytes) limit then record { bytes = bytes; mark = AtEnd } else record { bytes = take limit bytes; mark = TooLong }

-- the bytes at a place, where files hold these and standard input that; an absent file has none
abbrev pub bytes_at : (List ℕ → List ℕ) → List ℕ → Place → List ℕ
bytes_at files input (Reads name) = files name
bytes_at files input ReadsInput = input
bytes_at files input (Writes name) = []
bytes_at files input WritesOutput = []
bytes_at files input (Marks name) = []

-- all bytes of each reading site
abbrev pub whole : (List ℕ → List ℕ) → List ℕ → ℕ → List Place → Seen
whole files input limit places zero = told_whole limit []
whole files input limit [] (suc n) = told_whole limit []
whole files input limit (p ∷ places) (suc zero) = told_whole limit (bytes_at files input p)
whole files input limit (p ∷ places) (suc (suc n)) = whole files input limit places (suc n)

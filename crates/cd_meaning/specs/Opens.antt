-- How often a site is opened and closed, in a list of effects.
use Rattle.std.specs.Prelude.{◌≡◌, ℕ, suc, ◌+◌, ◌==◌, ◌≤◌, if◌then◌else◌, List, [], ◌∷◌, ◌++◌}
use Rattle.cd_meaning.specs.Stream.{Effect, Open, Put, Close}
use Rattle.cd_meaning.specs.Run.{Run, effects}
use Rattle.cd_meaning.specs.RunShapes.{Seen}
use Rattle.cd_meaning.specs.Places.{Place, Reads, ReadsInput, Writes, WritesOutput, Marks}

-- one effect, as an opening and as a closing of a site
abbrev pub opening : ℕ → Effect → ℕ
opening site (Open s) = if s == site then 1 else 0
opening site (Put s b) = 0
opening site (Close s) = 0

abbrev pub closing : ℕ → Effect → ℕ
closing site (Open s) = 0
closing site (Put s b) = 0
closing site (Close s) = if s == site then 1 else 0

abbrev pub opens_of : ℕ → List Effect → ℕ
opens_of site [] = 0
opens_of site (e ∷ es) = opening site e + opens_of site es

abbrev pub closes_of : ℕ → List Effect → ℕ
closes_of site [] = 0
closes_of site (e ∷ es) = closing site e + closes_of site es

-- what may be opened at a place: a file that is read, written or marked
abbrev pub openings_at : Place → ℕ
openings_at (Reads name) = 1
openings_at ReadsInput = 0
openings_at (Writes name) = 1
openings_at WritesOutput = 0
openings_at (Marks name) = 1

-- how often a site may be opened by these places, the first of which is site s
abbrev pub openings_from : ℕ → ℕ → List Place → ℕ
openings_from site s [] = 0
openings_from site s (p ∷ places) = (if s == site then openings_at p else 0) + openings_from site (suc s) places

-- all openings of a list of effects, and how many of these places have a file
abbrev pub openings_in : List Effect → ℕ
openings_in [] = 0
openings_in (Open s ∷ es) = suc (openings_in es)
openings_in (Put s b ∷ es) = openings_in es
openings_in (Close s ∷ es) = openings_in es

abbrev pub files_in : List Place → ℕ
files_in [] = 0
files_in (p ∷ places) = openings_at p + files_in places

-- each site is opened at most once, whatever is seen
abbrev pub OpensOnce : (Seen → Run) → Type 0
OpensOnce m = (seen : Seen) (site : ℕ) → opens_of site (effects (m seen)) ≤ 1

-- at each closing of a site it is open: it was opened once, and not closed
abbrev pub ClosesOpen : ℕ → Run → Type 0
ClosesOpen site r = (before behind : List Effect) → effects r ≡ before ++ Close site ∷ behind → (opens_of site before ≡ 1) × (closes_of site before ≡ 0)

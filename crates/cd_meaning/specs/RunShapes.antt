-- Shapes of words' runs, and what is known of the sites that read.
use Rattle.std.specs.Prelude.{ℕ, suc, ◌==◌, nat_le, Bool, if◌then◌else◌, List, [], ◌∷◌, length, take, map, ◌-◌, ◌^◌, min}
use Rattle.cd_meaning.specs.Stream.{Item, Elem, Piece, Value, Done, Act, Out}
use Rattle.cd_meaning.specs.Run.{stamp, Run, Ends, Component, acts_at, past}

-- the acts of the i-th value at (i, i), for each value, where i values stand before; and what comes behind them
abbrev pub each : (Item → List Act) → ℕ → List Item → Run → Run
each f i [] r = r
each f i (x ∷ xs) r = acts_at (stamp (suc i) (suc i)) (f x) (each f (suc i) xs r)

-- a word that answers each value by acts of its own, until the input ends
abbrev pub each_to_end : (Item → List Act) → Component
each_to_end f xs e = each f 0 xs (past (length xs) e Value.Unit)

-- a value as it came
abbrev pub passes : Item → List Act
passes x = Out x ∷ []

-- no act
abbrev pub drops : Item → List Act
drops x = []

-- what a word does with the first n values, and its value of them
abbrev pub first : ℕ → (Item → List Act) → (List Item → Value) → Component
first n f v xs e =
    each f 0 (take n xs) (if nat_le n (length xs) then Ends (stamp n n) (Done (v (take n xs))) else past (length xs) e (v xs))

abbrev pub unit_of : List Item → Value
unit_of xs = Value.Unit

-- the longest front of values that pass
abbrev pub front : (Item → Bool) → List Item → List Item
front p [] = []
front p (x ∷ xs) = if p x then x ∷ front p xs else []

-- what a word does with the longest front of values that pass; it gives the next one back
abbrev pub while : (Item → Bool) → (Item → List Act) → Component
while p f xs e =
    let k = length (front p xs) in
    each f 0 (front p xs) (if k == length xs then past k e Value.Unit else Ends (stamp (suc k) k) (Done Value.Unit))

-- a word that gives nothing and answers of the whole input
abbrev pub whole : (List Item → Value) → Component
whole v xs e = past (length xs) e (v xs)

-- the number of an element, and the elements of a piece; the typing lets no word ask a piece for its number or an element for its elements
abbrev pub number : Item → ℕ
number (Elem n) = n
number (Piece xs) = 0

abbrev pub elements : Item → List ℕ
elements (Elem n) = []
elements (Piece xs) = xs

-- elements as one piece
abbrev pub piece : List Item → Item
piece xs = Piece (map number xs)

-- numbers as elements that are given
abbrev pub elements_out : List ℕ → List Act
elements_out [] = []
elements_out (n ∷ ns) = Out (Elem n) ∷ elements_out ns

-- a number as a count, a sum or an offset, which stays at the greatest that there is
abbrev pub as_count : ℕ → ℕ
as_count n = min n (2 ^ 64 - 1)

-- ---- sites

-- what is known behind the bytes that a reading site gave: it has no more, or may give more, or its next read fails, or it is longer than a source may be
pub data Mark : Type 0 where
  AtEnd : Mark
  MayGoOn : Mark
  Broken : Mark
  TooLong : Mark

-- what is known of a reading site
pub record Told : Type 0 where
  pub bytes : List ℕ
  pub mark : Mark

-- of each site, by its number
abbrev pub Seen : Type 0
Seen = ℕ → Told

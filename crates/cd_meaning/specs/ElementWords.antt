-- The words on elements, each as its run on a whole list. Where pieces have a word of the same rule, the formula serves both.
use Rattle.std.specs.Prelude.{ℕ, suc, ◌+◌, Bool, true, false, if◌then◌else◌, List, [], ◌∷◌, length, replicate}
use Rattle.cd_meaning.specs.Stream.{Item, Value, absent, present, End, Done, Act, Out}
use Rattle.cd_meaning.specs.Run.{stamp, Run, Ends, Component, past}
use Rattle.cd_meaning.specs.RunShapes.{each_to_end, passes, drops, first, unit_of, while, whole, number, as_count}

-- ---- words that give values

abbrev pub passed : Component
passed = each_to_end passes

abbrev pub taken : ℕ → Component
taken n = first n passes unit_of

abbrev pub taken_while : (Item → Bool) → Component
taken_while p = while p passes

abbrev pub kept : (Item → Bool) → Item → List Act
kept p x = if p x then Out x ∷ [] else []

abbrev pub filtered : (Item → Bool) → Component
filtered p = each_to_end (kept p)

abbrev pub mapped : (Item → Item) → Component
mapped f = each_to_end (λ x. Out (f x) ∷ [])

abbrev pub repeated : ℕ → Component
repeated n = each_to_end (λ x. replicate n (Out x))

-- ---- words that give nothing

abbrev pub dropped : ℕ → Component
dropped n = first n drops unit_of

abbrev pub dropped_while : (Item → Bool) → Component
dropped_while p = while p drops

-- v is what one value is as a result
abbrev pub head : (Item → Value) → Component
head v [] e = past 0 e absent
head v (x ∷ xs) e = Ends (stamp 1 1) (Done (present (v x)))

abbrev pub peek : (Item → Value) → Component
peek v [] e = past 0 e absent
peek v (x ∷ xs) e = Ends (stamp 1 0) (Done (present (v x)))

abbrev pub last_of : (Item → Value) → List Item → Value
last_of v [] = absent
last_of v (x ∷ []) = present (v x)
last_of v (x ∷ y ∷ ys) = last_of v (y ∷ ys)

abbrev pub latest : (Item → Value) → Component
latest v = whole (last_of v)

abbrev pub counted : Component
counted = whole (λ xs. Value.Num (as_count (length xs)))

abbrev pub sum_of : List Item → ℕ
sum_of [] = 0
sum_of (x ∷ xs) = number x + sum_of xs

abbrev pub summed : Component
summed = whole (λ xs. Value.Num (as_count (sum_of xs)))

-- whether each value passes, or some value does: it ends at the first that decides, where i values stand before
abbrev pub all_from : (Item → Bool) → ℕ → List Item → End → Run
all_from p i [] e = past i e (Value.Bool true)
all_from p i (x ∷ xs) e = if p x then all_from p (suc i) xs e else Ends (stamp (suc i) (suc i)) (Done (Value.Bool false))

abbrev pub any_from : (Item → Bool) → ℕ → List Item → End → Run
any_from p i [] e = past i e (Value.Bool false)
any_from p i (x ∷ xs) e = if p x then Ends (stamp (suc i) (suc i)) (Done (Value.Bool true)) else any_from p (suc i) xs e

abbrev pub all : (Item → Bool) → Component
all p = all_from p 0

abbrev pub any : (Item → Bool) → Component
any p = any_from p 0

-- whether there is no value
abbrev pub none : Component
none [] e = past 0 e (Value.Bool true)
none (x ∷ xs) e = Ends (stamp 1 0) (Done (Value.Bool false))

-- list is what values are as a result
abbrev pub collected : (List Item → Value) → ℕ → Component
collected list n = first n drops list

abbrev pub ignored : Component
ignored = each_to_end drops

-- A run: a list of stamped acts and a stamped ending.
use Rattle.std.specs.Prelude.{ℕ, suc, min, List, [], ◌∷◌}
use Rattle.cd_meaning.specs.Stream.{Item, Value, End, Ended, Halted, Ending, Done, Halts, Act, Out, Do, Effect, end_of_ending}

-- How many values were asked for, and how many of them were taken and not given back.
pub record Stamp : Type 0 where
  pub need : ℕ
  pub net : ℕ

abbrev pub stamp : ℕ → ℕ → Stamp
stamp need net = record { need = need; net = net }

-- what has this need on n values, and keeps what it asked for
abbrev pub at_need : ℕ → ℕ → Stamp
at_need n need = stamp need (min need n)

abbrev pub start : Stamp
start = stamp 0 0

pub data Run : Type 0 where
  -- an act at its stamp, and the acts behind it
  Then : Stamp → Act → Run → Run
  -- the ending at its stamp
  Ends : Stamp → Ending → Run

-- A component gives a run on each list of values with its end.
abbrev pub Component : Type 0
Component = List Item → End → Run

abbrev pub outs : Run → List Item
outs (Then s (Out x) r) = x ∷ outs r
outs (Then s (Do e) r) = outs r
outs (Ends s e) = []

abbrev pub ending : Run → Ending
ending (Then s a r) = ending r
ending (Ends s e) = e

abbrev pub end_of : Run → End
end_of r = end_of_ending (ending r)

-- the stamp of the ending
abbrev pub last : Run → Stamp
last (Then s a r) = last r
last (Ends s e) = s

abbrev pub effects : Run → List Effect
effects (Then s (Out x) r) = effects r
effects (Then s (Do e) r) = e ∷ effects r
effects (Ends s e) = []

-- these acts at this stamp, and the run behind them
abbrev pub acts_at : Stamp → List Act → Run → Run
acts_at s [] r = r
acts_at s (a ∷ more) r = Then s a (acts_at s more r)

abbrev pub outs_at : Stamp → List Item → Run → Run
outs_at s [] r = r
outs_at s (x ∷ xs) r = Then s (Out x) (outs_at s xs r)

-- another stamp for each
abbrev pub restamp : (Stamp → Stamp) → Run → Run
restamp f (Then s a r) = Then (f s) a (restamp f r)
restamp f (Ends s e) = Ends (f s) e

-- the run, with what k makes of the stamp and the value in place of an ending that is Done
abbrev pub follow : Run → (Stamp → Value → Run) → Run
follow (Then s a r) k = Then s a (follow r k)
follow (Ends s (Done v)) k = k s v
follow (Ends s (Halts h)) k = Ends s (Halts h)

-- asked past the last of n values
abbrev pub past : ℕ → End → Value → Run
past n Ended v = Ends (stamp (suc n) n) (Done v)
past n (Halted h) v = Ends (stamp (suc n) n) (Halts h)

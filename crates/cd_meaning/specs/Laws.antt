-- What every run of a component obeys.
use Rattle.std.specs.Prelude.{◌≡◌, ℕ, suc, ◌-◌, ◌≤◌, nat_le, if◌then◌else◌, List, ◌++◌, length}
use Rattle.cd_meaning.specs.Stream.{Item, Halt, End, Halted, Halts}
use Rattle.cd_meaning.specs.Run.{Stamp, stamp, Run, Then, Ends, Component}

-- needs never fall, and are at least n
abbrev pub Rising : ℕ → Run → Type 0
Rising n (Then s a r) = (n ≤ s.need) × Rising s.need r
Rising n (Ends s e) = n ≤ s.need

-- n more values were taken in
abbrev pub less_by : ℕ → Stamp → Stamp
less_by n s = stamp (s.need - n) s.net

-- the part of a run of which the needs are at most n; where more is needed, it goes no further, as h says
abbrev pub cut : ℕ → Halt → Run → Run
cut n h (Then s a r) = if nat_le s.need n then Then s a (cut n h r) else Ends (stamp (suc n) n) (Halts h)
cut n h (Ends s e) = if nat_le s.need n then Ends s e else Ends (stamp (suc n) n) (Halts h)

-- a stamp on an input of n values
pub record IsStamp (n : ℕ) (s : Stamp) : Type 0 where
  pub asked : s.need ≤ suc n
  pub there : s.net ≤ n
  pub taken : s.net ≤ s.need
  pub one_back : s.need ≤ suc s.net

-- each stamp of a run is so
abbrev pub EachStamp : (Stamp → Type 0) → Run → Type 0
EachStamp P (Then s a r) = P s × EachStamp P r
EachStamp P (Ends s e) = P s

pub record IsRun (f : Component) : Type 0 where
  -- needs never fall
  pub rising : (xs : List Item) (e : End) → Rising 0 (f xs e)
  -- a need is at most one more than the net, and both fit the input
  pub stamps : (xs : List Item) (e : End) → EachStamp (IsStamp (length xs)) (f xs e)
  -- what is known of a front of the input, is the run on the whole input as far as the front reaches
  pub known : (xs ys : List Item) (h : Halt) (e : End) → f xs (Halted h) ≡ cut (length xs) h (f (xs ++ ys) e)

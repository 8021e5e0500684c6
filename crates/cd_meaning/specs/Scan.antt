-- Words that read one value after another: what a word still does, from what it carries.
use Rattle.std.specs.Prelude.{ℕ, suc, List, [], ◌∷◌, Option, Some, None}
use Rattle.cd_meaning.specs.Stream.{Item, Value, Stopped, Stop, End, Ended, Halted, Ending, Done, Halts, Act}
use Rattle.cd_meaning.specs.Run.{stamp, Run, Ends, acts_at}

-- what a word does on a value, where it carries an S
pub data Reply (S : Type 0) : Type 0 where
  Go : List Act → S → Reply S
  Back : Value → Reply S
  Fail : Stopped → Reply S

pub record Scan (S : Type 0) : Type 0 where
  -- the value, where no further value is asked for
  pub ready : S → Option Value
  pub step : S → Item → Reply S
  -- what it does at the end of its input
  pub close : S → List Act
  pub ending : S → Ending

abbrev pub at_ready : Option Value → ℕ → Run → Run
at_ready (Some v) i r = Ends (stamp i i) (Done v)
at_ready None i r = r

abbrev pub replied : {S : Type 0} → ℕ → Reply S → (S → Run) → Run
replied i (Go acts st) k = acts_at (stamp (suc i) (suc i)) acts (k st)
replied i (Back v) k = Ends (stamp (suc i) i) (Done v)
replied i (Fail f) k = Ends (stamp (suc i) (suc i)) (Halts (Stop f))

abbrev pub closed : ℕ → List Act → Ending → End → Run
closed i acts v Ended = acts_at (stamp (suc i) i) acts (Ends (stamp (suc i) i) v)
closed i acts v (Halted h) = Ends (stamp (suc i) i) (Halts h)

-- the run of what is left, where i values stand before
abbrev pub scan : {S : Type 0} → Scan S → ℕ → S → List Item → End → Run
scan w i st [] e = at_ready (w.ready st) i (closed i (w.close st) (w.ending st) e)
scan w i st (x ∷ xs) e = at_ready (w.ready st) i (replied i (w.step st x) (λ t. scan w (suc i) t xs e))

-- What a whole run promises of its calls.
use Rattle.std.specs.Prelude.{◌≡◌, ◌⊎◌, ℕ, List, ◌++◌, map, reverse, Option, Some, None, Result, Ok, Err, IsTrue}
use Rattle.cd_elem.specs.declared.site.Site.{Site}
use Rattle.cd_meaning.specs.Run.{start, Run, Ends}
use Rattle.cd_meaning.specs.RunShapes.{Seen}
use Rattle.cd_meaning.specs.Stream.{Value, Done}
use Rattle.cd_world.specs.Causes.{Rose}
use Rattle.cd_scope.specs.Calls.{Call, did, event, left_open, over}
use Rattle.cd_scope.specs.Due.{Clean, Due, Each, Fits, Setting}
use Rattle.cd_scope.specs.Table.{AreCloses, first_stuck}
use Rattle.cd_run.specs.declared.fault.RunFault.{RunFault}
use Rattle.cd_run.specs.declared.fault.RunFault.TheVariants.{CloseFault}
use Rattle.cd_run.specs.Ends.{EndsBy, FailsBy, StopsSo}
use Rattle.cd_run.specs.Going.{Outside, files_seen}

abbrev pub done : Run
done = Ends start (Done Value.Unit)

-- m does just what the calls did, and is done
abbrev pub IsDone : (Seen → Run) → List Call → Type 0
IsDone m calls = (z : Seen) → m (over calls z) ≡ did calls done

-- a close at the end failed, and nothing else
pub record ClosedBadly (f : RunFault) (m : Seen → Run) (calls closes : List Call) : Type 0 where
  pub site : Site
  pub fault : f ≡ CloseFault site
  pub first : first_stuck closes ≡ Some site
  pub clean : Clean calls
  pub is_done : IsDone m calls

-- how a run ended, by its calls and the closes at the end
abbrev pub Outcome : {T : Type 0} → Result T RunFault → (Seen → Run) → List Call → List Call → Type 0
Outcome (Ok x) m calls closes = IsDone m calls × Clean calls × (first_stuck closes ≡ None)
Outcome (Err f) m calls closes = (FailsBy f calls × EndsBy f m calls) ⊎ ClosedBadly f m calls closes

-- what m means over all that the files held, where it comes to its end, or stops, over what was seen
abbrev pub IsWhole : {T : Type 0} → Result T RunFault → Run → List Call → Type 0
IsWhole (Ok x) r calls = r ≡ did calls done
IsWhole (Err f) r calls = StopsSo f r calls

-- The run from w0 to w: its calls, of which each is the next thing that m does, on its site's descriptor; and then the
-- closes of all that they left open, the last opened first. Where the files are told, a run that is done has done what m
-- means over all that they held, and so has one that a decoder refused, or that passed the limit, up to there.
pub record Ran {T : Type 0} (g : Setting) (m : Seen → Run) (result : Result T RunFault) (w0 w : Outside) : Type 0 where
  pub calls : List Call
  pub closes : List Call
  pub log : w.log ≡ w0.log ++ map (event g.place) (calls ++ closes)
  pub due : Each (Due m) calls
  pub fits : Each (Fits g) calls
  pub closing : AreCloses (reverse (left_open calls)) closes
  pub outcome : Outcome result m calls closes
  pub whole : IsTrue g.tells → IsWhole result (m (files_seen g w0)) calls

-- a close that fails at the end is the fault where there is no other
abbrev pub IsJoined : {T : Type 0} → Result T RunFault → Option Site → Result T RunFault → Type 0
IsJoined (Ok x) None result = result ≡ Ok x
IsJoined (Ok x) (Some s) result = result ≡ Err (CloseFault s)
IsJoined (Err f) failed result = result ≡ Err f

-- The end adds a fault only where the count of failed calls rose in it, and takes none away; a count that rose before it
-- stays so.
abbrev pub RoseAtEnd : {T : Type 0} → Result T RunFault → Result T RunFault → ℕ → ℕ → Type 0
RoseAtEnd (Ok x) (Ok y) before now = now ≡ before
RoseAtEnd (Ok x) (Err f) before now = Rose before now
RoseAtEnd (Err f) result before now = (result ≡ Err f) × ((n : ℕ) → Rose n before → Rose n now)

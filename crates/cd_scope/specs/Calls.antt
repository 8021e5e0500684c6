-- The calls of a run, each with its site: what they tell of the sites, what they do, and what is open behind them.
use Rattle.std.specs.Prelude.{ℕ, suc, ◌==◌, ◌&&◌, Bool, if◌then◌else◌, List, [], ◌∷◌, ◌++◌, map}
use Rattle.cd_elem.specs.declared.site.Site.{Site}
use Rattle.cd_meaning.specs.Known.{before, known, no_more, nothing_known, unknown}
use Rattle.cd_meaning.specs.Places.{Place}
use Rattle.cd_meaning.specs.Run.{start, Run, Then}
use Rattle.cd_meaning.specs.RunShapes.{Mark, MayGoOn, Broken, TooLong, AtEnd, Seen}
use Rattle.cd_meaning.specs.Stream.{Effect, Open, Put, Close, Do}
use Rattle.cd_world.specs.declared.event.Descriptor.{Descriptor}
use Rattle.cd_world.specs.declared.event.Event.{Event}
use Rattle.cd_world.specs.declared.event.Event.TheVariants.{OpenFailed, Gave, GaveEnd, ReadFailed, Wrote, WriteFailed, Closed, CloseFailed}
use Rattle.cd_world.specs.Events.{opening}
use Rattle.cd_scope.specs.declared.table.Held.{Held}
use Rattle.cd_scope.specs.Uses.{use_at, name_at}

pub data Call : Type 0 where
  Opening : ℕ → Descriptor → Call
  -- an open that failed
  Refusing : ℕ → Call
  Giving : ℕ → Descriptor → List ℕ → Call
  -- a read of a byte past the limit
  Passing : ℕ → Descriptor → List ℕ → Call
  Ending : ℕ → Descriptor → Call
  -- a read that failed
  Breaking : ℕ → Descriptor → Call
  Writing : ℕ → Descriptor → List ℕ → Call
  -- a write that failed
  Losing : ℕ → Descriptor → Call
  Closing : ℕ → Descriptor → Call
  -- a close that failed
  Sticking : ℕ → Descriptor → Call

-- as the outside lists it, where the sites have these places
abbrev pub event : (ℕ → Place) → Call → Event
event place (Opening s d) = opening (use_at (place s)) (name_at (place s)) d
event place (Refusing s) = OpenFailed (name_at (place s))
event place (Giving s d bytes) = Gave d bytes
event place (Passing s d bytes) = Gave d bytes
event place (Ending s d) = GaveEnd d
event place (Breaking s d) = ReadFailed d
event place (Writing s d bytes) = Wrote d bytes
event place (Losing s d) = WriteFailed d
event place (Closing s d) = Closed d
event place (Sticking s d) = CloseFailed d

-- ---- what is seen

-- what a call tells, where z is what is still to come
abbrev pub on : Call → Seen → Seen
on (Giving s d bytes) z = known s (before bytes (z s)) z
on (Passing s d bytes) z = known s (unknown TooLong) z
on (Ending s d) z = known s no_more z
on (Breaking s d) z = known s (unknown Broken) z
on _ z = z

-- what these calls tell, and z behind it
abbrev pub over : List Call → Seen → Seen
over [] z = z
over (c ∷ cs) z = on c (over cs z)

-- what was seen by these calls
abbrev pub seen : List Call → Seen
seen calls = over calls nothing_known

-- the bytes that the reads of a site gave, up to the limit
abbrev pub given_by : ℕ → Call → List ℕ
given_by x (Giving s d bytes) = if x == s then bytes else []
given_by x _ = []

abbrev pub given_of : ℕ → List Call → List ℕ
given_of x [] = []
given_of x (c ∷ cs) = given_by x c ++ given_of x cs

-- what the first read of a site that gave no such bytes told of it, and what other reads told
abbrev pub mark_by : ℕ → Call → Mark → Mark
mark_by x (Passing s d bytes) m = if x == s then TooLong else m
mark_by x (Ending s d) m = if x == s then AtEnd else m
mark_by x (Breaking s d) m = if x == s then Broken else m
mark_by x _ m = m

abbrev pub mark_of : ℕ → List Call → Mark
mark_of x [] = MayGoOn
mark_of x (c ∷ cs) = mark_by x c (mark_of x cs)

-- ---- what is done

abbrev pub effects_of : Call → List Effect
effects_of (Opening s d) = Open s ∷ []
effects_of (Writing s d bytes) = map (Put s) bytes
effects_of (Closing s d) = Close s ∷ []
effects_of (Sticking s d) = Close s ∷ []
effects_of _ = []

abbrev pub does : List Effect → Run → Run
does [] r = r
does (e ∷ es) r = Then start (Do e) (does es r)

-- the effects of these calls, and r behind them
abbrev pub did : List Call → Run → Run
did [] r = r
did (c ∷ cs) r = does (effects_of c) (did cs r)

-- how many resources the calls acquired
abbrev pub acquired : List Call → ℕ
acquired [] = 0
acquired (Opening s d ∷ cs) = suc (acquired cs)
acquired (c ∷ cs) = acquired cs

-- ---- what is open

abbrev pub site_at : ℕ → Site
site_at s = record { 0 = s }

abbrev pub held_at : ℕ → Descriptor → Held
held_at s d = record { site = site_at s; descriptor = d }

abbrev pub is_held : ℕ → Descriptor → Held → Bool
is_held s d h = (h.site.0 == s) && (h.descriptor.0 == d.0)

-- without the first one of this site and descriptor
abbrev pub without : ℕ → Descriptor → List Held → List Held
without s d [] = []
without s d (h ∷ t) = if is_held s d h then t else h ∷ without s d t

abbrev pub opens : Call → List Held → List Held
opens (Opening s d) t = t ++ held_at s d ∷ []
opens (Closing s d) t = without s d t
opens (Sticking s d) t = without s d t
opens _ t = t

abbrev pub open_from : List Held → List Call → List Held
open_from t [] = t
open_from t (c ∷ cs) = open_from (opens c t) cs

-- what the calls opened and did not close, in the order of opening
abbrev pub left_open : List Call → List Held
left_open calls = open_from [] calls

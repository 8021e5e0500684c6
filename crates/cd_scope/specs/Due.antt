-- When a call may come, by those before it.
use Rattle.std.specs.Prelude.{◌≡◌, ◌≤◌, ◌<◌, ℕ, ◌+◌, Bool, List, [], ◌∷◌, ◌++◌, map, length, Contains}
use Rattle.cd_meaning.specs.Places.{Place}
use Rattle.cd_meaning.specs.Run.{start, Run, Ends}
use Rattle.cd_meaning.specs.RunShapes.{MayGoOn, Seen}
use Rattle.cd_meaning.specs.Stream.{Reading, More, Halts, Effect, Open, Put, Close}
use Rattle.cd_world.specs.declared.event.Descriptor.{Descriptor}
use Rattle.cd_world.specs.declared.event.Event.{Event}
use Rattle.cd_scope.specs.Uses.{HasFile, ReadsAt, WritesAt}
use Rattle.cd_scope.specs.Calls.{Call, Opening, Refusing, Giving, Passing, Ending, Breaking, Writing, Losing, Closing, Sticking, event, over, seen, does, did, held_at, left_open, given_of, mark_of}

-- this holds of each call, by those before it
abbrev pub Each : (List Call → Call → Type 0) → List Call → Type 0
Each P calls = (front : List Call) (c : Call) (back : List Call) → calls ≡ front ++ c ∷ back → P front c

-- ---- what is meant

-- behind these calls these are the next effects of m, whatever is still to come
abbrev pub IsNext : (Seen → Run) → List Call → List Effect → Type 0
IsNext m calls es = (z : Seen) → (r : Run) × (m (over calls z) ≡ did calls (does es r))

abbrev pub waiting : ℕ → Run
waiting s = Ends start (Halts (More (Reading s)))

-- all that was due is done, and m waits for this site
abbrev pub Awaits : (Seen → Run) → List Call → ℕ → Type 0
Awaits m calls s = m (seen calls) ≡ did calls (waiting s)

-- the call is the next thing that m does: its effect, or the read that it waits for
abbrev pub Due : (Seen → Run) → List Call → Call → Type 0
Due m front (Opening s d) = IsNext m front (Open s ∷ [])
Due m front (Refusing s) = IsNext m front (Open s ∷ [])
Due m front (Giving s d bytes) = Awaits m front s
Due m front (Passing s d bytes) = Awaits m front s
Due m front (Ending s d) = Awaits m front s
Due m front (Breaking s d) = Awaits m front s
Due m front (Writing s d bytes) = IsNext m front (map (Put s) bytes)
Due m front (Losing s d) = (b : ℕ) × IsNext m front (Put s b ∷ [])
Due m front (Closing s d) = IsNext m front (Close s ∷ [])
Due m front (Sticking s d) = IsNext m front (Close s ∷ [])

-- ---- on which descriptors, and how much

-- What a run is held to: the places of its sites, how many bytes a source has at most and a read asks for at most, and
-- whether its world tells what the files hold.
pub record Setting : Type 0 where
  pub place : ℕ → Place
  pub limit : ℕ
  pub size : ℕ
  pub tells : Bool

abbrev pub IsOpenIn : List Call → ℕ → Descriptor → Type 0
IsOpenIn calls s d = Contains (left_open calls) (held_at s d)

abbrev pub Readable : Setting → List Call → ℕ → Descriptor → Type 0
Readable g front s d = ReadsAt (g.place s) d.0 (IsOpenIn front s d)

abbrev pub Writable : Setting → List Call → ℕ → Descriptor → Type 0
Writable g front s d = WritesAt (g.place s) d.0 (IsOpenIn front s d)

-- its end was not told, no read of it failed, and it did not pass the limit
abbrev pub GoesOnAt : List Call → ℕ → Type 0
GoesOnAt front s = mark_of s front ≡ MayGoOn

-- The call is on a descriptor of its site. A site is read up to its end, to a read that fails, or to the limit; a read
-- gives no more than it may ask for, and a write takes at least one byte.
abbrev pub Fits : Setting → List Call → Call → Type 0
Fits g front (Opening s d) = HasFile (g.place s)
Fits g front (Refusing s) = HasFile (g.place s)
Fits g front (Giving s d bytes) = GoesOnAt front s × Readable g front s d × (length bytes ≤ g.size) × (length (given_of s front) + length bytes ≤ g.limit)
Fits g front (Passing s d bytes) = GoesOnAt front s × Readable g front s d × (length bytes ≡ 1) × (length (given_of s front) ≡ g.limit)
Fits g front (Ending s d) = GoesOnAt front s × Readable g front s d
Fits g front (Breaking s d) = GoesOnAt front s × Readable g front s d
Fits g front (Writing s d bytes) = Writable g front s d × (0 < length bytes)
Fits g front (Losing s d) = Writable g front s d
Fits g front (Closing s d) = IsOpenIn front s d
Fits g front (Sticking s d) = IsOpenIn front s d

-- Events are read as these calls: each event is that of its call, and each call is due and on a descriptor of its site.
pub record IsReading (g : Setting) (m : Seen → Run) (events : List Event) (calls : List Call) : Type 0 where
  pub events_are : events ≡ map (event g.place) calls
  pub due : Each (Due m) calls
  pub fits : Each (Fits g) calls

-- ---- calls that end a run

-- it failed, or passed the limit
abbrev pub Stops : Call → Type 0
Stops (Refusing s) = Unit {0}
Stops (Passing s d bytes) = Unit {0}
Stops (Breaking s d) = Unit {0}
Stops (Losing s d) = Unit {0}
Stops (Sticking s d) = Unit {0}
Stops _ = ⊥

abbrev pub GoesOn : List Call → Call → Type 0
GoesOn front c = Stops c → ⊥

-- no call ended the run
abbrev pub Clean : List Call → Type 0
Clean = Each GoesOn

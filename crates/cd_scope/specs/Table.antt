-- What a scope holds, and what its calls are on the outside.
use Rattle.std.specs.Prelude.{◌≡◌, ◌≢◌, ℕ, ◌==◌, if◌then◌else◌, List, [], ◌∷◌, ◌++◌, map, reverse, Contains, Option, IsSome, Some, None, Result, Ok, Err}
use Rattle.cd_elem.specs.declared.site.Site.{Site}
use Rattle.cd_meaning.specs.Places.{Place}
use Rattle.cd_world.specs.declared.event.Descriptor.{Descriptor}
use Rattle.cd_world.specs.declared.world.WorldError.{WorldError}
use Rattle.cd_world.specs.declared.world.WorldError.TheVariants.{Failed, NoMemory as NoSpace}
use Rattle.cd_world.specs.declared.world.CloseFailed.{CloseFailed}
use Rattle.cd_world.specs.Causes.{Rose, risen}
use Rattle.cd_world.specs.Files.{Files, ClosesFile}
use Rattle.cd_world.specs.Live.{Open, open_as}
use Rattle.cd_scope.specs.declared.errors.AcquireError.{AcquireError}
use Rattle.cd_scope.specs.declared.errors.AcquireError.TheVariants.{AcquireFault, NoMemory}
use Rattle.cd_scope.specs.declared.errors.CloseFault.{CloseFault}
use Rattle.cd_scope.specs.declared.journal.JournalLine.{JournalLine}
use Rattle.cd_scope.specs.declared.table.Held.{Held}
use Rattle.cd_scope.specs.declared.table.Ticket.{Ticket}
use Rattle.cd_scope.specs.Uses.{use_at, name_at}
use Rattle.cd_scope.specs.Calls.{Call, Opening, Refusing, Closing, Sticking, held_at, site_at}
use Rattle.cd_scope.specs.Journal.{end_lines}

-- ---- what is open

abbrev pub open_of : (ℕ → Place) → Held → Open
open_of place h = open_as (use_at (place h.site.0)) h.descriptor (name_at (place h.site.0))

-- behind what was open before, just what the table has is open, with the use and name of its site, in its order
abbrev pub IsOpen : (ℕ → Place) → List Open → List Held → List Open → Type 0
IsOpen place base table live = live ≡ base ++ map (open_of place) table

-- nothing in the table has this descriptor
abbrev pub IsNew : Descriptor → List Held → Type 0
IsNew d table = (h : Held) → Contains table h → h.descriptor.0 ≢ d.0

-- the descriptor of the first one of this site
abbrev pub descriptor_at : ℕ → List Held → Descriptor
descriptor_at s [] = record { 0 = 0 }
descriptor_at s (h ∷ t) = if h.site.0 == s then h.descriptor else descriptor_at s t

-- the table has the resource of this ticket
abbrev pub IsHeldBy : Ticket → List Held → Type 0
IsHeldBy ticket table = Contains table (held_at ticket.site.0 ticket.descriptor)

-- ---- the calls of a scope

-- what an open of a site is as a call, by its answer; one that was refused for memory is none
abbrev pub acquiring : ℕ → Result Ticket AcquireError → List Call
acquiring s (Ok ticket) = Opening s ticket.descriptor ∷ []
acquiring s (Err (AcquireFault site)) = Refusing s ∷ []
acquiring s (Err NoMemory) = []

-- what a close is as a call
abbrev pub closing : {T E : Type 0} → ℕ → Descriptor → Result T E → Call
closing s d (Ok x) = Closing s d
closing s d (Err e) = Sticking s d

-- The answer is a ticket of this site, or a failure of it, and the count rose by one where the open failed and else stays.
abbrev pub AnswersAcquire : Site → ℕ → ℕ → Result Ticket AcquireError → Type 0
AnswersAcquire site before now (Ok ticket) = (ticket.site ≡ site) × (now ≡ before)
AnswersAcquire site before now (Err (AcquireFault s)) = (s ≡ site) × (now ≡ risen before)
AnswersAcquire site before now (Err NoMemory) = now ≡ before

-- the same of a close
abbrev pub AnswersClose : {T : Type 0} → Site → ℕ → ℕ → Result T CloseFault → Type 0
AnswersClose site before now (Ok x) = now ≡ before
AnswersClose site before now (Err e) = (e.site ≡ site) × (now ≡ risen before)

-- the table has one more, of which this is the ticket; or it is the same
abbrev pub Acquires : {E : Type 0} → ℕ → Result Ticket E → List Held → List Held → Type 0
Acquires s (Ok ticket) table table' = table' ≡ table ++ held_at s ticket.descriptor ∷ []
Acquires s (Err e) table table' = table' ≡ table

-- as the outside answered an open
abbrev pub opening_answer : Result Ticket AcquireError → Result Descriptor WorldError
opening_answer (Ok ticket) = Ok ticket.descriptor
opening_answer (Err (AcquireFault s)) = Err Failed
opening_answer (Err NoMemory) = Err NoSpace

-- what a close makes of the files, by its answer
abbrev pub ClosesWith : {T : Type 0} → Open → Result T CloseFault → Files → Files → Type 0
ClosesWith {T = T} o (Ok x) f f' = ClosesFile {T = T} o (Ok x) f f'
ClosesWith {T = T} o (Err e) f f' = (refused : CloseFailed) × ClosesFile {T = T} o (Err refused) f f'

-- ---- the end of a scope

abbrev pub IsCloseOf : Held → Call → Type 0
IsCloseOf h (Closing s d) = (s ≡ h.site.0) × (d ≡ h.descriptor)
IsCloseOf h (Sticking s d) = (s ≡ h.site.0) × (d ≡ h.descriptor)
IsCloseOf h _ = ⊥

-- just these are closed, in this order
abbrev pub AreCloses : List Held → List Call → Type 0
AreCloses [] [] = Unit {0}
AreCloses (h ∷ hs) (c ∷ cs) = IsCloseOf h c × AreCloses hs cs
AreCloses [] (c ∷ cs) = ⊥
AreCloses (h ∷ hs) [] = ⊥

-- the site of the first close that failed
abbrev pub first_stuck : List Call → Option Site
first_stuck [] = None
first_stuck (Sticking s d ∷ cs) = Some (site_at s)
first_stuck (c ∷ cs) = first_stuck cs

-- the first failure, with one answer more
abbrev pub or_first : Option Site → Option Site → Option Site
or_first None later = later
or_first (Some s) later = Some s

abbrev pub failed_at : {T : Type 0} → Site → Result T CloseFailed → Option Site
failed_at site (Ok x) = None
failed_at site (Err e) = Some site

-- the count behind these closes
abbrev pub count_after : List Call → ℕ → ℕ
count_after [] n = n
count_after (Sticking s d ∷ cs) n = count_after cs (risen n)
count_after (c ∷ cs) n = count_after cs n

-- All that the table has is closed, the last acquired first, whatever the closes answer; the first failure is told, and the
-- journal has a line for each close.
pub record Closes (table : List Held) (first : Option Site) (lines lines' : List JournalLine) (before now : ℕ) (closes : List Call) : Type 0 where
  pub are : AreCloses (reverse table) closes
  pub first_is : first ≡ first_stuck closes
  pub journal : lines' ≡ lines ++ end_lines closes
  pub count : now ≡ count_after closes before

-- a failure is told only where the count rose
abbrev pub RoseIfSome : {T : Type 0} → Option T → ℕ → ℕ → Type 0
RoseIfSome failed before now = IsSome failed → Rose before now

-- What an outside in memory tells, and what its calls go by.
use Rattle.std.specs.Prelude.{◌≡◌, ℕ, ◌-◌, ◌^◌, ◌==◌, ◌||◌, Bool, List, drop, codes, map, Option, Result}
use Rattle.cd_world.specs.declared.event.Event.{Event}
use Rattle.cd_world.specs.declared.event.Use.{Use}
use Rattle.cd_world.specs.declared.memory.MemoryWorld.{MemoryWorld}
use Rattle.cd_world.specs.declared.memory.OpenMember.{OpenMember}
use Rattle.cd_world.specs.declared.plan.Call.TheVariants.{Opening, Writing}
use Rattle.cd_world.specs.declared.plan.Plan.{Plan}
use Rattle.cd_world.specs.declared.world.WorldError.{WorldError}
use Rattle.cd_world.specs.Files.{Files}
use Rattle.cd_world.specs.Law.{WritesBy, HoldsMore, is_missing}
use Rattle.cd_world.specs.Live.{Open}
use Rattle.cd_world.specs.Plan.{after, counted, fails_next}
use Rattle.cd_world.specs.Store.{held, plan_of, bytes_in, member_name}
use Rattle.cd_world.specs.Table.{given_in, live_of}

-- the bytes of each member by its name, and None where it is not there
abbrev pub held_in : MemoryWorld → List ℕ → Option (List ℕ)
held_in w = held w.store.members.items

-- how the calls on each member go, by its name
abbrev pub plan_in : MemoryWorld → List ℕ → Option Plan
plan_in w = plan_of w.store.members.items

abbrev pub live_in : MemoryWorld → List Open
live_in w = live_of w.table.files.items

abbrev pub last_in : MemoryWorld → ℕ
last_in w = w.table.last

abbrev pub log_in : MemoryWorld → List Event
log_in w = w.log.0

abbrev pub faults_in : MemoryWorld → ℕ
faults_in w = w.faults

abbrev pub counts_of : List OpenMember → List ℕ
counts_of sides = map (λ side. side.given) sides

-- the files, by what the members hold, how much was given on each descriptor, and how much of standard input
abbrev pub files_by : (List ℕ → Option (List ℕ)) → (ℕ → ℕ) → ℕ → Files
files_by h given input_given = record {
  contents = λ name. bytes_in (h (member_name name));
  given = given;
  input = drop input_given (bytes_in (h (codes "<stdin>")));
  output = bytes_in (h (codes "<stdout>"));
  errors = bytes_in (h (codes "<stderr>"));
}

abbrev pub files_in : MemoryWorld → Files
files_in w = files_by (held_in w) (given_in w.table.files.items (counts_of w.sides.items)) w.input_given

-- the next open of this name fails: it is to fail, no descriptor is left to give, or a file to be read is not there
abbrev pub open_fails : Use → List ℕ → MemoryWorld → Bool
open_fails use_of name w = fails_next Opening (plan_in w (member_name name)) || w.table.last == 2 ^ 64 - 1 || is_missing use_of (held_in w (member_name name))

-- A write on a member fails exactly where its plan says so, and else adds all bytes that are not cut off to what the member holds.
pub record WritesMember (name bytes : List ℕ) (result : Result ℕ WorldError) (before now : MemoryWorld) : Type 0 where
  pub by_plan : WritesBy (plan_in before name) bytes result
  pub held : HoldsMore name bytes result (held_in before) (held_in now)
  pub plans : plan_in now ≡ after result (counted Writing name) (plan_in before)

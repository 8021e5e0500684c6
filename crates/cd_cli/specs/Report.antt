-- How a cause is told on standard error, behind all else that the command does.
use Rattle.std.specs.Prelude.{◌≡◌, ◌≢◌, ℕ, Bool, List, [], ◌++◌, All, Result, Ok, Err}
use Rattle.cd_world.specs.declared.event.Event.{Event}
use Rattle.cd_world.specs.declared.world.WorldError.{WorldError}
use Rattle.cd_world.specs.declared.world.WorldError.TheVariants as refused
use Rattle.cd_world.specs.Causes.{Rose}
use Rattle.cd_world.specs.Events.{written_to, IsWriteOn}
use Rattle.cd_world.specs.Files.{Files, with_errors}
use Rattle.cd_report.specs.declared.cause.Cause.{Cause}
use Rattle.cd_report.specs.declared.cause.Cause.TheVariants.{Success}
use Rattle.cd_report.specs.declared.cause.Said.{Said}
use Rattle.cd_report.specs.declared.cause.Said.TheVariants.{Whole, WriteFailed, NoMemory}
use Rattle.cd_cli.specs.Cause.{HasOrigin}
use Rattle.cd_cli.specs.Command.{Completes}
use Rattle.cd_cli.specs.Streams.{EndsInFailure, NoneFailed}

-- what is said of a line once it was written, or not
abbrev pub said_of : {T : Type 0} → Result T WorldError → Said
said_of (Ok done) = Whole
said_of (Err refused.Failed) = WriteFailed
said_of (Err refused.NoMemory) = NoMemory

-- A front of the line was told, and all of it exactly where that is said.
pub record IsTold (line : List ℕ) (said : Said) (told : List ℕ) : Type 0 where
  pub behind : List ℕ
  pub front : line ≡ told ++ behind
  pub whole : said ≡ Whole → behind ≡ []
  pub only : behind ≡ [] → said ≡ Whole

-- These calls told the line. They are writes to standard error alone, and one of them failed exactly where that is said: the last one.
pub record Reports (line : List ℕ) (said : Said) (calls : List Event) : Type 0 where
  pub writes : All (IsWriteOn 2) calls
  pub is_told : IsTold line said (written_to 2 calls)
  pub failed : said ≡ WriteFailed → EndsInFailure (record { 0 = 2 }) calls
  pub calm : said ≢ WriteFailed → NoneFailed calls

-- It is added to the list of calls, and to standard error.
pub record LogsReport (line : List ℕ) (said : Said) (l l' : List Event) : Type 0 where
  pub report : List Event
  pub log : l' ≡ l ++ report
  pub reports : Reports line said report

pub record Tells (line : List ℕ) (said : Said) (f f' : Files) : Type 0 where
  pub told : List ℕ
  pub is_told : IsTold line said told
  pub files : f' ≡ with_errors told f

-- The count of failed calls rises by telling it where a write failed, and else it stays.
pub record IsReported (before now : ℕ) (said : Said) : Type 0 where
  pub failed : said ≡ WriteFailed → Rose before now
  pub calm : said ≢ WriteFailed → now ≡ before

-- ---- the whole command

-- The count was so before the line was told, and the cause comes from what failed up to there. With Success there is no line, so no call failed at all.
pub record HasCount (before now : ℕ) (cause : Cause) (said : Said) : Type 0 where
  pub middle : ℕ
  pub origin : HasOrigin before middle cause
  pub reported : IsReported middle now said
  pub silent : cause ≡ Success → said ≡ Whole
  pub none_failed : cause ≡ Success → now ≡ before

-- With no call that failed before the line was told, a command comes to its end, or there is no memory.
abbrev pub CompletesBefore : Bool → Files → List (List ℕ) → ℕ → ℕ → Cause → Said → Type 0
CompletesBefore told files words before now cause said = (middle : ℕ) × IsReported middle now said × Completes told files words before middle cause

-- What was called in all: first these calls, then those, then those that told the line, and no others.
pub record CalledAndTold (Answer : List Event → List Event → Type 0) (line : List ℕ) (said : Said) (l l' : List Event) : Type 0 where
  pub reading : List Event
  pub calls : List Event
  pub report : List Event
  pub log : l' ≡ l ++ (reading ++ (calls ++ report))
  pub answer : Answer reading calls
  pub reports : Reports line said report

-- What was sent in all, and told. No file is changed, and nothing is taken of standard input.
pub record SentAndTold (Answer : List ℕ → Type 0) (line : List ℕ) (said : Said) (f f' : Files) : Type 0 where
  pub sent : List ℕ
  pub output : f'.output ≡ f.output ++ sent
  pub answer : Answer sent
  pub told : List ℕ
  pub errors : f'.errors ≡ f.errors ++ told
  pub is_told : IsTold line said told
  pub rest : f' ≡ record f { output = f'.output; errors = f'.errors; given = f'.given }

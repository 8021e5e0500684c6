-- What the command does: it reads a script and judges it, and then shows it, or finds its types and says what they are, or runs it.
use Rattle.std.specs.Prelude.{◌≡◌, ◌≢◌, ◌⊎◌, ℕ, Bool, IsTrue, List, [], ◌++◌, All, Result}
use Rattle.cd_elem.specs.declared.script.Stmt.{Stmt}
use Rattle.cd_world.specs.declared.event.Event.{Event}
use Rattle.cd_world.specs.declared.world.WorldError.{WorldError}
use Rattle.cd_world.specs.Causes.{Rose}
use Rattle.cd_world.specs.Events.{written_to, IsWriteOn}
use Rattle.cd_world.specs.Files.{Files}
use Rattle.cd_meaning.specs.Places.{place_in}
use Rattle.cd_meaning.specs.Stream.{Value, Done}
use Rattle.cd_meaning.specs.Run.{ending}
use Rattle.cd_meaning.specs.Scripts.{script_places, script_run, whole_files}
use Rattle.cd_grammar.specs.CanonicalText.{canonical_text}
use Rattle.cd_types.specs.declared.refusal.Refusal.{Refusal}
use Rattle.cd_types.specs.Typing.{HasType, IsRefused}
use Rattle.cd_scope.specs.Due.{Setting}
use Rattle.cd_run.specs.Going.{outside}
use Rattle.cd_run.specs.Ran.{Ran}
use Rattle.cd_run.specs.Scripts.{IsBuiltScript}
use Rattle.cd_run.specs.declared.fault.RunFault.{RunFault}
use Rattle.cd_run.specs.declared.options.Options.{Options}
use Rattle.cd_report.specs.CheckText.{check_text}
use Rattle.cd_report.specs.declared.cause.Cause.{Cause}
use Rattle.cd_report.specs.declared.cause.Cause.TheVariants.{Success, Usage, ScriptFault, Refused, NotBuilt, NoMemory}
use Rattle.cd_cli.specs.Cause.{cause_of_run, output_fault, script_cause}
use Rattle.cd_cli.specs.declared.arguments.Command.{Command}
use Rattle.cd_cli.specs.declared.arguments.Command.TheVariants.{Run, Check, Show}
use Rattle.cd_cli.specs.Arguments.{IsCommand, IsNone, script_of}
use Rattle.cd_cli.specs.Judge.{read_limit, HasTree, HasNone, IsScriptOf}
use Rattle.cd_cli.specs.Script.{ReadsWhole, TriesRead}
use Rattle.cd_cli.specs.Streams.{KeepsRest, NoneFailed}

-- a text was written, or a write failed, or memory was wanting
abbrev pub IsTextCause : Cause → Type 0
IsTextCause cause = (cause ≡ Success) ⊎ ((cause ≡ output_fault) ⊎ (cause ≡ NoMemory))

-- a script could not be read: a call on the outside failed, or memory was wanting
abbrev pub IsUnread : Cause → Type 0
IsUnread cause = (cause ≡ ScriptFault) ⊎ (cause ≡ NoMemory)

-- ---- by what was called

-- how a script is run: what its sites are, how much is read of each and by one call, and whether the outside tells its files
abbrev pub setting_of : List Stmt → Options → Bool → Setting
setting_of tree options tells = record { place = place_in (script_places tree); limit = options.limit; size = options.chunk; tells = tells }

-- A tree was run by these calls, over these files, where all of it is built; and else nothing was called.
pub data RunsTree (options : Options) (tells : Bool) (files : Files) (tree : List Stmt) (cause : Cause) : List Event → Type 0 where
  not_built : (IsBuiltScript tree → ⊥) → cause ≡ NotBuilt → RunsTree options tells files tree cause []
  built : (answer : Result (Unit {0}) RunFault) (calls : List Event) → IsBuiltScript tree → cause ≡ cause_of_run answer
      → Ran (setting_of tree options tells) (script_run tree) answer (outside [] files) (outside calls files) → RunsTree options tells files tree cause calls

-- These calls wrote a text. They are writes to standard output alone. They wrote a front of it, and all of it where the cause is
-- Success. No call failed, unless that is the cause.
pub record WritesText (text : List ℕ) (cause : Cause) (calls : List Event) : Type 0 where
  pub ran : IsTextCause cause
  pub writes : All (IsWriteOn 1) calls
  pub behind : List ℕ
  pub front : text ≡ written_to 1 calls ++ behind
  pub whole : cause ≡ Success → behind ≡ []
  pub calm : cause ≢ output_fault → NoneFailed calls

-- The types of a tree were found. Where it has none it was refused, and nothing was done; and else this was done, which is listed.
pub data FindsTypes {X : Type 0} (DoesSo : Cause → List X → Type 0) (tree : List Stmt) (cause : Cause) : List X → Type 0 where
  untyped : cause ≡ NoMemory → FindsTypes DoesSo tree cause []
  refused : (refusal : Refusal) → IsRefused tree refusal → cause ≡ Refused refusal → FindsTypes DoesSo tree cause []
  has_type : (done : List X) → HasType tree → DoesSo cause done → FindsTypes DoesSo tree cause done

-- A tree was run where it has a type.
abbrev pub RunsScript : Options → Bool → Files → List Stmt → Cause → List Event → Type 0
RunsScript options tells files tree = FindsTypes (RunsTree options tells files tree) tree

-- What a command does with a tree, by its calls, where the files held this before.
abbrev pub Does : Command → Bool → Files → List Stmt → Cause → List Event → Type 0
Does (Run script options) tells files tree = RunsScript options tells files tree
Does (Check script) tells files tree = FindsTypes (WritesText (check_text tree)) tree
Does (Show script) tells files tree = WritesText (canonical_text tree)

-- A text was judged, and this was done with its tree by these calls.
pub data Judges (DoesTree : List Stmt → Cause → List Event → Type 0) (text : List ℕ) (cause : Cause) : List Event → Type 0 where
  no_memory : cause ≡ NoMemory → Judges DoesTree text cause []
  no_script : HasNone text cause → Judges DoesTree text cause []
  of_tree : (tree : List Stmt) (calls : List Event) → HasTree text tree → DoesTree tree cause calls → Judges DoesTree text cause calls

-- What was called by something that does so.
pub record Logs (DoesSo : Cause → List Event → Type 0) (cause : Cause) (l l' : List Event) : Type 0 where
  pub calls : List Event
  pub log : l' ≡ l ++ calls
  pub does : DoesSo cause calls

-- The first calls read the script, of which at most `read_limit` bytes are read. The text that is judged is all that they gave, and the other calls do this with its tree.
pub data ReadsAndJudges (DoesTree : List Stmt → Cause → List Event → Type 0) (script : List ℕ) (cause : Cause) : List Event → List Event → Type 0 where
  unread : (error : WorldError) (reading : List Event) → TriesRead script read_limit error reading → cause ≡ script_cause error → ReadsAndJudges DoesTree script cause reading []
  read : (text : List ℕ) (reading calls : List Event) → ReadsWhole script read_limit text reading → Judges DoesTree text cause calls → ReadsAndJudges DoesTree script cause reading calls

-- The words are read, and nothing is called for words of no command. The files are those before the call, which reading the script leaves.
pub data Calls (tells : Bool) (files : Files) (words : List (List ℕ)) (cause : Cause) : List Event → List Event → Type 0 where
  no_memory : cause ≡ NoMemory → Calls tells files words cause [] []
  other_words : IsNone words → cause ≡ Usage → Calls tells files words cause [] []
  of_command : (command : Command) (reading calls : List Event) → IsCommand words command → ReadsAndJudges (Does command tells files) (script_of command) cause reading calls
      → Calls tells files words cause reading calls

-- What was called in all: first these calls, then those.
pub record Called (Answer : List Event → List Event → Type 0) (l l' : List Event) : Type 0 where
  pub reading : List Event
  pub calls : List Event
  pub log : l' ≡ l ++ (reading ++ calls)
  pub answer : Answer reading calls

-- ---- by what the files hold, for all but runs, whose outputs are told by their calls

abbrev pub IsNoRun : Command → Type 0
IsNoRun (Run script options) = ⊥
IsNoRun (Check script) = Unit {0}
IsNoRun (Show script) = Unit {0}

-- these words run no script
abbrev pub RunNothing : List (List ℕ) → Type 0
RunNothing words = (command : Command) → IsCommand words command → IsNoRun command

-- A front of a text was sent, and all of it where the cause is Success.
pub record SendsText (text : List ℕ) (cause : Cause) (sent : List ℕ) : Type 0 where
  pub ran : IsTextCause cause
  pub behind : List ℕ
  pub front : text ≡ sent ++ behind
  pub whole : cause ≡ Success → behind ≡ []

-- What a command sends for a tree, where it runs none.
abbrev pub SendsFor : Command → List Stmt → Cause → List ℕ → Type 0
SendsFor (Run script options) tree cause sent = ⊥
SendsFor (Check script) tree cause sent = FindsTypes (SendsText (check_text tree)) tree cause sent
SendsFor (Show script) tree cause sent = SendsText (canonical_text tree) cause sent

-- A text was judged, and this was sent for its tree.
pub data Sends (SendsSo : List Stmt → Cause → List ℕ → Type 0) (text : List ℕ) (cause : Cause) : List ℕ → Type 0 where
  no_memory : cause ≡ NoMemory → Sends SendsSo text cause []
  no_script : HasNone text cause → Sends SendsSo text cause []
  of_tree : (tree : List Stmt) (sent : List ℕ) → HasTree text tree → SendsSo tree cause sent → Sends SendsSo text cause sent

-- The text that is judged is the script file's.
pub data SendsScript (SendsSo : List Stmt → Cause → List ℕ → Type 0) (contents : List ℕ → List ℕ) (script : List ℕ) (cause : Cause) : List ℕ → Type 0 where
  unread : IsUnread cause → SendsScript SendsSo contents script cause []
  read : (sent : List ℕ) → Sends SendsSo (contents script) cause sent → SendsScript SendsSo contents script cause sent

-- The words are read, and nothing is sent for words of no command.
pub data AnswersCommand (words : List (List ℕ)) (contents : List ℕ → List ℕ) (cause : Cause) : List ℕ → Type 0 where
  no_memory : cause ≡ NoMemory → AnswersCommand words contents cause []
  other_words : IsNone words → cause ≡ Usage → AnswersCommand words contents cause []
  of_command : (command : Command) (sent : List ℕ) → IsCommand words command → SendsScript (SendsFor command) contents (script_of command) cause sent
      → AnswersCommand words contents cause sent

-- What was sent in all, by the answer to a tree, a text, a script, and to the words. No file is changed, nothing is taken of standard input, and
-- standard error gets nothing yet.
pub record Sent (Answer : List ℕ → Type 0) (f f' : Files) : Type 0 where
  pub sent : List ℕ
  pub output : f'.output ≡ f.output ++ sent
  pub answer : Answer sent
  pub rest : KeepsRest f f'

-- ---- when a command comes to its end

-- the meaning of a tree over all that the files hold, up to the limit, is done
abbrev pub IsDoneOver : Files → Options → List Stmt → Type 0
IsDoneOver files options tree = ending (script_run tree (whole_files files.contents files.input options.limit tree)) ≡ Done Value.Unit

-- A tree that can be run to its end: it is built, and what it means over all that the files hold is done. That this is what
-- is done is known where the outside tells its calls.
pub record IsTakenRun (tells_log : Bool) (files : Files) (options : Options) (tree : List Stmt) : Type 0 where
  pub told : IsTrue tells_log
  pub has_type : HasType tree
  pub is_built : IsBuiltScript tree
  pub is_done : IsDoneOver files options tree

-- A tree that a command takes.
abbrev pub IsTakenTree : Bool → Files → Command → List Stmt → Type 0
IsTakenTree told files (Run script options) tree = IsTakenRun told files options tree
IsTakenTree told files (Check script) tree = HasType tree
IsTakenTree told files (Show script) tree = Unit {0}

-- The bytes of a script, of whose tree this holds.
abbrev pub HasTaken : (List Stmt → Type 0) → List ℕ → Type 0
HasTaken TreeIs text = (tree : List Stmt) × IsScriptOf text tree × TreeIs tree

abbrev pub IsTaken : Bool → Files → Command → List ℕ → Type 0
IsTaken told files command = HasTaken (IsTakenTree told files command)

-- with no failed call it comes to its end, or there is no memory
abbrev pub EndsUnlessFailed : ℕ → ℕ → Cause → Type 0
EndsUnlessFailed before now cause = (Rose before now → ⊥) → (cause ≡ Success) ⊎ (cause ≡ NoMemory)

-- With the words of a command and a script that it takes.
abbrev pub Completes : Bool → Files → List (List ℕ) → ℕ → ℕ → Cause → Type 0
Completes told files words before now cause =
    (command : Command) → IsCommand words command → IsTaken told files command (files.contents (script_of command)) → EndsUnlessFailed before now cause

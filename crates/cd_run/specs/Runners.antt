-- What contracts see of a runner, and what it is held to.
use Rattle.std.specs.Prelude.{◌≡◌, ◌<◌, ◌≤◌, ℕ, suc, List, length, get_or, Some}
use Rattle.cd_elem.specs.Limits.{chunk_limit}
use Rattle.cd_elem.specs.declared.script.Pipe.{Pipe}
use Rattle.cd_elem.specs.declared.script.Stmt.{Stmt}
use Rattle.cd_elem.specs.declared.site.Site.{Site}
use Rattle.cd_meaning.specs.Opens.{files_in}
use Rattle.cd_meaning.specs.Pipes.{pipe_meaning}
use Rattle.cd_meaning.specs.Places.{place_in}
use Rattle.cd_meaning.specs.Scripts.{script_places}
use Rattle.cd_typed.specs.declared.typed.Typed.{Typed}
use Rattle.cd_typed.specs.TypedScripts.{IsTyped}
use Rattle.cd_types.specs.Numbering.{first_site, numbered}
use Rattle.cd_types.specs.Statements.{key_names}
use Rattle.cd_scope.specs.declared.table.Held.{Held}
use Rattle.cd_world.specs.Live.{Open}
use Rattle.cd_scope.specs.State.{held_in, room_in}
use Rattle.cd_scope.specs.Table.{IsOpen}
use Rattle.cd_build.specs.Built.{IsBuilt}
use Rattle.cd_run.specs.declared.options.Options.{Options}
use Rattle.cd_run.specs.declared.runner.Runner.{Runner}
use Rattle.cd_run.specs.Statements.{IsSiteOf}

-- how many bytes a source may be allowed at most
abbrev pub byte_limit : ℕ
byte_limit = 1099511627776

abbrev pub AreOptions : Options → Type 0
AreOptions options = ((0 < options.chunk) × (options.chunk ≤ chunk_limit)) × ((0 < options.limit) × (options.limit ≤ byte_limit))

-- ---- a runner

abbrev pub typed_of : Runner → Typed
typed_of runner = runner.typed.now

-- what it has open, and how much more it may open
abbrev pub table_of : Runner → List Held
table_of runner = held_in runner.scope

abbrev pub room_of : Runner → ℕ
room_of runner = room_in runner.scope

-- for each site how many bytes may still be read of it, and one more; 0 once its end was told
abbrev pub left_of : Runner → List ℕ
left_of runner = runner.left.items

-- the sites of the keys, by their numbers
abbrev pub keys_of : Runner → List Site
keys_of runner = runner.keys.items

-- how many bytes a read asks for at most, and how many a source has at most
abbrev pub options_of : Runner → Options
options_of runner = runner.options

abbrev pub size_of : Runner → ℕ
size_of runner = runner.options.chunk

abbrev pub limit_of : Runner → ℕ
limit_of runner = runner.options.limit

-- It runs this script, within its options, with a place for each site and each key.
pub record IsReady (script : List Stmt) (runner : Runner) : Type 0 where
  pub typed : IsTyped script (typed_of runner)
  pub left : length (left_of runner) ≡ suc (length (script_places script))
  pub keys : length (keys_of runner) ≡ length (key_names script)
  pub options : AreOptions (options_of runner)

-- of each script that it runs, and the pipe that its statement runs
abbrev pub OfReady : Runner → ℕ → (List Stmt → Pipe → Type 0) → Type 0
OfReady runner statement P = (script : List Stmt) (p : Pipe) → IsReady script runner → numbered script statement ≡ Some (Stmt.Run p) → P script p

-- the statement with this number runs a pipe that is built, of whose sites something may be read, and for whose files there is room
pub record MayRun (runner : Runner) (statement : ℕ) : Type 0 where
  pub script : List Stmt
  pub pipe : Pipe
  pub ready : IsReady script runner
  pub runs : numbered script statement ≡ Some (Stmt.Run pipe)
  pub is_built : IsBuilt pipe
  pub sites : (s : ℕ) → IsSiteOf pipe (first_site script statement) s → 0 < get_or (left_of runner) s 0
  pub files : files_in (pipe_meaning pipe).places ≤ room_of runner

-- what it has open is open in the world, behind what was open before
abbrev pub IsOpenBy : List Stmt → List Open → Runner → List Open → Type 0
IsOpenBy script base runner live = IsOpen (place_in (script_places script)) base (table_of runner) live

-- The words of the command line.
use Rattle.std.specs.Prelude.{◌≡◌, ◌<◌, ◌≤◌, Bool, true, false, nat_le, ◌==◌, if◌then◌else◌, ◌&&◌, ◌||◌, not, ℕ, ◌^◌, length, take, drop, List, [], ◌∷◌, map, is_some, bytes_eq, codes, option_and_then, option_map, unwrap_or, Option, Some, None, Result, Ok, Err}
use Rattle.std.specs.List.{list_all}
use Rattle.std.specs.Char.{is_ascii_digit}
use Rattle.cd_grammar.specs.Tokens.{number_value}
use Rattle.cd_run.specs.declared.options.Options.{Options}
use Rattle.cd_run.specs.Runners.{AreOptions}
use Rattle.cd_cli.specs.declared.arguments.Command.{Command}
use Rattle.cd_cli.specs.declared.arguments.Command.TheVariants.{Run, Check, Show}
use Rattle.cd_cli.specs.declared.arguments.Given.{Given as GivenWords}
use Rattle.cd_cli.specs.declared.arguments.Next.{Next}
use Rattle.cd_cli.specs.declared.arguments.Next.TheVariants.{Any, NoOption, Chunk, Limit}
use Rattle.cd_cli.specs.declared.arguments.WordsRefusal.{WordsRefusal}
use Rattle.cd_cli.specs.declared.arguments.WordsRefusal.TheVariants.{Usage, NoMemory}

abbrev pub default_chunk : ℕ
default_chunk = 32768

abbrev pub greatest_chunk : ℕ
greatest_chunk = 65536

abbrev pub greatest_limit : ℕ
greatest_limit = 1099511627776

-- ---- the words behind the verb

-- what they have given so far, and what the next one may be
pub record Given : Type 0 where
  pub script : Option (List ℕ)
  pub chunk : Option ℕ
  pub limit : Option ℕ
  pub next : Next

abbrev pub nothing_given : Given
nothing_given = record { script = None; chunk = None; limit = None; next = Any }

abbrev pub seen : GivenWords → Given
seen given = record { script = option_map (λ script. script.now) given.script; chunk = given.chunk; limit = given.limit; next = given.next }

abbrev pub are_digits : List ℕ → Bool
are_digits = list_all is_ascii_digit

-- one or more decimal digits, with leading zeros or without
abbrev pub digits_value : List ℕ → Option ℕ
digits_value [] = None
digits_value (c ∷ cs) = if are_digits (c ∷ cs) then number_value (c ∷ cs) else None

-- a number from 1 on
abbrev pub within : ℕ → ℕ → Option ℕ
within most n = if nat_le 1 n && nat_le n most then Some n else None

abbrev pub number_within : ℕ → List ℕ → Option ℕ
number_within most word = option_and_then (within most) (digits_value word)

-- a word that begins with `-`, and is longer
abbrev pub is_option : List ℕ → Bool
is_option [] = false
is_option (c ∷ []) = false
is_option (c ∷ d ∷ cs) = c == 45

abbrev pub with_next : Given → Next → Given
with_next given next = record given { next = next }

-- the script is not empty, and is given once
abbrev pub with_script : Given → List ℕ → Option Given
with_script given [] = None
with_script given (c ∷ cs) = if is_some given.script then None else Some (record given { script = Some (c ∷ cs) })

-- an option is given once
abbrev pub with_chunk : Given → List ℕ → Option Given
with_chunk given word =
    if is_some given.chunk then None else option_map (λ n. record { script = given.script; chunk = Some n; limit = given.limit; next = Any }) (number_within greatest_chunk word)

abbrev pub with_limit : Given → List ℕ → Option Given
with_limit given word =
    if is_some given.limit then None else option_map (λ n. record { script = given.script; chunk = given.chunk; limit = Some n; next = Any }) (number_within greatest_limit word)

-- what stands behind a front of a word
abbrev pub behind : List ℕ → List ℕ → Option (List ℕ)
behind front word = if bytes_eq (take (length front) word) front then Some (drop (length front) word) else None

-- the number of an option may stand in its word, behind `=`
abbrev pub read_joined : List ℕ → Given → Option (List ℕ) → Option (List ℕ) → Option Given
read_joined word given (Some number) limit = with_chunk given number
read_joined word given None (Some number) = with_limit given number
read_joined word given None None = if is_option word then None else with_script given word

abbrev pub read_any : List ℕ → Given → Option Given
read_any word given =
    if bytes_eq word (codes "--") then Some (with_next given NoOption)
    else (if bytes_eq word (codes "--chunk") then Some (with_next given Chunk)
    else (if bytes_eq word (codes "--limit") then Some (with_next given Limit)
    else read_joined word given (behind (codes "--chunk=") word) (behind (codes "--limit=") word)))

abbrev pub read_word_for : Next → List ℕ → Given → Option Given
read_word_for Any word given = read_any word given
read_word_for NoOption word given = with_script given word
read_word_for Chunk word given = with_chunk given word
read_word_for Limit word given = with_limit given word

abbrev pub read_word : List ℕ → Given → Option Given
read_word word given = read_word_for given.next word given

abbrev pub read_on : List (List ℕ) → Given → Option Given
read_on [] given = Some given
read_on (word ∷ words) given = option_and_then (read_on words) (read_word word given)

-- what is given is in its range
abbrev pub IsWithin : ℕ → Option ℕ → Type 0
IsWithin most None = Unit {0}
IsWithin most (Some n) = (0 < n) × (n ≤ most)

pub record InRange (given : Given) : Type 0 where
  pub chunk : IsWithin greatest_chunk given.chunk
  pub limit : IsWithin greatest_limit given.limit

-- ---- the command

-- no number is still to come
abbrev pub whole_script_for : Next → Given → Option (List ℕ)
whole_script_for Any given = given.script
whole_script_for NoOption given = given.script
whole_script_for Chunk given = None
whole_script_for Limit given = None

abbrev pub whole_script : Given → Option (List ℕ)
whole_script given = whole_script_for given.next given

abbrev pub options_of : Given → Options
options_of given = record { chunk = unwrap_or given.chunk default_chunk; limit = unwrap_or given.limit greatest_limit }

-- `run` alone takes options
abbrev pub verb_command : List ℕ → Given → List ℕ → Option Command
verb_command verb given script =
    if bytes_eq verb (codes "run") then Some (Run script (options_of given))
    else (if is_some given.chunk || is_some given.limit then None
    else (if bytes_eq verb (codes "check") then Some (Check script)
    else (if bytes_eq verb (codes "show") then Some (Show script)
    else None)))

abbrev pub command_of_given : List ℕ → Given → Option Command
command_of_given verb given = option_and_then (verb_command verb given) (whole_script given)

-- the command of the words of the command line
abbrev pub command_of : List (List ℕ) → Option Command
command_of [] = None
command_of (verb ∷ words) = option_and_then (command_of_given verb) (read_on words nothing_given)

abbrev pub script_of : Command → List ℕ
script_of (Run script options) = script
script_of (Check script) = script
script_of (Show script) = script

-- the options of a run are in their ranges
abbrev pub HasOptions : Command → Type 0
HasOptions (Run script options) = AreOptions options
HasOptions (Check script) = Unit {0}
HasOptions (Show script) = Unit {0}

-- a command that was made, or none where there is none, or want of memory
abbrev pub Makes : Option Command → Result Command WordsRefusal → Type 0
Makes command (Ok made) = command ≡ Some made
Makes command (Err Usage) = command ≡ None
Makes command (Err NoMemory) = Unit {0}

abbrev pub IsCommandOf : List ℕ → Given → Result Command WordsRefusal → Type 0
IsCommandOf verb given = Makes (command_of_given verb given)

-- what the words are read as
abbrev pub AreArguments : List (List ℕ) → Result Command WordsRefusal → Type 0
AreArguments words = Makes (command_of words)

abbrev pub IsCommand : List (List ℕ) → Command → Type 0
IsCommand words command = command_of words ≡ Some command

abbrev pub IsNone : List (List ℕ) → Type 0
IsNone words = command_of words ≡ None

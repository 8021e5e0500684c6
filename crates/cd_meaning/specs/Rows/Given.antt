-- How rows are written: inputs, and runs.
use Rattle.std.specs.Prelude.{ℕ, ◌+◌, ◌==◌, if◌then◌else◌, List, [], ◌∷◌, map, Some, None}
use Rattle.cd_meaning.specs.Stream.{Elem, Piece, Sort, Value, Input, Reading, Stopped, Flow, More, Stop, End, Ended, Halted, Ending, Done, Halts, Out, Do, Effect, Put}
use Rattle.cd_meaning.specs.Run.{stamp, Run, Then, Ends, effects, ending}
use Rattle.cd_meaning.specs.RunShapes.{Mark, MayGoOn, Told, Seen}
use Rattle.cd_meaning.specs.Pipes.{nodes, pipe_meaning}
use Rattle.cd_meaning.specs.Scripts.{script_run}
use Rattle.cd_meaning.specs.Rows.Trees.{Tree, pipe_of, Sentence, statement_of}

-- what was told of some sites; of the others nothing is known
pub record AtSite : Type 0 where
  pub number : ℕ
  pub told : Told

abbrev pub told_of : ℕ → List ℕ → Mark → AtSite
told_of n bytes mark = record { number = n; told = record { bytes = bytes; mark = mark } }

abbrev pub seen_of : List AtSite → Seen
seen_of [] n = record { bytes = []; mark = MayGoOn }
seen_of (s ∷ ss) n = if n == s.number then s.told else seen_of ss n

-- the input goes on, but nothing further is known
abbrev pub waiting : End
waiting = Halted (More Input)

-- the run of a part on values of this sort, where its first site is 1
abbrev pub on_bytes : Tree → List ℕ → End → Run
on_bytes t xs e = (pipe_meaning (pipe_of t)).run (Some Sort.Bytes) 1 (seen_of []) (map Elem xs) e

abbrev pub on_chars : Tree → List ℕ → End → Run
on_chars t xs e = (pipe_meaning (pipe_of t)).run (Some Sort.Chars) 1 (seen_of []) (map Elem xs) e

abbrev pub on_blocks : Tree → List (List ℕ) → End → Run
on_blocks t xs e = (pipe_meaning (pipe_of t)).run (Some Sort.Block) 1 (seen_of []) (map Piece xs) e

abbrev pub on_texts : Tree → List (List ℕ) → End → Run
on_texts t xs e = (pipe_meaning (pipe_of t)).run (Some Sort.Text) 1 (seen_of []) (map Piece xs) e

-- on no input at all
abbrev pub on_nothing : Tree → Seen → Run
on_nothing t seen = (pipe_meaning (pipe_of t)).run None 1 seen [] Ended

-- what a part gives where this comes to it
abbrev pub gives : Tree → Flow → Flow
gives t flow = (pipe_meaning (pipe_of t)).gives flow

-- an element, or a piece, is given at (i, i)
abbrev pub gives_elem : ℕ → ℕ → Run → Run
gives_elem i n r = Then (stamp i i) (Out (Elem n)) r

abbrev pub gives_piece : ℕ → List ℕ → Run → Run
gives_piece i xs r = Then (stamp i i) (Out (Piece xs)) r

-- the same behind the end of n values
abbrev pub late_elem : ℕ → ℕ → Run → Run
late_elem n x r = Then (stamp (n + 1) n) (Out (Elem x)) r

abbrev pub late_piece : ℕ → List ℕ → Run → Run
late_piece n xs r = Then (stamp (n + 1) n) (Out (Piece xs)) r

-- an effect at this stamp
abbrev pub does_at : ℕ → ℕ → Effect → Run → Run
does_at need net e r = Then (stamp need net) (Do e) r

abbrev pub done_at : ℕ → ℕ → Value → Run
done_at need net v = Ends (stamp need net) (Done v)

-- unit, at the end of n values
abbrev pub at_end : ℕ → Run
at_end n = done_at (n + 1) n Value.Unit

abbrev pub waits_at : ℕ → ℕ → Run
waits_at need net = Ends (stamp need net) (Halts (More Input))

-- it waits for the value behind n values
abbrev pub waits_past : ℕ → Run
waits_past n = waits_at (n + 1) n

-- it waits for a site, a source behind no input
abbrev pub waits_reading : ℕ → ℕ → ℕ → Run
waits_reading need net s = Ends (stamp need net) (Halts (More (Reading s)))

abbrev pub waits_for : ℕ → Run
waits_for s = waits_reading 0 0 s

abbrev pub stops_at : ℕ → ℕ → Stopped → Run
stops_at need net f = Ends (stamp need net) (Halts (Stop f))

-- what a script does, and how it ends, where this was told of its sites
abbrev pub does : List Sentence → List AtSite → List Effect
does statements told = effects (script_run (map statement_of statements) (seen_of told))

abbrev pub ends_so : List Sentence → List AtSite → Ending
ends_so statements told = ending (script_run (map statement_of statements) (seen_of told))

-- the texts that a site puts
abbrev pub puts_at : ℕ → List ℕ → List Effect → List Effect
puts_at s [] es = es
puts_at s (b ∷ bs) es = Put s b ∷ puts_at s bs es

-- what evaluates a row
pub ruleset rows = (nodes, on_bytes, on_chars, on_blocks, on_texts, on_nothing, gives, does, ends_so)

-- What statements and scripts mean.
use Rattle.std.specs.Prelude.{ℕ, suc, ◌+◌, List, [], ◌∷◌, ◌++◌, codes, length, map, bytes_eq, if◌then◌else◌, None}
use Rattle.cd_elem.specs.Ascii.{newline}
use Rattle.cd_elem.specs.declared.script.Stmt.{Stmt}
use Rattle.cd_meaning.specs.Stream.{Flow, Value, Ended, Done, Halts, Act, Out, Do, Open, Put, Close}
use Rattle.cd_meaning.specs.Run.{Stamp, start, Run, Then, Ends, Component, acts_at, effects}
use Rattle.cd_meaning.specs.RunShapes.{Seen}
use Rattle.cd_meaning.specs.ValueText.{value_text}
use Rattle.cd_meaning.specs.Places.{Place, Marks, whole, sent_to}
use Rattle.cd_meaning.specs.Seals.{fed_run, left_by}
use Rattle.cd_meaning.specs.Meaning.{Meaning}
use Rattle.cd_meaning.specs.Pipes.{pipe_meaning}

-- what is printed of the value of a statement
abbrev pub value_puts : Value → List Act
value_puts Value.Unit = []
value_puts v = map (λ b. Do (Put 0 b)) (codes "= " ++ value_text v ++ newline ∷ [])

-- the effects of a run, then what k says of its stamp and value
abbrev pub goes_on : Run → (Stamp → Value → Run) → Run
goes_on (Then s (Out x) r) k = goes_on r k
goes_on (Then s (Do e) r) k = Then start (Do e) (goes_on r k)
goes_on (Ends s (Done v)) k = k s v
goes_on (Ends s (Halts h)) k = Ends start (Halts h)

-- What statements leave behind: the number of the next site, the sealed sources with what they give, and the sites of the held keys. A name is its bytes.
pub record ScriptState : Type 0 where
  pub site : ℕ
  pub sealed : List ℕ → Run
  pub flow : List ℕ → Flow
  pub key : List ℕ → ℕ

-- behind the sites of this part
abbrev pub passed_sites : ScriptState → Meaning → ScriptState
passed_sites st m = record { site = st.site + length m.places; sealed = st.sealed; flow = st.flow; key = st.key }

-- another answer at this name
abbrev pub with_name : {A : Type 0} → (List ℕ → A) → List ℕ → A → List ℕ → A
with_name f name a other = if bytes_eq other name then a else f other

-- the sealed source of this name is this run
abbrev pub with_sealed : ScriptState → List ℕ → Run → ScriptState
with_sealed st name r = record { site = st.site; sealed = with_name st.sealed name r; flow = st.flow; key = st.key }

-- what a run does and prints, and then what comes behind it
abbrev pub ran : Run → Run → Run
ran r next = goes_on r (λ t v. acts_at start (value_puts v) next)

-- The effects of a statement in a state, and the run of what comes behind it.
abbrev pub Statement : Type 0
Statement = Seen → ScriptState → (ScriptState → Run) → Run

abbrev pub run_statement : Meaning → Statement
run_statement m seen st next = ran (m.run None st.site seen [] Ended) (next (passed_sites st m))

abbrev pub let_statement : List ℕ → Meaning → Statement
let_statement name m seen st next = next (record {
  site = st.site + length m.places;
  sealed = with_name st.sealed name (m.run None st.site seen [] Ended);
  flow = with_name st.flow name (m.gives None);
  key = st.key;
})

-- a sink for the sealed source of this name
abbrev pub sink_of : List ℕ → Meaning → Seen → ScriptState → Component
sink_of name m seen st = m.run (st.flow name) st.site seen

abbrev pub feed_statement : List ℕ → Meaning → Statement
feed_statement name m seen st next =
    let sink = sink_of name m seen st in
    ran (fed_run (st.sealed name) sink) (next (with_sealed (passed_sites st m) name (left_by (st.sealed name) sink)))

abbrev pub close_statement : List ℕ → Meaning → Statement
close_statement name m seen st next = ran (fed_run (st.sealed name) (sink_of name m seen st)) (next (passed_sites st m))

abbrev pub hold_statement : List ℕ → Statement
hold_statement name seen st next =
    Then start (Do (Open st.site)) (next (record { site = suc st.site; sealed = st.sealed; flow = st.flow; key = with_name st.key name st.site }))

abbrev pub release_statement : List ℕ → Statement
release_statement name seen st next = Then start (Do (Close (st.key name))) (next st)

abbrev pub statement_meaning : Stmt → Statement
statement_meaning (Stmt.Run p) = run_statement (pipe_meaning p)
statement_meaning (Stmt.Seal name p) = let_statement name (pipe_meaning p)
statement_meaning (Stmt.Feed name p) = feed_statement name (pipe_meaning p)
statement_meaning (Stmt.CloseSeal name p) = close_statement name (pipe_meaning p)
statement_meaning (Stmt.Hold name file) = hold_statement name
statement_meaning (Stmt.Release name) = release_statement name

-- before the first statement; the typing lets none ask for a name that none gave
abbrev pub first_state : ScriptState
first_state = record { site = 1; sealed = λ name. Ends start (Done Value.Unit); flow = λ name. None; key = λ name. 0 }

abbrev pub statements_from : List Statement → Seen → ScriptState → Run
statements_from [] seen st = Ends start (Done Value.Unit)
statements_from (s ∷ more) seen st = s seen st (statements_from more seen)

-- What a script means: what it does and prints, in order, and how it ends, where this is seen of its sites.
abbrev pub script_run : List Stmt → Seen → Run
script_run statements seen = statements_from (map statement_meaning statements) seen first_state

-- what a script does at each of its sites
abbrev pub statement_places : Stmt → List Place
statement_places (Stmt.Run p) = (pipe_meaning p).places
statement_places (Stmt.Seal name p) = (pipe_meaning p).places
statement_places (Stmt.Feed name p) = (pipe_meaning p).places
statement_places (Stmt.CloseSeal name p) = (pipe_meaning p).places
statement_places (Stmt.Hold name file) = Marks file ∷ []
statement_places (Stmt.Release name) = []

abbrev pub script_places : List Stmt → List Place
script_places [] = []
script_places (s ∷ more) = statement_places s ++ script_places more

-- all bytes of each file that a script reads, and all of standard input, up to the limit
abbrev pub whole_files : (List ℕ → List ℕ) → List ℕ → ℕ → List Stmt → Seen
whole_files files input limit statements = whole files input limit (script_places statements)

-- what standard output gets: what its sites put, and the printed results
unfoldable pub standard_output : List Stmt → Seen → List ℕ
standard_output statements seen = sent_to (script_places statements) 0 (effects (script_run statements seen))

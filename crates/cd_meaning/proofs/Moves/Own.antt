-- What a part does of itself: before it asks, and once it was told the end.
use Rattle.std.proofs.Common.{◌≡◌, List, [], refl, ap, sym, ◌∙◌}
use Rattle.cd_meaning.specs.Stream.{Item, Value, Halt, End, Ending, Done, Halts, Act}
use Rattle.cd_meaning.specs.Run.{stamp, start, Run, Ends, Component, acts_at, restamp}
use Rattle.cd_meaning.specs.Rest.{Rest, Grade, view, past_by, Moves, Finishes, Stuck, fresh}
use Rattle.cd_meaning.specs.Scan.{Scan, scan}
use Rattle.cd_meaning.proofs.Restamp.{restamp_id}
use Rattle.cd_meaning.proofs.Moves.Laws.{past_by_0}
use Rattle.cd_meaning.proofs.Moves.Pending.{first_id}
use Rattle.cd_meaning.proofs.Runs.Scans.{scan_rising}
use Rattle.cd_meaning.proofs.Moves.Scans.{at_work, closing}

none_read : (r : Run) → r ≡ restamp (past_by 0) r
none_read r = sym (restamp_id (past_by 0) r past_by_0)

-- ---- before it asks

pub start_moves : (g : Grade) (acts : List Act) (f : Component) → Moves g acts (fresh (λ xs e. acts_at start acts (f xs e))) (fresh f)
start_moves g acts f = record { read = []; unread = refl; floor = refl; run = λ ys e i. ap (λ r. view g (acts_at start acts r)) (none_read (f ys e)) }

-- a source, which asks for nothing
pub source_moves : (g : Grade) (acts : List Act) (r q : Run) → r ≡ acts_at start acts q → Moves g acts (fresh (λ xs e. r)) (fresh (λ xs e. q))
source_moves g acts r q h = record { read = []; unread = refl; floor = refl; run = λ ys e i. ap (view g) (h ∙ ap (acts_at start acts) (none_read q)) }

pub source_finishes : (g : Grade) (v : Value) → Finishes g v [] (fresh (λ xs e. Ends start (Done v)))
source_finishes g v = record { read = []; unread = refl; run = λ ys e i. refl }

pub source_stuck : (h : Halt) → Stuck h (fresh (λ xs e. Ends start (Halts h)))
source_stuck h = record { run = λ ys e i. (0, refl) }

-- a word that has read nothing is the word from its state
pub scan_fresh : {S : Type 0} (w : Scan S) (st : S) (ys : List Item) (e : End) → (at_work w 0 [] st).run ys e ≡ scan w 0 st ys e
scan_fresh w st ys e = first_id 0 (scan w 0 st ys e) (scan_rising w 0 st ys e)

-- ---- once it was told the end

-- it does nothing more, and ends so
abbrev pub at_end : Ending → Rest
at_end v = record { unread = []; floor = 1; run = λ ys e. Ends (stamp 1 0) v }

pub closing_moves : {S : Type 0} (w : Scan S) (g : Grade) (st : S) → Moves g (w.close st) (closing w st) (at_end (w.ending st))
closing_moves w g st = record { read = []; unread = refl; floor = refl; run = λ ys e i. ap (λ r. view g (acts_at (stamp 1 0) (w.close st) r)) (none_read (Ends (stamp 1 0) (w.ending st))) }

pub end_finishes : (g : Grade) (v : Value) → Finishes g v [] (at_end (Done v))
end_finishes g v = record { read = []; unread = refl; run = λ ys e i. refl }

pub end_stuck : (h : Halt) → Stuck h (at_end (Halts h))
end_stuck h = record { run = λ ys e i. (0, refl) }

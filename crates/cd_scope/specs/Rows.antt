-- Calls worked by hand: what is seen, done, given and open behind them, and what the journal tells.
use Rattle.std.specs.Prelude.{◌≡◌, refl, ℕ, true, false, List, [], ◌∷◌, map, Some, None, codes}
use Rattle.cd_meaning.specs.Places.{Place, Reads, Writes, place_in}
use Rattle.cd_meaning.specs.RunShapes.{AtEnd, MayGoOn, TooLong}
use Rattle.cd_meaning.specs.Run.{start, Then, Ends}
use Rattle.cd_meaning.specs.Stream.{Close, Do, Done, Open, Value}
use Rattle.cd_world.specs.declared.event.Descriptor.{Descriptor}
use Rattle.cd_world.specs.declared.event.Event.TheVariants.{OpenedRead, Created, Gave, GaveEnd, Wrote, Closed}
use Rattle.cd_scope.specs.declared.journal.JournalLine.TheVariants.{Acquired, ClosedEarly, ClosedAtEnd}
use Rattle.cd_scope.specs.Calls.{Call, acquired, Opening, Refusing, Giving, Passing, Ending, Writing, Closing, Sticking, event, seen, given_of, mark_of, did, site_at, held_at, left_open}
use Rattle.cd_scope.specs.Journal.{lines_of, end_lines}
use Rattle.cd_scope.specs.Table.{AreCloses, count_after, first_stuck}

abbrev three : Descriptor
three = record { 0 = 3 }

abbrev four : Descriptor
four = record { 0 = 4 }

-- `run sourceFile "a" | sinkFile "b";`, of a file that holds `xyz`, in two reads
abbrev copies : List Call
copies = Opening 2 three ∷ Opening 1 four ∷ Giving 1 four (codes "xy") ∷ Writing 2 three (codes "xy") ∷ Giving 1 four (codes "z") ∷ Writing 2 three (codes "z") ∷ Ending 1 four ∷ Closing 1 four ∷ []

abbrev places : ℕ → Place
places = place_in (Reads (codes "a") ∷ Writes (codes "b") ∷ [])

copies_events : map (event places) copies
    ≡ Created (codes "b") three ∷ OpenedRead (codes "a") four ∷ Gave four (codes "xy") ∷ Wrote three (codes "xy") ∷ Gave four (codes "z") ∷ Wrote three (codes "z") ∷ GaveEnd four ∷ Closed four ∷ []
copies_events = refl

copies_sees : seen copies 1 ≡ record { bytes = codes "xyz"; mark = AtEnd }
copies_sees = refl

sees_no_other : seen copies 2 ≡ record { bytes = []; mark = MayGoOn }
sees_no_other = refl

copies_gives : given_of 1 copies ≡ codes "xyz"
copies_gives = refl

copies_ends : mark_of 1 copies ≡ AtEnd
copies_ends = refl

copies_leaves : left_open copies ≡ held_at 2 three ∷ []
copies_leaves = refl

copies_lines : lines_of copies ≡ Acquired (site_at 2) ∷ Acquired (site_at 1) ∷ ClosedEarly (site_at 1) false ∷ []
copies_lines = refl

copies_acquires : acquired copies ≡ 2
copies_acquires = refl

-- one byte past the limit is not given
past_the_limit : seen (Giving 1 three (codes "ab") ∷ Passing 1 three (codes "c") ∷ []) 1 ≡ record { bytes = codes "ab"; mark = TooLong }
past_the_limit = refl

-- `hold k = mark "m"; hold j = mark "n"; release k;`
abbrev two_marks : List Call
two_marks = Opening 1 three ∷ Opening 2 four ∷ Closing 1 three ∷ []

two_marks_does : did two_marks (Ends start (Done Value.Unit)) ≡ Then start (Do (Open 1)) (Then start (Do (Open 2)) (Then start (Do (Close 1)) (Ends start (Done Value.Unit))))
two_marks_does = refl

two_marks_lines : lines_of two_marks ≡ Acquired (site_at 1) ∷ Acquired (site_at 2) ∷ ClosedEarly (site_at 1) false ∷ []
two_marks_lines = refl

two_marks_end : end_lines (Closing 2 four ∷ []) ≡ ClosedAtEnd (site_at 2) false ∷ []
two_marks_end = refl

-- both are left, and the close of the second fails
stuck_closes : AreCloses (held_at 2 four ∷ held_at 1 three ∷ []) (Sticking 2 four ∷ Closing 1 three ∷ [])
stuck_closes = ((refl, refl), ((refl, refl), tt))

stuck_first : first_stuck (Closing 3 three ∷ Sticking 2 four ∷ Sticking 1 three ∷ []) ≡ Some (site_at 2)
stuck_first = refl

none_stuck : first_stuck (Closing 2 four ∷ Closing 1 three ∷ []) ≡ None
none_stuck = refl

stuck_lines : end_lines (Sticking 2 four ∷ Closing 1 three ∷ []) ≡ ClosedAtEnd (site_at 2) true ∷ ClosedAtEnd (site_at 1) false ∷ []
stuck_lines = refl

stuck_count : count_after (Sticking 2 four ∷ Closing 1 three ∷ Sticking 3 three ∷ []) 5 ≡ 7
stuck_count = refl

-- a refused open is no resource, and has no line
refused_leaves : left_open (Refusing 1 ∷ []) ≡ []
refused_leaves = refl

refused_lines : lines_of (Refusing 1 ∷ []) ≡ []
refused_lines = refl

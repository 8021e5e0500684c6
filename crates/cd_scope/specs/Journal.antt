-- The journal of a run, by its calls and by the closes at its end.
use Rattle.std.specs.Prelude.{true, false, List, [], ◌∷◌, ◌++◌}
use Rattle.cd_scope.specs.declared.journal.JournalLine.{JournalLine}
use Rattle.cd_scope.specs.declared.journal.JournalLine.TheVariants.{Acquired, ClosedEarly, ClosedAtEnd}
use Rattle.cd_scope.specs.Calls.{Call, Opening, Closing, Sticking, site_at}

abbrev pub line_of : Call → List JournalLine
line_of (Opening s d) = Acquired (site_at s) ∷ []
line_of (Closing s d) = ClosedEarly (site_at s) false ∷ []
line_of (Sticking s d) = ClosedEarly (site_at s) true ∷ []
line_of _ = []

abbrev pub lines_of : List Call → List JournalLine
lines_of [] = []
lines_of (c ∷ cs) = line_of c ++ lines_of cs

-- the same of the closes at the end
abbrev pub end_line : Call → List JournalLine
end_line (Closing s d) = ClosedAtEnd (site_at s) false ∷ []
end_line (Sticking s d) = ClosedAtEnd (site_at s) true ∷ []
end_line _ = []

abbrev pub end_lines : List Call → List JournalLine
end_lines [] = []
end_lines (c ∷ cs) = end_line c ++ end_lines cs

-- What contracts see of a scope.
use Rattle.std.specs.Prelude.{ℕ, List}
use Rattle.cd_scope.specs.declared.journal.JournalLine.{JournalLine}
use Rattle.cd_scope.specs.declared.scope.Scope.{Scope}
use Rattle.cd_scope.specs.declared.table.Held.{Held}

-- what it holds, in the order of opening
abbrev pub held_in : Scope → List Held
held_in scope = scope.held.items

-- its journal so far
abbrev pub journal_in : Scope → List JournalLine
journal_in scope = scope.journal.0

-- how many more resources it has room for
abbrev pub room_in : Scope → ℕ
room_in scope = scope.room

-- What the calls of a site tell of it, however its bytes are cut.
use Rattle.std.specs.Prelude.{ℕ, ◌==◌, Bool, false, if◌then◌else◌, List, [], ◌∷◌}
use Rattle.cd_scope.specs.Calls.{Call, Giving, Passing, Ending, Breaking}
use Rattle.cd_scope.specs.Due.{Each, GoesOnAt}

-- the call reads this site
abbrev pub reads : ℕ → Call → Bool
reads x (Giving s d bytes) = x == s
reads x (Passing s d bytes) = x == s
reads x (Ending s d) = x == s
reads x (Breaking s d) = x == s
reads x _ = false

-- the reads of a site
abbrev pub reads_of : ℕ → List Call → List Call
reads_of x [] = []
reads_of x (c ∷ cs) = if reads x c then c ∷ reads_of x cs else reads_of x cs

-- nothing is read of a site behind its end, behind a read of it that failed, and behind its limit
abbrev pub ReadsOn : List Call → Call → Type 0
ReadsOn front (Giving s d bytes) = GoesOnAt front s
ReadsOn front (Passing s d bytes) = GoesOnAt front s
ReadsOn front (Ending s d) = GoesOnAt front s
ReadsOn front (Breaking s d) = GoesOnAt front s
ReadsOn front _ = Unit {0}

abbrev pub AreInOrder : List Call → Type 0
AreInOrder = Each ReadsOn

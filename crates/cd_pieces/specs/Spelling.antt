-- Literals among pieces, and the tests and maps that hold them.
use Rattle.std.specs.Prelude.{◌≡◌, ℕ, ◌==◌, nat_lt, Bool, true, false, not, if◌then◌else◌, List, ◌++◌, length, reverse}
use Rattle.std.specs.Str.{chars}
use Rattle.cd_elem.specs.Chunks.{has_chars}
use Rattle.cd_elem.specs.declared.kind.Sort.{Sort}
use Rattle.cd_elem.specs.declared.word.PieceTest.{PieceTest}
use Rattle.cd_elem.specs.declared.word.TestName.{TestName}
use Rattle.cd_elem.specs.declared.word.PieceMap.{PieceMap}
use Rattle.cd_meaning.specs.Classes.{begins_with, ends_with}
use Rattle.cd_pieces.specs.declared.spelled.Spelled.{Spelled}
use Rattle.cd_pieces.specs.declared.spelled.Spelled.TheVariants as spell
use Rattle.cd_pieces.specs.declared.state.Test.{Test}
use Rattle.cd_pieces.specs.declared.state.Question.{Question}
use Rattle.cd_pieces.specs.declared.state.Question.TheVariants as question
use Rattle.cd_pieces.specs.declared.state.Change.{Change}
use Rattle.cd_pieces.specs.declared.state.Change.TheVariants as change

-- ---- literals

abbrev pub spelled : Spelled → List ℕ
spelled (spell.Bytes bytes) = bytes
spelled (spell.Chars chars) = chars

-- it is of characters, and not of bytes
abbrev pub spells_chars : Spelled → Bool
spells_chars (spell.Bytes bytes) = false
spells_chars (spell.Chars chars) = true

-- it is spelled as pieces of this sort are
abbrev pub IsSpelledFor : Sort → Spelled → Type 0
IsSpelledFor k l = has_chars k ≡ spells_chars l

-- a literal, which is given as the bytes of its text, as pieces of this sort are
abbrev pub spelled_for : Sort → List ℕ → Spelled
spelled_for Sort.Bytes bytes = spell.Bytes bytes
spelled_for Sort.Chars bytes = spell.Chars (chars bytes)
spelled_for Sort.Block bytes = spell.Bytes bytes
spelled_for Sort.Text bytes = spell.Chars (chars bytes)

-- ---- tests

abbrev pub answers : Question → List ℕ → Bool
answers question.Empty numbers = length numbers == 0
answers (question.Begins l) numbers = begins_with (spelled l) numbers
answers (question.Ends l) numbers = ends_with (spelled l) numbers
answers (question.Shorter n) numbers = nat_lt (length numbers) n

abbrev pub passes : Test → List ℕ → Bool
passes t numbers = if t.negated then not (answers t.what numbers) else answers t.what numbers

abbrev pub QuestionFits : Sort → Question → Type 0
QuestionFits k question.Empty = Unit {0}
QuestionFits k (question.Begins l) = IsSpelledFor k l
QuestionFits k (question.Ends l) = IsSpelledFor k l
QuestionFits k (question.Shorter n) = Unit {0}

abbrev pub question_for : Sort → TestName → Question
question_for k TestName.Empty = question.Empty
question_for k (TestName.Begins literal) = question.Begins (spelled_for k literal)
question_for k (TestName.Ends literal) = question.Ends (spelled_for k literal)
question_for k (TestName.Shorter n) = question.Shorter n

abbrev pub test_for : Sort → PieceTest → Test
test_for k t = record { negated = t.negated; what = question_for k t.what }

-- ---- maps

abbrev pub changed : Change → List ℕ → List ℕ
changed (change.Prefix l) numbers = spelled l ++ numbers
changed (change.Suffix l) numbers = numbers ++ spelled l
changed change.Reverse numbers = reverse numbers

-- how much longer a piece becomes
abbrev pub longer_by : Change → ℕ
longer_by (change.Prefix l) = length (spelled l)
longer_by (change.Suffix l) = length (spelled l)
longer_by change.Reverse = 0

abbrev pub ChangeFits : Sort → Change → Type 0
ChangeFits k (change.Prefix l) = IsSpelledFor k l
ChangeFits k (change.Suffix l) = IsSpelledFor k l
ChangeFits k change.Reverse = Unit {0}

abbrev pub change_for : Sort → PieceMap → Change
change_for k (PieceMap.Prefix literal) = change.Prefix (spelled_for k literal)
change_for k (PieceMap.Suffix literal) = change.Suffix (spelled_for k literal)
change_for k PieceMap.Reverse = change.Reverse

-- `run sourceFile "NAME" | takeE N | stdout;`: its tree, and what it means over a seen file.
use Rattle.std.specs.Prelude.{ℕ, zero, suc, nat_le, if◌then◌else◌, List, [], ◌∷◌, ◌++◌, length, take, map}
use Rattle.cd_elem.specs.declared.word.Word.{Word}
use Rattle.cd_elem.specs.declared.word.ElemWord.{ElemWord}
use Rattle.cd_elem.specs.declared.word.SourceWord.{SourceWord}
use Rattle.cd_elem.specs.declared.word.SinkWord.{SinkWord}
use Rattle.cd_elem.specs.declared.script.Join.{Join}
use Rattle.cd_elem.specs.declared.script.Pipe.{Pipe}
use Rattle.cd_elem.specs.declared.script.Pipe.TheVariants as pipe
use Rattle.cd_elem.specs.declared.script.Stmt.{Stmt}
use Rattle.cd_meaning.specs.Stream.{Value, More, Stop, Reading, ReadBad, Long, Ending, Done, Halts, Effect, Open, Put, Close}
use Rattle.cd_meaning.specs.RunShapes.{Mark, AtEnd, MayGoOn, Broken, TooLong}

abbrev pub take_words : List ℕ → ℕ → List Pipe
take_words name n =
    pipe.Word (Word.Source (SourceWord.SourceFile name)) ∷ pipe.Word (Word.Elem (ElemWord.TakeE n)) ∷ pipe.Word (Word.Sink SinkWord.Stdout) ∷ []

-- its statements; the file is site 1 and standard output site 2
abbrev pub take_script : List ℕ → ℕ → List Stmt
take_script name n = Stmt.Run (pipe.Chain Join.Plain (take_words name n)) ∷ []

-- what is done where the end of the file is met
abbrev pub close_of : Mark → List Effect
close_of AtEnd = Close 1 ∷ []
close_of MayGoOn = []
close_of Broken = []
close_of TooLong = []

-- and how it ends there
abbrev pub ending_of : Mark → Ending
ending_of AtEnd = Done Value.Unit
ending_of MayGoOn = Halts (More (Reading 1))
ending_of Broken = Halts (Stop (ReadBad 1))
ending_of TooLong = Halts (Stop (Long 1))

-- The file is opened where anything is asked of it. Its first n bytes are put. Its end is met where more was asked than there is.
abbrev pub front_effects : List ℕ → Mark → ℕ → List Effect
front_effects bytes mark zero = []
front_effects bytes mark (suc n) = Open 1 ∷ map (Put 2) (take (suc n) bytes) ++ (if nat_le (suc n) (length bytes) then [] else close_of mark)

-- it is done where no more was asked than there is
abbrev pub front_ending : List ℕ → Mark → ℕ → Ending
front_ending bytes mark n = if nat_le n (length bytes) then Done Value.Unit else ending_of mark

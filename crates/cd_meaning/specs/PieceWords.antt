-- The words on pieces whose rules the words on elements have not.
use Rattle.std.specs.Prelude.{suc, [], ◌∷◌, length}
use Rattle.cd_meaning.specs.Stream.{Item, Value, Out}
use Rattle.cd_meaning.specs.Run.{stamp, Then, Component, past}
use Rattle.cd_meaning.specs.RunShapes.{each}

-- y before each value but the first
abbrev pub interspersed : Item → Component
interspersed y [] e = past 0 e Value.Unit
interspersed y (x ∷ xs) e = Then (stamp 1 1) (Out x) (each (λ z. Out y ∷ Out z ∷ []) 1 xs (past (suc (length xs)) e Value.Unit))

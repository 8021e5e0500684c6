-- Needs that never fall.
use Rattle.std.proofs.Common.{ℕ, ◌≤◌, arith}
use Rattle.cd_meaning.specs.Laws.{Rising}
use Rattle.cd_meaning.specs.Run.{Run, Then, Ends}

pub rising_less : (m n : ℕ) (r : Run) → m ≤ n → Rising n r → Rising m r
rising_less m n (Then s a r) h k = (let k0 = k.0 in omega arith, k.1)
rising_less m n (Ends s e) h k = omega arith

pub le_self : (n : ℕ) → n ≤ n
le_self n = omega arith

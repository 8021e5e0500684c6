-- The words on pieces are runs.
use Rattle.std.proofs.Common.{◌≡◌, ℕ, suc, ◌+◌, List, [], ◌∷◌, length, ap, Bool, true, false, arith}
use Rattle.cd_meaning.specs.Stream.{Item, Value, End, Done, Out}
use Rattle.cd_meaning.specs.Run.{stamp, Then, acts_at, past}
use Rattle.cd_meaning.specs.RunShapes.{each}
use Rattle.cd_meaning.specs.PieceWords.{interspersed}
use Rattle.cd_meaning.specs.Laws.{IsRun}
use Rattle.cd_meaning.specs.Scan.{Reply, Go, Scan, scan}
use Rattle.cd_meaning.proofs.Runs.Shapes.{is_run_as, never, past_closed}

abbrev pub interspersed_step : Item → Bool → Item → Reply Bool
interspersed_step y true x = Go (Out x ∷ []) false
interspersed_step y false x = Go (Out y ∷ Out x ∷ []) false

-- it carries whether no value has come
abbrev pub interspersed_scan : Item → Scan Bool
interspersed_scan y = record { ready = never; step = interspersed_step y; close = λ s. []; ending = λ s. Done Value.Unit }

interspersed_is : (y : Item) (i : ℕ) (xs : List Item) (e : End) (n : ℕ) → n ≡ i + length xs
    → each (λ z. Out y ∷ Out z ∷ []) i xs (past n e Value.Unit) ≡ scan (interspersed_scan y) i false xs e
interspersed_is y i [] e n h = (let k : n ≡ i = omega (arith, h) in rw k (past_closed i Value.Unit e))
interspersed_is y i (x ∷ xs) e n h = ap (acts_at (stamp (suc i) (suc i)) (Out y ∷ Out x ∷ [])) (interspersed_is y (suc i) xs e n (omega (arith, h)))

pub interspersed_is_scan : (y : Item) (xs : List Item) (e : End) → interspersed y xs e ≡ scan (interspersed_scan y) 0 true xs e
interspersed_is_scan y [] e = past_closed 0 Value.Unit e
interspersed_is_scan y (x ∷ xs) e = ap (λ r. Then (stamp 1 1) (Out x) r) (interspersed_is y 1 xs e (suc (length xs)) (omega arith))

pub interspersed_is_run : (y : Item) → IsRun (interspersed y)
interspersed_is_run y = is_run_as _ (interspersed_scan y) true (interspersed_is_scan y)

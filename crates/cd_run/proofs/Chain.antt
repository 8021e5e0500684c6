-- Lines of results, and sites that are not a node's own.
use Rattle.std.proofs.Common.{◌≡◌, ℕ, Bool, true, false, List, [], ◌∷◌, map, get_or, ◌<◌, refl, ap, sym, subst, arith}
use Rattle.cd_meaning.specs.Run.{Run, Component, Then, start, acts_at}
use Rattle.cd_meaning.specs.Scripts.{value_puts}
use Rattle.cd_meaning.specs.Stream.{Value, Ended, Put, Do}
use Rattle.cd_step.specs.Parts.{Part}
use Rattle.cd_scope.specs.Calls.{does}
use Rattle.cd_scope.specs.Uses.{WritesAt}
use Rattle.cd_meaning.specs.Places.{Place, WritesOutput}
use Rattle.cd_run.specs.Paused.{Forgets}
use Rattle.cd_run.specs.Statements.{IsLocal, goes, value_line}

-- a site that is not a node's own is not spoken of
pub all_forgotten : (p : Part) (left : List ℕ) → IsLocal p → ((s : ℕ) → p.sites s ≡ true → 0 < get_or left s 0) → (s : ℕ) → get_or left s 0 ≡ 0 → Forgets s p
all_forgotten p left local more s none = by (p.sites s) refl where
  by : (b : Bool) → p.sites s ≡ b → Forgets s p
  by true own = let m = more s own in absurd (omega (arith, m, none))
  by false other = λ w z next. ap (λ (f : Component). goes (f [] Ended) next) (local s other w z)

puts_of_line : (l : List ℕ) (r : Run) → acts_at start (map (λ b. Do (Put 0 b)) l) r ≡ does (map (Put 0) l) r
puts_of_line [] r = refl
puts_of_line (b ∷ l) r = ap (Then start (Do (Put 0 b))) (puts_of_line l r)

pub puts_line : (v : Value) (r : Run) → acts_at start (value_puts v) r ≡ does (map (Put 0) (value_line v)) r
puts_line Value.Unit r = refl
puts_line (Value.Num n) r = puts_of_line (value_line (Value.Num n)) r
puts_line (Value.Bool b) r = puts_of_line (value_line (Value.Bool b)) r
puts_line (Value.Byte b) r = puts_of_line (value_line (Value.Byte b)) r
puts_line (Value.Char c) r = puts_of_line (value_line (Value.Char c)) r
puts_line (Value.BytesV l) r = puts_of_line (value_line (Value.BytesV l)) r
puts_line (Value.TextV l) r = puts_of_line (value_line (Value.TextV l)) r
puts_line (Value.Maybe v) r = puts_of_line (value_line (Value.Maybe v)) r
puts_line (Value.Pair u v) r = puts_of_line (value_line (Value.Pair u v)) r
puts_line (Value.ListV vs) r = puts_of_line (value_line (Value.ListV vs)) r

-- results are printed to standard output
pub results_at : (p : Place) → p ≡ WritesOutput → (A : Type 0) → WritesAt p 1 A
results_at p is A = subst (λ x. WritesAt x 1 A) (sym is) refl

-- The value of digits grows.
use Rattle.std.proofs.Common.{◌≡◌, ℕ, ◌+◌, ◌*◌, ◌-◌, ◌≤◌, ◌<◌, List, [], ◌∷◌, take, drop, length, get_or, ◌^◌, Some, None, if◌then◌else◌, ap, sym, ◌∙◌, arith}
use Rattle.std.specs.List.{fold}
use Rattle.std.proofs.lemmas.List.{take-append-drop}
use Rattle.std.proofs.lemmas.List.Sums.{fold-append, fold_more}
use Rattle.std.proofs.lemmas.Bool.{le-ltb}
use Rattle.cd_grammar.specs.Tokens.{decimal_value, number_value}

grows : (ds : List ℕ) (n : ℕ) → n ≤ fold (λ n d. 10 * n + (d - 48)) n ds
grows [] n = omega arith
grows (d ∷ ds) n = let h = grows ds (10 * n + (d - 48)) in omega arith

pub front-smaller : (ds : List ℕ) (i : ℕ) → decimal_value (take i ds) ≤ decimal_value ds
front-smaller ds i =
    let e = ap decimal_value (take-append-drop i ds) in
    let f = fold-append (λ n d. 10 * n + (d - 48)) 0 (take i ds) (drop i ds) in
    let h = grows (drop i ds) (decimal_value (take i ds)) in
    omega (arith, sym f ∙ e)

pub value-more : (ds : List ℕ) (i : ℕ) → i < length ds → decimal_value (take (i + 1) ds) ≡ 10 * decimal_value (take i ds) + (get_or ds i 0 - 48)
value-more ds i h = fold_more (λ n d. 10 * n + (d - 48)) 0 ds i 0 h

pub ruleset numbers = (front-smaller, value-more)

-- digits whose front is too large already
pub overflows : (ds : List ℕ) (i n : ℕ) → i < length ds → n ≡ decimal_value (take i ds) → 2 ^ 64 ≤ 10 * n + (get_or ds i 0 - 48) → None ≡ number_value ds
overflows ds i n h e k =
    let a = value-more ds i h in
    let b = front-smaller ds (i + 1) in
    let l : 2 ^ 64 ≤ decimal_value ds = omega arith in
    ap (λ t. if t then Some (decimal_value ds) else None) (sym (le-ltb (decimal_value ds) (2 ^ 64) l))

-- The limits as a walk: each token is judged by what stands before it.
use Rattle.std.proofs.Common.{◌≡◌, ℕ, zero, suc, ◌+◌, ◌≤◌, Bool, true, false, ◌&&◌, if◌then◌else◌, List, [], ◌∷◌, ◌++◌, Option, Some, None, take, drop, length, refl, ap, sym, ◌∙◌, arith}
use Rattle.std.specs.Prelude.{nat_le}
use Rattle.std.specs.List.{fold}
use Rattle.std.proofs.lemmas.Bool.{leb-false, lt-leb}
use Rattle.cd_elem.specs.declared.token.Sign.{Sign}
use Rattle.cd_elem.specs.declared.token.Sign.TheVariants as sign
use Rattle.cd_elem.specs.declared.token.Token.{Token}
use Rattle.cd_elem.specs.declared.token.Token.TheVariants as token
use Rattle.cd_elem.specs.declared.token.LimitKind.{LimitKind}
use Rattle.cd_elem.specs.declared.token.LimitKind.TheVariants.{Tokens, Depth, Literal, Number}
use Rattle.cd_grammar.specs.Limits.{token_limit, depth_limit, Bounds, every_number, bounds_behind, brackets_with, brackets_with_sign, opens_bracket, is_too_long, is_outside, limit_of, limit_here, IsWithinLimits}

-- this token passes no limit behind so many tokens and open brackets
pub record Passes (count opened : ℕ) (b : Bounds) (t : Token) : Type 0 where
  pub tokens : nat_le token_limit count ≡ false
  pub depth : (nat_le depth_limit opened && opens_bracket t) ≡ false
  pub literal : is_too_long t ≡ false
  pub number : is_outside b t ≡ false

-- none of these tokens does
abbrev pub Fits : ℕ → ℕ → Bounds → List Token → Type 0
Fits count opened b [] = Unit {0}
Fits count opened b (t ∷ ts) = Passes count opened b t × Fits (count + 1) (brackets_with opened t) (bounds_behind t) ts

abbrev pub brackets_behind : ℕ → List Token → ℕ
brackets_behind opened ts = fold brackets_with opened ts

abbrev pub bounds_from : Bounds → List Token → Bounds
bounds_from b ts = fold (λ _ t. bounds_behind t) b ts

abbrev chosen : Bool → Bool → Bool → Bool → Option LimitKind
chosen many deep long outside = if many then Some Tokens else (if deep then Some Depth else (if long then Some Literal else (if outside then Some Number else None)))

record AllFalse (a b c d : Bool) : Type 0 where
  first : a ≡ false
  second : b ≡ false
  third : c ≡ false
  fourth : d ≡ false

none_chosen : (a b c d : Bool) → chosen a b c d ≡ None → AllFalse a b c d
none_chosen true b c d e = let f : ⊥ = cc in absurd f
none_chosen false true c d e = let f : ⊥ = cc in absurd f
none_chosen false false true d e = let f : ⊥ = cc in absurd f
none_chosen false false false true e = let f : ⊥ = cc in absurd f
none_chosen false false false false e = record { first = refl; second = refl; third = refl; fourth = refl }

passes : (count opened : ℕ) (b : Bounds) (t : Token) → limit_of count opened b t ≡ None → Passes count opened b t
passes count opened b t e =
    let f = none_chosen (nat_le token_limit count) (nat_le depth_limit opened && opens_bracket t) (is_too_long t) (is_outside b t) e in
    record { tokens = f.first; depth = f.second; literal = f.third; number = f.fourth }

no_limit : (count opened : ℕ) (b : Bounds) (t : Token) → Passes count opened b t → limit_of count opened b t ≡ None
no_limit count opened b t p = rw (p.tokens, p.depth, p.literal, p.number) refl

-- the limit at the front of the second tokens, behind the first ones and what stands before those
abbrev limit_past : ℕ → ℕ → Bounds → List Token → List Token → Option LimitKind
limit_past count opened b before [] = None
limit_past count opened b before (t ∷ rest) = limit_of (count + length before) (brackets_behind opened before) (bounds_from b before) t

past_more : (count opened : ℕ) (b : Bounds) (t : Token) (before rest : List Token)
    → limit_past count opened b (t ∷ before) rest ≡ limit_past (count + 1) (brackets_with opened t) (bounds_behind t) before rest
past_more count opened b t before [] = refl
past_more count opened b t before (u ∷ rest) =
    let e : count + length (t ∷ before) ≡ (count + 1) + length before = omega arith in
    ap (λ n. limit_of n (brackets_behind (brackets_with opened t) before) (bounds_from (bounds_behind t) before) u) e

fits_from : (count opened : ℕ) (b : Bounds) (ts : List Token) → ((i : ℕ) → limit_past count opened b (take i ts) (drop i ts) ≡ None) → Fits count opened b ts
fits_from count opened b [] h = tt
fits_from count opened b (t ∷ ts) h =
    let e : count + 0 ≡ count = omega arith in (
      passes count opened b t (ap (λ n. limit_of n opened b t) (sym e) ∙ h 0),
      fits_from (count + 1) (brackets_with opened t) (bounds_behind t) ts (λ i. sym (past_more count opened b t (take i ts) (drop i ts)) ∙ h (suc i)),
    )

none_past : (count opened : ℕ) (b : Bounds) (ts : List Token) → Fits count opened b ts → (i : ℕ) → limit_past count opened b (take i ts) (drop i ts) ≡ None
none_past count opened b [] f zero = refl
none_past count opened b [] f (suc i) = refl
none_past count opened b (t ∷ ts) f zero =
    let e : count + 0 ≡ count = omega arith in
    ap (λ n. limit_of n opened b t) e ∙ no_limit count opened b t f.0
none_past count opened b (t ∷ ts) f (suc i) =
    past_more count opened b t (take i ts) (drop i ts) ∙ none_past (count + 1) (brackets_with opened t) (bounds_behind t) ts f.1 i

from_start : (before rest : List Token) → limit_past 0 0 every_number before rest ≡ limit_here before rest
from_start before [] = refl
from_start before (t ∷ rest) =
    let e : 0 + length before ≡ length before = omega arith in
    ap (λ n. limit_of n (brackets_behind 0 before) (bounds_from every_number before) t) e

pub walks : (ts : List Token) → IsWithinLimits ts → Fits 0 0 every_number ts
walks ts w = fits_from 0 0 every_number ts (λ i. from_start (take i ts) (drop i ts) ∙ w i)

pub within : (ts : List Token) → Fits 0 0 every_number ts → IsWithinLimits ts
within ts f i = sym (from_start (take i ts) (drop i ts)) ∙ none_past 0 0 every_number ts f i

-- fewer tokens before it, and fewer open brackets
pub no_more : (most m n : ℕ) → nat_le most n ≡ false → m ≤ n → nat_le most m ≡ false
no_more most m n e h =
    let k = leb-false most n e in
    lt-leb most m (omega (arith, h, k))

also_false : (x y b : Bool) → (x ≡ false → y ≡ false) → (x && b) ≡ false → (y && b) ≡ false
also_false x false b k e = refl
also_false x true false k e = refl
also_false false true true k e = k refl
also_false true true true k e = e

no_deeper : (most m n : ℕ) (opens : Bool) → (nat_le most n && opens) ≡ false → m ≤ n → (nat_le most m && opens) ≡ false
no_deeper most m n opens e h = also_false (nat_le most n) (nat_le most m) opens (λ f. no_more most m n f h) e

pub fewer_passes : (c c' o o' : ℕ) (b : Bounds) (t : Token) → c' ≤ c → o' ≤ o → Passes c o b t → Passes c' o' b t
fewer_passes c c' o o' b t h k p = record {
  tokens = no_more token_limit c' c p.tokens h;
  depth = no_deeper depth_limit o' o (opens_bracket t) p.depth k;
  literal = p.literal;
  number = p.number;
}

fewer_signed : (o o' : ℕ) (s : Sign) → o' ≤ o → brackets_with_sign o' s ≤ brackets_with_sign o s
fewer_signed o o' sign.OpenBrace h = omega (arith, h)
fewer_signed o o' sign.OpenParen h = omega (arith, h)
fewer_signed o o' sign.OpenSquare h = omega (arith, h)
fewer_signed o o' sign.CloseBrace h = omega (arith, h)
fewer_signed o o' sign.CloseParen h = omega (arith, h)
fewer_signed o o' sign.CloseSquare h = omega (arith, h)
fewer_signed o o' _ h = h

fewer_brackets : (o o' : ℕ) (t : Token) → o' ≤ o → brackets_with o' t ≤ brackets_with o t
fewer_brackets o o' (token.Sign s) h = fewer_signed o o' s h
fewer_brackets o o' _ h = h

pub fewer_fit : (c c' o o' : ℕ) (b : Bounds) (ts : List Token) → c' ≤ c → o' ≤ o → Fits c o b ts → Fits c' o' b ts
fewer_fit c c' o o' b [] h k f = tt
fewer_fit c c' o o' b (t ∷ ts) h k f =
    (fewer_passes c c' o o' b t h k f.0, fewer_fit (c + 1) (c' + 1) _ _ (bounds_behind t) ts (omega (arith, h)) (fewer_brackets o o' t k) f.1)

-- some tokens behind others
pub fits_front : (c o : ℕ) (b : Bounds) (xs ys : List Token) → Fits c o b (xs ++ ys) → Fits c o b xs
fits_front c o b [] ys f = tt
fits_front c o b (t ∷ xs) ys f = (f.0, fits_front (c + 1) (brackets_with o t) (bounds_behind t) xs ys f.1)

pub fits_behind : (c o : ℕ) (b : Bounds) (xs ys : List Token) → Fits c o b (xs ++ ys) → Fits (c + length xs) (brackets_behind o xs) (bounds_from b xs) ys
fits_behind c o b [] ys f =
    let e : c + 0 ≡ c = omega arith in
    rw e f
fits_behind c o b (t ∷ xs) ys f =
    let e : c + suc (length xs) ≡ (c + 1) + length xs = omega arith in
    rw e (fits_behind (c + 1) (brackets_with o t) (bounds_behind t) xs ys f.1)

pub fits_append : (c o : ℕ) (b : Bounds) (xs ys : List Token) → Fits c o b xs → Fits (c + length xs) (brackets_behind o xs) (bounds_from b xs) ys → Fits c o b (xs ++ ys)
fits_append c o b [] ys f g =
    let e : c + 0 ≡ c = omega arith in
    rw e at g
fits_append c o b (t ∷ xs) ys f g =
    let e : c + suc (length xs) ≡ (c + 1) + length xs = omega arith in
    (f.0, fits_append (c + 1) (brackets_with o t) (bounds_behind t) xs ys f.1 (rw e at g))

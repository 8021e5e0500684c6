-- Answers of searches for a byte, as how many stand before it.
use Rattle.std.proofs.Common.{◌≡◌, ℕ, zero, suc, ◌≤◌, [], ◌∷◌, take, ◌==◌, Bool, true, false, List, length, Option, Some, None, refl, sym, subst, arith}
use Rattle.std.proofs.lemmas.List.Sums.{position_or_len_is}
use Rattle.std.specs.List.{position_or_len}
use Rattle.memchr.specs.Find.{IsFirstByte, is_byte}
use Rattle.cd_split.specs.Cutting.{is_end}

is_false : (b : Bool) → ¬ (b ≡ true) → b ≡ false
is_false true h = absurd (h refl)
is_false false h = refl

module _ (byte : ℕ) (bytes : List ℕ) where
  pub found_first : (r : Option ℕ) (place : ℕ) → IsFirstByte (is_byte byte) bytes r → r ≡ Some place → place ≡ position_or_len (λ x. x == byte) bytes
  found_first r place h e =
      let k = subst (IsFirstByte (is_byte byte) bytes) e h in
      let high = k.0.high in
      sym (position_or_len_is (λ x. x == byte) bytes place 0 (omega (arith, high)) (λ j l. is_false _ (k.0.before j (omega arith) l)) (λ l. k.1))

  pub found_none : (r : Option ℕ) → IsFirstByte (is_byte byte) bytes r → r ≡ None → length bytes ≡ position_or_len (λ x. x == byte) bytes
  found_none r h e =
      let k = subst (IsFirstByte (is_byte byte) bytes) e h in
      sym (position_or_len_is (λ x. x == byte) bytes (length bytes) 0 (omega arith) (λ j l. is_false _ (k j (omega arith) l)) (λ l. absurd (omega (arith, l))))

-- without a separator, all stand before it
pub no_end : (separator : Option ℕ) (reach : ℕ) (xs : List ℕ) → separator ≡ None → reach ≤ length xs → reach ≡ position_or_len (is_end separator) (take reach xs)
no_end separator reach xs e h = rw e (all reach xs h) where
  all : (n : ℕ) (xs : List ℕ) → n ≤ length xs → n ≡ position_or_len (is_end None) (take n xs)
  all zero xs h = refl
  all (suc n) [] h = absurd (omega (arith, h))
  all (suc n) (x ∷ xs) h = let k = all n xs (omega (arith, h)) in omega (arith, k)

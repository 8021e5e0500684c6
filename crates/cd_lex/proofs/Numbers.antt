-- Numbers are read as they are written.
use Rattle.std.proofs.Common.{◌≡◌, ℕ, ◌+◌, ◌-◌, ◌*◌, ◌^◌, ◌<◌, true, false, List, [], ◌∷◌, length, get_or, Some, refl, ap, arith, decimal, subst, inl, inr}
use Rattle.std.specs.Char.{is_ascii_alphabetic, is_ascii_digit}
use Rattle.std.specs.List.{fold, list_all}
use Rattle.std.proofs.lemmas.Bool.{lt-ltb, cases_lt}
use Rattle.std.proofs.lemmas.Bool.Decides.{nat_tests}
use Rattle.std.proofs.lemmas.Fmt.{decimal_digit, digits_decimal, digits_value-decimal, first_decimal, decimal_nonempty}
use Rattle.std.proofs.lemmas.Str.Parse.{FoldsDigits, IsDigitsTest, IsNumeralModel, numerals_by_fold}
use Rattle.std.specs.Int.{IsInRange}
use Rattle.cd_elem.specs.declared.token.Token.TheVariants as token
use Rattle.cd_grammar.specs.Tokens.{decimal_value, whole_token}
use Rattle.cd_lex.proofs.Utf8.{both, differs}
use Rattle.cd_lex.proofs.SpelledWords.{IsWritten}

digit_range : (c : ℕ) → is_ascii_digit c ≡ true → IsInRange 48 57 c
digit_range c e = (grind (arith, nat_tests), grind (arith, nat_tests))

range_digit : (c : ℕ) → IsInRange 48 57 c → is_ascii_digit c ≡ true
range_digit c (l, h) = grind (arith, nat_tests)

abbrev AllDigit : List ℕ → Type 0
AllDigit ds = list_all is_ascii_digit ds ≡ true

digits_test : IsDigitsTest AllDigit
digits_test = record {
  empty = refl;
  parts = λ c cs e. let b = both (is_ascii_digit c) (list_all is_ascii_digit cs) e in (digit_range c b.0, b.1);
  more = λ c cs r e. rw (range_digit c r) e;
}

abbrev from : ℕ → List ℕ → ℕ
from n ds = fold (λ n d. 10 * n + (d - 48)) n ds

folds : FoldsDigits from
folds = record { empty = λ n. refl; more = λ n c cs r. let e : 10 * n + (c - 48) ≡ n * 10 + (c - 48) = omega arith in ap (λ m. from m cs) e }

model : IsNumeralModel AllDigit decimal_value
model = numerals_by_fold AllDigit digits_test from folds

no_letter : (c : ℕ) → is_ascii_digit c ≡ true → is_ascii_alphabetic c ≡ false
no_letter c e = grind (arith, nat_tests)

digits_whole : (ds : List ℕ) (n : ℕ) → AllDigit ds → decimal_value ds ≡ n → n < 2 ^ 64 → 0 < length ds → 48 < get_or ds 0 0 → whole_token ds ≡ Some (token.Number (Some n))
digits_whole [] n a v h l f = absurd (omega arith)
digits_whole (c ∷ cs) n a v h l f =
    let b = both (is_ascii_digit c) (list_all is_ascii_digit cs) a in
    rw (no_letter c b.0, differs c 48 (λ e. omega (arith, e, f)), b.0, b.1, v, lt-ltb n (2 ^ 64) h) refl

pub number_is : (n : ℕ) → n < 2 ^ 64 → IsWritten (token.Number (Some n))
number_is n h = record {
  whole =
      elim (cases_lt 0 n) [
        | inl k ↦ digits_whole (decimal n) n (digits_decimal model n h) (digits_value-decimal model n h) h (decimal_nonempty n h) (first_decimal n k h)
        | inr k ↦
            let e : 0 ≡ n = omega arith in
            let P : ℕ → Type 0 = λ m. whole_token (decimal m) ≡ Some (token.Number (Some m)) in
            subst P e (ap whole_token (decimal_digit 0 (omega arith)))
      ];
}

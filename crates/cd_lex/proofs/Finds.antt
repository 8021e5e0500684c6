-- The scanner's answer for a name and for a number.
use Rattle.std.proofs.Common.{◌≡◌, ℕ, suc, ◌+◌, ◌-◌, ◌≤◌, Bool, true, false, ◌==◌, List, [], ◌∷◌, length, take, drop, get_or, refl, ap, ◌∙◌, arith}
use Rattle.std.specs.List.{prefix_len}
use Rattle.std.specs.Char.{is_ascii_alphabetic, is_ascii_alphanumeric, is_ascii_digit}
use Rattle.std.proofs.lemmas.List.{take_all}
use Rattle.std.proofs.lemmas.Bool.Decides.{nat_tests}
use Rattle.cd_lex.specs.LongestToken.{name_found, number_found, token_found}

pub tail : (p : ℕ → Bool) (c : ℕ) (cs : List ℕ) (n : ℕ) → n ≡ prefix_len p (take (length (c ∷ cs) - 1) (drop 1 (c ∷ cs))) → n + 1 ≡ suc (prefix_len p cs)
tail p c cs n e =
    let t : take (length (c ∷ cs) - 1) cs ≡ cs = take_all (length (c ∷ cs) - 1) cs (omega arith) in
    let f : n ≡ prefix_len p cs = e ∙ ap (λ ds. prefix_len p ds) t in
    omega arith

differs : (c d : ℕ) → (c ≡ d → ⊥) → (c == d) ≡ false
differs c d h = grind (arith, nat_tests)

pub name-is : (xs : List ℕ) (n : ℕ) → 1 ≤ length xs → true ≡ is_ascii_alphabetic (get_or xs 0 0)
    → n ≡ prefix_len is_ascii_alphanumeric (take (length xs - 1) (drop 1 xs)) → name_found xs (n + 1) ≡ token_found xs
name-is [] n l a e = absurd (omega arith)
name-is (c ∷ cs) n l a e = rw (tail is_ascii_alphanumeric c cs n e, ← a) refl

pub number-is : (xs : List ℕ) (n : ℕ) → 1 ≤ length xs → false ≡ is_ascii_alphabetic (get_or xs 0 0) → (get_or xs 0 0 ≡ 48 → ⊥) → true ≡ is_ascii_digit (get_or xs 0 0)
    → n ≡ prefix_len is_ascii_digit (take (length xs - 1) (drop 1 xs)) → number_found xs (n + 1) ≡ token_found xs
number-is [] n l a z d e = absurd (omega arith)
number-is (c ∷ cs) n l a z d e = rw (tail is_ascii_digit c cs n e, ← a, differs c 48 z, ← d) refl

-- Fronts and rests of a text that are texts.
use Rattle.std.proofs.Common.{◌≡◌, ℕ, zero, suc, ◌+◌, ◌-◌, ◌≤◌, ◌<◌, Bool, true, false, cond, List, [], ◌∷◌, length, take, drop, get_or, ◌++◌, refl, ap, sym, ◌∙◌, arith, subst}
use Rattle.std.specs.List.{prefix_len}
use Rattle.std.specs.Str.{IsUtf8, IsAscii}
use Rattle.std.specs.Char.{is_ascii_alphabetic, is_ascii_alphanumeric}
use Rattle.std.proofs.lemmas.Bool.Decides.{nat_tests}
use Rattle.std.proofs.lemmas.List.{get_or-drop}
use Rattle.std.proofs.lemmas.Str.{IsUtf8-drop, IsUtf8-past_char, encode_ascii}
use Rattle.cd_lex.specs.LongestToken.{IsQuoted}
use Rattle.cd_lex.proofs.Finds.{tail}
use Rattle.cd_lex.proofs.Nexts.{tail-is}

letter_low : (c : ℕ) → is_ascii_alphabetic c ≡ true → c < 128
letter_low c e = grind (arith, nat_tests)

name_low : (c : ℕ) → is_ascii_alphanumeric c ≡ true → c < 128
name_low c e = grind (arith, nat_tests)

empty_ascii : IsAscii []
empty_ascii i = omega arith

one_more : (c : ℕ) (cs : List ℕ) → c < 128 → IsAscii cs → IsAscii (c ∷ cs)
one_more c cs h a zero = h
one_more c cs h a (suc i) = a i

in_front : (b : Bool) (c : ℕ) (cs : List ℕ) (n : ℕ) → is_ascii_alphanumeric c ≡ b → IsAscii (take n cs) → IsAscii (take (cond b (1 + n) 0) (c ∷ cs))
in_front true c cs n e a = let f : 1 + n ≡ suc n = omega arith in rw f (one_more c (take n cs) (name_low c e) a)
in_front false c cs n e a = empty_ascii

prefix_ascii : (cs : List ℕ) → IsAscii (take (prefix_len is_ascii_alphanumeric cs) cs)
prefix_ascii [] = empty_ascii
prefix_ascii (c ∷ cs) = in_front (is_ascii_alphanumeric c) c cs (prefix_len is_ascii_alphanumeric cs) refl (prefix_ascii cs)

-- an identifier is ASCII
pub name_ascii : (xs : List ℕ) (n : ℕ) → 1 ≤ length xs → true ≡ is_ascii_alphabetic (get_or xs 0 0)
    → n ≡ prefix_len is_ascii_alphanumeric (take (length xs - 1) (drop 1 xs)) → IsAscii (take (n + 1) xs)
name_ascii [] n l a e = absurd (omega arith)
name_ascii (c ∷ cs) n l a e =
    let P : ℕ → Type 0 = λ m. IsAscii (take m (c ∷ cs)) in
    subst P (sym (tail is_ascii_alphanumeric c cs n e)) (one_more c (take (prefix_len is_ascii_alphanumeric cs) cs) (letter_low c (sym a)) (prefix_ascii cs))

-- behind a quote
pub quoted_rest : (xs : List ℕ) → 1 ≤ length xs → get_or xs 0 0 ≡ 34 → IsUtf8 xs → IsUtf8 (take (length xs - 1) (drop 1 xs))
quoted_rest [] l e u = absurd (omega arith)
quoted_rest (c ∷ cs) l e u =
    subst IsUtf8 (sym (tail-is (c ∷ cs) 1)) (IsUtf8-past_char (c ∷ cs) cs 34 u (ap (λ b. b ∷ cs) e ∙ sym (ap (λ bs. bs ++ cs) (encode_ascii 34 (omega arith)))))

-- from a quote on
pub quoted_from : (text : List ℕ) (at : ℕ) → at ≤ length text → IsUtf8 text → IsQuoted (take (length text - at) (drop at text))
quoted_from text at h u e =
    let g : get_or (drop at text) 0 0 ≡ 34 = ap (λ xs. get_or xs 0 0) (sym (tail-is text at)) ∙ e in
    let z : at + 0 ≡ at = omega arith in
    let f : get_or text at 0 ≡ 34 = ap (λ i. get_or text i 0) (sym z) ∙ sym (get_or-drop at text 0 0) ∙ g in
    subst IsUtf8 (sym (tail-is text at)) (IsUtf8-drop text at u (h, λ l k. absurd (omega (arith, f, k))))

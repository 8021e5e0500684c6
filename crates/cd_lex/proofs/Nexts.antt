-- The next token of a text.
use Rattle.std.proofs.Common.{◌≡◌, ℕ, zero, suc, ◌+◌, ◌-◌, ◌≤◌, ◌<◌, Bool, true, false, List, length, take, drop, Some, refl, ap, sym, ◌∙◌, subst, arith, length-drop}
use Rattle.std.proofs.lemmas.List.{take_all}
use Rattle.cd_elem.specs.declared.token.Token.{Token}
use Rattle.cd_grammar.specs.Tokens.{IsLongest, whole_token}
use Rattle.cd_grammar.specs.Lexemes.{IsNext, is_glued, begins_digit, gap_length}

-- a slice from a place on
pub tail-is : (xs : List ℕ) (at : ℕ) → take (length xs - at) (drop at xs) ≡ drop at xs
tail-is xs at = take_all (length xs - at) (drop at xs) (omega (arith, length-drop at xs))

pub unglued_digit : (z : Bool) (xs : List ℕ) (at : ℕ) → false ≡ begins_digit (take (length xs - at) (drop at xs)) → is_glued z (drop at xs) ≡ false
unglued_digit true xs at e = ap begins_digit (sym (tail-is xs at)) ∙ sym e
unglued_digit false xs at e = refl

pub unglued_zero : (z : Bool) (xs : List ℕ) → z ≡ false → is_glued z xs ≡ false
unglued_zero z xs e = rw e refl

pub positive : (xs : List ℕ) (t : Token) (size : ℕ) → whole_token (take size xs) ≡ Some t → 0 < size
positive xs t zero e = let f : ⊥ = cc in absurd f
positive xs t (suc n) e = omega arith

pub next : (text : List ℕ) (at n : ℕ) (z : Bool) (t : Token) (size : ℕ) → n ≡ gap_length false (take (length text - at) (drop at text))
    → is_glued z (drop at text) ≡ false → IsLongest (take (length text - (at + n)) (drop (at + n) text)) t size → at + n ≤ length text
    → IsNext text at z (record { token = t; at = at + n }) size × (at < at + n + size) × (at + n + size ≤ length text)
next text at n z t size e f l k =
    let P : List ℕ → Type 0 = λ xs. IsLongest xs t size in
    let m = subst P (tail-is text (at + n)) l in
    let p = positive (drop (at + n) text) t size m.token in
    let w = m.within in
    let d = length-drop (at + n) text in (
      record { place = ap (λ k. at + k) (e ∙ ap (gap_length false) (tail-is text at)); apart = f; longest = m },
      omega (arith, p),
      omega (arith, w, d),
    )

-- Literals are read as they are written.
use Rattle.std.proofs.Common.{◌≡◌, ℕ, ◌+◌, ◌-◌, ◌*◌, ◌/◌, ◌%◌, ◌≤◌, ◌<◌, ◌==◌, nat_lt, nat_le, Bool, true, false, ◌&&◌, ◌||◌, if◌then◌else◌, List, [], ◌∷◌, ◌++◌, Some, refl, ap, sym, ◌∙◌, arith, flat_map, append_assoc, append-nil, subst, ◌⊎◌, inl, inr}
use Rattle.std.specs.Char.{is_ascii_digit}
use Rattle.std.proofs.lemmas.Bool.{lt-ltb, le-ltb, cases_lt, cases_eq}
use Rattle.std.proofs.lemmas.Bool.Decides.{nat_tests}
use Rattle.std.proofs.lemmas.Str.{encode_ascii}
use lib.Utf8.{low_scalar}
use Rattle.cd_elem.specs.declared.token.Token.TheVariants as token
use Rattle.cd_elem.specs.Base16.{hex_digit, hex_digits, hex_value}
use Rattle.cd_grammar.specs.Literals.{literal_value, in_front, unicode_digits}
use Rattle.cd_grammar.specs.Spelling.{by_digits, escaped}
use Rattle.cd_grammar.specs.Tokens.{text_token}
use Rattle.cd_lex.proofs.Escapes.{IsLong, long}
use Rattle.cd_lex.proofs.Utf8.{differs}
use Rattle.cd_lex.proofs.SpelledWords.{IsWritten}

-- Digits of escapes.
small_value : (c d : ℕ) → d < 10 → c ≡ 48 + d → hex_value c ≡ Some d
small_value c d h e =
    let t : is_ascii_digit c ≡ true = grind (arith, nat_tests) in
    let v : c - 48 ≡ d = omega arith in
    rw (t, v) refl

letter_value : (c d : ℕ) → 10 ≤ d → d < 16 → c ≡ 87 + d → hex_value c ≡ Some d
letter_value c d h k e =
    let t : is_ascii_digit c ≡ false = grind (arith, nat_tests) in
    let l : (nat_le 97 c && nat_le c 102) ≡ true = grind (arith, nat_tests) in
    let v : c - 87 ≡ d = omega arith in
    rw (t, l, v) refl

digit_value : (d : ℕ) → d < 16 → hex_value (hex_digit d) ≡ Some d
digit_value d h = elim (cases_lt d 10) [
  | inl k ↦ small_value (hex_digit d) d k (rw (lt-ltb d 10 k) refl)
  | inr k ↦ letter_value (hex_digit d) d k h (rw (le-ltb d 10 k) refl)
]

no_brace : (d : ℕ) → d < 16 → (hex_digit d == 125) ≡ false
no_brace d h = elim (cases_lt d 10) [
  | inl k ↦ rw (lt-ltb d 10 k) (differs (48 + d) 125 (λ e. omega arith))
  | inr k ↦ rw (le-ltb d 10 k) (differs (87 + d) 125 (λ e. omega arith))
]

one_more : (d count value n v : ℕ) (more : List ℕ) → d < 16 → nat_lt count 6 ≡ true → count + 1 ≡ n → value * 16 + d ≡ v
    → unicode_digits count value (hex_digit d ∷ more) ≡ unicode_digits n v more
one_more d count value n v more h k e f = rw (no_brace d h, k, digit_value d h, e, f) refl

at_brace : (count value : ℕ) (more : List ℕ) → nat_lt 0 count ≡ true → value < 128 → unicode_digits count value (125 ∷ more) ≡ in_front (value ∷ []) (literal_value more)
at_brace count value more k h = rw (k, low_scalar value (omega arith), encode_ascii value h) refl

one_digit : (c : ℕ) (more : List ℕ) → c < 16 → literal_value (by_digits (hex_digit c ∷ []) ++ more) ≡ in_front (c ∷ []) (literal_value more)
one_digit c more h = one_more c 0 0 1 c (125 ∷ more) h refl refl (omega arith) ∙ at_brace 1 c more refl (omega arith)

two_digits : (c : ℕ) (more : List ℕ) → c < 128 → literal_value (by_digits (hex_digits c) ++ more) ≡ in_front (c ∷ []) (literal_value more)
two_digits c more h =
    one_more (c / 16) 0 0 1 (c / 16) (hex_digit (c % 16) ∷ 125 ∷ more) (omega arith) refl refl (omega arith)
    ∙ one_more (c % 16) 1 (c / 16) 2 c (125 ∷ more) (omega arith) refl refl (omega arith) ∙ at_brace 2 c more refl h

unescaped : (c : ℕ) (more : List ℕ) → IsLong c → literal_value (c ∷ more) ≡ in_front (c ∷ []) (literal_value more)
unescaped c more l = rw (differs c 34 l.no_quote, differs c 92 l.no_backslash, differs c 10 l.no_newline) refl

by_few : (b : Bool) (c : ℕ) (more : List ℕ) → (nat_lt c 32 || c == 127) ≡ b → c < 128 ⊎ (b ≡ false) → IsLong c
    → literal_value ((if b then by_digits (hex_digits c) else c ∷ []) ++ more) ≡ in_front (c ∷ []) (literal_value more)
by_few true c more e (inl h) l = two_digits c more h
by_few true c more e (inr h) l = let f : ⊥ = cc in absurd f
by_few false c more e h l = unescaped c more l

low_or_other : (c : ℕ) → (c < 128) ⊎ ((nat_lt c 32 || c == 127) ≡ false)
low_or_other c = elim (cases_lt c 128) [
  | inl h ↦ inl h
  | inr h ↦ inr (rw (le-ltb c 32 (omega arith), differs c 127 (λ e. omega arith)) refl)
]

long_back : (c : ℕ) (more : List ℕ) → IsLong c → literal_value (escaped c ++ more) ≡ in_front (c ∷ []) (literal_value more)
long_back c more l = ap (λ bs. literal_value (bs ++ more)) (long c l) ∙ elim (cases_lt c 16) [
  | inl h ↦ rw (lt-ltb c 16 h) (one_digit c more h)
  | inr h ↦ rw (le-ltb c 16 h) (by_few (nat_lt c 32 || c == 127) c more refl (low_or_other c) l)
]

byte_back : (c : ℕ) (more : List ℕ) → literal_value (escaped c ++ more) ≡ in_front (c ∷ []) (literal_value more)
byte_back c more =
    let P : ℕ → Type 0 = λ k. literal_value (escaped k ++ more) ≡ in_front (k ∷ []) (literal_value more) in
    elim (cases_eq c 92) [
      | inl e ↦ subst P (sym e) refl
      | inr a ↦ elim (cases_eq c 34) [
        | inl e ↦ subst P (sym e) refl
        | inr b ↦ elim (cases_eq c 10) [
          | inl e ↦ subst P (sym e) refl
          | inr d ↦ elim (cases_eq c 13) [
            | inl e ↦ subst P (sym e) refl
            | inr f ↦ elim (cases_eq c 9) [
              | inl e ↦ subst P (sym e) refl
              | inr g ↦ long_back c more (record { no_backslash = a; no_quote = b; no_newline = d; no_return = f; no_tab = g })
            ]
          ]
        ]
      ]
    ]

bytes_back : (s more v : List ℕ) → literal_value more ≡ Some v → literal_value (flat_map escaped s ++ more) ≡ Some (s ++ v)
bytes_back [] more v e = e
bytes_back (c ∷ s) more v e =
    ap literal_value (append_assoc (escaped c) (flat_map escaped s) more) ∙ byte_back c (flat_map escaped s ++ more) ∙ ap (in_front (c ∷ [])) (bytes_back s more v e)

pub text_is : (s : List ℕ) → IsWritten (token.Text s)
text_is s = record { whole = ap text_token (bytes_back s (34 ∷ []) [] refl) ∙ ap (λ v. Some (token.Text v)) (append-nil s) }

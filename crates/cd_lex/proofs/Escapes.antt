-- How the characters of a literal are written.
use Rattle.std.proofs.Common.{◌≡◌, ℕ, ◌≤◌, ◌<◌, ◌==◌, nat_lt, true, false, ◌||◌, if◌then◌else◌, List, [], ◌∷◌, ◌++◌, refl, ap, sym, ◌∙◌, arith, append-nil, encode_utf8, flat_map, inl, inr, chars}
use Rattle.std.specs.Fmt.{digits}
use Rattle.std.proofs.lemmas.Bool.{cases_lt, le-ltb, lt-ltb}
use Rattle.std.proofs.lemmas.Bool.Decides.{nat_tests}
use Rattle.std.proofs.lemmas.Fmt.{hex_one_digit, hex_two_digits}
use Rattle.std.specs.Char.{is_ascii_control}
use Rattle.std.specs.Str.{IsUtf8}
use Rattle.std.proofs.lemmas.Str.{encode_ascii, encodes-chars}
use Rattle.std.proofs.lemmas.Grind.{flat_map-append}
use lib.Utf8.{encodes}
use Rattle.cd_grammar.specs.Spelling.{escaped, by_digits}
use Rattle.cd_elem.specs.Base16.{hex_digit, hex_digits}
use Rattle.cd_lex.proofs.Utf8.{AllHigh, high_encode, differs}

-- no short escape
pub record IsLong (c : ℕ) : Type 0 where
  pub no_backslash : c ≡ 92 → ⊥
  pub no_quote : c ≡ 34 → ⊥
  pub no_newline : c ≡ 10 → ⊥
  pub no_return : c ≡ 13 → ⊥
  pub no_tab : c ≡ 9 → ⊥

pub long : (c : ℕ) → IsLong c → escaped c ≡ (if nat_lt c 16 then by_digits (hex_digit c ∷ []) else (if nat_lt c 32 || c == 127 then by_digits (hex_digits c) else c ∷ []))
long c l = rw (differs c 92 l.no_backslash, differs c 34 l.no_quote, differs c 10 l.no_newline, differs c 13 l.no_return, differs c 9 l.no_tab) refl

two_digits : (c : ℕ) → 16 ≤ c → c < 256 → (nat_lt c 32 || c == 127) ≡ true → IsLong c → by_digits (digits 16 false c) ≡ escaped c
two_digits c h k t l = ap by_digits (hex_two_digits false c h k) ∙ sym (long c l ∙ rw (le-ltb c 16 h, t) refl)

one_digit : (c : ℕ) → c < 16 → IsLong c → by_digits (digits 16 false c) ≡ escaped c
one_digit c h l = ap by_digits (hex_one_digit false c h) ∙ sym (long c l ∙ rw (lt-ltb c 16 h) refl)

ascii_bytes : (c : ℕ) → c < 128 → flat_map escaped (encode_utf8 c) ≡ escaped c
ascii_bytes c h = ap (flat_map escaped) (encode_ascii c h) ∙ append-nil (escaped c)

-- a control character with no short escape
pub control : (c : ℕ) → is_ascii_control c ≡ true → IsLong c → by_digits (digits 16 false c) ≡ flat_map escaped (encode_utf8 c)
control c h l =
    let small : c < 128 = grind (arith, nat_tests) in
    let tested : (nat_lt c 32 || c == 127) ≡ true = grind (arith, nat_tests) in
    elim (cases_lt c 16) [
      | inl k ↦ one_digit c k l ∙ sym (ascii_bytes c small)
      | inr k ↦ two_digits c k (omega arith) tested l ∙ sym (ascii_bytes c small)
    ]

pub itself : (c : ℕ) → 32 ≤ c → IsLong c → (c ≡ 127 → ⊥) → escaped c ≡ c ∷ []
itself c h l d = long c l ∙ rw (le-ltb c 16 (omega arith), le-ltb c 32 h, differs c 127 d) refl

high_is_long : (c : ℕ) → 128 ≤ c → IsLong c
high_is_long c h = record { no_backslash = λ e. omega arith; no_quote = λ e. omega arith; no_newline = λ e. omega arith; no_return = λ e. omega arith; no_tab = λ e. omega arith }

high_bytes : (bs : List ℕ) → AllHigh bs → flat_map escaped bs ≡ bs
high_bytes [] a = refl
high_bytes (b ∷ bs) a =
    ap (λ cs. cs ++ flat_map escaped bs) (itself b (omega (arith, a.0)) (high_is_long b a.0) (λ e. omega (arith, a.0, e))) ∙ ap (λ cs. b ∷ cs) (high_bytes bs a.1)

pub other : (c : ℕ) → is_ascii_control c ≡ false → IsLong c → encode_utf8 c ≡ flat_map escaped (encode_utf8 c)
other c h l =
    let from_32 : 32 ≤ c = grind (arith, nat_tests) in
    let no_delete : c ≡ 127 → ⊥ = λ e. grind (arith, nat_tests) in
    elim (cases_lt c 128) [
      | inl k ↦ encode_ascii c k ∙ sym (ascii_bytes c k ∙ itself c from_32 l no_delete)
      | inr k ↦ sym (high_bytes (encode_utf8 c) (high_encode c k))
    ]

each_byte : (ks : List ℕ) → flat_map (λ k. flat_map escaped (encode_utf8 k)) ks ≡ flat_map escaped (encodes ks)
each_byte [] = refl
each_byte (k ∷ ks) = ap (λ bs. flat_map escaped (encode_utf8 k) ++ bs) (each_byte ks) ∙ sym (flat_map-append escaped (encode_utf8 k) (encodes ks))

pub all_bytes : (bs : List ℕ) → IsUtf8 bs → flat_map (λ k. flat_map escaped (encode_utf8 k)) (chars bs) ≡ flat_map escaped bs
all_bytes bs u = each_byte (chars bs) ∙ ap (flat_map escaped) (encodes-chars bs u)

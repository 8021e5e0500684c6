-- The value of a literal in a text is a text.
use Rattle.std.proofs.Common.{◌≡◌, ℕ, ◌+◌, ◌/◌, length, cond, ◌≤◌, ◌<◌, ◌==◌, nat_lt, Bool, true, false, ◌&&◌, if◌then◌else◌, List, [], ◌∷◌, ◌++◌, Option, Some, None, refl, ap, sym, ◌∙◌, arith, encode_utf8, subst, inl, inr}
use Rattle.std.specs.Str.{IsUtf8}
use Rattle.std.proofs.lemmas.Bool.{cases_lt, le-ltb}
use Rattle.std.proofs.lemmas.Bool.Decides.{nat_tests}
use Rattle.std.proofs.lemmas.Str.{IsUtf8-nil, IsUtf8-append, IsUtf8-encode, encode_ascii, length-encode, len_utf8_bounds}
use lib.Utf8.{encode, encodes, scalar, scalars, low_scalar}
use lib.Utf8.{next as after_first}
use Rattle.cd_elem.specs.Base16.{hex_value}
use Rattle.cd_grammar.specs.Literals.{short_escape}
use Rattle.cd_lex.specs.declared.literal.LiteralState.{LiteralState}
use Rattle.cd_lex.specs.declared.literal.LiteralState.TheVariants.{Plain, Escape, Unicode, Digits}
use Rattle.cd_lex.specs.declared.literal.LiteralStep.{LiteralStep}
use Rattle.cd_lex.specs.declared.literal.LiteralStep.TheVariants.{Closes, Fails, Goes, Byte, Char}
use Rattle.cd_lex.specs.Quotes.{read_byte, escape_of, scalar_of, digit_of, read_on, longer, literal_from}

pub never : {A : Type 0} {x : A} → None ≡ Some x → ⊥
never e = cc

pub same_some : {A : Type 0} {x y : A} → Some x ≡ Some y → x ≡ y
same_some e = cc

one_byte : (b : ℕ) → b < 128 → IsUtf8 (b ∷ [])
one_byte b h = subst IsUtf8 (encode_ascii b h) (IsUtf8-encode b (low_scalar b (omega arith)))

-- What a byte gives.
plain_byte : (p q r : Bool) (k b : ℕ) → (if p then Closes else (if q then Goes Escape else (if r then Fails else Byte k))) ≡ Byte b → k ≡ b
plain_byte true q r k b e = let f : ⊥ = cc in absurd f
plain_byte false true r k b e = let f : ⊥ = cc in absurd f
plain_byte false false true k b e = let f : ⊥ = cc in absurd f
plain_byte false false false k b e = cc

short_of : (p q r s t : Bool) (b : ℕ) → (if p then Some 92 else (if q then Some 34 else (if r then Some 10 else (if s then Some 13 else (if t then Some 9 else None))))) ≡ Some b → b < 128
short_of true q r s t b e = let f = same_some e in omega (arith, f)
short_of false true r s t b e = let f = same_some e in omega (arith, f)
short_of false false true s t b e = let f = same_some e in omega (arith, f)
short_of false false false true t b e = let f = same_some e in omega (arith, f)
short_of false false false false true b e = let f = same_some e in omega (arith, f)
short_of false false false false false b e = absurd (never e)

no_byte : (p : Bool) (b : ℕ) (r : LiteralState) → (if p then Goes r else Fails) ≡ Byte b → ⊥
no_byte true b r e = cc
no_byte false b r e = cc

escape_byte : (o : Option ℕ) (k b : ℕ) → escape_of o k ≡ Byte b → o ≡ Some b
escape_byte (Some c) k b e = cc
escape_byte None k b e = absurd (no_byte (k == 117) b Unicode e)

digit_byte : (o : Option ℕ) (n v b : ℕ) → digit_of n v o ≡ Byte b → ⊥
digit_byte None n v b e = cc
digit_byte (Some d) n v b e = cc

digits_byte : (p q r : Bool) (n v k b : ℕ) → (if p then (if q then Char v else Fails) else (if r then digit_of n v (hex_value k) else Fails)) ≡ Byte b → ⊥
digits_byte true true r n v k b e = cc
digits_byte true false r n v k b e = cc
digits_byte false q true n v k b e = digit_byte (hex_value k) n v b e
digits_byte false q false n v k b e = cc

byte_low : (r : LiteralState) (k b : ℕ) → k < 128 → read_byte r k ≡ Byte b → b < 128
byte_low Plain k b h e = let f = plain_byte (k == 34) (k == 92) (k == 10) k b e in omega (arith, f, h)
byte_low Escape k b h e = short_of (k == 92) (k == 34) (k == 110) (k == 114) (k == 116) b (escape_byte (short_escape k) k b e)
byte_low Unicode k b h e = absurd (no_byte (k == 123) b (Digits 0 0) e)
byte_low (Digits n v) k b h e = absurd (digits_byte (k == 125) (nat_lt 0 n && scalar v) (nat_lt n 6) n v k b e)

plain_char : (p q r : Bool) (k c : ℕ) → (if p then Closes else (if q then Goes Escape else (if r then Fails else Byte k))) ≡ Char c → ⊥
plain_char true q r k c e = cc
plain_char false true r k c e = cc
plain_char false false true k c e = cc
plain_char false false false k c e = cc

no_char : (p : Bool) (c : ℕ) (r : LiteralState) → (if p then Goes r else Fails) ≡ Char c → ⊥
no_char true c r e = cc
no_char false c r e = cc

escape_char : (o : Option ℕ) (k c : ℕ) → escape_of o k ≡ Char c → ⊥
escape_char (Some b) k c e = cc
escape_char None k c e = no_char (k == 117) c Unicode e

digit_char : (o : Option ℕ) (n v c : ℕ) → digit_of n v o ≡ Char c → ⊥
digit_char None n v c e = cc
digit_char (Some d) n v c e = cc

closed_char : (p q : Bool) (v c : ℕ) → q ≡ scalar v → (if p && q then Char v else Fails) ≡ Char c → scalar c ≡ true
closed_char true true v c s e = let f : v ≡ c = cc in ap scalar (sym f) ∙ sym s
closed_char true false v c s e = let f : ⊥ = cc in absurd f
closed_char false q v c s e = let f : ⊥ = cc in absurd f

digits_char : (p r : Bool) (n v k c : ℕ) → (if p then scalar_of n v else (if r then digit_of n v (hex_value k) else Fails)) ≡ Char c → scalar c ≡ true
digits_char true r n v k c e = closed_char (nat_lt 0 n) (scalar v) v c refl e
digits_char false true n v k c e = absurd (digit_char (hex_value k) n v c e)
digits_char false false n v k c e = let f : ⊥ = cc in absurd f

char_scalar : (r : LiteralState) (k c : ℕ) → read_byte r k ≡ Char c → scalar c ≡ true
char_scalar Plain k c e = absurd (plain_char (k == 34) (k == 92) (k == 10) k c e)
char_scalar Escape k c e = absurd (escape_char (short_escape k) k c e)
char_scalar Unicode k c e = absurd (no_char (k == 123) c (Digits 0 0) e)
char_scalar (Digits n v) k c e = digits_char (k == 125) (nat_lt n 6) n v k c e

-- A value with a front.
lengthened : (w : List ℕ) (o : Option (List ℕ × ℕ)) (f : List ℕ × ℕ) → longer w o ≡ Some f → IsUtf8 w → ((g : List ℕ × ℕ) → o ≡ Some g → IsUtf8 g.0) → IsUtf8 f.0
lengthened w None f e u h = absurd (never e)
lengthened w (Some g) f e u h = subst IsUtf8 (ap (λ x. x.0) (same_some e)) (IsUtf8-append w g.0 u (h g refl))

picked : (x : LiteralStep) (more : LiteralState → Option (List ℕ × ℕ)) (f : List ℕ × ℕ) → read_on x more ≡ Some f
    → ((b : ℕ) → x ≡ Byte b → b < 128) → ((c : ℕ) → x ≡ Char c → scalar c ≡ true)
    → ((r : LiteralState) (g : List ℕ × ℕ) → more r ≡ Some g → IsUtf8 g.0) → IsUtf8 f.0
picked Closes more f e low sc h = subst IsUtf8 (ap (λ x. x.0) (same_some e)) IsUtf8-nil
picked Fails more f e low sc h = absurd (never e)
picked (Goes r) more f e low sc h = lengthened [] (more r) f e IsUtf8-nil (h r)
picked (Byte b) more f e low sc h = lengthened (b ∷ []) (more Plain) f e (one_byte b (low b refl)) (h Plain)
picked (Char c) more f e low sc h = lengthened (encode_utf8 c) (more Plain) f e (IsUtf8-encode c (sc c refl)) (h Plain)

-- Bytes past ASCII.
abbrev pub AllHigh : List ℕ → Type 0
AllHigh [] = Unit {0}
AllHigh (b ∷ bs) = (128 ≤ b) × AllHigh bs

pub differs : (c d : ℕ) → (c ≡ d → ⊥) → (c == d) ≡ false
differs c d h = grind (arith, nat_tests)

apart : (b d : ℕ) → 128 ≤ b → d < 128 → (b == d) ≡ false
apart b d h k = differs b d (λ e. omega (arith, e, h, k))

high_plain : (b : ℕ) → 128 ≤ b → read_byte Plain b ≡ Byte b
high_plain b h = rw (apart b 34 h (omega arith), apart b 92 h (omega arith), apart b 10 h (omega arith)) refl

no_hex : (b : ℕ) → 128 ≤ b → hex_value b ≡ None
no_hex b h = grind (arith, nat_tests)

no_short : (b : ℕ) → 128 ≤ b → short_escape b ≡ None
no_short b h = rw (apart b 92 h (omega arith), apart b 34 h (omega arith), apart b 110 h (omega arith), apart b 114 h (omega arith), apart b 116 h (omega arith)) refl

few : (p : Bool) (n v : ℕ) → (if p then digit_of n v None else Fails) ≡ Fails
few true n v = refl
few false n v = refl

high_escape : (b : ℕ) → 128 ≤ b → read_byte Escape b ≡ Fails
high_escape b h = rw (no_short b h, apart b 117 h (omega arith)) refl

high_unicode : (b : ℕ) → 128 ≤ b → read_byte Unicode b ≡ Fails
high_unicode b h = rw (apart b 123 h (omega arith)) refl

high_digits : (n v b : ℕ) → 128 ≤ b → read_byte (Digits n v) b ≡ Fails
high_digits n v b h = rw (apart b 125 h (omega arith), no_hex b h) (few (nat_lt n 6) n v)

record Rest (bs rest : List ℕ) (f : List ℕ × ℕ) : Type 0 where
  found : List ℕ × ℕ
  is : literal_from Plain rest ≡ Some found
  value : f.0 ≡ bs ++ found.0

one_more : (b : ℕ) (bs rest : List ℕ) (o : Option (List ℕ × ℕ)) (f : List ℕ × ℕ) → longer (b ∷ []) o ≡ Some f
    → ((g : List ℕ × ℕ) → o ≡ Some g → Rest bs rest g) → Rest (b ∷ bs) rest f
one_more b bs rest None f e h = absurd (never e)
one_more b bs rest (Some g) f e h =
    let r = h g refl in
    record { found = r.found; is = r.is; value = sym (ap (λ x. x.0) (same_some e)) ∙ ap (λ v. b ∷ v) r.value }

through : (bs rest : List ℕ) (f : List ℕ × ℕ) → AllHigh bs → literal_from Plain (bs ++ rest) ≡ Some f → Rest bs rest f
through [] rest f a e = record { found = f; is = e; value = refl }
through (b ∷ bs) rest f a e =
    one_more b bs rest (literal_from Plain (bs ++ rest)) f (sym (ap (λ x. read_on x (λ s. literal_from s (bs ++ rest))) (high_plain b a.0)) ∙ e) (λ g k. through bs rest g a.1 k)

fails : (r : LiteralState) (b : ℕ) (bs : List ℕ) (f : List ℕ × ℕ) → read_byte r b ≡ Fails → literal_from r (b ∷ bs) ≡ Some f → ⊥
fails r b bs f h e = never (sym (ap (λ x. read_on x (λ s. literal_from s bs)) h) ∙ e)

past_ascii : (x y : Bool) (k : ℕ) → AllHigh (cond x ((192 + k / 64) ∷ after_first k ∷ []) (cond y ((224 + k / 4096) ∷ after_first (k / 64) ∷ after_first k ∷ [])
    ((240 + k / 262144) ∷ after_first (k / 4096) ∷ after_first (k / 64) ∷ after_first k ∷ [])))
past_ascii true y k = (omega arith, (omega arith, tt))
past_ascii false true k = (omega arith, (omega arith, (omega arith, tt)))
past_ascii false false k = (omega arith, (omega arith, (omega arith, (omega arith, tt))))

high_when : (b : Bool) (xs ys : List ℕ) → b ≡ false → AllHigh ys → AllHigh (cond b xs ys)
high_when true xs ys e a = let f : ⊥ = cc in absurd f
high_when false xs ys e a = a

pub high_encode : (k : ℕ) → 128 ≤ k → AllHigh (encode k)
unfolding encode
high_encode k h = high_when (nat_lt k 128) (k ∷ []) _ (le-ltb k 128 h) (past_ascii (nat_lt k 2048) (nat_lt k 65536) k)

stops : (r : LiteralState) (bs rest : List ℕ) (f : List ℕ × ℕ) → ((b : ℕ) → 128 ≤ b → read_byte r b ≡ Fails) → AllHigh bs → 1 ≤ length bs → literal_from r (bs ++ rest) ≡ Some f → ⊥
stops r [] rest f h a l e = omega arith
stops r (b ∷ bs) rest f h a l e = fails r b (bs ++ rest) f (h b a.0) e

pub both : (p q : Bool) → (p && q) ≡ true → (p ≡ true) × (q ≡ true)
both true q e = (refl, e)
both false q e = let f : ⊥ = cc in absurd f

high_char : (r : LiteralState) (k : ℕ) (rest : List ℕ) (f : List ℕ × ℕ) → 128 ≤ k → scalar k ≡ true → literal_from r (encode k ++ rest) ≡ Some f
    → ((g : List ℕ × ℕ) → literal_from Plain rest ≡ Some g → IsUtf8 g.0) → IsUtf8 f.0
high_char Plain k rest f h s e ih =
    let r = through (encode k) rest f (high_encode k h) e in
    subst IsUtf8 (sym r.value) (IsUtf8-append (encode k) r.found.0 (IsUtf8-encode k s) (ih r.found r.is))
high_char Escape k rest f h s e ih = absurd (stops Escape (encode k) rest f high_escape (high_encode k h) (omega (arith, length-encode k, len_utf8_bounds k)) e)
high_char Unicode k rest f h s e ih = absurd (stops Unicode (encode k) rest f high_unicode (high_encode k h) (omega (arith, length-encode k, len_utf8_bounds k)) e)
high_char (Digits n v) k rest f h s e ih = absurd (stops (Digits n v) (encode k) rest f (high_digits n v) (high_encode k h) (omega (arith, length-encode k, len_utf8_bounds k)) e)

value_is_text : (ks : List ℕ) → scalars ks ≡ true → (r : LiteralState) (f : List ℕ × ℕ) → literal_from r (encodes ks) ≡ Some f → IsUtf8 f.0
value_is_text [] s r f e = absurd (never e)
value_is_text (k ∷ ks) s r f e =
    let b = both (scalar k) (scalars ks) s in
    elim (cases_lt k 128) [
      | inl h ↦ picked (read_byte r k) (λ s. literal_from s (encodes ks)) f (ap (λ bs. literal_from r (bs ++ encodes ks)) (sym (encode_ascii k h)) ∙ e)
          (λ c i. byte_low r k c h i) (λ c i. char_scalar r k c i) (λ q g i. value_is_text ks b.1 q g i)
      | inr h ↦ high_char r k (encodes ks) f h b.0 e (λ g i. value_is_text ks b.1 Plain g i)
    ]

pub is_text : (text : List ℕ) (f : List ℕ × ℕ) → IsUtf8 text → literal_from Plain text ≡ Some f → IsUtf8 f.0
is_text text f u e = value_is_text u.0 u.1.0 Plain f (ap (literal_from Plain) u.1.1 ∙ e)

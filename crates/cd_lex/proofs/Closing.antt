-- The literal that is found is the one that ends first, by the definition of literals.
use Rattle.std.proofs.Common.{◌≡◌, ℕ, zero, suc, ◌+◌, ◌≤◌, ◌<◌, ◌==◌, ◌*◌, nat_lt, Bool, true, false, ◌&&◌, if◌then◌else◌, List, [], ◌∷◌, length, take, Option, Some, None, refl, ap, sym, ◌∙◌, arith, add-one, encode_utf8}
use lib.Utf8.{scalar}
use Rattle.cd_elem.specs.Base16.{hex_value}
use Rattle.cd_grammar.specs.Literals.{short_escape, in_front, no_more, short_or, digit_or, literal_value, escape_value, unicode_value, unicode_digits}
use Rattle.cd_lex.specs.declared.literal.LiteralState.{LiteralState}
use Rattle.cd_lex.specs.declared.literal.LiteralState.TheVariants.{Plain, Escape, Unicode, Digits}
use Rattle.cd_lex.specs.declared.literal.LiteralStep.{LiteralStep}
use Rattle.cd_lex.specs.declared.literal.LiteralStep.TheVariants.{Closes, Fails, Goes, Byte, Char}
use Rattle.cd_lex.specs.Quotes.{read_byte, escape_of, scalar_of, digit_of, read_on, longer, literal_from, plain}

-- the value of what stands behind, if the closing quote is the last byte
abbrev pub follow : LiteralStep → List ℕ → (LiteralState → Option (List ℕ)) → Option (List ℕ)
follow Closes cs more = no_more cs
follow Fails cs more = None
follow (Goes r) cs more = in_front [] (more r)
follow (Byte b) cs more = in_front (b ∷ []) (more Plain)
follow (Char c) cs more = in_front (encode_utf8 c) (more Plain)

abbrev pub value_from : LiteralState → List ℕ → Option (List ℕ)
value_from r [] = None
value_from r (c ∷ cs) = follow (read_byte r c) cs (λ s. value_from s cs)

pub record Ends (V : List ℕ → Option (List ℕ)) (cs : List ℕ) (found : List ℕ × ℕ) : Type 0 where
  pub within : found.1 ≤ length cs
  pub value : V (take found.1 cs) ≡ Some found.0
  pub longer : (m : ℕ) → found.1 < m → m ≤ length cs → V (take m cs) ≡ None

-- a value and a size are found where the front of this size has this value and no longer front has one, and nothing where no front has one
abbrev pub ScanOk : (List ℕ → Option (List ℕ)) → List ℕ → Option (List ℕ × ℕ) → Type 0
ScanOk V cs None = (m : ℕ) → V (take m cs) ≡ None
ScanOk V cs (Some found) = Ends V cs found

module _ (V : List ℕ → Option (List ℕ)) (c : ℕ) (cs : List ℕ) (n : V [] ≡ None) where
  lifted : (w : List ℕ) (k : List ℕ → Option (List ℕ)) (o : Option (List ℕ × ℕ)) → ((ds : List ℕ) → V (c ∷ ds) ≡ in_front w (k ds))
      → ScanOk k cs o → ScanOk V (c ∷ cs) (longer w o)
  lifted w k None h a = none where
    none : (m : ℕ) → V (take m (c ∷ cs)) ≡ None
    none zero = n
    none (suc m) = h (take m cs) ∙ ap (in_front w) (a m)
  lifted w k (Some f) h a = record {
    within = omega (arith, a.within);
    value = rw (add-one f.1) (h (take f.1 cs) ∙ ap (in_front w) a.value);
    longer = further;
  } where
    further : (m : ℕ) → f.1 + 1 < m → m ≤ length (c ∷ cs) → V (take m (c ∷ cs)) ≡ None
    further zero l b = absurd (omega arith)
    further (suc m) l b = h (take m cs) ∙ ap (in_front w) (a.longer m (omega arith) (omega arith))

  over : (x : LiteralStep) → ((ds : List ℕ) → V (c ∷ ds) ≡ follow x ds (λ s. value_from s ds)) → ((s : LiteralState) → ScanOk (value_from s) cs (literal_from s cs))
      → ScanOk V (c ∷ cs) (read_on x (λ s. literal_from s cs))
  over Closes h a = record { within = omega arith; value = h []; longer = further cs } where
    further : (es : List ℕ) (m : ℕ) → 1 < m → m ≤ length (c ∷ es) → V (take m (c ∷ es)) ≡ None
    further es zero l b = absurd (omega arith)
    further es (suc zero) l b = absurd (omega arith)
    further [] (suc (suc m)) l b = absurd (omega arith)
    further (d ∷ es) (suc (suc m)) l b = h (d ∷ take m es)
  over Fails h a = none where
    none : (m : ℕ) → V (take m (c ∷ cs)) ≡ None
    none zero = n
    none (suc m) = h (take m cs)
  over (Goes s) h a = lifted [] (value_from s) (literal_from s cs) h (a s)
  over (Byte b) h a = lifted (b ∷ []) (value_from Plain) (literal_from Plain cs) h (a Plain)
  over (Char b) h a = lifted (encode_utf8 b) (value_from Plain) (literal_from Plain cs) h (a Plain)

scanned : (cs : List ℕ) (r : LiteralState) → ScanOk (value_from r) cs (literal_from r cs)
scanned [] r = none where
  none : (m : ℕ) → value_from r (take m []) ≡ None
  none zero = refl
  none (suc m) = refl
scanned (c ∷ cs) r = over (value_from r) c cs refl (read_byte r c) (λ ds. refl) (λ s. scanned cs s)

-- The same by the definition.
abbrev pub meant : LiteralState → List ℕ → Option (List ℕ)
meant Plain cs = literal_value cs
meant Escape cs = escape_value cs
meant Unicode cs = unicode_value cs
meant (Digits count value) cs = unicode_digits count value cs

no_front : (o : Option (List ℕ)) → in_front [] o ≡ o
no_front None = refl
no_front (Some v) = refl

module _ (c : ℕ) (cs : List ℕ) (k : LiteralState → Option (List ℕ)) (h : (s : LiteralState) → k s ≡ meant s cs) where
  went : (s : LiteralState) → in_front [] (k s) ≡ meant s cs
  went s = no_front (k s) ∙ h s

  in_plain : (a b d : Bool) → follow (if a then Closes else (if b then Goes Escape else (if d then Fails else Byte c))) cs k
      ≡ (if a then no_more cs else (if b then escape_value cs else (if d then None else in_front (c ∷ []) (literal_value cs))))
  in_plain true b d = refl
  in_plain false true d = went Escape
  in_plain false false true = refl
  in_plain false false false = ap (in_front (c ∷ [])) (h Plain)

  to_unicode : (a : Bool) → follow (if a then Goes Unicode else Fails) cs k ≡ (if a then unicode_value cs else None)
  to_unicode true = went Unicode
  to_unicode false = refl

  in_escape : (o : Option ℕ) → follow (escape_of o c) cs k ≡ short_or o (literal_value cs) (if c == 117 then unicode_value cs else None)
  in_escape (Some b) = ap (in_front (b ∷ [])) (h Plain)
  in_escape None = to_unicode (c == 117)

  in_unicode : (a : Bool) → follow (if a then Goes (Digits 0 0) else Fails) cs k ≡ (if a then unicode_digits 0 0 cs else None)
  in_unicode true = went (Digits 0 0)
  in_unicode false = refl

  to_scalar : (a : Bool) (v : ℕ) → follow (if a then Char v else Fails) cs k ≡ (if a then in_front (encode_utf8 v) (literal_value cs) else None)
  to_scalar true v = ap (in_front (encode_utf8 v)) (h Plain)
  to_scalar false v = refl

  to_digit : (n v : ℕ) (o : Option ℕ) → follow (digit_of n v o) cs k ≡ digit_or o (λ d. unicode_digits (n + 1) (v * 16 + d) cs)
  to_digit n v None = refl
  to_digit n v (Some d) = went (Digits (n + 1) (v * 16 + d))

  few : (b : Bool) (n v : ℕ) → follow (if b then digit_of n v (hex_value c) else Fails) cs k ≡ (if b then digit_or (hex_value c) (λ d. unicode_digits (n + 1) (v * 16 + d) cs) else None)
  few true n v = to_digit n v (hex_value c)
  few false n v = refl

  in_digits : (a : Bool) (n v : ℕ) → follow (if a then scalar_of n v else (if nat_lt n 6 then digit_of n v (hex_value c) else Fails)) cs k
      ≡ (if a then (if nat_lt 0 n && scalar v then in_front (encode_utf8 v) (literal_value cs) else None)
      else (if nat_lt n 6 then digit_or (hex_value c) (λ d. unicode_digits (n + 1) (v * 16 + d) cs) else None))
  in_digits true n v = to_scalar (nat_lt 0 n && scalar v) v
  in_digits false n v = few (nat_lt n 6) n v

pub means : (cs : List ℕ) (r : LiteralState) → value_from r cs ≡ meant r cs
means [] Plain = refl
means [] Escape = refl
means [] Unicode = refl
means [] (Digits n v) = refl
means (c ∷ cs) Plain = in_plain c cs (λ s. value_from s cs) (λ s. means cs s) (c == 34) (c == 92) (c == 10)
means (c ∷ cs) Escape = in_escape c cs (λ s. value_from s cs) (λ s. means cs s) (short_escape c)
means (c ∷ cs) Unicode = in_unicode c cs (λ s. value_from s cs) (λ s. means cs s) (c == 123)
means (c ∷ cs) (Digits n v) = in_digits c cs (λ s. value_from s cs) (λ s. means cs s) (c == 125) n v

-- a search by the one is a search by the other
as_meant : (V W : List ℕ → Option (List ℕ)) (cs : List ℕ) (o : Option (List ℕ × ℕ)) → ((ds : List ℕ) → V ds ≡ W ds) → ScanOk V cs o → ScanOk W cs o
as_meant V W cs None e a = λ m. sym (e (take m cs)) ∙ a m
as_meant V W cs (Some f) e a =
    record { within = a.within; value = sym (e (take f.1 cs)) ∙ a.value; longer = λ m l k. sym (e (take m cs)) ∙ a.longer m l k }

pub inside_ok : (cs : List ℕ) → ScanOk literal_value cs (literal_from plain cs)
inside_ok cs = as_meant (value_from Plain) literal_value cs (literal_from plain cs) (λ ds. means ds Plain) (scanned cs Plain)

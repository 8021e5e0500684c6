-- The text of a value at each of its parts.
use Rattle.std.proofs.Common.{◌≡◌, ℕ, ◌==◌, nat_lt, Bool, true, false, ◌||◌, if◌then◌else◌, List, [], ◌∷◌, ◌++◌, map, Some, refl, ap, ◌∙◌, arith, codes, encode_utf8, flat_map}
use Rattle.cd_elem.specs.Base16.{hex_digit, hex_digits}
use Rattle.cd_elem.specs.declared.value.Value.{Value as Result}
use Rattle.cd_meaning.specs.Stream.{Value, Values, NoValues, Another}
use Rattle.cd_elem.specs.declared.value.Value.TheVariants as result
use Rattle.cd_meaning.specs.Values.{values_of, value_meaning, bytes_are, text_is, char_is, some_is, pair_is, list_is}
use Rattle.cd_meaning.specs.ValueText.{value_text}
use Rattle.cd_report.specs.ValueText.{char_text, byte_text, quoted, separated, text_of}

-- what is quoted, one after the other
module _ (text other : ℕ → List ℕ) (same : (x : ℕ) → other x ≡ text x) (each : List ℕ → List ℕ) (none : each [] ≡ []) (more : (x : ℕ) (xs : List ℕ) → each (x ∷ xs) ≡ other x ++ each xs) where
  each_is : (xs : List ℕ) → each xs ≡ flat_map text xs
  each_is [] = none
  each_is (x ∷ xs) = more x xs ∙ ap (λ t. t ++ each xs) (same x) ∙ ap (λ t. text x ++ t) (each_is xs)

  quoted_is : (xs : List ℕ) → quoted (each xs) ≡ quoted (flat_map text xs)
  quoted_is xs = ap quoted (each_is xs)

-- a control character takes one digit or two
two_tests : (a b l m : Bool) (c : ℕ) → (l ≡ true → m ≡ true)
    → (if a then 92 ∷ c ∷ [] else (if b then codes "\\u{7f}" else (if l then codes "\\u{" ++ hex_digit c ∷ codes "}" else (if m then codes "\\u{" ++ hex_digits c ++ codes "}" else encode_utf8 c))))
    ≡ (if a then 92 ∷ c ∷ [] else (if b then codes "\\u{7f}" else (if m then codes "\\u{" ++ (if l then hex_digit c ∷ [] else hex_digits c) ++ codes "}" else encode_utf8 c)))
two_tests true b l m c h = refl
two_tests false true l m c h = refl
two_tests false false true true c h = refl
two_tests false false true false c h = let e : false ≡ true = h refl in let f : ⊥ = cc in absurd f
two_tests false false false true c h = refl
two_tests false false false false c h = refl

small : (c : ℕ) → nat_lt c 16 ≡ true → nat_lt c 32 ≡ true
small c h = grind arith

same_char : (c : ℕ) → (if c == 34 || c == 92 then 92 ∷ c ∷ [] else (if c == 127 then codes "\\u{7f}"
    else (if nat_lt c 16 then codes "\\u{" ++ hex_digit c ∷ codes "}" else (if nat_lt c 32 then codes "\\u{" ++ hex_digits c ++ codes "}" else encode_utf8 c)))) ≡ char_text c
same_char c = two_tests (c == 34 || c == 92) (c == 127) (nat_lt c 16) (nat_lt c 32) c (small c)

bytes_text : (bytes : List ℕ) → value_text (Value.BytesV bytes) ≡ quoted (flat_map byte_text bytes)
bytes_text = quoted_is byte_text byte_text (λ x. refl) _ refl (λ x xs. refl)

chars_text : (chars : List ℕ) → value_text (Value.TextV chars) ≡ quoted (flat_map char_text chars)
chars_text = quoted_is char_text _ same_char _ refl (λ x xs. refl)

-- the values of a list, with what stands between them
abbrev texts_of : Values → List (List ℕ)
texts_of NoValues = []
texts_of (Another v vs) = value_text v ∷ texts_of vs

module _ (first behind : Values → List ℕ) (first_none : first NoValues ≡ []) (first_more : (v : Value) (vs : Values) → first (Another v vs) ≡ value_text v ++ behind vs)
    (behind_none : behind NoValues ≡ []) (behind_more : (v : Value) (vs : Values) → behind (Another v vs) ≡ codes ", " ++ value_text v ++ behind vs) where
  behind_is : (vs : Values) → behind vs ≡ separated (codes ", ") (texts_of vs)
  behind_is NoValues = behind_none
  behind_is (Another v vs) = behind_more v vs ∙ ap (λ t. codes ", " ++ value_text v ++ t) (behind_is vs)

  first_is : (vs : Values) → first vs ≡ separated [] (texts_of vs)
  first_is NoValues = first_none
  first_is (Another v vs) = first_more v vs ∙ ap (λ t. value_text v ++ t) (behind_is vs)

  in_brackets : (vs : Values) → codes "[" ++ first vs ++ codes "]" ≡ codes "[" ++ separated [] (texts_of vs) ++ codes "]"
  in_brackets vs = ap (λ t. codes "[" ++ t ++ codes "]") (first_is vs)

values_text : (vs : Values) → value_text (Value.ListV vs) ≡ codes "[" ++ separated [] (texts_of vs) ++ codes "]"
values_text = in_brackets _ _ refl (λ v ws. refl) refl (λ v ws. refl)

texts_are : (vs : List Result) → texts_of (values_of (map value_meaning vs)) ≡ map text_of vs
texts_are [] = refl
texts_are (v ∷ vs) = ap (λ ts. text_of v ∷ ts) (texts_are vs)

-- ---- the text of a value of each of these sorts

pub bytes_value : (bytes : List ℕ) → text_of (result.BytesV bytes) ≡ quoted (flat_map byte_text bytes)
bytes_value bytes = ap value_text (bytes_are bytes) ∙ bytes_text bytes

pub text_value : (chars : List ℕ) → text_of (result.TextV chars) ≡ quoted (flat_map char_text chars)
text_value chars = ap value_text (text_is chars) ∙ chars_text chars

pub char_value : (c : ℕ) → text_of (result.Char c) ≡ quoted (flat_map char_text (c ∷ []))
char_value c = ap value_text (char_is c) ∙ chars_text (c ∷ [])

pub some_value : (v : Result) → text_of (result.Maybe (Some v)) ≡ codes "some " ++ text_of v
some_value v = ap value_text (some_is v)

pub pair_value : (u v : Result) → text_of (result.Pair u v) ≡ codes "(" ++ text_of u ++ codes ", " ++ text_of v ++ codes ")"
pair_value u v = ap value_text (pair_is u v)

pub list_value : (vs : List Result) → text_of (result.ListV vs) ≡ codes "[" ++ separated [] (map text_of vs) ++ codes "]"
list_value vs = ap value_text (list_is vs) ∙ values_text (values_of (map value_meaning vs)) ∙ ap (λ ts. codes "[" ++ separated [] ts ++ codes "]") (texts_are vs)

pub ruleset value_texts = (bytes_value, text_value, char_value, some_value, pair_value, list_value)

-- The texts of values.
use Rattle.std.specs.Prelude.{ℕ, ◌==◌, nat_lt, ◌||◌, true, false, if◌then◌else◌, List, [], ◌∷◌, ◌++◌, codes, encode_utf8, decimal}
use Rattle.cd_elem.specs.Base16.{hex_digit, hex_digits}
use Rattle.cd_meaning.specs.Stream.{Value, MaybeValue, Absent, Present, Values, NoValues, Another}

abbrev char_text : ℕ → List ℕ
char_text c =
    if c == 34 || c == 92 then 92 ∷ c ∷ []
    else (if c == 127 then codes "\\u{7f}"
    else (if nat_lt c 16 then codes "\\u{" ++ hex_digit c ∷ codes "}"
    else (if nat_lt c 32 then codes "\\u{" ++ hex_digits c ++ codes "}" else encode_utf8 c)))

abbrev byte_text : ℕ → List ℕ
byte_text b =
    if b == 34 || b == 92 then 92 ∷ b ∷ []
    else (if nat_lt b 32 || nat_lt 126 b then codes "\\x" ++ hex_digits b else b ∷ [])

abbrev each_text : (ℕ → List ℕ) → List ℕ → List ℕ
each_text text [] = []
each_text text (x ∷ xs) = text x ++ each_text text xs

abbrev quoted : (ℕ → List ℕ) → List ℕ → List ℕ
quoted text xs = codes "\"" ++ each_text text xs ++ codes "\""

abbrev mutual
  pub value_text : Value → List ℕ
  value_text Value.Unit = codes "()"
  value_text (Value.Num n) = decimal n
  value_text (Value.Bool true) = codes "true"
  value_text (Value.Bool false) = codes "false"
  value_text (Value.Byte b) = decimal b
  value_text (Value.Char c) = quoted char_text (c ∷ [])
  value_text (Value.BytesV bytes) = quoted byte_text bytes
  value_text (Value.TextV chars) = quoted char_text chars
  value_text (Value.Maybe v) = maybe_text v
  value_text (Value.Pair u v) = codes "(" ++ value_text u ++ codes ", " ++ value_text v ++ codes ")"
  value_text (Value.ListV vs) = codes "[" ++ values_text vs ++ codes "]"

  maybe_text : MaybeValue → List ℕ
  maybe_text Absent = codes "none"
  maybe_text (Present v) = codes "some " ++ value_text v

  values_text : Values → List ℕ
  values_text NoValues = []
  values_text (Another v vs) = value_text v ++ more_text vs

  more_text : Values → List ℕ
  more_text NoValues = []
  more_text (Another v vs) = codes ", " ++ value_text v ++ more_text vs

-- What the text of a value is made of. The text itself is `value_text` of cd_meaning.
use Rattle.std.specs.Prelude.{ℕ, ◌==◌, nat_lt, ◌||◌, if◌then◌else◌, List, [], ◌∷◌, ◌++◌, codes, encode_utf8}
use Rattle.cd_elem.specs.Base16.{hex_digit, hex_digits}
use Rattle.cd_elem.specs.declared.value.Value.{Value}
use Rattle.cd_meaning.specs.ValueText.{value_text}
use Rattle.cd_meaning.specs.Values.{value_meaning}

-- as few digits of base 16 as serve
abbrev pub fewest_digits : ℕ → List ℕ
fewest_digits n = if nat_lt n 16 then hex_digit n ∷ [] else hex_digits n

-- a character in quotes
abbrev pub char_text : ℕ → List ℕ
char_text c =
    if c == 34 || c == 92 then 92 ∷ c ∷ []
    else (if c == 127 then codes "\\u{7f}" else (if nat_lt c 32 then codes "\\u{" ++ fewest_digits c ++ codes "}" else encode_utf8 c))

-- a byte in quotes
abbrev pub byte_text : ℕ → List ℕ
byte_text b =
    if b == 34 || b == 92 then 92 ∷ b ∷ []
    else (if nat_lt b 32 || nat_lt 126 b then codes "\\x" ++ hex_digits b else b ∷ [])

abbrev pub quoted : List ℕ → List ℕ
quoted inside = codes "\"" ++ inside ++ codes "\""

abbrev pub text_of : Value → List ℕ
text_of v = value_text (value_meaning v)

-- before the text at this place of a list
abbrev pub comma_before : ℕ → List ℕ
comma_before place = if place == 0 then [] else codes ", "

-- this stands before the first of these texts, and a comma and a blank before each other one
abbrev pub separated : List ℕ → List (List ℕ) → List ℕ
separated before [] = []
separated before (t ∷ ts) = before ++ t ++ separated (codes ", ") ts

-- The reading of a literal, byte by byte.
use Rattle.std.specs.Prelude.{ℕ, ◌+◌, ◌*◌, ◌<◌, ◌≤◌, ◌==◌, nat_lt, ◌&&◌, if◌then◌else◌, List, [], ◌∷◌, ◌++◌, Option, Some, None, encode_utf8}
use lib.Utf8.{scalar}
use Rattle.cd_elem.specs.declared.token.Token.{Token}
use Rattle.cd_elem.specs.declared.token.Token.TheVariants as token
use Rattle.cd_elem.specs.Ascii.{newline}
use Rattle.cd_elem.specs.Base16.{hex_value}
use Rattle.cd_grammar.specs.Literals.{short_escape}
use Rattle.cd_lex.specs.declared.literal.LiteralState.{LiteralState}
use Rattle.cd_lex.specs.declared.literal.LiteralState.TheVariants.{Plain, Escape, Unicode, Digits}
use Rattle.cd_lex.specs.declared.literal.LiteralStep.{LiteralStep}
use Rattle.cd_lex.specs.declared.literal.LiteralStep.TheVariants.{Closes, Fails, Goes, Byte, Char}

abbrev pub plain : LiteralState
plain = Plain

abbrev pub read_plain : ℕ → LiteralStep
read_plain c = if c == 34 then Closes else (if c == 92 then Goes Escape else (if c == newline then Fails else Byte c))

abbrev pub escape_of : Option ℕ → ℕ → LiteralStep
escape_of (Some b) c = Byte b
escape_of None c = if c == 117 then Goes Unicode else Fails

abbrev pub read_escape : ℕ → LiteralStep
read_escape c = escape_of (short_escape c) c

abbrev pub read_unicode : ℕ → LiteralStep
read_unicode c = if c == 123 then Goes (Digits 0 0) else Fails

abbrev pub scalar_of : ℕ → ℕ → LiteralStep
scalar_of count value = if nat_lt 0 count && scalar value then Char value else Fails

abbrev pub digit_of : ℕ → ℕ → Option ℕ → LiteralStep
digit_of count value None = Fails
digit_of count value (Some d) = Goes (Digits (count + 1) (value * 16 + d))

abbrev pub read_digit : ℕ → ℕ → ℕ → LiteralStep
read_digit count value c =
    if c == 125 then scalar_of count value
    else (if nat_lt count 6 then digit_of count value (hex_value c) else Fails)

abbrev pub read_byte : LiteralState → ℕ → LiteralStep
read_byte Plain c = read_plain c
read_byte Escape c = read_escape c
read_byte Unicode c = read_unicode c
read_byte (Digits count value) c = read_digit count value c

-- the value and the size of what is behind, with these bytes in front
abbrev pub longer : List ℕ → Option (List ℕ × ℕ) → Option (List ℕ × ℕ)
longer front None = None
longer front (Some found) = Some (front ++ found.0, found.1 + 1)

abbrev pub read_on : LiteralStep → (LiteralState → Option (List ℕ × ℕ)) → Option (List ℕ × ℕ)
read_on Closes more = Some ([], 1)
read_on Fails more = None
read_on (Goes r) more = longer [] (more r)
read_on (Byte b) more = longer (b ∷ []) (more Plain)
read_on (Char c) more = longer (encode_utf8 c) (more Plain)

-- the value of the literal that ends first, and how many bytes it takes from here
abbrev pub literal_from : LiteralState → List ℕ → Option (List ℕ × ℕ)
literal_from r [] = None
literal_from r (c ∷ cs) = read_on (read_byte r c) (λ s. literal_from s cs)

-- a number of at most six hexadecimal digits
pub record HasDigits (count value : ℕ) : Type 0 where
  pub none : count ≤ 0 → value < 1
  pub one : count ≤ 1 → value < 16
  pub two : count ≤ 2 → value < 256
  pub three : count ≤ 3 → value < 4096
  pub four : count ≤ 4 → value < 65536
  pub five : count ≤ 5 → value < 1048576
  pub six : value < 16777216
  pub few : count ≤ 6

abbrev pub Fits : LiteralState → Type 0
Fits (Digits count value) = HasDigits count value
Fits _ = Unit {0}

abbrev pub Continues : LiteralStep → Type 0
Continues (Goes r) = Fits r
Continues _ = Unit {0}

abbrev pub IsSmall : Option ℕ → Type 0
IsSmall None = Unit {0}
IsSmall (Some d) = d < 16

-- the same behind n bytes with this value
abbrev pub found_behind : List ℕ → ℕ → Option (List ℕ × ℕ) → Option (List ℕ × ℕ)
found_behind front n None = None
found_behind front n (Some found) = Some (front ++ found.0, n + found.1)

abbrev pub literal_token : Option (List ℕ × ℕ) → Option (Token × ℕ)
literal_token None = None
literal_token (Some found) = Some (token.Text found.0, found.1 + 1)

-- the literal whose opening quote stands before this text, and its length with that quote
abbrev pub literal_found : List ℕ → Option (Token × ℕ)
literal_found text = literal_token (literal_from Plain text)

abbrev pub IsFoundWithin : Option (List ℕ × ℕ) → ℕ → Type 0
IsFoundWithin None n = Unit {0}
IsFoundWithin (Some found) n = found.1 ≤ n

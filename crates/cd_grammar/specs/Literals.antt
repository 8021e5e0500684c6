-- The values of literals.
use Rattle.std.specs.Prelude.{ℕ, ◌+◌, ◌-◌, ◌*◌, ◌==◌, nat_lt, nat_le, ◌&&◌, if◌then◌else◌, List, [], ◌∷◌, ◌++◌, Option, Some, None, encode_utf8}
use lib.Utf8.{scalar}
use Rattle.cd_elem.specs.Ascii.{newline}
use Rattle.cd_elem.specs.Base16.{hex_value}

-- the byte that a short escape stands for
abbrev pub short_escape : ℕ → Option ℕ
short_escape c =
    if c == 92 then Some 92
    else (if c == 34 then Some 34
    else (if c == 110 then Some newline
    else (if c == 114 then Some 13
    else (if c == 116 then Some 9 else None))))

abbrev pub in_front : List ℕ → Option (List ℕ) → Option (List ℕ)
in_front front None = None
in_front front (Some value) = Some (front ++ value)

abbrev pub no_more : List ℕ → Option (List ℕ)
no_more [] = Some []
no_more (c ∷ cs) = None

-- behind a byte that is no quote and no newline, if it begins no escape
abbrev pub short_or : Option ℕ → Option (List ℕ) → Option (List ℕ) → Option (List ℕ)
short_or None rest other = other
short_or (Some b) rest other = in_front (b ∷ []) rest

-- one more digit of a number of at most six, or none of it
abbrev pub digit_or : Option ℕ → (ℕ → Option (List ℕ)) → Option (List ℕ)
digit_or None more = None
digit_or (Some d) more = more d

abbrev mutual
  -- The value of a literal, where these bytes stand behind its opening quote and the closing one is the last of them.
  pub literal_value : List ℕ → Option (List ℕ)
  literal_value [] = None
  literal_value (c ∷ cs) =
      if c == 34 then no_more cs
      else (if c == 92 then escape_value cs
      else (if c == newline then None else in_front (c ∷ []) (literal_value cs)))

  -- behind a backslash
  pub escape_value : List ℕ → Option (List ℕ)
  escape_value [] = None
  escape_value (c ∷ cs) = short_or (short_escape c) (literal_value cs) (if c == 117 then unicode_value cs else None)

  -- behind `\u`
  pub unicode_value : List ℕ → Option (List ℕ)
  unicode_value [] = None
  unicode_value (c ∷ cs) = if c == 123 then unicode_digits 0 0 cs else None

  -- behind `\u{` and so many digits of this value
  pub unicode_digits : ℕ → ℕ → List ℕ → Option (List ℕ)
  unicode_digits count value [] = None
  unicode_digits count value (c ∷ cs) =
      if c == 125 then (if nat_lt 0 count && scalar value then in_front (encode_utf8 value) (literal_value cs) else None)
      else (if nat_lt count 6 then digit_or (hex_value c) (λ d. unicode_digits (count + 1) (value * 16 + d) cs) else None)

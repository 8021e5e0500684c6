-- The tokens of a text.
use Rattle.std.specs.Prelude.{◌≡◌, ℕ, ◌+◌, ◌<◌, Bool, true, false, not, ◌&&◌, ◌||◌, ◌==◌, ◌⊎◌, if◌then◌else◌, List, [], ◌∷◌, length, drop, Some}
use Rattle.std.specs.Char.{is_ascii_digit}
use Rattle.cd_elem.specs.Ascii.{newline}
use Rattle.cd_elem.specs.declared.token.Token.{Token}
use Rattle.cd_elem.specs.declared.token.Token.TheVariants as token
use Rattle.cd_elem.specs.declared.token.Lexeme.{Lexeme}
use Rattle.cd_grammar.specs.Tokens.{IsLongest, HasNoToken}

abbrev pub is_blank : ℕ → Bool
is_blank c = c == 32 || (c == 9 || (c == 13 || c == newline))

-- whether the next byte is in a comment too, and whether this one is in the gap
abbrev pub comment_goes_on : Bool → ℕ → Bool
comment_goes_on true c = not (c == newline)
comment_goes_on false c = c == 35

abbrev pub is_in_gap : Bool → ℕ → Bool
is_in_gap true c = true
is_in_gap false c = is_blank c || c == 35

-- the length of the blanks and comments at the front of a text, which may begin in a comment
abbrev pub gap_length : Bool → List ℕ → ℕ
gap_length comment [] = 0
gap_length comment (c ∷ cs) = if is_in_gap comment c then 1 + gap_length (comment_goes_on comment c) cs else 0

abbrev pub begins_digit : List ℕ → Bool
begins_digit [] = false
begins_digit (c ∷ cs) = is_ascii_digit c

abbrev pub is_zero : Token → Bool
is_zero (token.Number (Some n)) = n == 0
is_zero _ = false

-- a digit stands directly behind a whole zero
abbrev pub is_glued : Bool → List ℕ → Bool
is_glued zero cs = zero && begins_digit cs

-- where the next token begins
abbrev pub next_at : List ℕ → ℕ → ℕ
next_at text at = at + gap_length false (drop at text)

-- from this place on, behind a zero or not, there is no further token: the text ends, or none begins at `stop`
pub record Stops (text : List ℕ) (at : ℕ) (zero : Bool) (stop : ℕ) (whole : Bool) : Type 0 where
  pub place : stop ≡ next_at text at
  pub ends : whole ≡ true → stop ≡ length text
  pub none : whole ≡ false → (stop < length text) × ((is_glued zero (drop at text) ≡ true) ⊎ HasNoToken (drop stop text))

-- the next token, of this many bytes
pub record IsNext (text : List ℕ) (at : ℕ) (zero : Bool) (l : Lexeme) (size : ℕ) : Type 0 where
  pub place : l.at ≡ next_at text at
  pub apart : is_glued zero (drop at text) ≡ false
  pub longest : IsLongest (drop l.at text) l.token size

-- from this place on these are the tokens, up to the end of the text or a place where none begins
abbrev pub Lexes : List ℕ → ℕ → Bool → List Lexeme → ℕ → Bool → Type 0
Lexes text at zero [] stop whole = Stops text at zero stop whole
Lexes text at zero (l ∷ ls) stop whole = (size : ℕ) × IsNext text at zero l size × Lexes text (l.at + size) (is_zero l.token) ls stop whole

-- the tokens of a whole text
abbrev pub Tokenizes : List ℕ → List Lexeme → ℕ → Bool → Type 0
Tokenizes text ls stop whole = Lexes text 0 false ls stop whole

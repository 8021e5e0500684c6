-- Which token a whole text is, and the longest one at its front.
use Rattle.std.specs.Prelude.{◌≡◌, ℕ, ◌+◌, ◌*◌, ◌-◌, ◌^◌, ◌<◌, ◌≤◌, Bool, true, false, ◌==◌, nat_lt, if◌then◌else◌, List, [], ◌∷◌, length, take, Option, Some, None}
use Rattle.std.specs.List.{list_all, fold}
use Rattle.std.specs.Char.{is_ascii_alphabetic, is_ascii_alphanumeric, is_ascii_digit}
use Rattle.cd_elem.specs.declared.script.Join.TheVariants as join
use Rattle.cd_elem.specs.declared.token.Keyword.{Keyword}
use Rattle.cd_elem.specs.declared.token.Sign.{Sign}
use Rattle.cd_elem.specs.declared.token.Sign.TheVariants as sign
use Rattle.cd_elem.specs.declared.token.Token.{Token}
use Rattle.cd_elem.specs.declared.token.Token.TheVariants as token
use Rattle.cd_grammar.specs.Literals.{literal_value}
use Rattle.cd_grammar.specs.Keywords.{reserved}

abbrev pub one_sign : ℕ → Option Sign
one_sign c =
    if c == 124 then Some (sign.Operator join.Plain)
    else (if c == 123 then Some sign.OpenBrace
    else (if c == 125 then Some sign.CloseBrace
    else (if c == 40 then Some sign.OpenParen
    else (if c == 41 then Some sign.CloseParen
    else (if c == 91 then Some sign.OpenSquare
    else (if c == 93 then Some sign.CloseSquare
    else (if c == 44 then Some sign.Comma
    else (if c == 59 then Some sign.Semicolon
    else (if c == 61 then Some sign.Equals else None)))))))))

-- what stands behind a `|` in one sign with it
abbrev pub bar_sign : ℕ → Option Sign
bar_sign c =
    if c == 61 then Some (sign.Operator join.Keep)
    else (if c == 43 then Some (sign.Operator join.Return)
    else (if c == 38 then Some (sign.Operator join.Both)
    else (if c == 60 then Some (sign.Operator join.Up)
    else (if c == 63 then Some (sign.Operator join.Asked) else None))))

abbrev pub whole_sign : List ℕ → Option Sign
whole_sign [] = None
whole_sign (c ∷ []) = one_sign c
whole_sign (c ∷ d ∷ []) = if c == 124 then bar_sign d else None
whole_sign (c ∷ d ∷ e ∷ cs) = None

-- an identifier is a name where it is not reserved
abbrev pub name_or_keyword : List ℕ → Option Keyword → Token
name_or_keyword name None = token.Named name
name_or_keyword name (Some k) = token.Word k

abbrev pub decimal_value : List ℕ → ℕ
decimal_value ds = fold (λ n d. 10 * n + (d - 48)) 0 ds

-- None past 2^64 - 1
abbrev pub number_value : List ℕ → Option ℕ
number_value ds = if nat_lt (decimal_value ds) (2 ^ 64) then Some (decimal_value ds) else None

abbrev pub is_empty : List ℕ → Bool
is_empty [] = true
is_empty (c ∷ cs) = false

abbrev pub text_token : Option (List ℕ) → Option Token
text_token None = None
text_token (Some s) = Some (token.Text s)

abbrev pub sign_token : Option Sign → Option Token
sign_token None = None
sign_token (Some s) = Some (token.Sign s)

-- the token that this whole text is
abbrev pub whole_token : List ℕ → Option Token
whole_token [] = None
whole_token (c ∷ cs) =
    if is_ascii_alphabetic c then (if list_all is_ascii_alphanumeric cs then Some (name_or_keyword (c ∷ cs) (reserved (c ∷ cs))) else None)
    else (if c == 48 then (if is_empty cs then Some (token.Number (Some 0)) else None)
    else (if is_ascii_digit c then (if list_all is_ascii_digit cs then Some (token.Number (number_value (c ∷ cs))) else None)
    else (if c == 34 then text_token (literal_value cs)
    else sign_token (whole_sign (c ∷ cs)))))

-- the first n bytes are this token, and no longer front is a token
pub record IsLongest (text : List ℕ) (t : Token) (n : ℕ) : Type 0 where
  pub within : n ≤ length text
  pub token : whole_token (take n text) ≡ Some t
  pub longest : (m : ℕ) → n < m → m ≤ length text → whole_token (take m text) ≡ None

-- no front is a token
abbrev pub HasNoToken : List ℕ → Type 0
HasNoToken text = (m : ℕ) → whole_token (take m text) ≡ None

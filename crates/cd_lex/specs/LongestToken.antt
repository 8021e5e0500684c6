-- The token that the scanner finds, and its length.
use Rattle.std.specs.Prelude.{◌≡◌, get_or, ℕ, suc, ◌==◌, if◌then◌else◌, List, [], ◌∷◌, take, Option, Some, None}
use Rattle.std.specs.List.{prefix_len}
use Rattle.std.specs.Str.{IsUtf8}
use Rattle.std.specs.Char.{is_ascii_alphabetic, is_ascii_alphanumeric, is_ascii_digit}
use Rattle.cd_elem.specs.declared.script.Join.TheVariants as join
use Rattle.cd_elem.specs.declared.token.Sign.{Sign}
use Rattle.cd_elem.specs.declared.token.Sign.TheVariants as sign
use Rattle.cd_elem.specs.declared.token.Token.{Token}
use Rattle.cd_elem.specs.declared.token.Token.TheVariants as token
use Rattle.cd_grammar.specs.Keywords.{reserved}
use Rattle.cd_grammar.specs.Tokens.{one_sign, bar_sign, name_or_keyword, number_value, IsLongest, HasNoToken}
use Rattle.cd_lex.specs.Quotes.{literal_found}

abbrev pub FoundToken : Type 0
FoundToken = Option (Token × ℕ)

-- what is found is the longest token, and nothing is found only where there is no token
abbrev pub FindsLongest : List ℕ → FoundToken → Type 0
FindsLongest text None = HasNoToken text
FindsLongest text (Some token_found) = IsLongest text token_found.0 token_found.1

-- bytes that begin with a quote are UTF-8
abbrev pub IsQuoted : List ℕ → Type 0
IsQuoted text = get_or text 0 0 ≡ 34 → IsUtf8 text

abbrev pub sign_of_size : ℕ → Option Sign → FoundToken
sign_of_size n None = None
sign_of_size n (Some s) = Some (token.Sign s, n)

abbrev pub bar_found : Option Sign → FoundToken
bar_found None = Some (token.Sign (sign.Operator join.Plain), 1)
bar_found (Some s) = Some (token.Sign s, 2)

abbrev pub sign_found : ℕ → List ℕ → FoundToken
sign_found c [] = sign_of_size 1 (one_sign c)
sign_found c (d ∷ cs) = if c == 124 then bar_found (bar_sign d) else sign_of_size 1 (one_sign c)

abbrev pub name_found : List ℕ → ℕ → FoundToken
name_found text n = Some (name_or_keyword (take n text) (reserved (take n text)), n)

abbrev pub number_found : List ℕ → ℕ → FoundToken
number_found text n = Some (token.Number (number_value (take n text)), n)

abbrev pub token_found : List ℕ → FoundToken
token_found [] = None
token_found (c ∷ cs) =
    if is_ascii_alphabetic c then name_found (c ∷ cs) (suc (prefix_len is_ascii_alphanumeric cs))
    else (if c == 48 then Some (token.Number (Some 0), 1)
    else (if is_ascii_digit c then number_found (c ∷ cs) (suc (prefix_len is_ascii_digit cs))
    else (if c == 34 then literal_found cs
    else sign_found c cs)))

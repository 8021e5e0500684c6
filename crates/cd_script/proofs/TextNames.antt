-- Each name among the tokens of a text is an identifier that is not reserved.
use Rattle.std.proofs.Common.{◌≡◌, ℕ, ◌+◌, Bool, true, false, ◌&&◌, if◌then◌else◌, List, [], ◌∷◌, Option, Some, None, take, drop, refl, ap, sym, ◌∙◌}
use Rattle.std.specs.List.{list_all}
use Rattle.std.specs.Char.{is_ascii_alphabetic, is_ascii_alphanumeric, is_ascii_digit}
use Rattle.std.specs.Prelude.{◌==◌}
use Rattle.cd_elem.specs.declared.token.Keyword.{Keyword}
use Rattle.cd_elem.specs.declared.token.Sign.{Sign}
use Rattle.cd_elem.specs.declared.token.Token.{Token}
use Rattle.cd_elem.specs.declared.token.Token.TheVariants as token
use Rattle.cd_elem.specs.declared.token.Lexeme.{Lexeme}
use Rattle.cd_grammar.specs.Canonical.{is_name, is_named}
use Rattle.cd_grammar.specs.Lexemes.{Lexes, is_zero}
use Rattle.cd_grammar.specs.Literals.{literal_value}
use Rattle.cd_grammar.specs.Refusals.{tokens}
use Rattle.cd_grammar.specs.Keywords.{reserved}
use Rattle.cd_grammar.specs.Tokens.{whole_token, whole_sign, name_or_keyword, number_value, text_token, sign_token, is_empty}

abbrev pub has_name : Token → Bool
has_name (token.Named n) = is_name n
has_name _ = true

abbrev pub HaveNames : List Token → Type 0
HaveNames ts = list_all has_name ts ≡ true

identifier : (all : Bool) (r : Option Keyword) (text name : List ℕ) → (if all then Some (name_or_keyword text r) else None) ≡ Some (token.Named name) → text ≡ name
identifier true None text name e = cc
identifier true (Some k) text name e = let f : ⊥ = cc in absurd f
identifier false r text name e = let f : ⊥ = cc in absurd f

no_number : (all : Bool) (value : Option ℕ) (name : List ℕ) → (if all then Some (token.Number value) else None) ≡ Some (token.Named name) → ⊥
no_number true value name e = cc
no_number false value name e = cc

no_text : (value : Option (List ℕ)) (name : List ℕ) → text_token value ≡ Some (token.Named name) → ⊥
no_text None name e = cc
no_text (Some s) name e = cc

no_sign : (s : Option Sign) (name : List ℕ) → sign_token s ≡ Some (token.Named name) → ⊥
no_sign None name e = cc
no_sign (Some s) name e = cc

-- which test of a text's first byte holds
first_byte : (letter zero digit quote all_letters alone all_digits : Bool) (r : Option Keyword) (value : Option ℕ) (literal : Option (List ℕ)) (s : Option Sign) (text name : List ℕ)
    → (if letter then (if all_letters then Some (name_or_keyword text r) else None)
    else (if zero then (if alone then Some (token.Number (Some 0)) else None)
    else (if digit then (if all_digits then Some (token.Number value) else None)
    else (if quote then text_token literal
    else sign_token s)))) ≡ Some (token.Named name) → text ≡ name
first_byte true zero digit quote all_letters alone all_digits r value literal s text name e = identifier all_letters r text name e
first_byte false true digit quote all_letters alone all_digits r value literal s text name e = absurd (no_number alone (Some 0) name e)
first_byte false false true quote all_letters alone all_digits r value literal s text name e = absurd (no_number all_digits value name e)
first_byte false false false true all_letters alone all_digits r value literal s text name e = absurd (no_text literal name e)
first_byte false false false false all_letters alone all_digits r value literal s text name e = absurd (no_sign s name e)

-- an identifier's text is its name
name_is_text : (text name : List ℕ) → whole_token text ≡ Some (token.Named name) → text ≡ name
name_is_text [] name e = let f : ⊥ = cc in absurd f
name_is_text (c ∷ cs) name e =
    first_byte (is_ascii_alphabetic c) (c == 48) (is_ascii_digit c) (c == 34) (list_all is_ascii_alphanumeric cs) (is_empty cs) (list_all is_ascii_digit cs)
    (reserved (c ∷ cs)) (number_value (c ∷ cs)) (literal_value cs) (whole_sign (c ∷ cs)) (c ∷ cs) name e

token_has_name : (text : List ℕ) (t : Token) → whole_token text ≡ Some t → has_name t ≡ true
token_has_name text (token.Named name) e = ap (λ s. is_named (whole_token s)) (sym (name_is_text text name e)) ∙ ap is_named e
token_has_name text _ e = refl

pub both_true : (a b : Bool) → a ≡ true → b ≡ true → (a && b) ≡ true
both_true true b e f = f
both_true false b e f = e

pub tokens_have_names : (text : List ℕ) (at : ℕ) (zero : Bool) (ls : List Lexeme) (stop : ℕ) (whole : Bool) → Lexes text at zero ls stop whole → HaveNames (tokens ls)
tokens_have_names text at zero [] stop whole l = refl
tokens_have_names text at zero (l ∷ ls) stop whole k =
    both_true (has_name l.token) _ (token_has_name (take k.0 (drop l.at text)) l.token k.1.longest.token)
    (tokens_have_names text (l.at + k.0) (is_zero l.token) ls stop whole k.2)

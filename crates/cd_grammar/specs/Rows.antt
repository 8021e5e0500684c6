-- Rows of the grammar of scripts, by computation: tokens, reserved words and literals. The words, the forms, the limits and the canonical texts stand below; the rows of whole texts stand in `proofs`, since they rest on lemmas.
pub mod CanonicalTexts
pub mod Derivations
pub mod Lexemes
pub mod Limits
pub mod WordTrees
use Rattle.std.specs.Prelude.{ℕ, ◌≡◌, refl, ◌^◌, ◌-◌, List, [], ◌∷◌, map, Option, Some, None, codes}
use lib.Utf8.{encode}
use Rattle.cd_elem.specs.declared.script.Join.TheVariants as join
use Rattle.cd_elem.specs.declared.token.PlainWord.TheVariants as plain
use Rattle.cd_elem.specs.declared.token.PlainClass.TheVariants as class
use Rattle.cd_elem.specs.declared.token.NumberMap.TheVariants as number_map
use Rattle.cd_elem.specs.declared.token.Opening.TheVariants as opening
use Rattle.cd_elem.specs.declared.token.Section.TheVariants as section
use Rattle.cd_elem.specs.declared.token.Zip.TheVariants as zip
use Rattle.cd_elem.specs.declared.token.Keyword.TheVariants as keyword
use Rattle.cd_elem.specs.declared.token.Sign.TheVariants as sign
use Rattle.cd_elem.specs.declared.token.Token.{Token}
use Rattle.cd_elem.specs.declared.token.Token.TheVariants as token
use Rattle.cd_elem.specs.Base16.{hex_value}
use Rattle.cd_grammar.specs.Literals.{literal_value}
use Rattle.cd_grammar.specs.Keywords.{reserved}
use Rattle.cd_grammar.specs.Tokens.{whole_token}

-- signs
plain_operator : whole_token (codes "|") ≡ Some (token.Sign (sign.Operator join.Plain))
plain_operator = refl

keep_operator : whole_token (codes "|=") ≡ Some (token.Sign (sign.Operator join.Keep))
keep_operator = refl

return_operator : whole_token (codes "|+") ≡ Some (token.Sign (sign.Operator join.Return))
return_operator = refl

both_operator : whole_token (codes "|&") ≡ Some (token.Sign (sign.Operator join.Both))
both_operator = refl

up_operator : whole_token (codes "|<") ≡ Some (token.Sign (sign.Operator join.Up))
up_operator = refl

asked_operator : whole_token (codes "|?") ≡ Some (token.Sign (sign.Operator join.Asked))
asked_operator = refl

equals_sign : whole_token (codes "=") ≡ Some (token.Sign sign.Equals)
equals_sign = refl

brace_signs : map whole_token (codes "{" ∷ codes "}" ∷ []) ≡ Some (token.Sign sign.OpenBrace) ∷ Some (token.Sign sign.CloseBrace) ∷ []
brace_signs = refl

paren_signs : map whole_token (codes "(" ∷ codes ")" ∷ []) ≡ Some (token.Sign sign.OpenParen) ∷ Some (token.Sign sign.CloseParen) ∷ []
paren_signs = refl

square_signs : map whole_token (codes "[" ∷ codes "]" ∷ []) ≡ Some (token.Sign sign.OpenSquare) ∷ Some (token.Sign sign.CloseSquare) ∷ []
square_signs = refl

comma_sign : whole_token (codes ",") ≡ Some (token.Sign sign.Comma)
comma_sign = refl

semicolon_sign : whole_token (codes ";") ≡ Some (token.Sign sign.Semicolon)
semicolon_sign = refl

colon_is_none : whole_token (codes ":") ≡ None
colon_is_none = refl

two_signs : whole_token (codes "||") ≡ None
two_signs = refl

no_sign : whole_token (codes "+") ≡ None
no_sign = refl

-- none of these is a token
no_signs : map whole_token ([] ∷ codes "&" ∷ codes "<" ∷ codes "?" ∷ codes "-" ∷ codes "_" ∷ codes "." ∷ codes "!" ∷ codes "'" ∷ codes "\\" ∷ codes "#" ∷ codes " " ∷ codes "| " ∷ codes "|-" ∷ codes "|>" ∷ codes "=|" ∷ codes "==" ∷ codes "{}" ∷ codes ";;" ∷ codes "|+ " ∷ []) ≡ None ∷ None ∷ None ∷ None ∷ None ∷ None ∷ None ∷ None ∷ None ∷ None ∷ None ∷ None ∷ None ∷ None ∷ None ∷ None ∷ None ∷ None ∷ None ∷ None ∷ []
no_signs = refl

-- identifiers
a_word : whole_token (codes "passE") ≡ Some (token.Word (keyword.Plain plain.PassE))
a_word = refl

a_name : whole_token (codes "passe2") ≡ Some (token.Named (codes "passe2"))
a_name = refl

version_is_reserved : reserved (codes "version") ≡ Some keyword.Version
version_is_reserved = refl

scope_is_reserved : reserved (codes "scope") ≡ Some keyword.Scope
scope_is_reserved = refl

upper_and_lower_are_reserved : map reserved (codes "upper" ∷ codes "lower" ∷ []) ≡ Some (keyword.Class class.Upper) ∷ Some (keyword.Class class.Lower) ∷ []
upper_and_lower_are_reserved = refl

-- the words of statements
statement_words : map reserved (codes "run" ∷ codes "let" ∷ codes "seal" ∷ codes "feed" ∷ codes "close" ∷ codes "hold" ∷ codes "mark" ∷ codes "release" ∷ []) ≡ Some keyword.Run ∷ Some (keyword.Opening opening.Let) ∷ Some keyword.Seal ∷ Some (keyword.Opening opening.Feed) ∷ Some (keyword.Opening opening.Close) ∷ Some (keyword.Opening opening.Hold) ∷ Some keyword.Mark ∷ Some (keyword.Opening opening.Release) ∷ []
statement_words = refl

-- the words of forms
form_words : map reserved (codes "exactly" ∷ codes "exactlyE" ∷ codes "lineE" ∷ codes "tee" ∷ codes "zipSource" ∷ codes "zipSink" ∷ codes "zipConduit" ∷ codes "not" ∷ []) ≡ Some (keyword.Section section.Exactly) ∷ Some (keyword.Section section.ExactlyE) ∷ Some keyword.LineE ∷ Some keyword.Tee ∷ Some (keyword.Zip zip.Source) ∷ Some (keyword.Zip zip.Sink) ∷ Some (keyword.Zip zip.Conduit) ∷ Some keyword.Not ∷ []
form_words = refl

-- a front of a reserved word, or one with more behind it, is a name
not_reserved : map reserved (codes "ru" ∷ codes "runs" ∷ codes "exactlye" ∷ codes "line" ∷ codes "zip" ∷ codes "source" ∷ codes "some" ∷ codes "number" ∷ []) ≡ None ∷ None ∷ None ∷ None ∷ None ∷ None ∷ None ∷ None ∷ []
not_reserved = refl

map_is_reserved : reserved (codes "xor") ≡ Some (keyword.NumberMap number_map.Xor)
map_is_reserved = refl

case_counts : reserved (codes "Run") ≡ None
case_counts = refl

no_underscore : whole_token (codes "a_b") ≡ None
no_underscore = refl

-- the letters at both ends, and what stands just outside them
letters : map whole_token (codes "@" ∷ codes "A" ∷ codes "Z" ∷ codes "`" ∷ codes "a" ∷ codes "z" ∷ []) ≡ None ∷ Some (token.Named (codes "A")) ∷ Some (token.Named (codes "Z")) ∷ None ∷ Some (token.Named (codes "a")) ∷ Some (token.Named (codes "z")) ∷ []
letters = refl

letters_and_digits : whole_token (codes "aZ09") ≡ Some (token.Named (codes "aZ09"))
letters_and_digits = refl

-- what stands just outside them behind a letter, and the two bytes of ä
no_letters : map whole_token (codes "a@" ∷ codes "a[" ∷ codes "a`" ∷ codes "a{" ∷ codes "a/" ∷ codes "a:" ∷ (97 ∷ 195 ∷ 164 ∷ []) ∷ (195 ∷ 164 ∷ []) ∷ []) ≡ None ∷ None ∷ None ∷ None ∷ None ∷ None ∷ None ∷ None ∷ []
no_letters = refl

-- numbers
zero_number : whole_token (codes "0") ≡ Some (token.Number (Some 0))
zero_number = refl

leading_zero : whole_token (codes "01") ≡ None
leading_zero = refl

numbers : map whole_token (codes "1" ∷ codes "9" ∷ codes "10" ∷ codes "1029384756" ∷ []) ≡ Some (token.Number (Some 1)) ∷ Some (token.Number (Some 9)) ∷ Some (token.Number (Some 10)) ∷ Some (token.Number (Some 1029384756)) ∷ []
numbers = refl

no_numbers : map whole_token (codes "00" ∷ codes "1a" ∷ codes "1/" ∷ codes "1:" ∷ codes "1 " ∷ codes "-1" ∷ codes "1.0" ∷ codes "0x1" ∷ []) ≡ None ∷ None ∷ None ∷ None ∷ None ∷ None ∷ None ∷ None ∷ []
no_numbers = refl

greatest_number : whole_token (codes "18446744073709551615") ≡ Some (token.Number (Some (2 ^ 64 - 1)))
greatest_number = refl

too_great_number : whole_token (codes "18446744073709551616") ≡ Some (token.Number None)
too_great_number = refl

-- literals, from the byte behind the opening quote on
plain_literal : literal_value (codes "ab\"") ≡ Some (codes "ab")
plain_literal = refl

empty_literal : literal_value (codes "\"") ≡ Some []
empty_literal = refl

quote_before_the_end : literal_value (codes "a\"b\"") ≡ None
quote_before_the_end = refl

unclosed_literal : literal_value (codes "ab") ≡ None
unclosed_literal = refl

short_escapes : literal_value (codes "\\\\\\\"\\n\\r\\t\"") ≡ Some (92 ∷ 34 ∷ 10 ∷ 13 ∷ 9 ∷ [])
short_escapes = refl

other_escape : literal_value (codes "\\a\"") ≡ None
other_escape = refl

newline_inside : literal_value (97 ∷ 10 ∷ 34 ∷ []) ≡ None
newline_inside = refl

nul_inside : literal_value (0 ∷ 9 ∷ 13 ∷ 34 ∷ []) ≡ Some (0 ∷ 9 ∷ 13 ∷ [])
nul_inside = refl

-- U+20AC in UTF-8
scalar_escape : literal_value (codes "\\u{20aC}\"") ≡ Some (226 ∷ 130 ∷ 172 ∷ [])
unfolding encode
scalar_escape = refl

six_digits : literal_value (codes "\\u{000041}\"") ≡ Some (65 ∷ [])
unfolding encode
six_digits = refl

seven_digits : literal_value (codes "\\u{0000041}\"") ≡ None
seven_digits = refl

no_digits : literal_value (codes "\\u{}\"") ≡ None
no_digits = refl

surrogate_escape : literal_value (codes "\\u{d800}\"") ≡ None
surrogate_escape = refl

past_unicode : literal_value (codes "\\u{110000}\"") ≡ None
past_unicode = refl

whole_literal : whole_token (codes "\"a b\"") ≡ Some (token.Text (codes "a b"))
whole_literal = refl

-- a digit of either case: `\u{f}`, `\u{F}`
one_digit : map literal_value (codes "\\u{f}\"" ∷ codes "\\u{F}\"" ∷ []) ≡ Some (15 ∷ []) ∷ Some (15 ∷ []) ∷ []
unfolding encode
one_digit = refl

-- each sort of digit at both ends, and the bytes just outside it
digits_of_escapes : map hex_value (codes "/09:@AFG`afg") ≡ None ∷ Some 0 ∷ Some 9 ∷ None ∷ None ∷ Some 10 ∷ Some 15 ∷ None ∷ None ∷ Some 10 ∷ Some 15 ∷ None ∷ []
digits_of_escapes = refl

-- the characters at both ends of what Unicode has, and of the surrogates
around_surrogates : map literal_value (codes "\\u{d7ff}\"" ∷ codes "\\u{dfff}\"" ∷ codes "\\u{e000}\"" ∷ []) ≡ Some (237 ∷ 159 ∷ 191 ∷ []) ∷ None ∷ Some (238 ∷ 128 ∷ 128 ∷ []) ∷ []
unfolding encode
around_surrogates = refl

first_and_last_character : map literal_value (codes "\\u{0}\"" ∷ codes "\\u{10ffff}\"" ∷ codes "\\u{ffffff}\"" ∷ []) ≡ Some (0 ∷ []) ∷ Some (244 ∷ 143 ∷ 191 ∷ 191 ∷ []) ∷ None ∷ []
unfolding encode
first_and_last_character = refl

broken_escapes : map literal_value (codes "\\u41\"" ∷ codes "\\u{41\"" ∷ codes "\\u{4g}\"" ∷ codes "\\U{41}\"" ∷ codes "\\x41\"" ∷ codes "\\'\"" ∷ codes "\\0\"" ∷ codes "\\\"" ∷ codes "\\" ∷ codes "\\u" ∷ codes "\\u{" ∷ []) ≡ None ∷ None ∷ None ∷ None ∷ None ∷ None ∷ None ∷ None ∷ None ∷ None ∷ None ∷ []
broken_escapes = refl

behind_an_escape : literal_value (codes "a\\n\\u{41}b\"") ≡ Some (codes "a\nAb")
unfolding encode
behind_an_escape = refl

literal_tokens : map whole_token (codes "\"\"" ∷ codes "\"" ∷ codes "\"a" ∷ codes "\"a\"b" ∷ codes "\"a\" " ∷ []) ≡ Some (token.Text []) ∷ None ∷ None ∷ None ∷ None ∷ []
literal_tokens = refl

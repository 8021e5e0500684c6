-- The longest token at a place, and the tokens of whole texts.
use Rattle.std.specs.Prelude.{◌≡◌, refl, ℕ, true, false, [], ◌∷◌, Some, None, codes}
use Rattle.std.proofs.Common.{arith}
use Rattle.cd_elem.specs.declared.script.Join.TheVariants as join
use Rattle.cd_elem.specs.declared.token.CountedWord.TheVariants as counted
use Rattle.cd_elem.specs.declared.token.Section.TheVariants as section
use Rattle.cd_elem.specs.declared.token.Keyword.TheVariants as keyword
use Rattle.cd_elem.specs.declared.token.Sign.TheVariants as sign
use Rattle.cd_elem.specs.declared.token.Token.{Token}
use Rattle.cd_elem.specs.declared.token.Token.TheVariants as token
use Rattle.cd_elem.specs.declared.token.Lexeme.{Lexeme}
use Rattle.cd_grammar.specs.Lexemes.{IsNext, Stops, Lexes, Tokenizes}
use Rattle.cd_grammar.specs.Tokens.{IsLongest, HasNoToken}
use Rattle.cd_grammar.proofs.Rows.Deciding.{longest, has_none, next, at_the_end, at_no_token, at_a_digit}

-- ---- the longest token
both_letters : IsLongest (codes "ab") (token.Named (codes "ab")) 2
both_letters = longest _ _ 2 refl refl refl

not_the_first_letter : IsLongest (codes "ab") (token.Named (codes "a")) 1 → ⊥
not_the_first_letter i = let e : Some (token.Named (codes "ab")) ≡ None = i.longest 2 (omega arith) (omega arith) in cc

both_signs : IsLongest (codes "|= ") (token.Sign (sign.Operator join.Keep)) 2
both_signs = longest _ _ 2 refl refl refl

signs_apart : IsLongest (codes "| =") (token.Sign (sign.Operator join.Plain)) 1
signs_apart = longest _ _ 1 refl refl refl

all_digits : IsLongest (codes "120|") (token.Number (Some 120)) 3
all_digits = longest _ _ 3 refl refl refl

zero_alone : IsLongest (codes "05") (token.Number (Some 0)) 1
zero_alone = longest _ _ 1 refl refl refl

whole_word : IsLongest (codes "exactlyE 1") (token.Word (keyword.Section section.ExactlyE)) 8
whole_word = longest _ _ 8 refl refl refl

name_behind_a_word : IsLongest (codes "runs") (token.Named (codes "runs")) 4
name_behind_a_word = longest _ _ 4 refl refl refl

literal_to_its_quote : IsLongest (codes "\"a\"b\"") (token.Text (codes "a")) 3
literal_to_its_quote = longest _ _ 3 refl refl refl

quote_in_a_literal : IsLongest (codes "\"a\\\"b\"") (token.Text (codes "a\"b")) 6
quote_in_a_literal = longest _ _ 6 refl refl refl

-- an unclosed literal, a sign that there is not, a byte of a comment
none_in_an_open_literal : HasNoToken (codes "\"ab")
none_in_an_open_literal = has_none _ refl

none_at_a_colon : HasNoToken (codes ":a")
none_at_a_colon = has_none _ refl

none_in_nothing : HasNoToken []
none_in_nothing = has_none _ refl

-- ---- tokens with their places
abbrev lexeme : Token → ℕ → Lexeme
lexeme t at = record { token = t; at = at }

abbrev takes : Token
takes = token.Word (keyword.Counted counted.TakeE)

abbrev counts : ℕ → Token
counts n = token.Number (Some n)

-- `5` behind `takeE`
next_number : IsNext (codes "takeE  5;") 5 false (lexeme (counts 5) 7) 1
next_number = next _ _ _ _ _ refl refl refl refl refl

-- no token is next that is glued to a zero, though one would begin there
glued_is_not_next : (l : Lexeme) (size : ℕ) → IsNext (codes "05") 1 true l size → ⊥
glued_is_not_next l size i = let e : true ≡ false = i.apart in cc

stops_at_the_end : Stops (codes "a #") 1 false 3 true
stops_at_the_end = at_the_end _ _ _ _ refl refl

stops_at_no_token : Stops (codes "a :") 1 false 2 false
stops_at_no_token = at_no_token _ _ _ _ refl refl refl

stops_behind_a_zero : Stops (codes "05") 1 true 1 false
stops_behind_a_zero = at_a_digit _ _ _ refl refl refl

-- `takeE 10`, to the end
all_tokens : Tokenizes (codes " takeE 10 ") (lexeme takes 1 ∷ lexeme (counts 10) 7 ∷ []) 10 true
all_tokens = (5, next _ _ _ _ _ refl refl refl refl refl, (2, next _ _ _ _ _ refl refl refl refl refl, at_the_end _ _ _ _ refl refl))

-- a zero and a digit behind a blank, and behind none
digit_behind_a_blank : Tokenizes (codes "0 5") (lexeme (counts 0) 0 ∷ lexeme (counts 5) 2 ∷ []) 3 true
digit_behind_a_blank = (1, next _ _ _ _ _ refl refl refl refl refl, (1, next _ _ _ _ _ refl refl refl refl refl, at_the_end _ _ _ _ refl refl))

digit_behind_a_zero : Tokenizes (codes "05") (lexeme (counts 0) 0 ∷ []) 1 false
digit_behind_a_zero = (1, next _ _ _ _ _ refl refl refl refl refl, stops_behind_a_zero)

-- a letter may stand there
letter_behind_a_zero : Tokenizes (codes "0a") (lexeme (counts 0) 0 ∷ lexeme (token.Named (codes "a")) 1 ∷ []) 2 true
letter_behind_a_zero = (1, next _ _ _ _ _ refl refl refl refl refl, (1, next _ _ _ _ _ refl refl refl refl refl, at_the_end _ _ _ _ refl refl))

no_tokens : Tokenizes (codes " # x") [] 4 true
no_tokens = at_the_end _ _ _ _ refl refl

-- behind `run`, where a literal is not closed
stops_in_a_literal : Lexes (codes "run \"a") 0 false (lexeme (token.Word keyword.Run) 0 ∷ []) 4 false
stops_in_a_literal = (3, next _ _ _ _ _ refl refl refl refl refl, at_no_token _ _ _ _ refl refl refl)

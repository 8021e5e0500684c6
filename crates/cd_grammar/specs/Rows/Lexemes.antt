-- Blanks, comments, and what a digit may stand behind.
use Rattle.std.specs.Prelude.{◌≡◌, refl, true, false, [], ◌∷◌, map, Some, None, codes}
use Rattle.cd_elem.specs.declared.token.Sign.TheVariants as sign
use Rattle.cd_elem.specs.declared.token.Token.TheVariants as token
use Rattle.cd_grammar.specs.Lexemes.{gap_length, is_blank, is_glued, is_zero, next_at}

-- ---- blanks and comments
blanks : gap_length false (codes " \t\r\n x") ≡ 5
blanks = refl

-- tab, newline, carriage return and space; vertical tab, form feed and the others are none
blank_bytes : map is_blank (8 ∷ 9 ∷ 10 ∷ 11 ∷ 12 ∷ 13 ∷ 14 ∷ 31 ∷ 32 ∷ 33 ∷ 160 ∷ []) ≡ false ∷ true ∷ true ∷ false ∷ false ∷ true ∷ false ∷ false ∷ true ∷ false ∷ false ∷ []
blank_bytes = refl

form_feed_is_no_blank : gap_length false (32 ∷ 12 ∷ 32 ∷ []) ≡ 1
form_feed_is_no_blank = refl

no_blanks : gap_length false (codes "x # y") ≡ 0
no_blanks = refl

a_comment : gap_length false (codes "# x\n y") ≡ 5
a_comment = refl

carriage_return_in_a_comment : gap_length false (codes "# x\r y") ≡ 6
carriage_return_in_a_comment = refl

comment_at_the_end : gap_length false (codes "#x") ≡ 2
comment_at_the_end = refl

comments_in_a_row : gap_length false (codes "#x\n#y\n\tz") ≡ 7
comments_in_a_row = refl

comment_in_a_comment : gap_length false (codes "#x#y\nz") ≡ 5
comment_in_a_comment = refl

behind_the_front_of_a_comment : gap_length true (codes "x\ny") ≡ 2
behind_the_front_of_a_comment = refl

-- the next token of `a  b` behind its `a`
next_behind_blanks : next_at (codes "a  b") 1 ≡ 3
next_behind_blanks = refl

-- ---- what a digit may stand behind
zero_tokens : map is_zero (token.Number (Some 0) ∷ token.Number (Some 5) ∷ token.Number (Some 10) ∷ token.Number None ∷ token.Text (codes "0") ∷ token.Named (codes "o") ∷ token.Sign sign.OpenParen ∷ []) ≡ true ∷ false ∷ false ∷ false ∷ false ∷ false ∷ false ∷ []
zero_tokens = refl

glued_to_a_zero : map (is_glued true) (codes "0" ∷ codes "9" ∷ codes "/" ∷ codes ":" ∷ codes " 1" ∷ codes "a" ∷ [] ∷ []) ≡ true ∷ true ∷ false ∷ false ∷ false ∷ false ∷ false ∷ []
glued_to_a_zero = refl

glued_to_nothing_else : is_glued false (codes "5") ≡ false
glued_to_nothing_else = refl

-- The limits, at the last that passes none and the first that does.
use Rattle.std.specs.Prelude.{◌≡◌, refl, ℕ, ◌^◌, ◌-◌, List, [], ◌∷◌, ◌++◌, replicate, Option, Some, None}
use Rattle.cd_elem.specs.declared.token.CountedWord.{CountedWord}
use Rattle.cd_elem.specs.declared.token.CountedWord.TheVariants as counted
use Rattle.cd_elem.specs.declared.token.NumberMap.TheVariants as number_map
use Rattle.cd_elem.specs.declared.token.Section.TheVariants as section
use Rattle.cd_elem.specs.declared.token.Keyword.TheVariants as keyword
use Rattle.cd_elem.specs.declared.token.Sign.{Sign}
use Rattle.cd_elem.specs.declared.token.Sign.TheVariants as sign
use Rattle.cd_elem.specs.declared.token.Token.{Token}
use Rattle.cd_elem.specs.declared.token.Token.TheVariants as token
use Rattle.cd_elem.specs.declared.token.LimitKind.{LimitKind}
use Rattle.cd_elem.specs.declared.token.LimitKind.TheVariants.{Tokens, Depth, Literal, Number}
use Rattle.cd_grammar.specs.Limits.{every_number, limit_of, limit_behind, limit_at, open_brackets}

-- ---- tokens
abbrev paren : Token
paren = token.Sign sign.OpenParen

token_8192 : limit_of 8191 0 every_number paren ≡ None
token_8192 = refl

token_8193 : limit_of 8192 0 every_number paren ≡ Some Tokens
token_8193 = refl

tokens_before_depth : limit_of 8192 32 every_number paren ≡ Some Tokens
tokens_before_depth = refl

-- of a whole list of tokens
token_8192_of_all : limit_at (replicate 8193 (token.Sign sign.Semicolon)) 8191 ≡ None
token_8192_of_all = refl

token_8193_of_all : limit_at (replicate 8193 (token.Sign sign.Semicolon)) 8192 ≡ Some Tokens
token_8193_of_all = refl

-- behind the last token there is none to refuse
no_token_8193 : limit_at (replicate 8192 (token.Sign sign.Semicolon)) 8192 ≡ None
no_token_8193 = refl

-- ---- depth: behind so many open parentheses
abbrev Inside : ℕ → Sign → Option LimitKind → Type 0
Inside n s answer = limit_behind (replicate n paren) (token.Sign s) ≡ answer

bracket_32 : Inside 31 sign.OpenBrace None × Inside 31 sign.OpenParen None × Inside 31 sign.OpenSquare None
bracket_32 = (refl, refl, refl)

bracket_33 : Inside 32 sign.OpenBrace (Some Depth) × Inside 32 sign.OpenParen (Some Depth) × Inside 32 sign.OpenSquare (Some Depth)
bracket_33 = (refl, refl, refl)

closing_is_no_depth : Inside 32 sign.CloseBrace None × Inside 32 sign.CloseParen None × Inside 32 sign.CloseSquare None × Inside 32 sign.Comma None
closing_is_no_depth = (refl, refl, refl, refl)

abbrev signs : List Sign → List Token
signs [] = []
signs (s ∷ ss) = token.Sign s ∷ signs ss

-- each opening bracket raises the depth, each closing one lowers it, and nothing else changes it
each_opens : open_brackets (signs (sign.OpenBrace ∷ sign.OpenParen ∷ sign.OpenSquare ∷ [])) ≡ 3
each_opens = refl

each_closes : (open_brackets (paren ∷ paren ∷ signs (sign.CloseBrace ∷ [])) ≡ 1) × (open_brackets (paren ∷ paren ∷ signs (sign.CloseParen ∷ [])) ≡ 1) × (open_brackets (paren ∷ paren ∷ signs (sign.CloseSquare ∷ [])) ≡ 1)
each_closes = (refl, refl, refl)

no_other_opens : open_brackets (paren ∷ token.Word keyword.Run ∷ token.Text [] ∷ token.Number (Some 1) ∷ token.Named (97 ∷ []) ∷ signs (sign.Comma ∷ sign.Semicolon ∷ sign.Equals ∷ [])) ≡ 1
no_other_opens = refl

-- it is the 33rd bracket that is open at once, and not the 33rd of the script
opened_again : limit_behind (replicate 32 paren ++ signs (sign.CloseParen ∷ [])) paren ≡ None
opened_again = refl

opened_twice : limit_behind (replicate 32 paren ++ signs (sign.CloseParen ∷ sign.OpenBrace ∷ [])) paren ≡ Some Depth
opened_twice = refl

-- ---- literals and names
literal_4096 : limit_behind [] (token.Text (replicate 4096 97)) ≡ None
literal_4096 = refl

literal_4097 : limit_behind [] (token.Text (replicate 4097 97)) ≡ Some Literal
literal_4097 = refl

name_64 : limit_behind [] (token.Named (replicate 64 97)) ≡ None
name_64 = refl

name_65 : limit_behind [] (token.Named (replicate 65 97)) ≡ Some Literal
name_65 = refl

-- ---- numbers
abbrev Behind : Token → Option ℕ → Option LimitKind → Type 0
Behind t n answer = limit_at (t ∷ token.Number n ∷ []) 1 ≡ answer

-- the least and the greatest number that may stand behind a token, one that may not, and any number
abbrev To : Token → ℕ → ℕ → Type 0
To t least greatest = Behind t (Some least) None × Behind t (Some greatest) None

abbrev Not : Token → ℕ → Type 0
Not t n = Behind t (Some n) (Some Number)

abbrev Every : Token → Type 0
Every t = Behind t (Some 0) None × Behind t (Some (2 ^ 64 - 1)) None × Behind t None (Some Number)

abbrev word : CountedWord → Token
word w = token.Word (keyword.Counted w)

taken_numbers : Every (word counted.TakeE) × Every (word counted.Take)
taken_numbers = ((refl, refl, refl), (refl, refl, refl))

dropped_numbers : Every (word counted.DropE) × Every (word counted.Drop)
dropped_numbers = ((refl, refl, refl), (refl, refl, refl))

section_numbers : Every (token.Word (keyword.Section section.Exactly)) × Every (token.Word (keyword.Section section.ExactlyE))
section_numbers = ((refl, refl, refl), (refl, refl, refl))

tested_numbers : Every (token.Word keyword.Below) × Every (token.Word keyword.Shorter)
tested_numbers = ((refl, refl, refl), (refl, refl, refl))

-- the first number of `range`, and the second
range_numbers : Every (token.Word keyword.Range) × Every (token.Number (Some 3))
range_numbers = ((refl, refl, refl), (refl, refl, refl))

repeated_numbers : To (word counted.RepeatE) 0 4096 × Not (word counted.RepeatE) 4097 × To (word counted.Repeat) 0 4096 × Not (word counted.Repeat) 4097
repeated_numbers = ((refl, refl), refl, (refl, refl), refl)

collected_numbers : To (word counted.CollectE) 0 16777216 × Not (word counted.CollectE) 16777217 × To (word counted.Collect) 0 16777216 × Not (word counted.Collect) 16777217
collected_numbers = ((refl, refl), refl, (refl, refl), refl)

abbrev Lengths : Token → Type 0
Lengths t = Not t 0 × To t 1 65536 × Not t 65537

lengths_of_pieces : Lengths (word counted.Lines) × Lengths (word counted.Exact) × Lengths (word counted.ChunksOf)
lengths_of_pieces = ((refl, (refl, refl), refl), (refl, (refl, refl), refl), (refl, (refl, refl), refl))

-- behind the literal of `split`
lengths_of_split : Lengths (token.Text (44 ∷ []))
lengths_of_split = (refl, (refl, refl), refl)

mapped_numbers : To (token.Word (keyword.NumberMap number_map.Xor)) 0 255 × Not (token.Word (keyword.NumberMap number_map.Xor)) 256 × To (token.Word (keyword.NumberMap number_map.Add)) 0 255 × Not (token.Word (keyword.NumberMap number_map.Add)) 256
mapped_numbers = ((refl, refl), refl, (refl, refl), refl)

copied_numbers : To (token.Word keyword.Replicate) 0 1099511627776 × Not (token.Word keyword.Replicate) 1099511627777
copied_numbers = ((refl, refl), refl)

-- a number past 2^64 - 1 passes the limit in these places too
past_every_number : Behind (word counted.RepeatE) None (Some Number) × Behind (word counted.Lines) None (Some Number) × Behind (token.Word keyword.Replicate) None (Some Number)
past_every_number = (refl, refl, refl)

-- the token before a number tells its range, and no earlier one
range_of_the_token_before : limit_at (word counted.RepeatE ∷ token.Number (Some 3) ∷ word counted.TakeE ∷ token.Number (Some 4097) ∷ []) 3 ≡ None
range_of_the_token_before = refl

split_of_65537 : limit_at (token.Word keyword.Split ∷ token.Text (44 ∷ []) ∷ token.Number (Some 65537) ∷ []) 2 ≡ Some Number
split_of_65537 = refl

byte_of_256 : limit_at (token.Word keyword.MapE ∷ token.Word (keyword.NumberMap number_map.Add) ∷ token.Number (Some 256) ∷ []) 2 ≡ Some Number
byte_of_256 = refl

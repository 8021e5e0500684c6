-- The limits of tokens, depth, literals and numbers.
use Rattle.std.specs.Prelude.{ℕ, ◌+◌, ◌-◌, ◌^◌, Bool, true, false, ◌&&◌, ◌||◌, nat_lt, nat_le, if◌then◌else◌, List, [], ◌∷◌, length, take, drop, Option, Some, None, ◌≡◌}
use Rattle.std.specs.List.{fold}
use Rattle.cd_elem.specs.Limits.{repeat_limit, collect_limit}
use Rattle.cd_elem.specs.declared.token.CountedWord.{CountedWord}
use Rattle.cd_elem.specs.declared.token.CountedWord.TheVariants as counted
use Rattle.cd_elem.specs.declared.token.Keyword.{Keyword}
use Rattle.cd_elem.specs.declared.token.Keyword.TheVariants as keyword
use Rattle.cd_elem.specs.declared.token.Sign.{Sign}
use Rattle.cd_elem.specs.declared.token.Sign.TheVariants as sign
use Rattle.cd_elem.specs.declared.token.Token.{Token}
use Rattle.cd_elem.specs.declared.token.Token.TheVariants as token
use Rattle.cd_elem.specs.declared.token.LimitKind.{LimitKind}
use Rattle.cd_elem.specs.declared.token.LimitKind.TheVariants.{Tokens, Depth, Literal, Number}

-- bytes of a script's text
abbrev pub text_limit : ℕ
text_limit = 65536

-- tokens
abbrev pub token_limit : ℕ
token_limit = 8192

-- open brackets
abbrev pub depth_limit : ℕ
depth_limit = 32

-- bytes of a literal's value, and of a name
abbrev pub literal_limit : ℕ
literal_limit = 4096

abbrev pub name_limit : ℕ
name_limit = 64

-- numbers: a length of pieces, a byte, and copies of a piece; those of cd_elem besides
abbrev pub length_limit : ℕ
length_limit = 65536

abbrev pub byte_limit : ℕ
byte_limit = 255

abbrev pub copy_limit : ℕ
copy_limit = 1099511627776

-- the numbers that may stand in a place, both ends included
pub record Bounds : Type 0 where
  pub least : ℕ
  pub most : ℕ

abbrev pub bounds : ℕ → ℕ → Bounds
bounds least most = record { least = least; most = most }

abbrev pub every_number : Bounds
every_number = bounds 0 (2 ^ 64 - 1)

-- of times that something is repeated, of lengths of pieces, of things collected, of bytes, and of copies
abbrev pub repeat_bounds : Bounds
repeat_bounds = bounds 0 repeat_limit

abbrev pub length_bounds : Bounds
length_bounds = bounds 1 length_limit

abbrev pub collect_bounds : Bounds
collect_bounds = bounds 0 collect_limit

abbrev pub byte_bounds : Bounds
byte_bounds = bounds 0 byte_limit

abbrev pub copy_bounds : Bounds
copy_bounds = bounds 0 copy_limit

abbrev pub counted_bounds : CountedWord → Bounds
counted_bounds counted.TakeE = every_number
counted_bounds counted.RepeatE = repeat_bounds
counted_bounds counted.DropE = every_number
counted_bounds counted.CollectE = collect_bounds
counted_bounds counted.Take = every_number
counted_bounds counted.Repeat = repeat_bounds
counted_bounds counted.Drop = every_number
counted_bounds counted.Collect = collect_bounds
counted_bounds counted.Lines = length_bounds
counted_bounds counted.Exact = length_bounds
counted_bounds counted.ChunksOf = length_bounds

abbrev pub keyword_bounds : Keyword → Bounds
keyword_bounds (keyword.Counted w) = counted_bounds w
keyword_bounds (keyword.NumberMap m) = byte_bounds
keyword_bounds keyword.Replicate = copy_bounds
keyword_bounds _ = every_number

-- The numbers that may stand behind this token. A literal has a number behind it only in `split`.
abbrev pub bounds_behind : Token → Bounds
bounds_behind (token.Word k) = keyword_bounds k
bounds_behind (token.Text s) = length_bounds
bounds_behind _ = every_number

abbrev pub bounds_after : List Token → Bounds
bounds_after ts = fold (λ _ t. bounds_behind t) every_number ts

abbrev pub brackets_with_sign : ℕ → Sign → ℕ
brackets_with_sign n sign.OpenBrace = n + 1
brackets_with_sign n sign.OpenParen = n + 1
brackets_with_sign n sign.OpenSquare = n + 1
brackets_with_sign n sign.CloseBrace = n - 1
brackets_with_sign n sign.CloseParen = n - 1
brackets_with_sign n sign.CloseSquare = n - 1
brackets_with_sign n _ = n

abbrev pub brackets_with : ℕ → Token → ℕ
brackets_with n (token.Sign s) = brackets_with_sign n s
brackets_with n _ = n

-- how many brackets these tokens leave open
abbrev pub open_brackets : List Token → ℕ
open_brackets ts = fold brackets_with 0 ts

abbrev pub sign_opens_bracket : Sign → Bool
sign_opens_bracket sign.OpenBrace = true
sign_opens_bracket sign.OpenParen = true
sign_opens_bracket sign.OpenSquare = true
sign_opens_bracket _ = false

abbrev pub opens_bracket : Token → Bool
opens_bracket (token.Sign s) = sign_opens_bracket s
opens_bracket _ = false

abbrev pub is_too_long : Token → Bool
is_too_long (token.Text s) = nat_lt literal_limit (length s)
is_too_long (token.Named n) = nat_lt name_limit (length n)
is_too_long _ = false

abbrev pub is_outside : Bounds → Token → Bool
is_outside r (token.Number None) = true
is_outside r (token.Number (Some n)) = nat_lt n r.least || nat_lt r.most n
is_outside r _ = false

-- the first limit that a token passes, behind so many tokens and open brackets
abbrev pub limit_of : ℕ → ℕ → Bounds → Token → Option LimitKind
limit_of count open_now r t =
    if nat_le token_limit count then Some Tokens
    else (if nat_le depth_limit open_now && opens_bracket t then Some Depth
    else (if is_too_long t then Some Literal
    else (if is_outside r t then Some Number else None)))

-- the same, behind these tokens
abbrev pub limit_behind : List Token → Token → Option LimitKind
limit_behind ts t = limit_of (length ts) (open_brackets ts) (bounds_after ts) t

abbrev pub limit_here : List Token → List Token → Option LimitKind
limit_here before [] = None
limit_here before (t ∷ rest) = limit_behind before t

-- the limit that the token at i passes, if it passes one
abbrev pub limit_at : List Token → ℕ → Option LimitKind
limit_at ts i = limit_here (take i ts) (drop i ts)

abbrev pub IsWithinLimits : List Token → Type 0
IsWithinLimits ts = (i : ℕ) → limit_at ts i ≡ None

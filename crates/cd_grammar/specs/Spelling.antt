-- How tokens are written.
use Rattle.std.specs.Prelude.{ℕ, ◌==◌, ◌||◌, nat_lt, if◌then◌else◌, List, [], ◌∷◌, ◌++◌, Some, None, codes, decimal}
use Rattle.std.specs.List.{flat_map}
use Rattle.cd_elem.specs.Ascii.{newline}
use Rattle.cd_elem.specs.declared.script.Join.{Join}
use Rattle.cd_elem.specs.declared.script.Join.TheVariants as join
use Rattle.cd_elem.specs.declared.token.Sign.{Sign}
use Rattle.cd_elem.specs.declared.token.Sign.TheVariants as sign
use Rattle.cd_elem.specs.declared.token.Token.{Token}
use Rattle.cd_elem.specs.declared.token.Token.TheVariants as token
use Rattle.cd_elem.specs.Base16.{hex_digit, hex_digits}
use Rattle.cd_grammar.specs.Keywords.{spelled_word}

abbrev pub spelled_join : Join → List ℕ
spelled_join join.Plain = codes "|"
spelled_join join.Keep = codes "|="
spelled_join join.Return = codes "|+"
spelled_join join.Both = codes "|&"
spelled_join join.Up = codes "|<"
spelled_join join.Asked = codes "|?"

abbrev pub spelled_sign : Sign → List ℕ
spelled_sign (sign.Operator j) = spelled_join j
spelled_sign sign.OpenBrace = codes "{"
spelled_sign sign.CloseBrace = codes "}"
spelled_sign sign.OpenParen = codes "("
spelled_sign sign.CloseParen = codes ")"
spelled_sign sign.OpenSquare = codes "["
spelled_sign sign.CloseSquare = codes "]"
spelled_sign sign.Comma = codes ","
spelled_sign sign.Semicolon = codes ";"
spelled_sign sign.Equals = codes "="

abbrev pub by_digits : List ℕ → List ℕ
by_digits ds = codes "\\u{" ++ ds ++ codes "}"

-- A byte of a literal. Those of a character from 128 on stand for themselves.
abbrev pub escaped : ℕ → List ℕ
escaped c =
    if c == 92 then codes "\\\\"
    else (if c == 34 then codes "\\\""
    else (if c == newline then codes "\\n"
    else (if c == 13 then codes "\\r"
    else (if c == 9 then codes "\\t"
    else (if nat_lt c 16 then by_digits (hex_digit c ∷ [])
    else (if nat_lt c 32 || c == 127 then by_digits (hex_digits c) else c ∷ []))))))

abbrev pub quoted : List ℕ → List ℕ
quoted s = codes "\"" ++ flat_map escaped s ++ codes "\""

-- No number past 2^64 - 1 stands in a tree, so none is written.
abbrev pub spelled : Token → List ℕ
spelled (token.Word k) = spelled_word k
spelled (token.Sign s) = spelled_sign s
spelled (token.Number None) = []
spelled (token.Number (Some n)) = decimal n
spelled (token.Text s) = quoted s
spelled (token.Named n) = n

-- The canonical text of a script.
use Rattle.std.specs.Prelude.{ℕ, Bool, true, false, ◌&&◌, ◌||◌, if◌then◌else◌, List, [], ◌∷◌, ◌++◌}
use Rattle.std.specs.List.{flat_map}
use Rattle.cd_elem.specs.Ascii.{newline}
use Rattle.cd_elem.specs.declared.script.Stmt.{Stmt}
use Rattle.cd_elem.specs.declared.token.Keyword.TheVariants as keyword
use Rattle.cd_elem.specs.declared.token.Sign.TheVariants as sign
use Rattle.cd_elem.specs.declared.token.Token.{Token}
use Rattle.cd_elem.specs.declared.token.Token.TheVariants as token
use Rattle.cd_grammar.specs.Canonical.{canonical_statement}
use Rattle.cd_grammar.specs.Spelling.{spelled}

-- no blank stands before these
abbrev pub takes_no_blank_before : Token → Bool
takes_no_blank_before (token.Sign sign.Comma) = true
takes_no_blank_before (token.Sign sign.Semicolon) = true
takes_no_blank_before (token.Sign sign.CloseParen) = true
takes_no_blank_before (token.Sign sign.CloseSquare) = true
takes_no_blank_before _ = false

-- nor behind these
abbrev pub takes_no_blank_behind : Token → Bool
takes_no_blank_behind (token.Sign sign.OpenParen) = true
takes_no_blank_behind (token.Sign sign.OpenSquare) = true
takes_no_blank_behind _ = false

-- nor between one of these words and its parenthesis
abbrev pub is_call : Token → Bool
is_call (token.Word keyword.Tee) = true
is_call (token.Word (keyword.Zip z)) = true
is_call _ = false

abbrev pub is_paren : Token → Bool
is_paren (token.Sign sign.OpenParen) = true
is_paren _ = false

abbrev pub blank_between : Token → Token → List ℕ
blank_between before behind = if takes_no_blank_behind before || (takes_no_blank_before behind || (is_call before && is_paren behind)) then [] else 32 ∷ []

abbrev pub spelled_behind : Token → List Token → List ℕ
spelled_behind before [] = []
spelled_behind before (t ∷ ts) = blank_between before t ++ (spelled t ++ spelled_behind t ts)

abbrev pub spaced : List Token → List ℕ
spaced [] = []
spaced (t ∷ ts) = spelled t ++ spelled_behind t ts

abbrev pub statement_line : Stmt → List ℕ
statement_line s = spaced (canonical_statement s) ++ newline ∷ []

abbrev pub canonical_text : List Stmt → List ℕ
canonical_text ss = flat_map statement_line ss

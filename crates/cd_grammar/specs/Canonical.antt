-- The tokens of a tree in the canonical text, and which trees are within the limits.
use Rattle.std.specs.Prelude.{◌≡◌, ℕ, Bool, true, false, ◌&&◌, if◌then◌else◌, List, [], ◌∷◌, ◌++◌, map, Option, Some}
use Rattle.std.specs.List.{flat_map, list_all}
use Rattle.cd_elem.specs.declared.script.Join.TheVariants as join
use Rattle.cd_elem.specs.declared.script.Pipe.{Pipe}
use Rattle.cd_elem.specs.declared.script.Pipe.TheOpen.{Pipe-F}
use Rattle.cd_elem.specs.declared.script.Pipe.TheFolds.{fold-Pipe}
use Rattle.cd_elem.specs.declared.script.Stmt.{Stmt}
use Rattle.cd_elem.specs.declared.script.Stmt.TheVariants as stmt
use Rattle.cd_elem.specs.declared.token.Opening.TheVariants as opening
use Rattle.cd_elem.specs.declared.token.Section.TheVariants as section
use Rattle.cd_elem.specs.declared.token.Zip.TheVariants as zip
use Rattle.cd_elem.specs.declared.token.Keyword.TheVariants as keyword
use Rattle.cd_elem.specs.declared.token.Sign.TheVariants as sign
use Rattle.cd_elem.specs.declared.token.Token.{Token}
use Rattle.cd_elem.specs.declared.token.Token.TheVariants as token
use Rattle.cd_elem.specs.declared.word.Word.{Word}
use Rattle.cd_elem.specs.declared.word.Word.TheVariants as word
use Rattle.cd_elem.specs.declared.word.SourceWord.TheVariants as source
use Rattle.cd_elem.specs.declared.word.SinkWord.TheVariants as sink
use Rattle.cd_grammar.specs.CanonicalWords.{canonical_word, separated}
use Rattle.cd_grammar.specs.Grammar.{operator}
use Rattle.cd_grammar.specs.Limits.{IsWithinLimits}
use Rattle.cd_grammar.specs.Tokens.{whole_token}

-- a pipe's tokens, and whether they need parentheses as a member of a chain
pub record PipeTokens : Type 0 where
  pub is_chain : Bool
  pub tokens : List Token

abbrev pub simple : List Token → PipeTokens
simple ts = record { is_chain = false; tokens = ts }

abbrev pub wrapped : PipeTokens → List Token
wrapped p = if p.is_chain then token.Sign sign.OpenParen ∷ p.tokens ++ token.Sign sign.CloseParen ∷ [] else p.tokens

abbrev pub braced : List Token → List Token
braced ts = token.Sign sign.OpenBrace ∷ ts ++ token.Sign sign.CloseBrace ∷ []

abbrev pub in_parens : List Token → List Token
in_parens ts = token.Sign sign.OpenParen ∷ ts ++ token.Sign sign.CloseParen ∷ []

abbrev pub pair : PipeTokens → PipeTokens → List Token
pair p q = p.tokens ++ token.Sign sign.Comma ∷ q.tokens

-- one level, with the pieces of the pipes in it
abbrev pub canonical_step : Pipe-F PipeTokens → PipeTokens
canonical_step (Pipe-F.Word w) = simple (canonical_word w)
canonical_step (Pipe-F.Chain j ps) = record { is_chain = true; tokens = separated (operator j) (map wrapped ps) }
canonical_step (Pipe-F.Sequence ps) = simple (braced (separated (token.Sign sign.Semicolon) (map (λ p. p.tokens) ps)))
canonical_step (Pipe-F.Exactly n p) = simple (token.Word (keyword.Section section.Exactly) ∷ token.Number (Some n) ∷ braced p.tokens)
canonical_step (Pipe-F.ExactlyE n p) = simple (token.Word (keyword.Section section.ExactlyE) ∷ token.Number (Some n) ∷ braced p.tokens)
canonical_step (Pipe-F.LineE p) = simple (token.Word keyword.LineE ∷ braced p.tokens)
canonical_step (Pipe-F.Mark s p) = simple (token.Word keyword.Mark ∷ token.Text s ∷ braced p.tokens)
canonical_step (Pipe-F.Tee p) = simple (token.Word keyword.Tee ∷ in_parens p.tokens)
canonical_step (Pipe-F.ZipSource p q s) = simple (token.Word (keyword.Zip zip.Source) ∷ in_parens (pair p q ++ token.Sign sign.Comma ∷ token.Text s ∷ []))
canonical_step (Pipe-F.ZipSink p q) = simple (token.Word (keyword.Zip zip.Sink) ∷ in_parens (pair p q))
canonical_step (Pipe-F.ZipConduit p q) = simple (token.Word (keyword.Zip zip.Conduit) ∷ in_parens (pair p q))

unfoldable pub canonical_pipe : Pipe → PipeTokens
canonical_pipe p = fold-Pipe PipeTokens canonical_step p

abbrev pub with_semicolon : Pipe → List Token
with_semicolon p = (canonical_pipe p).tokens ++ token.Sign sign.Semicolon ∷ []

abbrev pub canonical_statement : Stmt → List Token
canonical_statement (stmt.Run p) = token.Word keyword.Run ∷ with_semicolon p
canonical_statement (stmt.Seal n p) = token.Word (keyword.Opening opening.Let) ∷ token.Named n ∷ token.Sign sign.Equals ∷ token.Word keyword.Seal ∷ with_semicolon p
canonical_statement (stmt.Feed n p) = token.Word (keyword.Opening opening.Feed) ∷ token.Named n ∷ operator join.Plain ∷ with_semicolon p
canonical_statement (stmt.CloseSeal n p) = token.Word (keyword.Opening opening.Close) ∷ token.Named n ∷ operator join.Plain ∷ with_semicolon p
canonical_statement (stmt.Hold n s) =
    token.Word (keyword.Opening opening.Hold) ∷ token.Named n ∷ token.Sign sign.Equals ∷ token.Word keyword.Mark ∷ token.Text s ∷ token.Sign sign.Semicolon ∷ []
canonical_statement (stmt.Release n) = token.Word (keyword.Opening opening.Release) ∷ token.Named n ∷ token.Sign sign.Semicolon ∷ []

abbrev pub canonical : List Stmt → List Token
canonical ss = flat_map canonical_statement ss

-- Whether a tree has the form of a script's.
abbrev pub has_one : List Bool → Bool
has_one [] = false
has_one (x ∷ xs) = true

abbrev pub has_two : List Bool → Bool
has_two [] = false
has_two (x ∷ xs) = has_one xs

abbrev pub is_file : List ℕ → Bool
is_file [] = false
is_file (c ∷ cs) = true

abbrev pub is_proper_word : Word → Bool
is_proper_word (word.Source (source.SourceFile s)) = is_file s
is_proper_word (word.Sink (sink.SinkFile s)) = is_file s
is_proper_word _ = true

-- each chain has two members or more, each sequence one or more, and no file's name is empty
abbrev pub proper_step : Pipe-F Bool → Bool
proper_step (Pipe-F.Word w) = is_proper_word w
proper_step (Pipe-F.Chain j ps) = has_two ps && list_all (λ p. p) ps
proper_step (Pipe-F.Sequence ps) = has_one ps && list_all (λ p. p) ps
proper_step (Pipe-F.Exactly n p) = p
proper_step (Pipe-F.ExactlyE n p) = p
proper_step (Pipe-F.LineE p) = p
proper_step (Pipe-F.Mark s p) = is_file s && p
proper_step (Pipe-F.Tee p) = p
proper_step (Pipe-F.ZipSource p q s) = p && q
proper_step (Pipe-F.ZipSink p q) = p && q
proper_step (Pipe-F.ZipConduit p q) = p && q

unfoldable pub is_proper : Pipe → Bool
is_proper p = fold-Pipe Bool proper_step p

abbrev pub is_named : Option Token → Bool
is_named (Some (token.Named n)) = true
is_named _ = false

-- an identifier that is not reserved
abbrev pub is_name : List ℕ → Bool
is_name n = is_named (whole_token n)

abbrev pub is_proper_statement : Stmt → Bool
is_proper_statement (stmt.Run p) = is_proper p
is_proper_statement (stmt.Seal n p) = is_name n && is_proper p
is_proper_statement (stmt.Feed n p) = is_name n && is_proper p
is_proper_statement (stmt.CloseSeal n p) = is_name n && is_proper p
is_proper_statement (stmt.Hold n s) = is_name n && is_file s
is_proper_statement (stmt.Release n) = is_name n

-- The tree has the form of a script's, and no token of its canonical text passes a limit: so each number is in its range too.
pub record IsTreeWithin (tree : List Stmt) : Type 0 where
  pub proper : list_all is_proper_statement tree ≡ true
  pub within : IsWithinLimits (canonical tree)

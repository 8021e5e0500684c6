-- Tokens that no script goes on with, by computation: each list is refused at its last token.
use Rattle.std.proofs.Common.{[], ◌∷◌, refl}
use Rattle.cd_elem.specs.declared.token.PlainWord.TheVariants as plain
use Rattle.cd_elem.specs.declared.token.CountedWord.TheVariants as counted
use Rattle.cd_elem.specs.declared.token.ClassedWord.TheVariants as classed
use Rattle.cd_elem.specs.declared.token.FileWord.TheVariants as file
use Rattle.cd_elem.specs.declared.token.ListWord.TheVariants as list
use Rattle.cd_elem.specs.declared.token.Opening.TheVariants as opening
use Rattle.cd_elem.specs.declared.token.Zip.TheVariants as zip
use Rattle.cd_elem.specs.declared.token.Keyword.TheVariants as keyword
use Rattle.cd_elem.specs.declared.token.Sign.TheVariants as sign
use Rattle.cd_elem.specs.declared.token.Token.TheVariants as token
use Rattle.cd_elem.specs.declared.script.Join.TheVariants as join
use Rattle.cd_grammar.specs.Grammar.{IsFront, operator}
use Rattle.cd_parser.proofs.Fronts.{no_front}

-- `run passE | passE |&`
mixed_operators : IsFront (token.Word keyword.Run ∷ token.Word (keyword.Plain plain.PassE) ∷ operator join.Plain ∷ token.Word (keyword.Plain plain.PassE) ∷ operator join.Both ∷ []) → ⊥
mixed_operators = no_front _ refl

-- `run ;`
no_part : IsFront (token.Word keyword.Run ∷ token.Sign sign.Semicolon ∷ []) → ⊥
no_part = no_front _ refl

-- `run {}`
empty_braces : IsFront (token.Word keyword.Run ∷ token.Sign sign.OpenBrace ∷ token.Sign sign.CloseBrace ∷ []) → ⊥
empty_braces = no_front _ refl

-- `run (passE}`
other_bracket : IsFront (token.Word keyword.Run ∷ token.Sign sign.OpenParen ∷ token.Word (keyword.Plain plain.PassE) ∷ token.Sign sign.CloseBrace ∷ []) → ⊥
other_bracket = no_front _ refl

-- `let run`
reserved_name : IsFront (token.Word (keyword.Opening opening.Let) ∷ token.Word keyword.Run ∷ []) → ⊥
reserved_name = no_front _ refl

-- `version`
unused_word : IsFront (token.Word keyword.Version ∷ []) → ⊥
unused_word = no_front _ refl

-- `run takeE ;`
no_number : IsFront (token.Word keyword.Run ∷ token.Word (keyword.Counted counted.TakeE) ∷ token.Sign sign.Semicolon ∷ []) → ⊥
no_number = no_front _ refl

-- `run sourceFile ""`
no_file : IsFront (token.Word keyword.Run ∷ token.Word (keyword.File file.SourceFile) ∷ token.Text [] ∷ []) → ⊥
no_file = no_front _ refl

-- `hold k = mark ""`
no_file_to_hold : IsFront (token.Word (keyword.Opening opening.Hold) ∷ token.Named (107 ∷ []) ∷ token.Sign sign.Equals ∷ token.Word keyword.Mark ∷ token.Text [] ∷ []) → ⊥
no_file_to_hold = no_front _ refl

-- `run filterE not not`
two_nots : IsFront (token.Word keyword.Run ∷ token.Word (keyword.Classed classed.FilterE) ∷ token.Word keyword.Not ∷ token.Word keyword.Not ∷ []) → ⊥
two_nots = no_front _ refl

-- `run filterE empty`
test_for_a_class : IsFront (token.Word keyword.Run ∷ token.Word (keyword.Classed classed.FilterE) ∷ token.Word keyword.Empty ∷ []) → ⊥
test_for_a_class = no_front _ refl

-- `run blocks ["", ]`
comma_at_the_end : IsFront (token.Word keyword.Run ∷ token.Word (keyword.List list.Blocks) ∷ token.Sign sign.OpenSquare ∷ token.Text [] ∷ token.Sign sign.Comma ∷ token.Sign sign.CloseSquare ∷ []) → ⊥
comma_at_the_end = no_front _ refl

-- `run zipSink(passE)`
one_pipe : IsFront (token.Word keyword.Run ∷ token.Word (keyword.Zip zip.Sink) ∷ token.Sign sign.OpenParen ∷ token.Word (keyword.Plain plain.PassE) ∷ token.Sign sign.CloseParen ∷ []) → ⊥
one_pipe = no_front _ refl

-- `run zipSource(passE, passE)`
no_literal : IsFront (token.Word keyword.Run ∷ token.Word (keyword.Zip zip.Source) ∷ token.Sign sign.OpenParen ∷ token.Word (keyword.Plain plain.PassE) ∷ token.Sign sign.Comma ∷ token.Word (keyword.Plain plain.PassE) ∷ token.Sign sign.CloseParen ∷ []) → ⊥
no_literal = no_front _ refl

-- `run lineE {passE;`
two_pipes : IsFront (token.Word keyword.Run ∷ token.Word keyword.LineE ∷ token.Sign sign.OpenBrace ∷ token.Word (keyword.Plain plain.PassE) ∷ token.Sign sign.Semicolon ∷ []) → ⊥
two_pipes = no_front _ refl

-- `let a = passE`
nothing_to_seal : IsFront (token.Word (keyword.Opening opening.Let) ∷ token.Named (97 ∷ []) ∷ token.Sign sign.Equals ∷ token.Word (keyword.Plain plain.PassE) ∷ []) → ⊥
nothing_to_seal = no_front _ refl

-- `feed a |=`
fed_by_another : IsFront (token.Word (keyword.Opening opening.Feed) ∷ token.Named (97 ∷ []) ∷ operator join.Keep ∷ []) → ⊥
fed_by_another = no_front _ refl

-- Each form of the grammar once: the tokens that its derivation spells, and the tree that it stands for.
use Rattle.std.specs.Prelude.{◌≡◌, refl, true, false, [], ◌∷◌, Some, None, codes}
use Rattle.std.specs.Str.{chars}
use Rattle.cd_elem.specs.declared.token.PlainWord.TheVariants as plain
use Rattle.cd_elem.specs.declared.token.CountedWord.TheVariants as counted
use Rattle.cd_elem.specs.declared.token.ClassedWord.TheVariants as classed
use Rattle.cd_elem.specs.declared.token.TestedWord.TheVariants as tested
use Rattle.cd_elem.specs.declared.token.LiteralWord.TheVariants as literal
use Rattle.cd_elem.specs.declared.token.FileWord.TheVariants as file
use Rattle.cd_elem.specs.declared.token.ListWord.TheVariants as list
use Rattle.cd_elem.specs.declared.token.PlainClass.TheVariants as class
use Rattle.cd_elem.specs.declared.token.EndTest.TheVariants as end_test
use Rattle.cd_elem.specs.declared.token.NumberMap.TheVariants as number_map
use Rattle.cd_elem.specs.declared.token.EndMap.TheVariants as end_map
use Rattle.cd_elem.specs.declared.token.Opening.TheVariants as opening
use Rattle.cd_elem.specs.declared.token.Section.TheVariants as section
use Rattle.cd_elem.specs.declared.token.Zip.TheVariants as zip
use Rattle.cd_elem.specs.declared.token.Keyword.TheVariants as keyword
use Rattle.cd_elem.specs.declared.token.Sign.TheVariants as sign
use Rattle.cd_elem.specs.declared.token.Token.TheVariants as token
use Rattle.cd_elem.specs.declared.script.Join.TheVariants as join
use Rattle.cd_elem.specs.declared.script.Pipe.TheVariants as pipe
use Rattle.cd_elem.specs.declared.script.Stmt.TheVariants as stmt
use Rattle.cd_elem.specs.declared.word.Word.TheVariants as word
use Rattle.cd_elem.specs.declared.word.ElemWord.TheVariants as elem
use Rattle.cd_elem.specs.declared.word.PieceWord.TheVariants as piece
use Rattle.cd_elem.specs.declared.word.SplitWord.TheVariants as split
use Rattle.cd_elem.specs.declared.word.SourceWord.TheVariants as source
use Rattle.cd_elem.specs.declared.word.SinkWord.TheVariants as sink
use Rattle.cd_elem.specs.declared.word.ClassName.TheVariants as name
use Rattle.cd_elem.specs.declared.word.TestName.TheVariants as test
use Rattle.cd_elem.specs.declared.word.ByteMap.TheVariants as byte_map
use Rattle.cd_elem.specs.declared.word.PieceMap.TheVariants as piece_map
use Rattle.cd_elem.specs.declared.script.Pipe.{Pipe}
use Rattle.cd_grammar.specs.Grammar as g

abbrev part : g.PartForm
part = g.OfWord (g.Plain plain.PassE)

abbrev one : g.PipeForm
one = g.One part

abbrev passed : Pipe
passed = pipe.Word (word.Elem elem.PassE)

abbrev named_f : g.FileName
named_f = record { first = 102; rest = [] }

one_a : g.one_scalar (codes "a") ≡ Some 97
unfolding chars
one_a = refl

no_scalar : g.one_scalar [] ≡ None
unfolding chars
no_scalar = refl

two_scalars : g.one_scalar (codes "ab") ≡ None
unfolding chars
two_scalars = refl

-- U+20AC
three_bytes : g.one_scalar (226 ∷ 130 ∷ 172 ∷ []) ≡ Some 8364
unfolding chars
three_bytes = refl

abbrev letter : g.Character
letter = record { text = codes "a"; scalar = 97; one = one_a }

-- `passE`
word_plain : (g.word_tokens (g.Plain plain.PassE) ≡ token.Word (keyword.Plain plain.PassE) ∷ []) × (g.word_tree (g.Plain plain.PassE) ≡ word.Elem elem.PassE)
word_plain = (refl, refl)

-- `takeE 5`
word_counted : (g.word_tokens (g.Counted counted.TakeE (Some 5)) ≡ token.Word (keyword.Counted counted.TakeE) ∷ token.Number (Some 5) ∷ []) × (g.word_tree (g.Counted counted.TakeE (Some 5)) ≡ word.Elem (elem.TakeE 5))
word_counted = (refl, refl)

-- `filterE digit`
word_classed : (g.word_tokens (g.Classed classed.FilterE false (g.Simple class.Digit)) ≡ token.Word (keyword.Classed classed.FilterE) ∷ token.Word (keyword.Class class.Digit) ∷ []) × (g.word_tree (g.Classed classed.FilterE false (g.Simple class.Digit)) ≡ word.Elem (elem.FilterE (record { negated = false; what = name.Digit })))
word_classed = (refl, refl)

-- `allE not below 9`
class_outside : (g.word_tokens (g.Classed classed.AllE true (g.Below (Some 9))) ≡ token.Word (keyword.Classed classed.AllE) ∷ token.Word keyword.Not ∷ token.Word keyword.Below ∷ token.Number (Some 9) ∷ []) × (g.word_tree (g.Classed classed.AllE true (g.Below (Some 9))) ≡ word.Elem (elem.AllE (record { negated = true; what = name.Below 9 })))
class_outside = (refl, refl)

-- `anyE is "a"`
class_of_one : (g.word_tokens (g.Classed classed.AnyE false (g.Is letter)) ≡ token.Word (keyword.Classed classed.AnyE) ∷ token.Word keyword.Is ∷ token.Text (codes "a") ∷ []) × (g.word_tree (g.Classed classed.AnyE false (g.Is letter)) ≡ word.Elem (elem.AnyE (record { negated = false; what = name.Is 97 })))
class_of_one = (refl, refl)

-- `filter not empty`
word_tested : (g.word_tokens (g.Tested tested.Filter true g.Empty) ≡ token.Word (keyword.Tested tested.Filter) ∷ token.Word keyword.Not ∷ token.Word keyword.Empty ∷ []) × (g.word_tree (g.Tested tested.Filter true g.Empty) ≡ word.Piece (piece.Filter (record { negated = true; what = test.Empty })))
word_tested = (refl, refl)

-- `takeWhile begins "a"`
tested_end : (g.word_tokens (g.Tested tested.TakeWhile false (g.AtEnd end_test.Begins (codes "a"))) ≡ token.Word (keyword.Tested tested.TakeWhile) ∷ token.Word (keyword.EndTest end_test.Begins) ∷ token.Text (codes "a") ∷ []) × (g.word_tree (g.Tested tested.TakeWhile false (g.AtEnd end_test.Begins (codes "a"))) ≡ word.Piece (piece.TakeWhile (record { negated = false; what = test.Begins (codes "a") })))
tested_end = (refl, refl)

-- `dropWhile shorter 3`
tested_length : (g.word_tokens (g.Tested tested.DropWhile false (g.Shorter (Some 3))) ≡ token.Word (keyword.Tested tested.DropWhile) ∷ token.Word keyword.Shorter ∷ token.Number (Some 3) ∷ []) × (g.word_tree (g.Tested tested.DropWhile false (g.Shorter (Some 3))) ≡ word.Piece (piece.DropWhile (record { negated = false; what = test.Shorter 3 })))
tested_length = (refl, refl)

-- `mapE xor 255`
mapped_by_number : (g.word_tokens (g.MapE (g.ByNumber number_map.Xor (Some 255))) ≡ token.Word keyword.MapE ∷ token.Word (keyword.NumberMap number_map.Xor) ∷ token.Number (Some 255) ∷ []) × (g.word_tree (g.MapE (g.ByNumber number_map.Xor (Some 255))) ≡ word.Elem (elem.MapE (byte_map.Xor 255)))
mapped_by_number = (refl, refl)

-- `mapE rot13`
mapped_letters : (g.word_tokens (g.MapE g.Rot13) ≡ token.Word keyword.MapE ∷ token.Word keyword.Rot13 ∷ []) × (g.word_tree (g.MapE g.Rot13) ≡ word.Elem (elem.MapE byte_map.Rot13))
mapped_letters = (refl, refl)

-- `map suffix "a"`
mapped_by_text : (g.word_tokens (g.Map (g.ByText end_map.Suffix (codes "a"))) ≡ token.Word keyword.Map ∷ token.Word (keyword.EndMap end_map.Suffix) ∷ token.Text (codes "a") ∷ []) × (g.word_tree (g.Map (g.ByText end_map.Suffix (codes "a"))) ≡ word.Piece (piece.Map (piece_map.Suffix (codes "a"))))
mapped_by_text = (refl, refl)

-- `map reverse`
reversed : (g.word_tokens (g.Map g.Reverse) ≡ token.Word keyword.Map ∷ token.Word keyword.Reverse ∷ []) × (g.word_tree (g.Map g.Reverse) ≡ word.Piece (piece.Map piece_map.Reverse))
reversed = (refl, refl)

-- `bytes "a"`
with_literal : (g.word_tokens (g.Literal literal.Bytes (codes "a")) ≡ token.Word (keyword.Literal literal.Bytes) ∷ token.Text (codes "a") ∷ []) × (g.word_tree (g.Literal literal.Bytes (codes "a")) ≡ word.Source (source.Bytes (codes "a")))
with_literal = (refl, refl)

-- `sinkFile "f"`
with_file : (g.word_tokens (g.OfFile file.SinkFile named_f) ≡ token.Word (keyword.File file.SinkFile) ∷ token.Text (codes "f") ∷ []) × (g.word_tree (g.OfFile file.SinkFile named_f) ≡ word.Sink (sink.SinkFile (codes "f")))
with_file = (refl, refl)

-- `split "a" 5`
cut : (g.word_tokens (g.Split letter (Some 5)) ≡ token.Word keyword.Split ∷ token.Text (codes "a") ∷ token.Number (Some 5) ∷ []) × (g.word_tree (g.Split letter (Some 5)) ≡ word.Split (split.Split 97 5))
cut = (refl, refl)

-- `blocks []`
empty_list : (g.word_tokens (g.OfList list.Blocks g.Nothing) ≡ token.Word (keyword.List list.Blocks) ∷ token.Sign sign.OpenSquare ∷ token.Sign sign.CloseSquare ∷ []) × (g.word_tree (g.OfList list.Blocks g.Nothing) ≡ word.Source (source.Blocks []))
empty_list = (refl, refl)

-- `texts ["a", "b"]`
full_list : (g.word_tokens (g.OfList list.Texts (g.All (g.AndLiteral (g.OneLiteral (codes "a")) (codes "b")))) ≡ token.Word (keyword.List list.Texts) ∷ token.Sign sign.OpenSquare ∷ token.Text (codes "a") ∷ token.Sign sign.Comma ∷ token.Text (codes "b") ∷ token.Sign sign.CloseSquare ∷ []) × (g.word_tree (g.OfList list.Texts (g.All (g.AndLiteral (g.OneLiteral (codes "a")) (codes "b")))) ≡ word.Source (source.Texts (codes "a" ∷ codes "b" ∷ [])))
full_list = (refl, refl)

-- `replicate 2 "a"`
replicated : (g.word_tokens (g.Replicate (Some 2) (codes "a")) ≡ token.Word keyword.Replicate ∷ token.Number (Some 2) ∷ token.Text (codes "a") ∷ []) × (g.word_tree (g.Replicate (Some 2) (codes "a")) ≡ word.Source (source.Replicate 2 (codes "a")))
replicated = (refl, refl)

-- `range 1 3`
ranged : (g.word_tokens (g.Range (Some 1) (Some 3)) ≡ token.Word keyword.Range ∷ token.Number (Some 1) ∷ token.Number (Some 3) ∷ []) × (g.word_tree (g.Range (Some 1) (Some 3)) ≡ word.Source (source.Range 1 3))
ranged = (refl, refl)

-- `(passE)`
parens : (g.part_tokens (g.Parens one) ≡ token.Sign sign.OpenParen ∷ token.Word (keyword.Plain plain.PassE) ∷ token.Sign sign.CloseParen ∷ []) × (g.part_tree (g.Parens one) ≡ pipe.Word (word.Elem elem.PassE))
parens = (refl, refl)

-- `{passE; passE}`
braces : (g.part_tokens (g.Braces (g.And (g.Only one) one)) ≡ token.Sign sign.OpenBrace ∷ token.Word (keyword.Plain plain.PassE) ∷ token.Sign sign.Semicolon ∷ token.Word (keyword.Plain plain.PassE) ∷ token.Sign sign.CloseBrace ∷ []) × (g.part_tree (g.Braces (g.And (g.Only one) one)) ≡ pipe.Sequence (passed ∷ passed ∷ []))
braces = (refl, refl)

-- `exactly 2 {passE}`
counted_pieces : (g.part_tokens (g.Block (g.Counts section.Exactly (Some 2)) one) ≡ token.Word (keyword.Section section.Exactly) ∷ token.Number (Some 2) ∷ token.Sign sign.OpenBrace ∷ token.Word (keyword.Plain plain.PassE) ∷ token.Sign sign.CloseBrace ∷ []) × (g.part_tree (g.Block (g.Counts section.Exactly (Some 2)) one) ≡ pipe.Exactly 2 passed)
counted_pieces = (refl, refl)

-- `exactlyE 2 {passE}`
counted_elements : (g.part_tokens (g.Block (g.Counts section.ExactlyE (Some 2)) one) ≡ token.Word (keyword.Section section.ExactlyE) ∷ token.Number (Some 2) ∷ token.Sign sign.OpenBrace ∷ token.Word (keyword.Plain plain.PassE) ∷ token.Sign sign.CloseBrace ∷ []) × (g.part_tree (g.Block (g.Counts section.ExactlyE (Some 2)) one) ≡ pipe.ExactlyE 2 passed)
counted_elements = (refl, refl)

-- `lineE {passE}`
line : (g.part_tokens (g.Block g.LineE one) ≡ token.Word keyword.LineE ∷ token.Sign sign.OpenBrace ∷ token.Word (keyword.Plain plain.PassE) ∷ token.Sign sign.CloseBrace ∷ []) × (g.part_tree (g.Block g.LineE one) ≡ pipe.LineE passed)
line = (refl, refl)

-- `mark "f" {passE}`
mark : (g.part_tokens (g.Block (g.Mark named_f) one) ≡ token.Word keyword.Mark ∷ token.Text (codes "f") ∷ token.Sign sign.OpenBrace ∷ token.Word (keyword.Plain plain.PassE) ∷ token.Sign sign.CloseBrace ∷ []) × (g.part_tree (g.Block (g.Mark named_f) one) ≡ pipe.Mark (codes "f") passed)
mark = (refl, refl)

-- `tee(passE)`
tee : (g.part_tokens (g.Tee one) ≡ token.Word keyword.Tee ∷ token.Sign sign.OpenParen ∷ token.Word (keyword.Plain plain.PassE) ∷ token.Sign sign.CloseParen ∷ []) × (g.part_tree (g.Tee one) ≡ pipe.Tee passed)
tee = (refl, refl)

-- `zipSource(passE, passE, "a")`
zip_source : (g.part_tokens (g.ZipSource one one (codes "a")) ≡ token.Word (keyword.Zip zip.Source) ∷ token.Sign sign.OpenParen ∷ token.Word (keyword.Plain plain.PassE) ∷ token.Sign sign.Comma ∷ token.Word (keyword.Plain plain.PassE) ∷ token.Sign sign.Comma ∷ token.Text (codes "a") ∷ token.Sign sign.CloseParen ∷ []) × (g.part_tree (g.ZipSource one one (codes "a")) ≡ pipe.ZipSource passed passed (codes "a"))
zip_source = (refl, refl)

-- `zipSink(passE, passE)`
zip_sink : (g.part_tokens (g.ZipSink one one) ≡ token.Word (keyword.Zip zip.Sink) ∷ token.Sign sign.OpenParen ∷ token.Word (keyword.Plain plain.PassE) ∷ token.Sign sign.Comma ∷ token.Word (keyword.Plain plain.PassE) ∷ token.Sign sign.CloseParen ∷ []) × (g.part_tree (g.ZipSink one one) ≡ pipe.ZipSink passed passed)
zip_sink = (refl, refl)

-- `zipConduit(passE, passE)`
zip_conduit : (g.part_tokens (g.ZipConduit one one) ≡ token.Word (keyword.Zip zip.Conduit) ∷ token.Sign sign.OpenParen ∷ token.Word (keyword.Plain plain.PassE) ∷ token.Sign sign.Comma ∷ token.Word (keyword.Plain plain.PassE) ∷ token.Sign sign.CloseParen ∷ []) × (g.part_tree (g.ZipConduit one one) ≡ pipe.ZipConduit passed passed)
zip_conduit = (refl, refl)

-- `passE |& passE |& passE`
chain : (g.pipe_tokens (g.Chain join.Both (g.Then (g.First part) part) part) ≡ token.Word (keyword.Plain plain.PassE) ∷ g.operator join.Both ∷ token.Word (keyword.Plain plain.PassE) ∷ g.operator join.Both ∷ token.Word (keyword.Plain plain.PassE) ∷ []) × (g.pipe_tree (g.Chain join.Both (g.Then (g.First part) part) part) ≡ pipe.Chain join.Both (passed ∷ passed ∷ passed ∷ []))
chain = (refl, refl)

-- `passE | (passE |? passE)`
chain_in_a_chain : (g.pipe_tokens (g.Chain join.Plain (g.First part) (g.Parens (g.Chain join.Asked (g.First part) part))) ≡ token.Word (keyword.Plain plain.PassE) ∷ g.operator join.Plain ∷ token.Sign sign.OpenParen ∷ token.Word (keyword.Plain plain.PassE) ∷ g.operator join.Asked ∷ token.Word (keyword.Plain plain.PassE) ∷ token.Sign sign.CloseParen ∷ []) × (g.pipe_tree (g.Chain join.Plain (g.First part) (g.Parens (g.Chain join.Asked (g.First part) part))) ≡ pipe.Chain join.Plain (passed ∷ pipe.Chain join.Asked (passed ∷ passed ∷ []) ∷ []))
chain_in_a_chain = (refl, refl)

-- `run passE;`
run : (g.statement_tokens (g.Run one) ≡ token.Word keyword.Run ∷ token.Word (keyword.Plain plain.PassE) ∷ token.Sign sign.Semicolon ∷ []) × (g.statement_tree (g.Run one) ≡ stmt.Run passed)
run = (refl, refl)

-- `let a = seal passE;`
seal : (g.statement_tokens (g.Seal (codes "a") one) ≡ token.Word (keyword.Opening opening.Let) ∷ token.Named (codes "a") ∷ token.Sign sign.Equals ∷ token.Word keyword.Seal ∷ token.Word (keyword.Plain plain.PassE) ∷ token.Sign sign.Semicolon ∷ []) × (g.statement_tree (g.Seal (codes "a") one) ≡ stmt.Seal (codes "a") passed)
seal = (refl, refl)

-- `feed a | passE;`
feed : (g.statement_tokens (g.Feed (codes "a") one) ≡ token.Word (keyword.Opening opening.Feed) ∷ token.Named (codes "a") ∷ g.operator join.Plain ∷ token.Word (keyword.Plain plain.PassE) ∷ token.Sign sign.Semicolon ∷ []) × (g.statement_tree (g.Feed (codes "a") one) ≡ stmt.Feed (codes "a") passed)
feed = (refl, refl)

-- `close a | passE;`
close : (g.statement_tokens (g.CloseSeal (codes "a") one) ≡ token.Word (keyword.Opening opening.Close) ∷ token.Named (codes "a") ∷ g.operator join.Plain ∷ token.Word (keyword.Plain plain.PassE) ∷ token.Sign sign.Semicolon ∷ []) × (g.statement_tree (g.CloseSeal (codes "a") one) ≡ stmt.CloseSeal (codes "a") passed)
close = (refl, refl)

-- `hold a = mark "f";`
hold : (g.statement_tokens (g.Hold (codes "a") named_f) ≡ token.Word (keyword.Opening opening.Hold) ∷ token.Named (codes "a") ∷ token.Sign sign.Equals ∷ token.Word keyword.Mark ∷ token.Text (codes "f") ∷ token.Sign sign.Semicolon ∷ []) × (g.statement_tree (g.Hold (codes "a") named_f) ≡ stmt.Hold (codes "a") (codes "f"))
hold = (refl, refl)

-- `release a;`
release : (g.statement_tokens (g.Release (codes "a")) ≡ token.Word (keyword.Opening opening.Release) ∷ token.Named (codes "a") ∷ token.Sign sign.Semicolon ∷ []) × (g.statement_tree (g.Release (codes "a")) ≡ stmt.Release (codes "a"))
release = (refl, refl)

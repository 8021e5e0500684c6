-- Each state can be led to the end of a script.
use Rattle.std.proofs.Common.{◌≡◌, ℕ, List, [], ◌∷◌, ◌++◌, Some, refl, ap, ◌∙◌}
use Rattle.std.specs.List.{fold}
use Rattle.cd_elem.specs.declared.script.Join.TheVariants as join
use Rattle.cd_elem.specs.declared.script.Pipe.{Pipe}
use Rattle.cd_elem.specs.declared.script.Stmt.{Stmt}
use Rattle.cd_elem.specs.declared.token.PlainWord.TheVariants as plain
use Rattle.cd_elem.specs.declared.token.PlainClass.TheVariants as class
use Rattle.cd_elem.specs.declared.token.Opening.{Opening}
use Rattle.cd_elem.specs.declared.token.Opening.TheVariants as opening
use Rattle.cd_elem.specs.declared.token.Zip.{Zip}
use Rattle.cd_elem.specs.declared.token.Zip.TheVariants as zip
use Rattle.cd_elem.specs.declared.token.Keyword.TheVariants as keyword
use Rattle.cd_elem.specs.declared.token.Sign.TheVariants as sign
use Rattle.cd_elem.specs.declared.token.Token.{Token}
use Rattle.cd_elem.specs.declared.token.Token.TheVariants as token
use Rattle.cd_parser.specs.declared.state.Owner.{Owner}
use Rattle.cd_parser.specs.declared.state.Owner.TheVariants as owner
use Rattle.cd_parser.specs.declared.state.Chain.{Chain}
use Rattle.cd_parser.specs.declared.state.Chain.TheVariants as chain
use Rattle.cd_parser.specs.declared.state.Block.{Block}
use Rattle.cd_parser.specs.declared.state.Block.TheVariants as block
use Rattle.cd_parser.specs.declared.state.Frame.{Frame}
use Rattle.cd_parser.specs.declared.state.Frame.TheVariants as frame
use Rattle.cd_parser.specs.declared.state.Level.{Level}
use Rattle.cd_parser.specs.declared.state.Head.{Head}
use Rattle.cd_parser.specs.declared.state.Head.TheVariants as head
use Rattle.cd_parser.specs.declared.state.Expected.{Expected}
use Rattle.cd_parser.specs.declared.state.Expected.TheVariants as expected
use Rattle.cd_parser.specs.declared.state.Position.{Position}
use Rattle.cd_parser.specs.declared.state.Position.TheVariants as position
use Rattle.cd_parser.specs.declared.state.ParserState.{ParserState}
use Rattle.std.specs.Str.{chars}
use Rattle.cd_grammar.specs.Grammar.{one_scalar}
use Rattle.cd_parser.specs.Machine.{open_pipe, done, advance, next, step, after_extension_if_any, end_with_scalar, split_at}
use Rattle.cd_parser.proofs.Complete.{state_within}

pub record Finishes (s : ParserState) : Type 0 where
  pub more : List Token
  pub tree : List Stmt
  pub ends : fold next (Some s) more ≡ Some (done tree)

abbrev level : Frame → Chain → Level
level f ch = record { frame = f; outer = ch }

abbrev pass_e : Token
pass_e = token.Word (keyword.Plain plain.PassE)

abbrev an_a : Token
an_a = token.Text (97 ∷ [])

abbrev zero_token : Token
zero_token = token.Number (Some 0)

one-a : one_scalar (97 ∷ []) ≡ Some 97
unfolding chars
one-a = refl

-- over one token
past : (s : ParserState) (t : Token) (u : ParserState) → step s t ≡ Some u → Finishes u → Finishes s
past s t u e f = record { more = t ∷ f.more; tree = f.tree; ends = ap (λ o. fold next o f.more) e ∙ f.ends }

second : (z : Zip) (q : Pipe) (ss : List Stmt) (o : Owner) (ls : List Level) (outer ch : Chain) (p : Pipe)
    → ((r : Pipe) → Finishes (state_within ss o ls outer (expected.Ended r)))
    → Finishes (state_within ss o (level (frame.ZipSecond z q) outer ∷ ls) ch (expected.Ended p))
second zip.Source q ss o ls outer ch p rest = past _ (token.Sign sign.Comma) _ refl (past _ an_a _ refl (past _ (token.Sign sign.CloseParen) _ refl (rest _)))
second zip.Sink q ss o ls outer ch p rest = past _ (token.Sign sign.CloseParen) _ refl (rest _)
second zip.Conduit q ss o ls outer ch p rest = past _ (token.Sign sign.CloseParen) _ refl (rest _)

through : (f : Frame) (ss : List Stmt) (o : Owner) (ls : List Level) (outer ch : Chain) (p : Pipe)
    → ((q : Pipe) → Finishes (state_within ss o ls outer (expected.Ended q)))
    → Finishes (state_within ss o (level f outer ∷ ls) ch (expected.Ended p))
through frame.Parens ss o ls outer ch p rest = past _ (token.Sign sign.CloseParen) _ refl (rest _)
through frame.Tee ss o ls outer ch p rest = past _ (token.Sign sign.CloseParen) _ refl (rest _)
through (frame.Braces ps) ss o ls outer ch p rest = past _ (token.Sign sign.CloseBrace) _ refl (rest _)
through (frame.Block b) ss o ls outer ch p rest = past _ (token.Sign sign.CloseBrace) _ refl (rest _)
through (frame.ZipFirst z) ss o ls outer ch p rest =
    past _ (token.Sign sign.Comma) _ refl (past _ pass_e _ refl (second z _ ss o ls outer _ _ rest))
through (frame.ZipSecond z q) ss o ls outer ch p rest = second z q ss o ls outer ch p rest

end_pipe : (ls : List Level) (ss : List Stmt) (o : Owner) (ch : Chain) (p : Pipe) → Finishes (state_within ss o ls ch (expected.Ended p))
end_pipe [] ss o ch p = record { more = token.Sign sign.Semicolon ∷ []; tree = _; ends = refl }
end_pipe (l ∷ ls) ss o ch p = through l.frame ss o ls l.outer ch p (λ q. end_pipe ls ss o l.outer q)

part : (ls : List Level) (ss : List Stmt) (o : Owner) (ch : Chain) → Finishes (state_within ss o ls ch expected.Part)
part ls ss o ch = past _ pass_e _ refl (end_pipe ls ss o ch _)

module _ (ls : List Level) (ss : List Stmt) (o : Owner) (ch : Chain) where
  -- with this token the word has ended, or the form is opened
  last : (h : Head) (t : Token) (p : Pipe) → step (state_within ss o ls ch (expected.Further h)) t ≡ Some (state_within ss o ls ch (expected.Ended p)) → Finishes (state_within ss o ls ch (expected.Further h))
  last h t p e = past _ t _ e (end_pipe ls ss o ch p)

  blocked : (b : Block) → Finishes (state_within ss o ls ch (expected.Further (head.Block b)))
  blocked b = past _ (token.Sign sign.OpenBrace) _ refl (part _ ss o chain.Alone)

  extend : (h : Head) → Finishes (state_within ss o ls ch (expected.Further h))
  extend (head.Counted w) = last (head.Counted w) zero_token _ refl
  extend (head.Classed w) = last (head.Classed w) (token.Word (keyword.Class class.Digit)) _ refl
  extend (head.ClassedNot w) = last (head.ClassedNot w) (token.Word (keyword.Class class.Digit)) _ refl
  extend (head.Is w n) = last (head.Is w n) an_a _ (ap (λ x. advance ss (after_extension_if_any (open_pipe o ls ch) (end_with_scalar w n x))) one-a)
  extend (head.Below w n) = last (head.Below w n) zero_token _ refl
  extend (head.Tested w) = last (head.Tested w) (token.Word keyword.Empty) _ refl
  extend (head.TestedNot w) = last (head.TestedNot w) (token.Word keyword.Empty) _ refl
  extend (head.AtEnd w n t) = last (head.AtEnd w n t) an_a _ refl
  extend (head.Shorter w n) = last (head.Shorter w n) zero_token _ refl
  extend head.MapE = last head.MapE (token.Word keyword.Rot13) _ refl
  extend (head.NumberMap m) = last (head.NumberMap m) zero_token _ refl
  extend head.Map = last head.Map (token.Word keyword.Reverse) _ refl
  extend (head.EndMap m) = last (head.EndMap m) an_a _ refl
  extend (head.Literal w) = last (head.Literal w) an_a _ refl
  extend (head.File w) = last (head.File w) an_a _ refl
  extend head.Split = past _ an_a _ (ap (λ x. advance ss (after_extension_if_any (open_pipe o ls ch) (split_at x))) one-a) (last (head.SplitAt 97) zero_token _ refl)
  extend (head.SplitAt c) = last (head.SplitAt c) zero_token _ refl
  extend (head.List w) = past _ (token.Sign sign.OpenSquare) _ refl (last (head.ListOpen w) (token.Sign sign.CloseSquare) _ refl)
  extend (head.ListOpen w) = last (head.ListOpen w) (token.Sign sign.CloseSquare) _ refl
  extend (head.ListEnded w s) = last (head.ListEnded w s) (token.Sign sign.CloseSquare) _ refl
  extend (head.ListGoes w s) = past _ an_a _ refl (last (head.ListEnded w (s ++ (97 ∷ []) ∷ [])) (token.Sign sign.CloseSquare) _ refl)
  extend head.Replicate = past _ zero_token _ refl (last (head.Replicated (Some 0)) an_a _ refl)
  extend (head.Replicated n) = last (head.Replicated n) an_a _ refl
  extend head.Range = past _ zero_token _ refl (last (head.RangeFrom (Some 0)) zero_token _ refl)
  extend (head.RangeFrom n) = last (head.RangeFrom n) zero_token _ refl
  extend (head.Section s) = past _ zero_token _ refl (blocked (block.Counts s (Some 0)))
  extend head.Mark = past _ an_a _ refl (blocked (block.Mark (97 ∷ [])))
  extend (head.Block b) = blocked b
  extend head.Tee = past _ (token.Sign sign.OpenParen) _ refl (part _ ss o chain.Alone)
  extend (head.Zip z) = past _ (token.Sign sign.OpenParen) _ refl (part _ ss o chain.Alone)

  close_zip : (q p : Pipe) (s : List ℕ) → Finishes (state_within ss o ls ch (expected.ZipEnd q p s))
  close_zip q p s = past _ (token.Sign sign.CloseParen) _ refl (end_pipe ls ss o ch _)

  needed : (n : Expected) → Finishes (state_within ss o ls ch n)
  needed expected.Part = part ls ss o ch
  needed (expected.Further h) = extend h
  needed (expected.Ended p) = end_pipe ls ss o ch p
  needed (expected.ZipText q p) = past _ an_a _ refl (close_zip q p (97 ∷ []))
  needed (expected.ZipEnd q p s) = close_zip q p s

module _ (ss : List Stmt) where
  begin_mark : (n f : List ℕ) → Finishes (record { statements = ss; position = position.Marked n f })
  begin_mark n f = past _ (token.Sign sign.Semicolon) _ refl (record { more = []; tree = _; ends = refl })

  read_held_file : (n : List ℕ) → Finishes (record { statements = ss; position = position.Marking n })
  read_held_file n = past _ an_a _ refl (begin_mark n (97 ∷ []))

  read_mark : (n : List ℕ) → Finishes (record { statements = ss; position = position.Holding n })
  read_mark n = past _ (token.Word keyword.Mark) _ refl (read_held_file n)

  read_seal : (n : List ℕ) → Finishes (record { statements = ss; position = position.Sealing n })
  read_seal n = past _ (token.Word keyword.Seal) _ refl (part [] ss (owner.Seal n) chain.Alone)

  named : (o : Opening) (n : List ℕ) → Finishes (record { statements = ss; position = position.Named o n })
  named opening.Let n = past _ (token.Sign sign.Equals) _ refl (read_seal n)
  named opening.Feed n = past _ (token.Sign (sign.Operator join.Plain)) _ refl (part [] ss (owner.Feed n) chain.Alone)
  named opening.Close n = past _ (token.Sign (sign.Operator join.Plain)) _ refl (part [] ss (owner.CloseSeal n) chain.Alone)
  named opening.Hold n = past _ (token.Sign sign.Equals) _ refl (read_mark n)
  named opening.Release n = past _ (token.Sign sign.Semicolon) _ refl (record { more = []; tree = _; ends = refl })

  placed : (p : Position) → Finishes (record { statements = ss; position = p })
  placed position.Between = record { more = []; tree = ss; ends = refl }
  placed (position.Opened o) = past _ (token.Named (97 ∷ [])) _ refl (named o (97 ∷ []))
  placed (position.Named o n) = named o n
  placed (position.Sealing n) = read_seal n
  placed (position.Holding n) = read_mark n
  placed (position.Marking n) = read_held_file n
  placed (position.Marked n f) = begin_mark n f
  placed (position.Inside i n) = needed i.levels ss i.owner i.chain n

pub finishes : (s : ParserState) → Finishes s
finishes s = placed s.statements s.position

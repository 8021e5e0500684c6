-- What a derivation spells leads the machine to its tree.
use Rattle.std.proofs.Common.{◌≡◌, Bool, true, false, List, [], ◌∷◌, ◌++◌, Some, None, if◌then◌else◌, refl, ap, ◌∙◌}
use Rattle.std.specs.List.{fold}
use Rattle.std.proofs.lemmas.List.Sums.{fold-append}
use Rattle.cd_elem.specs.declared.script.Join.{Join}
use Rattle.cd_elem.specs.declared.script.Join.TheVariants as join
use Rattle.cd_elem.specs.declared.script.Pipe.{Pipe}
use Rattle.cd_elem.specs.declared.script.Pipe.TheVariants as pipe
use Rattle.cd_elem.specs.declared.script.Stmt.{Stmt}
use Rattle.cd_elem.specs.declared.token.ClassedWord.{ClassedWord}
use Rattle.cd_elem.specs.declared.token.ListWord.{ListWord}
use Rattle.cd_elem.specs.declared.token.Zip.{Zip}
use Rattle.cd_elem.specs.declared.token.Zip.TheVariants as zip
use Rattle.cd_elem.specs.declared.token.Sign.TheVariants as sign
use Rattle.cd_elem.specs.declared.token.Token.{Token}
use Rattle.cd_elem.specs.declared.token.Token.TheVariants as token
use Rattle.cd_parser.specs.declared.state.Owner.{Owner}
use Rattle.cd_parser.specs.declared.state.Owner.TheVariants as owner
use Rattle.cd_parser.specs.declared.state.Chain.{Chain}
use Rattle.cd_parser.specs.declared.state.Chain.TheVariants as chain
use Rattle.cd_parser.specs.declared.state.Block.{Block}
use Rattle.cd_parser.specs.declared.state.Block.TheVariants as block
use Rattle.cd_parser.specs.declared.state.Frame.{Frame}
use Rattle.cd_parser.specs.declared.state.Frame.TheVariants as frame
use Rattle.cd_parser.specs.declared.state.Level.{Level}
use Rattle.cd_parser.specs.declared.state.Head.TheVariants as head
use Rattle.cd_parser.specs.declared.state.Expected.{Expected}
use Rattle.cd_parser.specs.declared.state.Expected.TheVariants as expected
use Rattle.cd_parser.specs.declared.state.Position.TheVariants as position
use Rattle.cd_parser.specs.declared.state.ParserState.{ParserState}
use Rattle.cd_grammar.specs.Grammar as g
use Rattle.cd_grammar.specs.WordTrees as t
use Rattle.cd_parser.specs.Machine.{open_pipe, close_chain, done, advance, start, next, state_behind, after_join_if_any, owned_statement, after_extension_if_any, is_same_join, end_with_scalar, split_at}

-- the state in a pipe
abbrev pub state_within : List Stmt → Owner → List Level → Chain → Expected → ParserState
state_within ss o ls ch n = record { statements = ss; position = position.Inside (open_pipe o ls ch) n }

abbrev pub chain_of : g.PipeForm → Chain
chain_of (g.One p) = chain.Alone
chain_of (g.Chain j ps p) = chain.Joined j (g.parts_trees ps)

abbrev pub last_of : g.PipeForm → g.PartForm
last_of (g.One p) = p
last_of (g.Chain j ps p) = p

closed_whole : (q : g.PipeForm) → close_chain (chain_of q) (g.part_tree (last_of q)) ≡ g.pipe_tree q
closed_whole (g.One p) = refl
closed_whole (g.Chain j ps p) = refl

abbrev front_of : g.PipesForm → List Pipe
front_of (g.Only q) = []
front_of (g.And ps q) = g.pipes_trees ps

abbrev final : g.PipesForm → g.PipeForm
final (g.Only q) = q
final (g.And ps q) = q

closed_wholes : (ps : g.PipesForm) → front_of ps ++ close_chain (chain_of (final ps)) (g.part_tree (last_of (final ps))) ∷ [] ≡ g.pipes_trees ps
closed_wholes (g.Only q) = ap (λ p. p ∷ []) (closed_whole q)
closed_wholes (g.And ps q) = ap (λ p. g.pipes_trees ps ++ p ∷ []) (closed_whole q)

-- the state behind a pipe
abbrev behind_whole : List Stmt → Owner → List Level → g.PipeForm → ParserState
behind_whole ss o ls q = state_within ss o ls (chain_of q) (expected.Ended (g.part_tree (last_of q)))

abbrev level : Frame → Chain → Level
level f ch = record { frame = f; outer = ch }

module _ (ss : List Stmt) (o : Owner) (ls : List Level) (ch : Chain) where
  -- the state behind the literals of a list
  over_literals : (w : ListWord) (l : g.LiteralsForm)
      → fold next (Some (state_within ss o ls ch (expected.Further (head.ListOpen w)))) (g.literals_tokens l) ≡ Some (state_within ss o ls ch (expected.Further (head.ListEnded w (g.literals l))))
  over_literals w (g.OneLiteral s) = refl
  over_literals w (g.AndLiteral l s) =
      fold-append next (Some (state_within ss o ls ch (expected.Further (head.ListOpen w)))) (g.literals_tokens l) (token.Sign sign.Comma ∷ token.Text s ∷ [])
      ∙ ap (λ r. fold next r (token.Sign sign.Comma ∷ token.Text s ∷ [])) (over_literals w l)

  over_list : (w : ListWord) (l : g.ListForm)
      → fold next (Some (state_within ss o ls ch (expected.Further (head.List w)))) (g.list_tokens l) ≡ Some (state_within ss o ls ch (expected.Ended (pipe.Word (t.list_word w (g.members l)))))
  over_list w g.Nothing = refl
  over_list w (g.All l) =
      fold-append next (Some (state_within ss o ls ch (expected.Further (head.ListOpen w)))) (g.literals_tokens l) (token.Sign sign.CloseSquare ∷ [])
      ∙ ap (λ r. next r (token.Sign sign.CloseSquare)) (over_literals w l)

  -- a literal of one character
  is_one : (w : ClassedWord) (negated : Bool) (c : g.Character)
      → next (Some (state_within ss o ls ch (expected.Further (head.Is w negated)))) (token.Text c.text) ≡ Some (state_within ss o ls ch (expected.Ended (pipe.Word (t.classed_word w (t.class_of negated (g.class_name (g.Is c)))))))
  is_one w negated c = ap (λ x. advance ss (after_extension_if_any (open_pipe o ls ch) (end_with_scalar w negated x))) c.one

  split_one : (c : g.Character) → next (Some (state_within ss o ls ch (expected.Further head.Split))) (token.Text c.text) ≡ Some (state_within ss o ls ch (expected.Further (head.SplitAt c.scalar)))
  split_one c = ap (λ x. advance ss (after_extension_if_any (open_pipe o ls ch) (split_at x))) c.one

  over_word : (w : g.WordForm) → fold next (Some (state_within ss o ls ch expected.Part)) (g.word_tokens w) ≡ Some (state_within ss o ls ch (expected.Ended (pipe.Word (g.word_tree w))))
  over_word (g.Plain w) = refl
  over_word (g.Counted w n) = refl
  over_word (g.Classed w true (g.Simple c)) = refl
  over_word (g.Classed w true (g.Is c)) = is_one w true c
  over_word (g.Classed w true (g.Below n)) = refl
  over_word (g.Classed w false (g.Simple c)) = refl
  over_word (g.Classed w false (g.Is c)) = is_one w false c
  over_word (g.Classed w false (g.Below n)) = refl
  over_word (g.Tested w true g.Empty) = refl
  over_word (g.Tested w true (g.AtEnd t s)) = refl
  over_word (g.Tested w true (g.Shorter n)) = refl
  over_word (g.Tested w false g.Empty) = refl
  over_word (g.Tested w false (g.AtEnd t s)) = refl
  over_word (g.Tested w false (g.Shorter n)) = refl
  over_word (g.MapE (g.ByNumber m n)) = refl
  over_word (g.MapE g.Rot13) = refl
  over_word (g.Map (g.ByText m s)) = refl
  over_word (g.Map g.Reverse) = refl
  over_word (g.Literal w s) = refl
  over_word (g.OfFile w f) = refl
  over_word (g.Split c n) = ap (λ r. next r (token.Number n)) (split_one c)
  over_word (g.OfList w l) = over_list w l
  over_word (g.Replicate n s) = refl
  over_word (g.Range a b) = refl

-- what stands before a pipe in braces
abbrev pub block_of : g.BlockForm → Block
block_of (g.Counts s n) = block.Counts s n
block_of g.LineE = block.LineE
block_of (g.Mark f) = block.Mark (g.file_name_text f)

over_block : (b : g.BlockForm) (ss : List Stmt) (o : Owner) (ls : List Level) (ch : Chain) (q : List Token)
    → fold next (Some (state_within ss o ls ch expected.Part)) (g.block_tokens b ++ token.Sign sign.OpenBrace ∷ q)
    ≡ fold next (Some (state_within ss o (level (frame.Block (block_of b)) ch ∷ ls) chain.Alone expected.Part)) q
over_block (g.Counts s n) ss o ls ch q = refl
over_block g.LineE ss o ls ch q = refl
over_block (g.Mark f) ss o ls ch q = refl

closed_block : (b : g.BlockForm) (ss : List Stmt) (o : Owner) (ls : List Level) (ch : Chain) (p : Pipe)
    → next (Some (state_within ss o (level (frame.Block (block_of b)) ch ∷ ls) chain.Alone (expected.Ended p))) (token.Sign sign.CloseBrace) ≡ Some (state_within ss o ls ch (expected.Ended (g.block_tree b p)))
closed_block (g.Counts s n) ss o ls ch p = refl
closed_block g.LineE ss o ls ch p = refl
closed_block (g.Mark f) ss o ls ch p = refl

-- two pipes with the comma between them
abbrev both : g.PipeForm → g.PipeForm → List Token
both p q = g.pipe_tokens p ++ token.Sign sign.Comma ∷ g.pipe_tokens q

same_join-refl : (j : Join) → is_same_join j j ≡ true
same_join-refl join.Plain = refl
same_join-refl join.Keep = refl
same_join-refl join.Return = refl
same_join-refl join.Both = refl
same_join-refl join.Up = refl
same_join-refl join.Asked = refl

-- over two pipes, where it leads over each
over_both : (p q : g.PipeForm) (z : Zip) (ss : List Stmt) (o : Owner) (ls : List Level) (ch : Chain)
    → fold next (Some (state_within ss o (level (frame.ZipFirst z) ch ∷ ls) chain.Alone expected.Part)) (g.pipe_tokens p) ≡ Some (behind_whole ss o (level (frame.ZipFirst z) ch ∷ ls) p)
    → fold next (Some (state_within ss o (level (frame.ZipSecond z (g.pipe_tree p)) ch ∷ ls) chain.Alone expected.Part)) (g.pipe_tokens q)
    ≡ Some (behind_whole ss o (level (frame.ZipSecond z (g.pipe_tree p)) ch ∷ ls) q)
    → fold next (Some (state_within ss o (level (frame.ZipFirst z) ch ∷ ls) chain.Alone expected.Part)) (both p q)
    ≡ Some (behind_whole ss o (level (frame.ZipSecond z (g.pipe_tree p)) ch ∷ ls) q)
over_both p q z ss o ls ch e f =
    fold-append next (Some (state_within ss o (level (frame.ZipFirst z) ch ∷ ls) chain.Alone expected.Part)) (g.pipe_tokens p) (token.Sign sign.Comma ∷ g.pipe_tokens q)
    ∙ ap (λ s. fold next (next s (token.Sign sign.Comma)) (g.pipe_tokens q)) e
    ∙ ap (λ r. fold next (Some (state_within ss o (level (frame.ZipSecond z r) ch ∷ ls) chain.Alone expected.Part)) (g.pipe_tokens q)) (closed_whole p)
    ∙ f

mutual
  pub over_part : (p : g.PartForm) (ss : List Stmt) (o : Owner) (ls : List Level) (ch : Chain)
      → fold next (Some (state_within ss o ls ch expected.Part)) (g.part_tokens p) ≡ Some (state_within ss o ls ch (expected.Ended (g.part_tree p)))
  over_part (g.OfWord w) ss o ls ch = over_word ss o ls ch w
  over_part (g.Parens q) ss o ls ch =
      fold-append next (Some (state_within ss o (level frame.Parens ch ∷ ls) chain.Alone expected.Part)) (g.pipe_tokens q) (token.Sign sign.CloseParen ∷ [])
      ∙ ap (λ s. next s (token.Sign sign.CloseParen)) (over_whole q ss o (level frame.Parens ch ∷ ls))
      ∙ ap (λ p. Some (state_within ss o ls ch (expected.Ended p))) (closed_whole q)
  over_part (g.Braces ps) ss o ls ch =
      fold-append next (Some (state_within ss o (level (frame.Braces []) ch ∷ ls) chain.Alone expected.Part)) (g.pipes_tokens ps) (token.Sign sign.CloseBrace ∷ [])
      ∙ ap (λ s. next s (token.Sign sign.CloseBrace)) (over_wholes ps ss o ls ch)
      ∙ ap (λ p. Some (state_within ss o ls ch (expected.Ended (pipe.Sequence p)))) (closed_wholes ps)
  over_part (g.Block b q) ss o ls ch =
      fold-append next (Some (state_within ss o ls ch expected.Part)) (g.block_tokens b ++ token.Sign sign.OpenBrace ∷ g.pipe_tokens q) (token.Sign sign.CloseBrace ∷ [])
      ∙ ap (λ s. next s (token.Sign sign.CloseBrace)) (over_block b ss o ls ch (g.pipe_tokens q) ∙ over_whole q ss o (level (frame.Block (block_of b)) ch ∷ ls))
      ∙ ap (λ p. next (Some (state_within ss o (level (frame.Block (block_of b)) ch ∷ ls) chain.Alone (expected.Ended p))) (token.Sign sign.CloseBrace)) (closed_whole q)
      ∙ closed_block b ss o ls ch (g.pipe_tree q)
  over_part (g.Tee q) ss o ls ch =
      fold-append next (Some (state_within ss o (level frame.Tee ch ∷ ls) chain.Alone expected.Part)) (g.pipe_tokens q) (token.Sign sign.CloseParen ∷ [])
      ∙ ap (λ s. next s (token.Sign sign.CloseParen)) (over_whole q ss o (level frame.Tee ch ∷ ls))
      ∙ ap (λ p. Some (state_within ss o ls ch (expected.Ended (pipe.Tee p)))) (closed_whole q)
  over_part (g.ZipSource p q s) ss o ls ch =
      fold-append next (Some (state_within ss o (level (frame.ZipFirst zip.Source) ch ∷ ls) chain.Alone expected.Part)) (both p q) (token.Sign sign.Comma ∷ token.Text s ∷ token.Sign sign.CloseParen ∷ [])
      ∙ ap (λ r. fold next r (token.Sign sign.Comma ∷ token.Text s ∷ token.Sign sign.CloseParen ∷ [])) (over_both p q zip.Source ss o ls ch
      (over_whole p ss o (level (frame.ZipFirst zip.Source) ch ∷ ls)) (over_whole q ss o (level (frame.ZipSecond zip.Source (g.pipe_tree p)) ch ∷ ls)))
      ∙ ap (λ r. Some (state_within ss o ls ch (expected.Ended (pipe.ZipSource (g.pipe_tree p) r s)))) (closed_whole q)
  over_part (g.ZipSink p q) ss o ls ch =
      fold-append next (Some (state_within ss o (level (frame.ZipFirst zip.Sink) ch ∷ ls) chain.Alone expected.Part)) (both p q) (token.Sign sign.CloseParen ∷ [])
      ∙ ap (λ s. next s (token.Sign sign.CloseParen)) (over_both p q zip.Sink ss o ls ch
      (over_whole p ss o (level (frame.ZipFirst zip.Sink) ch ∷ ls)) (over_whole q ss o (level (frame.ZipSecond zip.Sink (g.pipe_tree p)) ch ∷ ls)))
      ∙ ap (λ r. Some (state_within ss o ls ch (expected.Ended (pipe.ZipSink (g.pipe_tree p) r)))) (closed_whole q)
  over_part (g.ZipConduit p q) ss o ls ch =
      fold-append next (Some (state_within ss o (level (frame.ZipFirst zip.Conduit) ch ∷ ls) chain.Alone expected.Part)) (both p q) (token.Sign sign.CloseParen ∷ [])
      ∙ ap (λ s. next s (token.Sign sign.CloseParen)) (over_both p q zip.Conduit ss o ls ch
      (over_whole p ss o (level (frame.ZipFirst zip.Conduit) ch ∷ ls)) (over_whole q ss o (level (frame.ZipSecond zip.Conduit (g.pipe_tree p)) ch ∷ ls)))
      ∙ ap (λ r. Some (state_within ss o ls ch (expected.Ended (pipe.ZipConduit (g.pipe_tree p) r)))) (closed_whole q)

  pub over_whole : (q : g.PipeForm) (ss : List Stmt) (o : Owner) (ls : List Level)
      → fold next (Some (state_within ss o ls chain.Alone expected.Part)) (g.pipe_tokens q) ≡ Some (behind_whole ss o ls q)
  over_whole (g.One p) ss o ls = over_part p ss o ls chain.Alone
  over_whole (g.Chain j ps p) ss o ls =
      fold-append next (Some (state_within ss o ls chain.Alone expected.Part)) (g.parts_tokens j ps) (g.operator j ∷ g.part_tokens p)
      ∙ ap (λ s. fold next s (g.part_tokens p)) (over_parts ps j ss o ls)
      ∙ over_part p ss o ls (chain.Joined j (g.parts_trees ps))

  -- with the operator behind them
  pub over_parts : (ps : g.PartsForm) (j : Join) (ss : List Stmt) (o : Owner) (ls : List Level)
      → next (fold next (Some (state_within ss o ls chain.Alone expected.Part)) (g.parts_tokens j ps)) (g.operator j)
      ≡ Some (state_within ss o ls (chain.Joined j (g.parts_trees ps)) expected.Part)
  over_parts (g.First p) j ss o ls = ap (λ s. next s (g.operator j)) (over_part p ss o ls chain.Alone)
  over_parts (g.Then ps p) j ss o ls =
      ap (λ s. next s (g.operator j))
      (fold-append next (Some (state_within ss o ls chain.Alone expected.Part)) (g.parts_tokens j ps) (g.operator j ∷ g.part_tokens p)
      ∙ ap (λ s. fold next s (g.part_tokens p)) (over_parts ps j ss o ls)
      ∙ over_part p ss o ls (chain.Joined j (g.parts_trees ps)))
      ∙ ap (λ b. advance ss (after_join_if_any o ls (if b then Some (chain.Joined j (g.parts_trees ps ++ g.part_tree p ∷ [])) else None))) (same_join-refl j)

  pub over_wholes : (ps : g.PipesForm) (ss : List Stmt) (o : Owner) (ls : List Level) (ch : Chain)
      → fold next (Some (state_within ss o (level (frame.Braces []) ch ∷ ls) chain.Alone expected.Part)) (g.pipes_tokens ps)
      ≡ Some (behind_whole ss o (level (frame.Braces (front_of ps)) ch ∷ ls) (final ps))
  over_wholes (g.Only q) ss o ls ch = over_whole q ss o (level (frame.Braces []) ch ∷ ls)
  over_wholes (g.And ps q) ss o ls ch =
      fold-append next (Some (state_within ss o (level (frame.Braces []) ch ∷ ls) chain.Alone expected.Part)) (g.pipes_tokens ps) (token.Sign sign.Semicolon ∷ g.pipe_tokens q)
      ∙ ap (λ s. fold next (next s (token.Sign sign.Semicolon)) (g.pipe_tokens q)) (over_wholes ps ss o ls ch)
      ∙ ap (λ r. fold next (Some (state_within ss o (level (frame.Braces r) ch ∷ ls) chain.Alone expected.Part)) (g.pipe_tokens q)) (closed_wholes ps)
      ∙ over_whole q ss o (level (frame.Braces (g.pipes_trees ps)) ch ∷ ls)

-- a pipe and the semicolon of its statement
over_pipe : (q : g.PipeForm) (ss : List Stmt) (o : Owner)
    → fold next (Some (state_within ss o [] chain.Alone expected.Part)) (g.pipe_tokens q ++ token.Sign sign.Semicolon ∷ []) ≡ Some (done (ss ++ owned_statement o (g.pipe_tree q) ∷ []))
over_pipe q ss o =
    fold-append next (Some (state_within ss o [] chain.Alone expected.Part)) (g.pipe_tokens q) (token.Sign sign.Semicolon ∷ [])
    ∙ ap (λ s. next s (token.Sign sign.Semicolon)) (over_whole q ss o [])
    ∙ ap (λ p. Some (done (ss ++ owned_statement o p ∷ []))) (closed_whole q)

over_sentence : (s : g.StatementForm) (ss : List Stmt) → fold next (Some (done ss)) (g.statement_tokens s) ≡ Some (done (ss ++ g.statement_tree s ∷ []))
over_sentence (g.Run q) ss = over_pipe q ss owner.Run
over_sentence (g.Seal n q) ss = over_pipe q ss (owner.Seal n)
over_sentence (g.Feed n q) ss = over_pipe q ss (owner.Feed n)
over_sentence (g.CloseSeal n q) ss = over_pipe q ss (owner.CloseSeal n)
over_sentence (g.Hold n f) ss = refl
over_sentence (g.Release n) ss = refl

-- a script leads to its tree
pub over_script : (d : List g.StatementForm) → state_behind (g.script_tokens d) ≡ Some (done (g.script_tree d))
over_script [] = refl
over_script (s ∷ before) =
    fold-append next (Some start) (g.script_tokens before) (g.statement_tokens s)
    ∙ ap (λ r. fold next r (g.statement_tokens s)) (over_script before)
    ∙ over_sentence s (g.script_tree before)

-- The states again, with derivations in place of trees: the tree of such a state, and the tokens that led to it.
use Rattle.std.proofs.Common.{ℕ, Bool, List, [], ◌∷◌, ◌++◌}
use Rattle.cd_elem.specs.declared.script.Join.{Join}
use Rattle.cd_elem.specs.declared.script.Join.TheVariants as join
use Rattle.cd_elem.specs.declared.script.Stmt.{Stmt}
use Rattle.cd_elem.specs.declared.token.ClassedWord.{ClassedWord}
use Rattle.cd_elem.specs.declared.token.CountedWord.{CountedWord}
use Rattle.cd_elem.specs.declared.token.TestedWord.{TestedWord}
use Rattle.cd_elem.specs.declared.token.FileWord.{FileWord}
use Rattle.cd_elem.specs.declared.token.ListWord.{ListWord}
use Rattle.cd_elem.specs.declared.token.LiteralWord.{LiteralWord}
use Rattle.cd_elem.specs.declared.token.EndTest.{EndTest}
use Rattle.cd_elem.specs.declared.token.EndMap.{EndMap}
use Rattle.cd_elem.specs.declared.token.NumberMap.{NumberMap}
use Rattle.cd_elem.specs.declared.token.Opening.{Opening}
use Rattle.cd_elem.specs.declared.token.Opening.TheVariants as opening
use Rattle.cd_elem.specs.declared.token.Section.{Section}
use Rattle.cd_elem.specs.declared.token.Zip.{Zip}
use Rattle.cd_elem.specs.declared.token.Zip.TheVariants as zip
use Rattle.cd_elem.specs.declared.token.Keyword.TheVariants as keyword
use Rattle.cd_elem.specs.declared.token.Sign.TheVariants as sign
use Rattle.cd_elem.specs.declared.token.Token.{Token}
use Rattle.cd_elem.specs.declared.token.Token.TheVariants as token
use Rattle.cd_parser.specs.declared.state.Owner.{Owner}
use Rattle.cd_parser.specs.declared.state.Owner.TheVariants as owner
use Rattle.cd_parser.specs.declared.state.Chain.{Chain}
use Rattle.cd_parser.specs.declared.state.Chain.TheVariants as chain
use Rattle.cd_parser.specs.declared.state.Frame.{Frame}
use Rattle.cd_parser.specs.declared.state.Frame.TheVariants as frame
use Rattle.cd_parser.specs.declared.state.Level.{Level}
use Rattle.cd_parser.specs.declared.state.Head.{Head}
use Rattle.cd_parser.specs.declared.state.Head.TheVariants as head
use Rattle.cd_parser.specs.declared.state.Expected.{Expected}
use Rattle.cd_parser.specs.declared.state.Expected.TheVariants as expected
use Rattle.cd_parser.specs.declared.state.Position.{Position}
use Rattle.cd_parser.specs.declared.state.Position.TheVariants as position
use Rattle.cd_parser.specs.declared.state.ParserState.{ParserState}
use Rattle.cd_grammar.specs.Grammar as g
use Rattle.cd_parser.specs.Machine.{done}
use Rattle.cd_parser.proofs.Complete.{block_of, state_within}

pub data ChainForm : Type 0 where
  Alone : ChainForm
  Joined : Join → g.PartsForm → ChainForm

pub data FrameForm : Type 0 where
  Parens : FrameForm
  Braces : FrameForm
  More : g.PipesForm → FrameForm
  Blocked : g.BlockForm → FrameForm
  InTee : FrameForm
  ZipFirst : Zip → FrameForm
  ZipSecond : Zip → g.PipeForm → FrameForm

pub record LevelForm : Type 0 where
  pub frame : FrameForm
  pub outer : ChainForm

pub data HeadForm : Type 0 where
  Counted : CountedWord → HeadForm
  Classed : ClassedWord → HeadForm
  ClassedNot : ClassedWord → HeadForm
  Is : ClassedWord → Bool → HeadForm
  Below : ClassedWord → Bool → HeadForm
  Tested : TestedWord → HeadForm
  TestedNot : TestedWord → HeadForm
  AtEnd : TestedWord → Bool → EndTest → HeadForm
  Shorter : TestedWord → Bool → HeadForm
  MapE : HeadForm
  ByNumber : NumberMap → HeadForm
  Map : HeadForm
  ByText : EndMap → HeadForm
  Literal : LiteralWord → HeadForm
  OfFile : FileWord → HeadForm
  Split : HeadForm
  SplitAt : g.Character → HeadForm
  OfList : ListWord → HeadForm
  ListOpen : ListWord → HeadForm
  ListEnded : ListWord → g.LiteralsForm → HeadForm
  ListGoes : ListWord → g.LiteralsForm → HeadForm
  Replicate : HeadForm
  Replicated : g.Numeral → HeadForm
  Range : HeadForm
  RangeFrom : g.Numeral → HeadForm
  Counts : Section → HeadForm
  Mark : HeadForm
  BlockHead : g.BlockForm → HeadForm
  TeeHead : HeadForm
  ZipHead : Zip → HeadForm

pub data ExpectedForm : Type 0 where
  Needs : ExpectedForm
  Further : HeadForm → ExpectedForm
  Ended : g.PartForm → ExpectedForm
  ZipText : g.PipeForm → g.PipeForm → ExpectedForm
  ZipEnd : g.PipeForm → g.PipeForm → List ℕ → ExpectedForm

pub data PositionForm : Type 0 where
  Between : PositionForm
  Opened : Opening → PositionForm
  Named : Opening → List ℕ → PositionForm
  Sealing : List ℕ → PositionForm
  Holding : List ℕ → PositionForm
  Marking : List ℕ → PositionForm
  Marked : List ℕ → g.FileName → PositionForm
  Inside : Owner → List LevelForm → ChainForm → ExpectedForm → PositionForm

pub record ParserStateForm : Type 0 where
  pub before : List g.StatementForm
  pub position : PositionForm

-- the trees of such a state
abbrev pub chain_tree : ChainForm → Chain
chain_tree Alone = chain.Alone
chain_tree (Joined j ps) = chain.Joined j (g.parts_trees ps)

abbrev pub frame_tree : FrameForm → Frame
frame_tree Parens = frame.Parens
frame_tree Braces = frame.Braces []
frame_tree (More ps) = frame.Braces (g.pipes_trees ps)
frame_tree (Blocked b) = frame.Block (block_of b)
frame_tree InTee = frame.Tee
frame_tree (ZipFirst z) = frame.ZipFirst z
frame_tree (ZipSecond z q) = frame.ZipSecond z (g.pipe_tree q)

abbrev pub level_tree : LevelForm → Level
level_tree l = record { frame = frame_tree l.frame; outer = chain_tree l.outer }

abbrev pub levels_tree : List LevelForm → List Level
levels_tree [] = []
levels_tree (l ∷ ls) = level_tree l ∷ levels_tree ls

abbrev pub head_tree : HeadForm → Head
head_tree (Counted w) = head.Counted w
head_tree (Classed w) = head.Classed w
head_tree (ClassedNot w) = head.ClassedNot w
head_tree (Is w negated) = head.Is w negated
head_tree (Below w negated) = head.Below w negated
head_tree (Tested w) = head.Tested w
head_tree (TestedNot w) = head.TestedNot w
head_tree (AtEnd w negated t) = head.AtEnd w negated t
head_tree (Shorter w negated) = head.Shorter w negated
head_tree MapE = head.MapE
head_tree (ByNumber m) = head.NumberMap m
head_tree Map = head.Map
head_tree (ByText m) = head.EndMap m
head_tree (Literal w) = head.Literal w
head_tree (OfFile w) = head.File w
head_tree Split = head.Split
head_tree (SplitAt c) = head.SplitAt c.scalar
head_tree (OfList w) = head.List w
head_tree (ListOpen w) = head.ListOpen w
head_tree (ListEnded w ss) = head.ListEnded w (g.literals ss)
head_tree (ListGoes w ss) = head.ListGoes w (g.literals ss)
head_tree Replicate = head.Replicate
head_tree (Replicated n) = head.Replicated n
head_tree Range = head.Range
head_tree (RangeFrom n) = head.RangeFrom n
head_tree (Counts s) = head.Section s
head_tree Mark = head.Mark
head_tree (BlockHead b) = head.Block (block_of b)
head_tree TeeHead = head.Tee
head_tree (ZipHead z) = head.Zip z

abbrev pub expected_tree : ExpectedForm → Expected
expected_tree Needs = expected.Part
expected_tree (Further h) = expected.Further (head_tree h)
expected_tree (Ended p) = expected.Ended (g.part_tree p)
expected_tree (ZipText p q) = expected.ZipText (g.pipe_tree p) (g.pipe_tree q)
expected_tree (ZipEnd p q s) = expected.ZipEnd (g.pipe_tree p) (g.pipe_tree q) s

abbrev at : List Stmt → Position → ParserState
at ss p = record { statements = ss; position = p }

abbrev pub position_tree : List Stmt → PositionForm → ParserState
position_tree ss Between = done ss
position_tree ss (Opened o) = at ss (position.Opened o)
position_tree ss (Named o n) = at ss (position.Named o n)
position_tree ss (Sealing n) = at ss (position.Sealing n)
position_tree ss (Holding n) = at ss (position.Holding n)
position_tree ss (Marking n) = at ss (position.Marking n)
position_tree ss (Marked n f) = at ss (position.Marked n (g.file_name_text f))
position_tree ss (Inside o ls ch n) = state_within ss o (levels_tree ls) (chain_tree ch) (expected_tree n)

abbrev pub state_tree : ParserStateForm → ParserState
state_tree s = position_tree (g.script_tree s.before) s.position

-- the tokens that led to such a state
abbrev pub chain_tokens : ChainForm → List Token
chain_tokens Alone = []
chain_tokens (Joined j ps) = g.parts_tokens j ps ++ g.operator j ∷ []

abbrev pub frame_tokens : FrameForm → List Token
frame_tokens Parens = token.Sign sign.OpenParen ∷ []
frame_tokens Braces = token.Sign sign.OpenBrace ∷ []
frame_tokens (More ps) = token.Sign sign.OpenBrace ∷ g.pipes_tokens ps ++ token.Sign sign.Semicolon ∷ []
frame_tokens (Blocked b) = g.block_tokens b ++ token.Sign sign.OpenBrace ∷ []
frame_tokens InTee = token.Word keyword.Tee ∷ token.Sign sign.OpenParen ∷ []
frame_tokens (ZipFirst z) = token.Word (keyword.Zip z) ∷ token.Sign sign.OpenParen ∷ []
frame_tokens (ZipSecond z q) = token.Word (keyword.Zip z) ∷ token.Sign sign.OpenParen ∷ g.pipe_tokens q ++ token.Sign sign.Comma ∷ []

abbrev pub levels_tokens : List LevelForm → List Token
levels_tokens [] = []
levels_tokens (l ∷ ls) = levels_tokens ls ++ chain_tokens l.outer ++ frame_tokens l.frame

abbrev pub head_tokens : HeadForm → List Token
head_tokens (Counted w) = token.Word (keyword.Counted w) ∷ []
head_tokens (Classed w) = token.Word (keyword.Classed w) ∷ []
head_tokens (ClassedNot w) = token.Word (keyword.Classed w) ∷ token.Word keyword.Not ∷ []
head_tokens (Is w negated) = token.Word (keyword.Classed w) ∷ g.not_tokens negated ++ token.Word keyword.Is ∷ []
head_tokens (Below w negated) = token.Word (keyword.Classed w) ∷ g.not_tokens negated ++ token.Word keyword.Below ∷ []
head_tokens (Tested w) = token.Word (keyword.Tested w) ∷ []
head_tokens (TestedNot w) = token.Word (keyword.Tested w) ∷ token.Word keyword.Not ∷ []
head_tokens (AtEnd w negated t) = token.Word (keyword.Tested w) ∷ g.not_tokens negated ++ token.Word (keyword.EndTest t) ∷ []
head_tokens (Shorter w negated) = token.Word (keyword.Tested w) ∷ g.not_tokens negated ++ token.Word keyword.Shorter ∷ []
head_tokens MapE = token.Word keyword.MapE ∷ []
head_tokens (ByNumber m) = token.Word keyword.MapE ∷ token.Word (keyword.NumberMap m) ∷ []
head_tokens Map = token.Word keyword.Map ∷ []
head_tokens (ByText m) = token.Word keyword.Map ∷ token.Word (keyword.EndMap m) ∷ []
head_tokens (Literal w) = token.Word (keyword.Literal w) ∷ []
head_tokens (OfFile w) = token.Word (keyword.File w) ∷ []
head_tokens Split = token.Word keyword.Split ∷ []
head_tokens (SplitAt c) = token.Word keyword.Split ∷ token.Text c.text ∷ []
head_tokens (OfList w) = token.Word (keyword.List w) ∷ []
head_tokens (ListOpen w) = token.Word (keyword.List w) ∷ token.Sign sign.OpenSquare ∷ []
head_tokens (ListEnded w ss) = token.Word (keyword.List w) ∷ token.Sign sign.OpenSquare ∷ g.literals_tokens ss
head_tokens (ListGoes w ss) = token.Word (keyword.List w) ∷ token.Sign sign.OpenSquare ∷ g.literals_tokens ss ++ token.Sign sign.Comma ∷ []
head_tokens Replicate = token.Word keyword.Replicate ∷ []
head_tokens (Replicated n) = token.Word keyword.Replicate ∷ token.Number n ∷ []
head_tokens Range = token.Word keyword.Range ∷ []
head_tokens (RangeFrom n) = token.Word keyword.Range ∷ token.Number n ∷ []
head_tokens (Counts s) = token.Word (keyword.Section s) ∷ []
head_tokens Mark = token.Word keyword.Mark ∷ []
head_tokens (BlockHead b) = g.block_tokens b
head_tokens TeeHead = token.Word keyword.Tee ∷ []
head_tokens (ZipHead z) = token.Word (keyword.Zip z) ∷ []

-- the two pipes of `zipSource`
abbrev pub zip_source : g.PipeForm → g.PipeForm → List Token
zip_source p q = token.Word (keyword.Zip zip.Source) ∷ token.Sign sign.OpenParen ∷ g.pipe_tokens p ++ token.Sign sign.Comma ∷ g.pipe_tokens q

abbrev pub expected_tokens : ExpectedForm → List Token
expected_tokens Needs = []
expected_tokens (Further h) = head_tokens h
expected_tokens (Ended p) = g.part_tokens p
expected_tokens (ZipText p q) = zip_source p q ++ token.Sign sign.Comma ∷ []
expected_tokens (ZipEnd p q s) = zip_source p q ++ token.Sign sign.Comma ∷ token.Text s ∷ []

abbrev pub owner_tokens : Owner → List Token
owner_tokens owner.Run = token.Word keyword.Run ∷ []
owner_tokens (owner.Seal n) = token.Word (keyword.Opening opening.Let) ∷ token.Named n ∷ token.Sign sign.Equals ∷ token.Word keyword.Seal ∷ []
owner_tokens (owner.Feed n) = token.Word (keyword.Opening opening.Feed) ∷ token.Named n ∷ g.operator join.Plain ∷ []
owner_tokens (owner.CloseSeal n) = token.Word (keyword.Opening opening.Close) ∷ token.Named n ∷ g.operator join.Plain ∷ []

abbrev pub position_tokens : PositionForm → List Token
position_tokens Between = []
position_tokens (Opened o) = token.Word (keyword.Opening o) ∷ []
position_tokens (Named o n) = token.Word (keyword.Opening o) ∷ token.Named n ∷ []
position_tokens (Sealing n) = token.Word (keyword.Opening opening.Let) ∷ token.Named n ∷ token.Sign sign.Equals ∷ []
position_tokens (Holding n) = token.Word (keyword.Opening opening.Hold) ∷ token.Named n ∷ token.Sign sign.Equals ∷ []
position_tokens (Marking n) = token.Word (keyword.Opening opening.Hold) ∷ token.Named n ∷ token.Sign sign.Equals ∷ token.Word keyword.Mark ∷ []
position_tokens (Marked n f) = token.Word (keyword.Opening opening.Hold) ∷ token.Named n ∷ token.Sign sign.Equals ∷ token.Word keyword.Mark ∷ token.Text (g.file_name_text f) ∷ []
position_tokens (Inside o ls ch n) = owner_tokens o ++ levels_tokens ls ++ chain_tokens ch ++ expected_tokens n

abbrev pub state_tokens : ParserStateForm → List Token
state_tokens s = g.script_tokens s.before ++ position_tokens s.position

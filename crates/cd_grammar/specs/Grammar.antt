-- The grammar of scripts, as its derivations: what a derivation spells, and the tree that it stands for.
use Rattle.std.specs.Prelude.{◌≡◌, ℕ, Bool, true, false, List, [], ◌∷◌, ◌++◌, Option, Some, None}
use Rattle.std.specs.Str.{chars}
use Rattle.cd_elem.specs.declared.script.Join.{Join}
use Rattle.cd_elem.specs.declared.script.Join.TheVariants as join
use Rattle.cd_elem.specs.declared.script.Pipe.{Pipe}
use Rattle.cd_elem.specs.declared.script.Pipe.TheVariants as pipe
use Rattle.cd_elem.specs.declared.script.Stmt.{Stmt}
use Rattle.cd_elem.specs.declared.script.Stmt.TheVariants as stmt
use Rattle.cd_elem.specs.declared.word.Word.{Word}
use Rattle.cd_elem.specs.declared.word.ClassName.{ClassName}
use Rattle.cd_elem.specs.declared.word.ClassName.TheVariants as name
use Rattle.cd_elem.specs.declared.word.TestName.{TestName}
use Rattle.cd_elem.specs.declared.word.TestName.TheVariants as test
use Rattle.cd_elem.specs.declared.word.ByteMap.{ByteMap}
use Rattle.cd_elem.specs.declared.word.ByteMap.TheVariants as byte_map
use Rattle.cd_elem.specs.declared.word.PieceMap.{PieceMap}
use Rattle.cd_elem.specs.declared.word.PieceMap.TheVariants as piece_maps
use Rattle.cd_elem.specs.declared.token.PlainWord.{PlainWord}
use Rattle.cd_elem.specs.declared.token.CountedWord.{CountedWord}
use Rattle.cd_elem.specs.declared.token.ClassedWord.{ClassedWord}
use Rattle.cd_elem.specs.declared.token.TestedWord.{TestedWord}
use Rattle.cd_elem.specs.declared.token.LiteralWord.{LiteralWord}
use Rattle.cd_elem.specs.declared.token.FileWord.{FileWord}
use Rattle.cd_elem.specs.declared.token.ListWord.{ListWord}
use Rattle.cd_elem.specs.declared.token.PlainClass.{PlainClass}
use Rattle.cd_elem.specs.declared.token.EndTest.{EndTest}
use Rattle.cd_elem.specs.declared.token.NumberMap.{NumberMap}
use Rattle.cd_elem.specs.declared.token.EndMap.{EndMap}
use Rattle.cd_elem.specs.declared.token.Opening.TheVariants as opening
use Rattle.cd_elem.specs.declared.token.Section.{Section}
use Rattle.cd_elem.specs.declared.token.Section.TheVariants as section
use Rattle.cd_elem.specs.declared.token.Zip.TheVariants as zip
use Rattle.cd_elem.specs.declared.token.Keyword.TheVariants as keyword
use Rattle.cd_elem.specs.declared.token.Sign.TheVariants as sign
use Rattle.cd_elem.specs.declared.token.Token.{Token}
use Rattle.cd_elem.specs.declared.token.Token.TheVariants as token
use Rattle.cd_grammar.specs.WordTrees as tree

-- a NUM, or None past 2^64 - 1, which no tree within the limits has
abbrev pub Numeral : Type 0
Numeral = Option ℕ

abbrev pub only_member : List ℕ → Option ℕ
only_member (c ∷ []) = Some c
only_member _ = None

-- the only character of a text
abbrev pub one_scalar : List ℕ → Option ℕ
one_scalar text = only_member (chars text)

-- a LIT of exactly one character
pub record Character : Type 0 where
  pub text : List ℕ
  pub scalar : ℕ
  pub one : one_scalar text ≡ Some scalar

-- a LIT that is not empty
pub record FileName : Type 0 where
  pub first : ℕ
  pub rest : List ℕ

abbrev pub file_name_text : FileName → List ℕ
file_name_text f = f.first ∷ f.rest

-- class, behind its `not`
pub data ClassForm : Type 0 where
  Simple : PlainClass → ClassForm
  Is : Character → ClassForm
  Below : Numeral → ClassForm

-- test, behind its `not`
pub data TestForm : Type 0 where
  Empty : TestForm
  AtEnd : EndTest → List ℕ → TestForm
  Shorter : Numeral → TestForm

-- what stands behind `mapE`
pub data ElementMapForm : Type 0 where
  ByNumber : NumberMap → Numeral → ElementMapForm
  Rot13 : ElementMapForm

-- what stands behind `map`
pub data PieceMapForm : Type 0 where
  ByText : EndMap → List ℕ → PieceMapForm
  Reverse : PieceMapForm

-- literals ::= LIT | literals , LIT
pub data LiteralsForm : Type 0 where
  OneLiteral : List ℕ → LiteralsForm
  AndLiteral : LiteralsForm → List ℕ → LiteralsForm

-- list ::= [ ] | [ literals ]
pub data ListForm : Type 0 where
  Nothing : ListForm
  All : LiteralsForm → ListForm

pub data WordForm : Type 0 where
  Plain : PlainWord → WordForm
  Counted : CountedWord → Numeral → WordForm
  Classed : ClassedWord → Bool → ClassForm → WordForm
  Tested : TestedWord → Bool → TestForm → WordForm
  MapE : ElementMapForm → WordForm
  Map : PieceMapForm → WordForm
  Literal : LiteralWord → List ℕ → WordForm
  OfFile : FileWord → FileName → WordForm
  Split : Character → Numeral → WordForm
  OfList : ListWord → ListForm → WordForm
  Replicate : Numeral → List ℕ → WordForm
  Range : Numeral → Numeral → WordForm

-- what stands before { pipe }
pub data BlockForm : Type 0 where
  Counts : Section → Numeral → BlockForm
  LineE : BlockForm
  Mark : FileName → BlockForm

mutual
  -- part ::= word | ( pipe ) | { pipes } | block { pipe } | tee ( pipe ) | zipSource ( pipe , pipe , LIT ) | zipSink ( pipe , pipe ) | zipConduit ( pipe , pipe )
  pub data PartForm : Type 0 where
    OfWord : WordForm → PartForm
    Parens : PipeForm → PartForm
    Braces : PipesForm → PartForm
    Block : BlockForm → PipeForm → PartForm
    Tee : PipeForm → PartForm
    ZipSource : PipeForm → PipeForm → List ℕ → PartForm
    ZipSink : PipeForm → PipeForm → PartForm
    ZipConduit : PipeForm → PipeForm → PartForm

  -- pipe ::= part | parts operator part, with the same operator throughout
  pub data PipeForm : Type 0 where
    One : PartForm → PipeForm
    Chain : Join → PartsForm → PartForm → PipeForm

  -- parts ::= part | parts operator part
  pub data PartsForm : Type 0 where
    First : PartForm → PartsForm
    Then : PartsForm → PartForm → PartsForm

  -- pipes ::= pipe | pipes ; pipe
  pub data PipesForm : Type 0 where
    Only : PipeForm → PipesForm
    And : PipesForm → PipeForm → PipesForm

pub data StatementForm : Type 0 where
  Run : PipeForm → StatementForm
  Seal : List ℕ → PipeForm → StatementForm
  Feed : List ℕ → PipeForm → StatementForm
  CloseSeal : List ℕ → PipeForm → StatementForm
  Hold : List ℕ → FileName → StatementForm
  Release : List ℕ → StatementForm

-- What a derivation spells.
abbrev pub operator : Join → Token
operator j = token.Sign (sign.Operator j)

abbrev pub class_tokens : ClassForm → List Token
class_tokens (Simple c) = token.Word (keyword.Class c) ∷ []
class_tokens (Is c) = token.Word keyword.Is ∷ token.Text c.text ∷ []
class_tokens (Below n) = token.Word keyword.Below ∷ token.Number n ∷ []

abbrev pub test_tokens : TestForm → List Token
test_tokens Empty = token.Word keyword.Empty ∷ []
test_tokens (AtEnd t s) = token.Word (keyword.EndTest t) ∷ token.Text s ∷ []
test_tokens (Shorter n) = token.Word keyword.Shorter ∷ token.Number n ∷ []

abbrev pub element_map_tokens : ElementMapForm → List Token
element_map_tokens (ByNumber m n) = token.Word (keyword.NumberMap m) ∷ token.Number n ∷ []
element_map_tokens Rot13 = token.Word keyword.Rot13 ∷ []

abbrev pub piece_map_tokens : PieceMapForm → List Token
piece_map_tokens (ByText m s) = token.Word (keyword.EndMap m) ∷ token.Text s ∷ []
piece_map_tokens Reverse = token.Word keyword.Reverse ∷ []

abbrev pub literals_tokens : LiteralsForm → List Token
literals_tokens (OneLiteral s) = token.Text s ∷ []
literals_tokens (AndLiteral ss s) = literals_tokens ss ++ token.Sign sign.Comma ∷ token.Text s ∷ []

abbrev pub list_tokens : ListForm → List Token
list_tokens Nothing = token.Sign sign.OpenSquare ∷ token.Sign sign.CloseSquare ∷ []
list_tokens (All ss) = token.Sign sign.OpenSquare ∷ literals_tokens ss ++ token.Sign sign.CloseSquare ∷ []

abbrev pub not_tokens : Bool → List Token
not_tokens true = token.Word keyword.Not ∷ []
not_tokens false = []

abbrev pub word_tokens : WordForm → List Token
word_tokens (Plain w) = token.Word (keyword.Plain w) ∷ []
word_tokens (Counted w n) = token.Word (keyword.Counted w) ∷ token.Number n ∷ []
word_tokens (Classed w negated c) = token.Word (keyword.Classed w) ∷ not_tokens negated ++ class_tokens c
word_tokens (Tested w negated t) = token.Word (keyword.Tested w) ∷ not_tokens negated ++ test_tokens t
word_tokens (MapE m) = token.Word keyword.MapE ∷ element_map_tokens m
word_tokens (Map m) = token.Word keyword.Map ∷ piece_map_tokens m
word_tokens (Literal w s) = token.Word (keyword.Literal w) ∷ token.Text s ∷ []
word_tokens (OfFile w f) = token.Word (keyword.File w) ∷ token.Text (file_name_text f) ∷ []
word_tokens (Split c n) = token.Word keyword.Split ∷ token.Text c.text ∷ token.Number n ∷ []
word_tokens (OfList w l) = token.Word (keyword.List w) ∷ list_tokens l
word_tokens (Replicate n s) = token.Word keyword.Replicate ∷ token.Number n ∷ token.Text s ∷ []
word_tokens (Range a b) = token.Word keyword.Range ∷ token.Number a ∷ token.Number b ∷ []

abbrev pub block_tokens : BlockForm → List Token
block_tokens (Counts s n) = token.Word (keyword.Section s) ∷ token.Number n ∷ []
block_tokens LineE = token.Word keyword.LineE ∷ []
block_tokens (Mark f) = token.Word keyword.Mark ∷ token.Text (file_name_text f) ∷ []

abbrev mutual
  pub part_tokens : PartForm → List Token
  part_tokens (OfWord w) = word_tokens w
  part_tokens (Parens p) = token.Sign sign.OpenParen ∷ pipe_tokens p ++ token.Sign sign.CloseParen ∷ []
  part_tokens (Braces ps) = token.Sign sign.OpenBrace ∷ pipes_tokens ps ++ token.Sign sign.CloseBrace ∷ []
  part_tokens (Block b p) = block_tokens b ++ token.Sign sign.OpenBrace ∷ pipe_tokens p ++ token.Sign sign.CloseBrace ∷ []
  part_tokens (Tee p) = token.Word keyword.Tee ∷ token.Sign sign.OpenParen ∷ pipe_tokens p ++ token.Sign sign.CloseParen ∷ []
  part_tokens (ZipSource p q s) =
      token.Word (keyword.Zip zip.Source) ∷ token.Sign sign.OpenParen ∷ pipe_tokens p ++ token.Sign sign.Comma ∷ pipe_tokens q
      ++ token.Sign sign.Comma ∷ token.Text s ∷ token.Sign sign.CloseParen ∷ []
  part_tokens (ZipSink p q) =
      token.Word (keyword.Zip zip.Sink) ∷ token.Sign sign.OpenParen ∷ pipe_tokens p ++ token.Sign sign.Comma ∷ pipe_tokens q ++ token.Sign sign.CloseParen ∷ []
  part_tokens (ZipConduit p q) =
      token.Word (keyword.Zip zip.Conduit) ∷ token.Sign sign.OpenParen ∷ pipe_tokens p ++ token.Sign sign.Comma ∷ pipe_tokens q ++ token.Sign sign.CloseParen ∷ []

  pub pipe_tokens : PipeForm → List Token
  pipe_tokens (One p) = part_tokens p
  pipe_tokens (Chain j ps p) = parts_tokens j ps ++ operator j ∷ part_tokens p

  pub parts_tokens : Join → PartsForm → List Token
  parts_tokens j (First p) = part_tokens p
  parts_tokens j (Then ps p) = parts_tokens j ps ++ operator j ∷ part_tokens p

  pub pipes_tokens : PipesForm → List Token
  pipes_tokens (Only p) = pipe_tokens p
  pipes_tokens (And ps p) = pipes_tokens ps ++ token.Sign sign.Semicolon ∷ pipe_tokens p

abbrev pub statement_tokens : StatementForm → List Token
statement_tokens (Run p) = token.Word keyword.Run ∷ pipe_tokens p ++ token.Sign sign.Semicolon ∷ []
statement_tokens (Seal n p) =
    token.Word (keyword.Opening opening.Let) ∷ token.Named n ∷ token.Sign sign.Equals ∷ token.Word keyword.Seal ∷ pipe_tokens p ++ token.Sign sign.Semicolon ∷ []
statement_tokens (Feed n p) = token.Word (keyword.Opening opening.Feed) ∷ token.Named n ∷ operator join.Plain ∷ pipe_tokens p ++ token.Sign sign.Semicolon ∷ []
statement_tokens (CloseSeal n p) = token.Word (keyword.Opening opening.Close) ∷ token.Named n ∷ operator join.Plain ∷ pipe_tokens p ++ token.Sign sign.Semicolon ∷ []
statement_tokens (Hold n f) =
    token.Word (keyword.Opening opening.Hold) ∷ token.Named n ∷ token.Sign sign.Equals ∷ token.Word keyword.Mark ∷ token.Text (file_name_text f) ∷ token.Sign sign.Semicolon ∷ []
statement_tokens (Release n) = token.Word (keyword.Opening opening.Release) ∷ token.Named n ∷ token.Sign sign.Semicolon ∷ []

-- any number of statements, the last first
abbrev pub script_tokens : List StatementForm → List Token
script_tokens [] = []
script_tokens (s ∷ before) = script_tokens before ++ statement_tokens s

-- The tree that a derivation stands for. Parentheses leave no mark.
abbrev pub class_name : ClassForm → ClassName
class_name (Simple c) = tree.plain_class c
class_name (Is c) = name.Is c.scalar
class_name (Below n) = name.Below (tree.number_of n)

abbrev pub test_name : TestForm → TestName
test_name Empty = test.Empty
test_name (AtEnd t s) = tree.test_of_end t s
test_name (Shorter n) = test.Shorter (tree.number_of n)

abbrev pub element_map : ElementMapForm → ByteMap
element_map (ByNumber m n) = tree.map_by_number m (tree.byte_of n)
element_map Rot13 = byte_map.Rot13

abbrev pub piece_map : PieceMapForm → PieceMap
piece_map (ByText m s) = tree.map_by_text m s
piece_map Reverse = piece_maps.Reverse

abbrev pub literals : LiteralsForm → List (List ℕ)
literals (OneLiteral s) = s ∷ []
literals (AndLiteral ss s) = literals ss ++ s ∷ []

abbrev pub members : ListForm → List (List ℕ)
members Nothing = []
members (All ss) = literals ss

abbrev pub word_tree : WordForm → Word
word_tree (Plain w) = tree.plain_word w
word_tree (Counted w n) = tree.counted_word w (tree.number_of n)
word_tree (Classed w negated c) = tree.classed_word w (tree.class_of negated (class_name c))
word_tree (Tested w negated t) = tree.tested_word w (tree.test_of negated (test_name t))
word_tree (MapE m) = tree.element_map_word (element_map m)
word_tree (Map m) = tree.piece_map_word (piece_map m)
word_tree (Literal w s) = tree.literal_word w s
word_tree (OfFile w f) = tree.file_word w (file_name_text f)
word_tree (Split c n) = tree.split_word c.scalar (tree.number_of n)
word_tree (OfList w l) = tree.list_word w (members l)
word_tree (Replicate n s) = tree.replicate_word (tree.number_of n) s
word_tree (Range a b) = tree.range_word (tree.number_of a) (tree.number_of b)

abbrev pub section_tree : Section → ℕ → Pipe → Pipe
section_tree section.Exactly n p = pipe.Exactly n p
section_tree section.ExactlyE n p = pipe.ExactlyE n p

abbrev pub block_tree : BlockForm → Pipe → Pipe
block_tree (Counts s n) p = section_tree s (tree.number_of n) p
block_tree LineE p = pipe.LineE p
block_tree (Mark f) p = pipe.Mark (file_name_text f) p

abbrev mutual
  pub part_tree : PartForm → Pipe
  part_tree (OfWord w) = pipe.Word (word_tree w)
  part_tree (Parens p) = pipe_tree p
  part_tree (Braces ps) = pipe.Sequence (pipes_trees ps)
  part_tree (Block b p) = block_tree b (pipe_tree p)
  part_tree (Tee p) = pipe.Tee (pipe_tree p)
  part_tree (ZipSource p q s) = pipe.ZipSource (pipe_tree p) (pipe_tree q) s
  part_tree (ZipSink p q) = pipe.ZipSink (pipe_tree p) (pipe_tree q)
  part_tree (ZipConduit p q) = pipe.ZipConduit (pipe_tree p) (pipe_tree q)

  pub pipe_tree : PipeForm → Pipe
  pipe_tree (One p) = part_tree p
  pipe_tree (Chain j ps p) = pipe.Chain j (parts_trees ps ++ part_tree p ∷ [])

  pub parts_trees : PartsForm → List Pipe
  parts_trees (First p) = part_tree p ∷ []
  parts_trees (Then ps p) = parts_trees ps ++ part_tree p ∷ []

  pub pipes_trees : PipesForm → List Pipe
  pipes_trees (Only p) = pipe_tree p ∷ []
  pipes_trees (And ps p) = pipes_trees ps ++ pipe_tree p ∷ []

abbrev pub statement_tree : StatementForm → Stmt
statement_tree (Run p) = stmt.Run (pipe_tree p)
statement_tree (Seal n p) = stmt.Seal n (pipe_tree p)
statement_tree (Feed n p) = stmt.Feed n (pipe_tree p)
statement_tree (CloseSeal n p) = stmt.CloseSeal n (pipe_tree p)
statement_tree (Hold n f) = stmt.Hold n (file_name_text f)
statement_tree (Release n) = stmt.Release n

abbrev pub script_tree : List StatementForm → List Stmt
script_tree [] = []
script_tree (s ∷ before) = script_tree before ++ statement_tree s ∷ []

-- these tokens are a script of the grammar, with this tree
pub record IsScript (ts : List Token) (tree : List Stmt) : Type 0 where
  pub derivation : List StatementForm
  pub spelled : script_tokens derivation ≡ ts
  pub stands_for : script_tree derivation ≡ tree

-- some script of the grammar begins with these tokens
pub record IsFront (ts : List Token) : Type 0 where
  pub more : List Token
  pub tree : List Stmt
  pub script : IsScript (ts ++ more) tree

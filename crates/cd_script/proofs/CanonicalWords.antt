-- The canonical tokens of a word are those of a derivation of the word.
use Rattle.std.proofs.Common.{◌≡◌, ℕ, true, if◌then◌else◌, List, [], ◌∷◌, ◌++◌, Some, refl, ap, sym, ◌∙◌, append_assoc, append-nil}
use Rattle.std.specs.Char.{encode_utf8}
use Rattle.std.proofs.lemmas.Str.{chars_past_char, chars-nil, IsUtf8-encode}
use Rattle.cd_elem.specs.declared.token.PlainWord.{PlainWord}
use Rattle.cd_elem.specs.declared.token.PlainWord.TheVariants as plain
use Rattle.cd_elem.specs.declared.token.CountedWord.TheVariants as counted
use Rattle.cd_elem.specs.declared.token.ClassedWord.{ClassedWord}
use Rattle.cd_elem.specs.declared.token.ClassedWord.TheVariants as classed
use Rattle.cd_elem.specs.declared.token.TestedWord.{TestedWord}
use Rattle.cd_elem.specs.declared.token.TestedWord.TheVariants as tested
use Rattle.cd_elem.specs.declared.token.LiteralWord.TheVariants as literal
use Rattle.cd_elem.specs.declared.token.FileWord.TheVariants as file
use Rattle.cd_elem.specs.declared.token.ListWord.{ListWord}
use Rattle.cd_elem.specs.declared.token.ListWord.TheVariants as list
use Rattle.cd_elem.specs.declared.token.PlainClass.TheVariants as class
use Rattle.cd_elem.specs.declared.token.EndTest.TheVariants as end_test
use Rattle.cd_elem.specs.declared.token.NumberMap.TheVariants as number_map
use Rattle.cd_elem.specs.declared.token.EndMap.TheVariants as end_map
use Rattle.cd_elem.specs.declared.token.Keyword.TheVariants as keyword
use Rattle.cd_elem.specs.declared.token.Sign.TheVariants as sign
use Rattle.cd_elem.specs.declared.token.Token.{Token}
use Rattle.cd_elem.specs.declared.token.Token.TheVariants as token
use Rattle.cd_elem.specs.declared.word.Word.{Word}
use Rattle.cd_elem.specs.declared.word.Word.TheVariants as word
use Rattle.cd_elem.specs.declared.word.ElemWord.{ElemWord}
use Rattle.cd_elem.specs.declared.word.ElemWord.TheVariants as elem
use Rattle.cd_elem.specs.declared.word.PieceWord.{PieceWord}
use Rattle.cd_elem.specs.declared.word.PieceWord.TheVariants as piece
use Rattle.cd_elem.specs.declared.word.SplitWord.{SplitWord}
use Rattle.cd_elem.specs.declared.word.SplitWord.TheVariants as split
use Rattle.cd_elem.specs.declared.word.TextWord.{TextWord}
use Rattle.cd_elem.specs.declared.word.TextWord.TheVariants as text
use Rattle.cd_elem.specs.declared.word.BaseWord.{BaseWord}
use Rattle.cd_elem.specs.declared.word.BaseWord.TheVariants as base
use Rattle.cd_elem.specs.declared.word.SourceWord.{SourceWord}
use Rattle.cd_elem.specs.declared.word.SourceWord.TheVariants as source
use Rattle.cd_elem.specs.declared.word.SinkWord.{SinkWord}
use Rattle.cd_elem.specs.declared.word.SinkWord.TheVariants as sink
use Rattle.cd_elem.specs.declared.word.Class.{Class}
use Rattle.cd_elem.specs.declared.word.ClassName.{ClassName}
use Rattle.cd_elem.specs.declared.word.ClassName.TheVariants as name
use Rattle.cd_elem.specs.declared.word.PieceTest.{PieceTest}
use Rattle.cd_elem.specs.declared.word.TestName.{TestName}
use Rattle.cd_elem.specs.declared.word.TestName.TheVariants as test
use Rattle.cd_elem.specs.declared.word.ByteMap.{ByteMap}
use Rattle.cd_elem.specs.declared.word.ByteMap.TheVariants as byte_map
use Rattle.cd_elem.specs.declared.word.PieceMap.{PieceMap}
use Rattle.cd_elem.specs.declared.word.PieceMap.TheVariants as piece_map
use Rattle.cd_grammar.specs.Canonical.{is_file, is_proper_word}
use Rattle.cd_grammar.specs.CanonicalWords as spec
use Rattle.cd_grammar.specs.Grammar as g
use Rattle.cd_grammar.specs.WordTrees as trees
use Rattle.cd_script.specs.Ranges as ranges

-- a form of the grammar with these tokens, which stands for this tree
pub record Spells {F T : Type 0} (tokens_of : F → List Token) (tree_of : F → T) (ts : List Token) (tree : T) : Type 0 where
  pub form : F
  pub spelled : tokens_of form ≡ ts
  pub stands_for : tree_of form ≡ tree

exactly : {F T : Type 0} {k : F → List Token} {t : F → T} (f : F) → Spells k t (k f) (t f)
exactly f = record { form = f; spelled = refl; stands_for = refl }

only_scalar : (c : ℕ) → ranges.is_char c ≡ true → g.one_scalar (encode_utf8 c) ≡ Some c
only_scalar c h = ap g.only_member (chars_past_char (encode_utf8 c) [] c (IsUtf8-encode c h) (sym (append-nil (encode_utf8 c)))) ∙ ap (λ cs. g.only_member (c ∷ cs)) chars-nil

character : (c : ℕ) → ranges.is_char c ≡ true → g.Character
character c h = record { text = encode_utf8 c; scalar = c; one = only_scalar c h }

class_form : (n : ClassName) → ranges.class_name n ≡ true → Spells g.class_tokens g.class_name (spec.canonical_class_name n) n
unfolding character
class_form name.Digit h = exactly (g.Simple class.Digit)
class_form name.Upper h = exactly (g.Simple class.Upper)
class_form name.Lower h = exactly (g.Simple class.Lower)
class_form name.Alpha h = exactly (g.Simple class.Alpha)
class_form name.Alnum h = exactly (g.Simple class.Alnum)
class_form name.Hexdigit h = exactly (g.Simple class.Hexdigit)
class_form name.Space h = exactly (g.Simple class.Space)
class_form name.Newline h = exactly (g.Simple class.Newline)
class_form (name.Is c) h = exactly (g.Is (character c h))
class_form (name.Below n) h = exactly (g.Below (Some n))

test_form : (n : TestName) → Spells g.test_tokens g.test_name (spec.canonical_test_name n) n
test_form test.Empty = exactly g.Empty
test_form (test.Begins s) = exactly (g.AtEnd end_test.Begins s)
test_form (test.Ends s) = exactly (g.AtEnd end_test.Ends s)
test_form (test.Shorter n) = exactly (g.Shorter (Some n))

element_map_form : (m : ByteMap) → ranges.element_map m ≡ true → Spells g.element_map_tokens g.element_map (spec.canonical_element_map m) m
element_map_form (byte_map.Xor k) h = record {
  form = g.ByNumber number_map.Xor (Some k);
  spelled = refl;
  stands_for = ap (λ b. byte_map.Xor (if b then k else 0)) h;
}
element_map_form (byte_map.Add k) h = record {
  form = g.ByNumber number_map.Add (Some k);
  spelled = refl;
  stands_for = ap (λ b. byte_map.Add (if b then k else 0)) h;
}
element_map_form byte_map.Rot13 h = exactly g.Rot13

piece_map_form : (m : PieceMap) → Spells g.piece_map_tokens g.piece_map (spec.canonical_piece_map m) m
piece_map_form (piece_map.Prefix s) = exactly (g.ByText end_map.Prefix s)
piece_map_form (piece_map.Suffix s) = exactly (g.ByText end_map.Suffix s)
piece_map_form piece_map.Reverse = exactly g.Reverse

-- these literals and further ones
abbrev literals_form : g.LiteralsForm → List (List ℕ) → g.LiteralsForm
literals_form front [] = front
literals_form front (s ∷ ss) = literals_form (g.AndLiteral front s) ss

literals-tokens : (front : g.LiteralsForm) (ss : List (List ℕ))
    → g.literals_tokens (literals_form front ss) ≡ g.literals_tokens front ++ spec.behind_each (token.Sign sign.Comma) (spec.canonical_texts ss)
literals-tokens front [] = simp append-nil
literals-tokens front (s ∷ ss) = literals-tokens (g.AndLiteral front s) ss ∙ simp append_assoc

literals-members : (front : g.LiteralsForm) (ss : List (List ℕ)) → g.literals (literals_form front ss) ≡ g.literals front ++ ss
literals-members front [] = simp append-nil
literals-members front (s ∷ ss) = literals-members (g.AndLiteral front s) ss ∙ simp append_assoc

list_form : (ss : List (List ℕ)) → Spells g.list_tokens g.members (spec.canonical_list ss) ss
list_form [] = exactly g.Nothing
list_form (s ∷ ss) = record {
  form = g.All (literals_form (g.OneLiteral s) ss);
  spelled = ap (λ ts. token.Sign sign.OpenSquare ∷ ts ++ token.Sign sign.CloseSquare ∷ []) (literals-tokens (g.OneLiteral s) ss);
  stands_for = literals-members (g.OneLiteral s) ss;
}

abbrev pub OfWord : Word → Type 0
OfWord w = Spells g.word_tokens g.word_tree (spec.canonical_word w) w

classed_form : (w : ClassedWord) (c : Class) → ranges.class_name c.what ≡ true
    → Spells g.word_tokens g.word_tree (token.Word (keyword.Classed w) ∷ spec.canonical_class c) (trees.classed_word w c)
classed_form w c h =
    let d = class_form c.what h in
    record {
      form = g.Classed w c.negated d.form;
      spelled = ap (λ ts. token.Word (keyword.Classed w) ∷ g.not_tokens c.negated ++ ts) d.spelled;
      stands_for = ap (λ n. trees.classed_word w (trees.class_of c.negated n)) d.stands_for;
    }

tested_form : (w : TestedWord) (t : PieceTest) → Spells g.word_tokens g.word_tree (token.Word (keyword.Tested w) ∷ spec.canonical_test t) (trees.tested_word w t)
tested_form w t =
    let d = test_form t.what in
    record {
      form = g.Tested w t.negated d.form;
      spelled = ap (λ ts. token.Word (keyword.Tested w) ∷ g.not_tokens t.negated ++ ts) d.spelled;
      stands_for = ap (λ n. trees.tested_word w (trees.test_of t.negated n)) d.stands_for;
    }

list_word_form : (w : ListWord) (ss : List (List ℕ))
    → Spells g.word_tokens g.word_tree (token.Word (keyword.List w) ∷ spec.canonical_list ss) (trees.list_word w ss)
list_word_form w ss =
    let d = list_form ss in
    record {
      form = g.OfList w d.form;
      spelled = ap (λ ts. token.Word (keyword.List w) ∷ ts) d.spelled;
      stands_for = ap (trees.list_word w) d.stands_for;
    }

-- the plain word that is these tokens
abbrev plain_of : List Token → PlainWord
plain_of (token.Word (keyword.Plain w) ∷ ts) = w
plain_of _ = plain.PassE

-- Words with something behind them. The wildcard stands for each plain word.
elem_form : (w : ElemWord) → ranges.elem w ≡ true → OfWord (word.Elem w)
elem_form (elem.TakeE n) h = exactly (g.Counted counted.TakeE (Some n))
elem_form (elem.RepeatE n) h = exactly (g.Counted counted.RepeatE (Some n))
elem_form (elem.DropE n) h = exactly (g.Counted counted.DropE (Some n))
elem_form (elem.CollectE n) h = exactly (g.Counted counted.CollectE (Some n))
elem_form (elem.TakeWhileE c) h = classed_form classed.TakeWhileE c h
elem_form (elem.FilterE c) h = classed_form classed.FilterE c h
elem_form (elem.DropWhileE c) h = classed_form classed.DropWhileE c h
elem_form (elem.AllE c) h = classed_form classed.AllE c h
elem_form (elem.AnyE c) h = classed_form classed.AnyE c h
elem_form (elem.MapE m) h =
    let d = element_map_form m h in
    record {
      form = g.MapE d.form;
      spelled = ap (λ ts. token.Word keyword.MapE ∷ ts) d.spelled;
      stands_for = ap trees.element_map_word d.stands_for;
    }
elem_form w h = exactly (g.Plain (plain_of (spec.canonical_elem w)))

piece_form : (w : PieceWord) → OfWord (word.Piece w)
piece_form (piece.Take n) = exactly (g.Counted counted.Take (Some n))
piece_form (piece.Repeat n) = exactly (g.Counted counted.Repeat (Some n))
piece_form (piece.Drop n) = exactly (g.Counted counted.Drop (Some n))
piece_form (piece.Collect n) = exactly (g.Counted counted.Collect (Some n))
piece_form (piece.TakeWhile t) = tested_form tested.TakeWhile t
piece_form (piece.Filter t) = tested_form tested.Filter t
piece_form (piece.DropWhile t) = tested_form tested.DropWhile t
piece_form (piece.Map m) =
    let d = piece_map_form m in
    record {
      form = g.Map d.form;
      spelled = ap (λ ts. token.Word keyword.Map ∷ ts) d.spelled;
      stands_for = ap trees.piece_map_word d.stands_for;
    }
piece_form (piece.Intersperse s) = exactly (g.Literal literal.Intersperse s)
piece_form w = exactly (g.Plain (plain_of (spec.canonical_piece w)))

split_form : (w : SplitWord) → ranges.split w ≡ true → OfWord (word.Split w)
unfolding character
split_form (split.Lines n) h = exactly (g.Counted counted.Lines (Some n))
split_form (split.Exact n) h = exactly (g.Counted counted.Exact (Some n))
split_form (split.ChunksOf n) h = exactly (g.Counted counted.ChunksOf (Some n))
split_form (split.Split c n) h = exactly (g.Split (character c h) (Some n))
split_form w h = exactly (g.Plain (plain_of (spec.canonical_split w)))

text_form : (w : TextWord) → OfWord (word.Text w)
text_form text.Utf8 = exactly (g.Plain plain.Utf8)
text_form w = exactly (g.Plain (plain_of (spec.canonical_text w)))

base_form : (w : BaseWord) → OfWord (word.Base w)
base_form base.HexEncode = exactly (g.Plain plain.HexEncode)
base_form w = exactly (g.Plain (plain_of (spec.canonical_base w)))

-- a name of a file that is not empty
pub file_form : (s : List ℕ) → is_file s ≡ true → (f : g.FileName) × (g.file_name_text f ≡ s)
file_form [] h = let x : ⊥ = cc in absurd x
file_form (c ∷ cs) h = (record { first = c; rest = cs }, refl)

source_form : (w : SourceWord) → is_proper_word (word.Source w) ≡ true → OfWord (word.Source w)
source_form (source.SourceFile s) h =
    let f = file_form s h in
    record {
      form = g.OfFile file.SourceFile f.0;
      spelled = ap (λ s. token.Word (keyword.File file.SourceFile) ∷ token.Text s ∷ []) f.1;
      stands_for = ap (trees.file_word file.SourceFile) f.1;
    }
source_form source.Stdin h = exactly (g.Plain plain.Stdin)
source_form (source.Bytes s) h = exactly (g.Literal literal.Bytes s)
source_form (source.Text s) h = exactly (g.Literal literal.Text s)
source_form (source.Blocks ss) h = list_word_form list.Blocks ss
source_form (source.Texts ss) h = list_word_form list.Texts ss
source_form (source.Replicate n s) h = exactly (g.Replicate (Some n) s)
source_form (source.Range a b) h = exactly (g.Range (Some a) (Some b))

sink_form : (w : SinkWord) → is_proper_word (word.Sink w) ≡ true → OfWord (word.Sink w)
sink_form (sink.SinkFile s) h =
    let f = file_form s h in
    record {
      form = g.OfFile file.SinkFile f.0;
      spelled = ap (λ s. token.Word (keyword.File file.SinkFile) ∷ token.Text s ∷ []) f.1;
      stands_for = ap (trees.file_word file.SinkFile) f.1;
    }
sink_form sink.Stdout h = exactly (g.Plain plain.Stdout)

pub word_form : (w : Word) → is_proper_word w ≡ true → ranges.word w ≡ true → OfWord w
word_form (word.Elem w) p r = elem_form w r
word_form (word.Piece w) p r = piece_form w
word_form (word.Split w) p r = split_form w r
word_form (word.Text w) p r = text_form w
word_form (word.Base w) p r = base_form w
word_form (word.Source w) p r = source_form w p
word_form (word.Sink w) p r = sink_form w p

-- Each token of a tree within the limits is read as it is written.
use Rattle.std.proofs.Common.{◌≡◌, ℕ, ◌+◌, ◌<◌, ◌^◌, Bool, true, false, ◌||◌, if◌then◌else◌, List, [], ◌∷◌, ◌++◌, map, Option, Some, None, refl, sym, ◌∙◌, subst, arith}
use Rattle.std.specs.Prelude.{◌==◌, nat_lt}
use Rattle.std.specs.Char.{is_ascii_alphabetic, is_ascii_alphanumeric, is_ascii_digit}
use Rattle.std.specs.List.{list_all}
use Rattle.std.proofs.lemmas.Bool.{ltb-false, ltb-true}
use Rattle.std.proofs.lemmas.List.Folds.{list_all-append}
use Rattle.cd_elem.specs.declared.script.Join.TheVariants as join
use Rattle.cd_elem.specs.declared.script.Pipe.{Pipe, map-Pipe}
use Rattle.cd_elem.specs.declared.script.Pipe.TheOpen.{Pipe-F}
use Rattle.cd_elem.specs.declared.script.Pipe.TheViews.{roll-Pipe}
use Rattle.cd_elem.specs.declared.script.Pipe.TheFolds.{fold-roll-Pipe, ind-Pipe}
use Rattle.cd_elem.specs.declared.script.Stmt.{Stmt}
use Rattle.cd_elem.specs.declared.script.Stmt.TheVariants as stmt
use Rattle.cd_elem.specs.declared.token.CountedWord.{CountedWord}
use Rattle.cd_elem.specs.declared.token.CountedWord.TheVariants as counted
use Rattle.cd_elem.specs.declared.token.Keyword.{Keyword}
use Rattle.cd_elem.specs.declared.token.Keyword.TheVariants as keyword
use Rattle.cd_elem.specs.declared.token.Sign.{Sign}
use Rattle.cd_elem.specs.declared.token.Sign.TheVariants as sign
use Rattle.cd_elem.specs.declared.token.Token.{Token}
use Rattle.cd_elem.specs.declared.token.Token.TheVariants as token
use Rattle.cd_elem.specs.declared.word.Word.{Word}
use Rattle.cd_elem.specs.declared.word.Word.TheVariants as word
use Rattle.cd_elem.specs.declared.word.ElemWord.{ElemWord}
use Rattle.cd_elem.specs.declared.word.ElemWord.TheVariants as elem
use Rattle.cd_elem.specs.declared.word.PieceWord.{PieceWord}
use Rattle.cd_elem.specs.declared.word.PieceWord.TheVariants as piece_word
use Rattle.cd_elem.specs.declared.word.SplitWord.{SplitWord}
use Rattle.cd_elem.specs.declared.word.SplitWord.TheVariants as split
use Rattle.cd_elem.specs.declared.word.TextWord.{TextWord}
use Rattle.cd_elem.specs.declared.word.TextWord.TheVariants as text
use Rattle.cd_elem.specs.declared.word.BaseWord.{BaseWord}
use Rattle.cd_elem.specs.declared.word.BaseWord.TheVariants as base
use Rattle.cd_elem.specs.declared.word.SourceWord.{SourceWord}
use Rattle.cd_elem.specs.declared.word.SourceWord.TheVariants as source
use Rattle.cd_elem.specs.declared.word.SinkWord.{SinkWord}
use Rattle.cd_elem.specs.declared.word.SinkWord.TheVariants as sink
use Rattle.cd_elem.specs.declared.word.Class.{Class}
use Rattle.cd_elem.specs.declared.word.ClassName.{ClassName}
use Rattle.cd_elem.specs.declared.word.ClassName.TheVariants as class_name
use Rattle.cd_elem.specs.declared.word.PieceTest.{PieceTest}
use Rattle.cd_elem.specs.declared.word.TestName.{TestName}
use Rattle.cd_elem.specs.declared.word.TestName.TheVariants as test_name
use Rattle.cd_elem.specs.declared.word.ByteMap.{ByteMap}
use Rattle.cd_elem.specs.declared.word.ByteMap.TheVariants as byte_map
use Rattle.cd_elem.specs.declared.word.PieceMap.{PieceMap}
use Rattle.cd_elem.specs.declared.word.PieceMap.TheVariants as piece_map
use Rattle.cd_grammar.specs.Canonical.{PipeTokens, canonical_pipe, canonical_step, wrapped, pair, with_semicolon, canonical_statement, canonical, is_proper, is_proper_statement, is_file, is_name, is_named, IsTreeWithin}
use Rattle.cd_grammar.specs.CanonicalWords.{canonical_class_name, canonical_class, canonical_test_name, canonical_test, canonical_element_map, canonical_piece_map, behind_each, separated, canonical_texts, canonical_list, canonical_elem, canonical_piece, canonical_split, canonical_text, canonical_base, canonical_source, canonical_sink, canonical_word}
use Rattle.cd_grammar.specs.Grammar.{not_tokens, operator}
use Rattle.cd_grammar.specs.Limits.{Bounds, every_number, bounds_behind, brackets_with, counted_bounds, keyword_bounds, is_outside}
use Rattle.cd_grammar.specs.Literals.{literal_value}
use Rattle.cd_grammar.specs.Keywords.{reserved}
use Rattle.cd_grammar.specs.Tokens.{whole_token, whole_sign, name_or_keyword, number_value, text_token, sign_token, is_empty}
use Rattle.cd_lex.proofs.Utf8.{both}
use Rattle.cd_lex.proofs.Written.{CanBeWritten, AllWritten, written}
use Rattle.cd_script.proofs.LimitWalk.{Fits, walks}
use Rattle.cd_script.proofs.TextNames.{has_name, HaveNames, both_true}

-- Names.
named_itself : (r : Option Keyword) (text : List ℕ) → is_named (Some (name_or_keyword text r)) ≡ true → Some (name_or_keyword text r) ≡ Some (token.Named text)
named_itself None text e = refl
named_itself (Some k) text e = let f : ⊥ = cc in absurd f

identifier : (all : Bool) (r : Option Keyword) (text : List ℕ) → is_named (if all then Some (name_or_keyword text r) else None) ≡ true
    → (if all then Some (name_or_keyword text r) else None) ≡ Some (token.Named text)
identifier true r text e = named_itself r text e
identifier false r text e = let f : ⊥ = cc in absurd f

no_number : (all : Bool) (value : Option ℕ) → is_named (if all then Some (token.Number value) else None) ≡ true → ⊥
no_number true value e = cc
no_number false value e = cc

no_text : (value : Option (List ℕ)) → is_named (text_token value) ≡ true → ⊥
no_text None e = cc
no_text (Some s) e = cc

no_sign : (s : Option Sign) → is_named (sign_token s) ≡ true → ⊥
no_sign None e = cc
no_sign (Some s) e = cc

abbrev judged : Bool → Bool → Bool → Bool → Bool → Bool → Bool → Option Keyword → Option ℕ → Option (List ℕ) → Option Sign → List ℕ → Option Token
judged letter zero digit quote all_letters alone all_digits r value literal s text =
    if letter then (if all_letters then Some (name_or_keyword text r) else None)
    else (if zero then (if alone then Some (token.Number (Some 0)) else None)
    else (if digit then (if all_digits then Some (token.Number value) else None)
    else (if quote then text_token literal
    else sign_token s)))

-- which test of a text's first byte holds
first_byte : (letter zero digit quote all_letters alone all_digits : Bool) (r : Option Keyword) (value : Option ℕ) (literal : Option (List ℕ)) (s : Option Sign) (text : List ℕ)
    → is_named (judged letter zero digit quote all_letters alone all_digits r value literal s text) ≡ true
    → judged letter zero digit quote all_letters alone all_digits r value literal s text ≡ Some (token.Named text)
first_byte true zero digit quote all_letters alone all_digits r value literal s text e = identifier all_letters r text e
first_byte false true digit quote all_letters alone all_digits r value literal s text e = absurd (no_number alone (Some 0) e)
first_byte false false true quote all_letters alone all_digits r value literal s text e = absurd (no_number all_digits value e)
first_byte false false false true all_letters alone all_digits r value literal s text e = absurd (no_text literal e)
first_byte false false false false all_letters alone all_digits r value literal s text e = absurd (no_sign s e)

-- the token of a name is that name
name_is_whole : (n : List ℕ) → is_name n ≡ true → whole_token n ≡ Some (token.Named n)
name_is_whole [] e = let f : ⊥ = cc in absurd f
name_is_whole (c ∷ cs) e =
    first_byte (is_ascii_alphabetic c) (c == 48) (is_ascii_digit c) (c == 34) (list_all is_ascii_alphanumeric cs) (is_empty cs) (list_all is_ascii_digit cs)
    (reserved (c ∷ cs)) (number_value (c ∷ cs)) (literal_value cs) (whole_sign (c ∷ cs)) (c ∷ cs) e

-- Numbers.
abbrev Below : Bounds → Type 0
Below b = nat_lt b.most (2 ^ 64) ≡ true

counted_below : (w : CountedWord) → Below (counted_bounds w)
counted_below counted.TakeE = refl
counted_below _ = refl

keyword_below : (k : Keyword) → Below (keyword_bounds k)
keyword_below (keyword.Counted w) = counted_below w
keyword_below (keyword.NumberMap m) = refl
keyword_below keyword.Replicate = refl
keyword_below _ = refl

below_behind : (t : Token) → Below (bounds_behind t)
below_behind (token.Word k) = keyword_below k
below_behind (token.Text s) = refl
below_behind _ = refl

second_false : (a b : Bool) → (a || b) ≡ false → b ≡ false
second_false true b e = let f : ⊥ = cc in absurd f
second_false false b e = e

less_than_top : (least most n top : ℕ) → nat_lt most top ≡ true → (nat_lt n least || nat_lt most n) ≡ false → n < top
less_than_top least most n top h e =
    let k = ltb-true most top h in
    let l = ltb-false most n (second_false (nat_lt n least) (nat_lt most n) e) in
    omega (arith, k, l)

-- Tokens.
can_be_written : (b : Bounds) (t : Token) → Below b → is_outside b t ≡ false → has_name t ≡ true → CanBeWritten t
can_be_written b (token.Word k) h e n = tt
can_be_written b (token.Sign s) h e n = tt
can_be_written b (token.Number None) h e n = cc
can_be_written b (token.Number (Some m)) h e n = less_than_top b.least b.most m (2 ^ 64) h e
can_be_written b (token.Text s) h e n = tt
can_be_written b (token.Named m) h e n = name_is_whole m n

all_written : (c o : ℕ) (b : Bounds) (ts : List Token) → Below b → Fits c o b ts → HaveNames ts → AllWritten ts
all_written c o b [] h f n = tt
all_written c o b (t ∷ ts) h f n =
    let k = both (has_name t) (list_all has_name ts) n in
    (written t (can_be_written b t h f.0.number k.0), all_written (c + 1) (brackets_with o t) (bounds_behind t) ts (below_behind t) f.1 k.1)

append_names : (xs ys : List Token) → HaveNames xs → HaveNames ys → HaveNames (xs ++ ys)
append_names xs ys h k = list_all-append has_name xs ys ∙ both_true (list_all has_name xs) (list_all has_name ys) h k

-- Words.
negation : (negated : Bool) (xs : List Token) → HaveNames xs → HaveNames (not_tokens negated ++ xs)
negation true xs h = h
negation false xs h = h

class_name_names : (c : ClassName) → HaveNames (canonical_class_name c)
class_name_names class_name.Digit = refl
class_name_names _ = refl

class_names : (c : Class) → HaveNames (canonical_class c)
class_names c = negation c.negated (canonical_class_name c.what) (class_name_names c.what)

test_name_names : (t : TestName) → HaveNames (canonical_test_name t)
test_name_names test_name.Empty = refl
test_name_names _ = refl

test_names : (t : PieceTest) → HaveNames (canonical_test t)
test_names t = negation t.negated (canonical_test_name t.what) (test_name_names t.what)

element_map_names : (m : ByteMap) → HaveNames (canonical_element_map m)
element_map_names byte_map.Rot13 = refl
element_map_names _ = refl

piece_map_names : (m : PieceMap) → HaveNames (canonical_piece_map m)
piece_map_names piece_map.Reverse = refl
piece_map_names _ = refl

abbrev EachHasNames : List (List Token) → Type 0
EachHasNames [] = Unit {0}
EachHasNames (x ∷ xs) = HaveNames x × EachHasNames xs

behind_each_names : (s : Sign) (xs : List (List Token)) → EachHasNames xs → HaveNames (behind_each (token.Sign s) xs)
behind_each_names s [] h = refl
behind_each_names s (x ∷ xs) h = append_names x (behind_each (token.Sign s) xs) h.0 (behind_each_names s xs h.1)

separated_names : (s : Sign) (xs : List (List Token)) → EachHasNames xs → HaveNames (separated (token.Sign s) xs)
separated_names s [] h = refl
separated_names s (x ∷ xs) h = append_names x (behind_each (token.Sign s) xs) h.0 (behind_each_names s xs h.1)

texts_names : (ss : List (List ℕ)) → EachHasNames (canonical_texts ss)
texts_names [] = tt
texts_names (s ∷ ss) = (refl, texts_names ss)

list_names : (ss : List (List ℕ)) → HaveNames (canonical_list ss)
list_names ss = append_names (separated (token.Sign sign.Comma) (canonical_texts ss)) (token.Sign sign.CloseSquare ∷ []) (separated_names sign.Comma (canonical_texts ss) (texts_names ss)) refl

elem_names : (w : ElemWord) → HaveNames (canonical_elem w)
elem_names (elem.TakeWhileE c) = class_names c
elem_names (elem.FilterE c) = class_names c
elem_names (elem.DropWhileE c) = class_names c
elem_names (elem.AllE c) = class_names c
elem_names (elem.AnyE c) = class_names c
elem_names (elem.MapE m) = element_map_names m
elem_names _ = refl

piece_names : (w : PieceWord) → HaveNames (canonical_piece w)
piece_names (piece_word.TakeWhile t) = test_names t
piece_names (piece_word.Filter t) = test_names t
piece_names (piece_word.DropWhile t) = test_names t
piece_names (piece_word.Map m) = piece_map_names m
piece_names _ = refl

split_names : (w : SplitWord) → HaveNames (canonical_split w)
split_names split.Flat = refl
split_names _ = refl

text_names : (w : TextWord) → HaveNames (canonical_text w)
text_names text.Utf8 = refl
text_names _ = refl

base_names : (w : BaseWord) → HaveNames (canonical_base w)
base_names base.HexEncode = refl
base_names _ = refl

source_names : (w : SourceWord) → HaveNames (canonical_source w)
source_names (source.Blocks ss) = list_names ss
source_names (source.Texts ss) = list_names ss
source_names _ = refl

sink_names : (w : SinkWord) → HaveNames (canonical_sink w)
sink_names sink.Stdout = refl
sink_names _ = refl

word_names : (w : Word) → HaveNames (canonical_word w)
word_names (word.Elem w) = elem_names w
word_names (word.Piece w) = piece_names w
word_names (word.Split w) = split_names w
word_names (word.Text w) = text_names w
word_names (word.Base w) = base_names w
word_names (word.Source w) = source_names w
word_names (word.Sink w) = sink_names w

-- Pipes.
abbrev P : Pipe → Type 0
P p = HaveNames (canonical_pipe p).tokens

abbrev Part : Type 0
Part = (p : Pipe) × P p

abbrev first_of : Part → Pipe
first_of e = e.0

-- at a node, the tokens are those of its parts
at_node : (x : Pipe-F Pipe) → HaveNames (canonical_step (map-Pipe Pipe PipeTokens canonical_pipe x)).tokens → P (roll-Pipe x)
unfolding canonical_pipe
at_node x h = subst (λ (q : PipeTokens). HaveNames q.tokens) (sym (fold-roll-Pipe PipeTokens canonical_step x)) h

bracketed_names : (closing : Sign) (xs : List Token) → HaveNames xs → HaveNames (xs ++ token.Sign closing ∷ [])
bracketed_names closing xs h = append_names xs (token.Sign closing ∷ []) h refl

wrapped_names : (chain : Bool) (xs : List Token) → HaveNames xs → HaveNames (if chain then token.Sign sign.OpenParen ∷ xs ++ token.Sign sign.CloseParen ∷ [] else xs)
wrapped_names true xs h = bracketed_names sign.CloseParen xs h
wrapped_names false xs h = h

members_names : (parts : List Part) → EachHasNames (map wrapped (map canonical_pipe (map first_of parts)))
members_names [] = tt
members_names (e ∷ parts) = (wrapped_names (canonical_pipe e.0).is_chain (canonical_pipe e.0).tokens e.1, members_names parts)

parts_names : (parts : List Part) → EachHasNames (map (λ q. q.tokens) (map canonical_pipe (map first_of parts)))
parts_names [] = tt
parts_names (e ∷ parts) = (e.1, parts_names parts)

abbrev tokens_of : Part → List Token
tokens_of e = (canonical_pipe e.0).tokens

part_names : (closing : Sign) (e : Part) → HaveNames (tokens_of e ++ token.Sign closing ∷ [])
part_names closing e = bracketed_names closing (tokens_of e) e.1

abbrev both_tokens : Part → Part → List Token
both_tokens e f = pair (canonical_pipe e.0) (canonical_pipe f.0)

both_names : (e f : Part) → HaveNames (both_tokens e f)
both_names e f = append_names (tokens_of e) (token.Sign sign.Comma ∷ tokens_of f) e.1 f.1

each : (y : Pipe-F Part) → P (roll-Pipe (map-Pipe Part Pipe first_of y))
each (Pipe-F.Word w) = at_node (Pipe-F.Word w) (word_names w)
each (Pipe-F.Chain join parts) = at_node (Pipe-F.Chain join (map first_of parts)) (separated_names (sign.Operator join) (map wrapped (map canonical_pipe (map first_of parts))) (members_names parts))
each (Pipe-F.Sequence parts) =
    let xs : List (List Token) = map (λ q. q.tokens) (map canonical_pipe (map first_of parts)) in
    at_node (Pipe-F.Sequence (map first_of parts)) (bracketed_names sign.CloseBrace (separated (token.Sign sign.Semicolon) xs) (separated_names sign.Semicolon xs (parts_names parts)))
each (Pipe-F.Exactly n a) = at_node (Pipe-F.Exactly n a.0) (part_names sign.CloseBrace a)
each (Pipe-F.ExactlyE n a) = at_node (Pipe-F.ExactlyE n a.0) (part_names sign.CloseBrace a)
each (Pipe-F.LineE a) = at_node (Pipe-F.LineE a.0) (part_names sign.CloseBrace a)
each (Pipe-F.Mark name a) = at_node (Pipe-F.Mark name a.0) (part_names sign.CloseBrace a)
each (Pipe-F.Tee a) = at_node (Pipe-F.Tee a.0) (part_names sign.CloseParen a)
each (Pipe-F.ZipSource a b literal) =
    let last = token.Sign sign.Comma ∷ token.Text literal ∷ [] in
    at_node (Pipe-F.ZipSource a.0 b.0 literal) (bracketed_names sign.CloseParen (both_tokens a b ++ last) (append_names (both_tokens a b) last (both_names a b) refl))
each (Pipe-F.ZipSink a b) = at_node (Pipe-F.ZipSink a.0 b.0) (bracketed_names sign.CloseParen (both_tokens a b) (both_names a b))
each (Pipe-F.ZipConduit a b) = at_node (Pipe-F.ZipConduit a.0 b.0) (bracketed_names sign.CloseParen (both_tokens a b) (both_names a b))

-- each name among a pipe's tokens is an identifier: there is none
pipe_names : (p : Pipe) → P p
pipe_names = ind-Pipe P (λ x y is. subst (λ z. P (roll-Pipe z)) is (each y))

ended_names : (p : Pipe) → HaveNames (with_semicolon p)
ended_names p = bracketed_names sign.Semicolon (canonical_pipe p).tokens (pipe_names p)

-- Statements and scripts.
behind_name : (n : List ℕ) (ts : List Token) → is_name n ≡ true → HaveNames ts → HaveNames (token.Named n ∷ ts)
behind_name n ts e h = both_true (is_name n) (list_all has_name ts) e h

statement_names : (s : Stmt) → is_proper_statement s ≡ true → HaveNames (canonical_statement s)
statement_names (stmt.Run p) e = ended_names p
statement_names (stmt.Seal n p) e = behind_name n (token.Sign sign.Equals ∷ token.Word keyword.Seal ∷ with_semicolon p) (both (is_name n) (is_proper p) e).0 (ended_names p)
statement_names (stmt.Feed n p) e = behind_name n (operator join.Plain ∷ with_semicolon p) (both (is_name n) (is_proper p) e).0 (ended_names p)
statement_names (stmt.CloseSeal n p) e = behind_name n (operator join.Plain ∷ with_semicolon p) (both (is_name n) (is_proper p) e).0 (ended_names p)
statement_names (stmt.Hold n s) e =
    behind_name n (token.Sign sign.Equals ∷ token.Word keyword.Mark ∷ token.Text s ∷ token.Sign sign.Semicolon ∷ []) (both (is_name n) (is_file s) e).0 refl
statement_names (stmt.Release n) e = behind_name n (token.Sign sign.Semicolon ∷ []) e refl

tree_names : (tree : List Stmt) → list_all is_proper_statement tree ≡ true → HaveNames (canonical tree)
tree_names [] e = refl
tree_names (s ∷ tree) e =
    let k = both (is_proper_statement s) (list_all is_proper_statement tree) e in
    append_names (canonical_statement s) (canonical tree) (statement_names s k.0) (tree_names tree k.1)

pub written_within : (tree : List Stmt) → IsTreeWithin tree → AllWritten (canonical tree)
written_within tree w = all_written 0 0 every_number (canonical tree) refl (walks (canonical tree) w.within) (tree_names tree w.proper)

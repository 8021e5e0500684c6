-- Each lawful tree opens each of its own sites at most once.
use Rattle.std.proofs.Common.{Bool, true, false, ◌&&◌, IsTrue, ℕ, ◌≤◌, List, [], ◌∷◌, map, replicate, ◌++◌, encode_utf8, refl, sym, subst}
use Rattle.cd_elem.specs.declared.word.Word.{Word}
use Rattle.cd_elem.specs.declared.word.ElemWord.{ElemWord}
use Rattle.cd_elem.specs.declared.word.PieceWord.{PieceWord}
use Rattle.cd_elem.specs.declared.word.SplitWord.{SplitWord}
use Rattle.cd_elem.specs.declared.word.TextWord.{TextWord}
use Rattle.cd_elem.specs.declared.word.BaseWord.{BaseWord}
use Rattle.cd_elem.specs.declared.word.SourceWord.{SourceWord}
use Rattle.cd_elem.specs.declared.word.SinkWord.{SinkWord}
use Rattle.cd_elem.specs.declared.script.Join.{Join}
use Rattle.cd_elem.specs.declared.script.Pipe.{Pipe, map-Pipe}
use Rattle.cd_elem.specs.declared.script.Pipe.TheVariants as pipe
use Rattle.cd_elem.specs.declared.script.Pipe.TheOpen.{Pipe-F}
use Rattle.cd_elem.specs.declared.script.Pipe.TheViews.{roll-Pipe}
use Rattle.cd_elem.specs.declared.script.Pipe.TheFolds.{fold-roll-Pipe, ind-Pipe}
use Rattle.cd_elem.specs.Base16.{hex_digits}
use Rattle.cd_elem.specs.Ascii.{newline}
use Rattle.cd_meaning.specs.Stream.{Sort, Flow, Item, End}
use Rattle.cd_meaning.specs.Run.{effects}
use Rattle.cd_meaning.specs.Opens.{opens_of, openings_from, ClosesOpen}
use Rattle.cd_meaning.specs.RunShapes.{Seen, number, elements, passes, drops, unit_of}
use Rattle.cd_meaning.specs.Classes.{of_class, of_element, of_test, of_piece}
use Rattle.cd_meaning.specs.Sorts.{list_of, sort_of, elements_at, piece_at, pieces_at}
use Rattle.cd_meaning.specs.Sources.{decimals}
use Rattle.cd_meaning.specs.WordMeanings.{element_word, piece_word, split_word, text_word, base_word, source_word, sink_word, word_meaning}
use Rattle.cd_meaning.specs.Meaning.{Meaning, piped, sequence_form}
use Rattle.cd_meaning.specs.Pipes.{joined, all_of, node_meaning, pipe_meaning, chain_is}
use Rattle.cd_meaning.specs.Lawful.{IsLawful}
use Rattle.cd_meaning.specs.LawfulTrees.{Lawfulness, all_lawful, maps_but_last, chain_judged, node_judged, judged, IsLawfulTree, chain_is_judged}
use Rattle.cd_meaning.proofs.Lawful.Trees.{tree_is_lawful}
use Rattle.cd_meaning.proofs.Opens.WordSpends.{passed_nothing, taken_nothing, filtered_nothing, mapped_nothing, repeated_nothing, first_nothing, while_nothing, all_nothing, any_nothing, interspersed_nothing, grouped_nothing, lines_nothing, elements_nothing, utf8_nothing, lenient_nothing, hex_nothing, base64_nothing, groups_nothing, given_nothing, stdin_nothing, stdout_nothing, source_file_opens, sink_file_opens, plain_nothing}
use Rattle.cd_meaning.specs.Splitters.{no_piece, short_piece}
use Rattle.cd_meaning.proofs.Opens.Counts.{within_opens, within_closes, openings_once}
use Rattle.cd_meaning.proofs.Opens.Forms.{OpensOwn, plain_own, at_site_own, piped_own, piped_keep_own, piped_return_own, piped_both_own, piped_up_own, piped_asked_own, sequence_form_own, exactly_form_own, line_e_form_own, mark_form_own, tee_form_own, zip_source_form_own, zip_sink_form_own}

-- ---- words; those on elements and on pieces with something behind them are named, and the wildcard stands for each plain one

element_word_own : (w : ElemWord) → OpensOwn (element_word w)
element_word_own (ElemWord.TakeE n) = plain_own _ _ (λ f. taken_nothing n)
element_word_own (ElemWord.TakeWhileE p) = plain_own _ _ (λ f. while_nothing (of_class p) passes (λ x. tt))
element_word_own (ElemWord.FilterE p) = plain_own _ _ (λ f. filtered_nothing (of_class p))
element_word_own (ElemWord.MapE m) = plain_own _ _ (λ f. mapped_nothing (of_element m))
element_word_own (ElemWord.RepeatE n) = plain_own _ _ (λ f. repeated_nothing n)
element_word_own (ElemWord.DropE n) = plain_own _ _ (λ f. first_nothing n drops unit_of (λ x. tt))
element_word_own (ElemWord.DropWhileE p) = plain_own _ _ (λ f. while_nothing (of_class p) drops (λ x. tt))
element_word_own (ElemWord.AllE p) = plain_own _ _ (λ f. all_nothing (of_class p) 0)
element_word_own (ElemWord.AnyE p) = plain_own _ _ (λ f. any_nothing (of_class p) 0)
element_word_own (ElemWord.CollectE n) = plain_own _ _ (λ f. first_nothing n drops (list_of (sort_of f)) (λ x. tt))
element_word_own _ = plain_own _ _ (λ f. search plain_nothing)

piece_word_own : (w : PieceWord) → OpensOwn (piece_word w)
piece_word_own (PieceWord.Take n) = plain_own _ _ (λ f. taken_nothing n)
piece_word_own (PieceWord.TakeWhile p) = plain_own _ _ (λ f. while_nothing (of_test p (sort_of f)) passes (λ x. tt))
piece_word_own (PieceWord.Filter p) = plain_own _ _ (λ f. filtered_nothing (of_test p (sort_of f)))
piece_word_own (PieceWord.Repeat n) = plain_own _ _ (λ f. repeated_nothing n)
piece_word_own (PieceWord.Map m) = plain_own _ _ (λ f. mapped_nothing (of_piece m (sort_of f)))
piece_word_own (PieceWord.Intersperse literal) = plain_own _ _ (λ f. interspersed_nothing (piece_at (sort_of f) literal))
piece_word_own (PieceWord.Drop n) = plain_own _ _ (λ f. first_nothing n drops unit_of (λ x. tt))
piece_word_own (PieceWord.DropWhile p) = plain_own _ _ (λ f. while_nothing (of_test p (sort_of f)) drops (λ x. tt))
piece_word_own (PieceWord.Collect n) = plain_own _ _ (λ f. first_nothing n drops (list_of (sort_of f)) (λ x. tt))
piece_word_own _ = plain_own _ _ (λ f. search plain_nothing)

split_word_own : (w : SplitWord) → OpensOwn (split_word w)
split_word_own (SplitWord.Lines n) = plain_own _ _ (λ k. lines_nothing 10 n 0 true [])
split_word_own (SplitWord.Split separator n) = plain_own _ _ (λ k. lines_nothing separator n 0 true [])
split_word_own (SplitWord.Exact n) = plain_own _ _ (λ k. grouped_nothing no_piece n 0 [])
split_word_own (SplitWord.ChunksOf n) = plain_own _ _ (λ k. grouped_nothing short_piece n 0 [])
split_word_own SplitWord.Flat = plain_own _ _ (λ k. elements_nothing elements)
split_word_own SplitWord.Unlines = plain_own _ _ (λ k. elements_nothing (λ x. elements x ++ newline ∷ []))

text_word_own : (w : TextWord) → OpensOwn (text_word w)
text_word_own TextWord.Utf8 = plain_own _ _ (λ k. utf8_nothing 0 0 [] 0)
text_word_own TextWord.Utf8Lenient = plain_own _ _ (λ k. lenient_nothing 0 [] 0)
text_word_own TextWord.Utf8Encode = plain_own _ _ (λ k. elements_nothing (λ x. encode_utf8 (number x)))

base_word_own : (w : BaseWord) → OpensOwn (base_word w)
base_word_own BaseWord.HexEncode = plain_own _ _ (λ k. elements_nothing (λ x. hex_digits (number x)))
base_word_own BaseWord.HexDecode = plain_own _ _ (λ k. hex_nothing 0)
base_word_own BaseWord.Base64Encode = plain_own _ _ (λ k. base64_nothing 0)
base_word_own BaseWord.Base64Decode = plain_own _ _ (λ k. groups_nothing 0 false)

source_word_own : (w : SourceWord) → OpensOwn (source_word w)
source_word_own (SourceWord.SourceFile name) = at_site_own _ _ _ (λ k s seen. source_file_opens k s (seen s))
source_word_own SourceWord.Stdin = at_site_own _ _ _ (λ k s seen. (stdin_nothing s (seen s)).within k _ 0)
source_word_own (SourceWord.Bytes literal) = plain_own _ _ (λ k. given_nothing (elements_at Sort.Bytes literal))
source_word_own (SourceWord.Text literal) = plain_own _ _ (λ k. given_nothing (elements_at Sort.Chars literal))
source_word_own (SourceWord.Blocks literals) = plain_own _ _ (λ k. given_nothing (pieces_at Sort.Block literals))
source_word_own (SourceWord.Texts literals) = plain_own _ _ (λ k. given_nothing (pieces_at Sort.Text literals))
source_word_own (SourceWord.Replicate n literal) = plain_own _ _ (λ k. given_nothing (replicate n (piece_at Sort.Block literal)))
source_word_own (SourceWord.Range a b) = plain_own _ _ (λ k. given_nothing (decimals a b))

sink_word_own : (w : SinkWord) → OpensOwn (sink_word w)
sink_word_own (SinkWord.SinkFile name) = at_site_own _ _ _ (λ k s seen. sink_file_opens k s)
sink_word_own SinkWord.Stdout = at_site_own _ _ _ (λ k s seen. (stdout_nothing s).within k _ 0)

word_own : (w : Word) → OpensOwn (word_meaning w)
word_own (Word.Elem w) = element_word_own w
word_own (Word.Piece w) = piece_word_own w
word_own (Word.Split w) = split_word_own w
word_own (Word.Text w) = text_word_own w
word_own (Word.Base w) = base_word_own w
word_own (Word.Source w) = source_word_own w
word_own (Word.Sink w) = sink_word_own w

-- ---- trees

abbrev P : Pipe → Type 0
P p = IsLawfulTree p → OpensOwn (pipe_meaning p)

abbrev Part : Type 0
Part = (p : Pipe) × P p

abbrev first_of : Part → Pipe
first_of e = e.0

both_true : (a b : Bool) → IsTrue (a && b) → IsTrue a × IsTrue b
both_true true b h = (refl, h)
both_true false b h = absurd cc

and_true : (a b : Bool) → IsTrue a → IsTrue b → IsTrue (a && b)
and_true true b h g = g
and_true false b h g = absurd cc

none_own : OpensOwn (all_of piped [])
none_own = plain_own _ _ (λ k. passed_nothing)

-- the first of a lawful chain, and what stands behind it, are lawful
chain_first : (join : Join) (j : Lawfulness) (js : List Lawfulness) → IsTrue (chain_judged join (j ∷ js)).lawful → IsTrue j.lawful
chain_first Join.Plain j js h = (both_true j.lawful (all_lawful js) h).0
chain_first Join.Keep j js h = (both_true j.lawful (all_lawful js) (both_true (all_lawful (j ∷ js)) (maps_but_last (j ∷ js)) h).0).0
chain_first Join.Return j js h = (both_true j.lawful (all_lawful js) h).0
chain_first Join.Both j js h = (both_true j.lawful (all_lawful js) h).0
chain_first Join.Up j js h = (both_true j.lawful (all_lawful js) h).0
chain_first Join.Asked j js h = (both_true j.lawful (all_lawful js) h).0

chain_rest : (join : Join) (j k : Lawfulness) (js : List Lawfulness) → IsTrue (chain_judged join (j ∷ k ∷ js)).lawful → IsTrue (chain_judged join (k ∷ js)).lawful
chain_rest Join.Plain j k js h = (both_true j.lawful (all_lawful (k ∷ js)) h).1
chain_rest Join.Keep j k js h =
    let b = both_true (all_lawful (j ∷ k ∷ js)) (maps_but_last (j ∷ k ∷ js)) h in
    and_true (all_lawful (k ∷ js)) (maps_but_last (k ∷ js)) (both_true j.lawful (all_lawful (k ∷ js)) b.0).1 (both_true j.map (maps_but_last (k ∷ js)) b.1).1
chain_rest Join.Return j k js h = (both_true j.lawful (all_lawful (k ∷ js)) h).1
chain_rest Join.Both j k js h = (both_true j.lawful (all_lawful (k ∷ js)) h).1
chain_rest Join.Up j k js h = (both_true j.lawful (all_lawful (k ∷ js)) h).1
chain_rest Join.Asked j k js h = (both_true j.lawful (all_lawful (k ∷ js)) h).1

joined_own : (join : Join) (a b : Meaning) → OpensOwn a → OpensOwn b → IsLawful b → OpensOwn (joined join a b)
joined_own Join.Plain = piped_own
joined_own Join.Keep = piped_keep_own
joined_own Join.Return = piped_return_own
joined_own Join.Both = piped_both_own
joined_own Join.Up = piped_up_own
joined_own Join.Asked = piped_asked_own

-- a lawful chain means what is lawful
chain_lawful : (join : Join) (parts : List Pipe) → IsTrue (chain_judged join (map judged parts)).lawful → IsLawful (all_of (joined join) (map pipe_meaning parts))
chain_lawful join parts h = subst IsLawful (chain_is join parts) (tree_is_lawful (pipe.Chain join parts) (subst (λ (j : Lawfulness). IsTrue j.lawful) (sym (chain_is_judged join parts)) h))

chain_own : (join : Join) (parts : List Part) → IsTrue (chain_judged join (map judged (map first_of parts))).lawful → OpensOwn (all_of (joined join) (map pipe_meaning (map first_of parts)))
chain_own join [] h = none_own
chain_own join (e ∷ []) h = e.1 (chain_first join (judged e.0) [] h)
chain_own join (e ∷ f ∷ parts) h =
    let l = chain_rest join (judged e.0) (judged f.0) (map judged (map first_of parts)) h in
    joined_own join (pipe_meaning e.0) (all_of (joined join) (map pipe_meaning (map first_of (f ∷ parts))))
    (e.1 (chain_first join (judged e.0) (map judged (map first_of (f ∷ parts))) h))
    (chain_own join (f ∷ parts) l) (chain_lawful join (map first_of (f ∷ parts)) l)

sequence_own : (parts : List Part) → IsTrue (all_lawful (map judged (map first_of parts))) → OpensOwn (all_of sequence_form (map pipe_meaning (map first_of parts)))
sequence_own [] h = none_own
sequence_own (e ∷ []) h = e.1 (both_true (judged e.0).lawful true h).0
sequence_own (e ∷ f ∷ parts) h =
    let b = both_true (judged e.0).lawful (all_lawful (map judged (map first_of (f ∷ parts)))) h in
    sequence_form_own (pipe_meaning e.0) (all_of sequence_form (map pipe_meaning (map first_of (f ∷ parts)))) (e.1 b.0) (sequence_own (f ∷ parts) b.1)

at_node : (x : Pipe-F Pipe) → (IsTrue (node_judged (map-Pipe Pipe Lawfulness judged x)).lawful → OpensOwn (node_meaning (map-Pipe Pipe Meaning pipe_meaning x))) → P (roll-Pipe x)
at_node x o h = subst OpensOwn (sym (fold-roll-Pipe Meaning node_meaning x)) (o (subst (λ (j : Lawfulness). IsTrue j.lawful) (fold-roll-Pipe Lawfulness node_judged x) h))

of_two : (p q : Part) (m : Meaning) → (OpensOwn (pipe_meaning p.0) → OpensOwn (pipe_meaning q.0) → OpensOwn m) → IsTrue ((judged p.0).lawful && (judged q.0).lawful) → OpensOwn m
of_two p q m keeps h = let b = both_true (judged p.0).lawful (judged q.0).lawful h in keeps (p.1 b.0) (q.1 b.1)

each : (y : Pipe-F Part) → P (roll-Pipe (map-Pipe Part Pipe first_of y))
each (Pipe-F.Word w) = at_node (Pipe-F.Word w) (λ h. word_own w)
each (Pipe-F.Chain join parts) = at_node (Pipe-F.Chain join (map first_of parts)) (chain_own join parts)
each (Pipe-F.Sequence parts) = at_node (Pipe-F.Sequence (map first_of parts)) (sequence_own parts)
each (Pipe-F.Exactly n a) = at_node (Pipe-F.Exactly n a.0) (λ h. exactly_form_own n _ (a.1 h) (tree_is_lawful a.0 h))
each (Pipe-F.ExactlyE n a) = at_node (Pipe-F.ExactlyE n a.0) (λ h. exactly_form_own n _ (a.1 h) (tree_is_lawful a.0 h))
each (Pipe-F.LineE a) = at_node (Pipe-F.LineE a.0) (λ h. line_e_form_own _ (a.1 h) (tree_is_lawful a.0 h))
each (Pipe-F.Mark name a) = at_node (Pipe-F.Mark name a.0) (λ h. mark_form_own name _ (a.1 h))
each (Pipe-F.Tee a) = at_node (Pipe-F.Tee a.0) (λ h. tee_form_own _ (a.1 h))
each (Pipe-F.ZipSource a b literal) = at_node (Pipe-F.ZipSource a.0 b.0 literal) (of_two a b _ (zip_source_form_own literal _ _))
each (Pipe-F.ZipSink a b) = at_node (Pipe-F.ZipSink a.0 b.0) (of_two a b _ (zip_sink_form_own _ _))
each (Pipe-F.ZipConduit a b) = at_node (Pipe-F.ZipConduit a.0 b.0) (of_two a b _ (zip_sink_form_own _ _))

pub tree_opens_own : (p : Pipe) → IsLawfulTree p → OpensOwn (pipe_meaning p)
tree_opens_own = ind-Pipe P (λ x y is. subst (λ z. P (roll-Pipe z)) is (each y))

pub tree_opens : (p : Pipe) → IsLawfulTree p → (flow : Flow) (first : ℕ) (seen : Seen) (xs : List Item) (e : End) (site : ℕ)
    → opens_of site (effects ((pipe_meaning p).run flow first seen xs e)) ≤ openings_from site first (pipe_meaning p).places
tree_opens p lawful flow first seen xs e site = within_opens site (openings_from site first (pipe_meaning p).places) 0 ((pipe_meaning p).run flow first seen xs e) ((tree_opens_own p lawful).opens site flow first seen xs e)

pub tree_closes : (p : Pipe) → IsLawfulTree p → (flow : Flow) (first : ℕ) (seen : Seen) (xs : List Item) (e : End) (site : ℕ) → ClosesOpen site ((pipe_meaning p).run flow first seen xs e)
tree_closes p lawful flow first seen xs e site =
    within_closes site (openings_from site first (pipe_meaning p).places) ((pipe_meaning p).run flow first seen xs e)
    (openings_once site first (pipe_meaning p).places) ((tree_opens_own p lawful).opens site flow first seen xs e)

-- The tree of a derivation has the form of a script's, where its names are identifiers that are not reserved.
use Rattle.std.proofs.Common.{◌≡◌, ℕ, Bool, true, false, ◌&&◌, List, [], ◌∷◌, ◌++◌, map, refl, ap, sym, ◌∙◌, subst}
use Rattle.std.proofs.lemmas.List.{map-append}
use Rattle.std.proofs.lemmas.List.Folds.{list_all-append}
use Rattle.std.specs.List.{list_all}
use Rattle.cd_elem.specs.declared.script.Join.{Join}
use Rattle.cd_elem.specs.declared.script.Pipe.{Pipe, map-Pipe}
use Rattle.cd_elem.specs.declared.script.Pipe.TheVariants as pipe
use Rattle.cd_elem.specs.declared.script.Pipe.TheOpen.{Pipe-F}
use Rattle.cd_elem.specs.declared.script.Pipe.TheViews.{roll-Pipe}
use Rattle.cd_elem.specs.declared.script.Pipe.TheFolds.{fold-roll-Pipe}
use Rattle.cd_elem.specs.declared.script.Stmt.{Stmt}
use Rattle.cd_elem.specs.declared.token.PlainWord.{PlainWord}
use Rattle.cd_elem.specs.declared.token.PlainWord.TheVariants as plain
use Rattle.cd_elem.specs.declared.token.CountedWord.{CountedWord}
use Rattle.cd_elem.specs.declared.token.CountedWord.TheVariants as counted
use Rattle.cd_elem.specs.declared.token.ClassedWord.{ClassedWord}
use Rattle.cd_elem.specs.declared.token.ClassedWord.TheVariants as classed
use Rattle.cd_elem.specs.declared.token.TestedWord.{TestedWord}
use Rattle.cd_elem.specs.declared.token.TestedWord.TheVariants as tested
use Rattle.cd_elem.specs.declared.token.LiteralWord.{LiteralWord}
use Rattle.cd_elem.specs.declared.token.LiteralWord.TheVariants as literal
use Rattle.cd_elem.specs.declared.token.FileWord.{FileWord}
use Rattle.cd_elem.specs.declared.token.FileWord.TheVariants as file
use Rattle.cd_elem.specs.declared.token.ListWord.{ListWord}
use Rattle.cd_elem.specs.declared.token.ListWord.TheVariants as list
use Rattle.cd_elem.specs.declared.token.Section.TheVariants as section
use Rattle.cd_elem.specs.declared.token.Token.{Token}
use Rattle.cd_elem.specs.declared.word.Class.{Class}
use Rattle.cd_elem.specs.declared.word.PieceTest.{PieceTest}
use Rattle.cd_grammar.specs.WordTrees as tree
use Rattle.cd_grammar.specs.Grammar as g
use Rattle.cd_grammar.specs.Canonical.{is_proper, proper_step, is_proper_word, is_proper_statement, is_name, has_one, has_two}
use Rattle.cd_script.proofs.WithinLimitsTrees.{some_mapped, some_parts, some_wholes}
use Rattle.cd_script.proofs.TextNames.{has_name, HaveNames, both_true}

each_true : (a b : Bool) → (a && b) ≡ true → (a ≡ true) × (b ≡ true)
each_true true b e = (refl, e)
each_true false b e = let f : ⊥ = cc in absurd f

-- Words.
plain_word : (w : PlainWord) → is_proper_word (tree.plain_word w) ≡ true
plain_word plain.PassE = refl
plain_word _ = refl

counted_word : (w : CountedWord) (n : ℕ) → is_proper_word (tree.counted_word w n) ≡ true
counted_word counted.TakeE n = refl
counted_word _ n = refl

classed_word : (w : ClassedWord) (c : Class) → is_proper_word (tree.classed_word w c) ≡ true
classed_word classed.AllE c = refl
classed_word _ c = refl

tested_word : (w : TestedWord) (t : PieceTest) → is_proper_word (tree.tested_word w t) ≡ true
tested_word tested.Filter t = refl
tested_word _ t = refl

literal_word : (w : LiteralWord) (s : List ℕ) → is_proper_word (tree.literal_word w s) ≡ true
literal_word literal.Bytes s = refl
literal_word _ s = refl

file_word : (w : FileWord) (f : g.FileName) → is_proper_word (tree.file_word w (g.file_name_text f)) ≡ true
file_word file.SourceFile f = refl
file_word _ f = refl

list_word : (w : ListWord) (ss : List (List ℕ)) → is_proper_word (tree.list_word w ss) ≡ true
list_word list.Blocks ss = refl
list_word _ ss = refl

word_form : (w : g.WordForm) → is_proper_word (g.word_tree w) ≡ true
word_form (g.Plain w) = plain_word w
word_form (g.Counted w n) = counted_word w (tree.number_of n)
word_form (g.Classed w negated c) = classed_word w _
word_form (g.Tested w negated t) = tested_word w _
word_form (g.MapE m) = refl
word_form (g.Map m) = refl
word_form (g.Literal w s) = literal_word w s
word_form (g.OfFile w f) = file_word w f
word_form (g.Split c n) = refl
word_form (g.OfList w l) = list_word w (g.members l)
word_form (g.Replicate n s) = refl
word_form (g.Range m n) = refl

-- Lists.
one_at_least : (bs : List Bool) → (bs ≡ [] → ⊥) → has_one bs ≡ true
one_at_least [] h = absurd (h refl)
one_at_least (b ∷ bs) h = refl

two_at_least : (bs : List Bool) (b : Bool) → (bs ≡ [] → ⊥) → has_two (bs ++ b ∷ []) ≡ true
two_at_least [] b h = absurd (h refl)
two_at_least (c ∷ []) b h = refl
two_at_least (c ∷ d ∷ bs) b h = refl

abbrev AllProper : List Pipe → Type 0
AllProper ps = list_all (λ b. b) (map is_proper ps) ≡ true

more_proper : (ps : List Pipe) (p : Pipe) → AllProper ps → is_proper p ≡ true → AllProper (ps ++ p ∷ [])
more_proper ps p h k =
    ap (list_all (λ b. b)) (map-append is_proper ps (p ∷ [])) ∙ list_all-append (λ b. b) (map is_proper ps) (is_proper p ∷ [])
    ∙ both_true _ _ h (both_true (is_proper p) true k refl)

-- Pipes.
proper-roll : (x : Pipe-F Pipe) → is_proper (roll-Pipe x) ≡ proper_step (map-Pipe Pipe Bool is_proper x)
unfolding is_proper
proper-roll x = fold-roll-Pipe Bool proper_step x

chain_form : (j : Join) (ps : List Pipe) (p : Pipe) → (ps ≡ [] → ⊥) → AllProper ps → is_proper p ≡ true → is_proper (pipe.Chain j (ps ++ p ∷ [])) ≡ true
chain_form j ps p some h k =
    ap is_proper (sym (pipe.rolls-Chain j (ps ++ p ∷ []))) ∙ proper-roll _
    ∙ both_true (has_two (map is_proper (ps ++ p ∷ []))) _
    (ap has_two (map-append is_proper ps (p ∷ [])) ∙ two_at_least (map is_proper ps) (is_proper p) (some_mapped is_proper ps some))
    (more_proper ps p h k)

sequence_form : (ps : List Pipe) → (ps ≡ [] → ⊥) → AllProper ps → is_proper (pipe.Sequence ps) ≡ true
sequence_form ps some h =
    ap is_proper (sym (pipe.rolls-Sequence ps)) ∙ proper-roll _
    ∙ both_true (has_one (map is_proper ps)) _ (one_at_least (map is_proper ps) (some_mapped is_proper ps some)) h

block_form : (b : g.BlockForm) (p : Pipe) → is_proper p ≡ true → is_proper (g.block_tree b p) ≡ true
block_form (g.Counts section.Exactly n) p h = ap is_proper (sym (pipe.rolls-Exactly (tree.number_of n) p)) ∙ proper-roll _ ∙ h
block_form (g.Counts section.ExactlyE n) p h = ap is_proper (sym (pipe.rolls-ExactlyE (tree.number_of n) p)) ∙ proper-roll _ ∙ h
block_form g.LineE p h = ap is_proper (sym (pipe.rolls-LineE p)) ∙ proper-roll _ ∙ h
block_form (g.Mark f) p h = ap is_proper (sym (pipe.rolls-Mark (g.file_name_text f) p)) ∙ proper-roll _ ∙ h

zip_source_form : (p q : Pipe) (s : List ℕ) → is_proper p ≡ true → is_proper q ≡ true → is_proper (pipe.ZipSource p q s) ≡ true
zip_source_form p q s h k = ap is_proper (sym (pipe.rolls-ZipSource p q s)) ∙ proper-roll _ ∙ both_true (is_proper p) (is_proper q) h k

zip_sink_form : (p q : Pipe) → is_proper p ≡ true → is_proper q ≡ true → is_proper (pipe.ZipSink p q) ≡ true
zip_sink_form p q h k = ap is_proper (sym (pipe.rolls-ZipSink p q)) ∙ proper-roll _ ∙ both_true (is_proper p) (is_proper q) h k

zip_conduit_form : (p q : Pipe) → is_proper p ≡ true → is_proper q ≡ true → is_proper (pipe.ZipConduit p q) ≡ true
zip_conduit_form p q h k = ap is_proper (sym (pipe.rolls-ZipConduit p q)) ∙ proper-roll _ ∙ both_true (is_proper p) (is_proper q) h k

mutual
  part : (p : g.PartForm) → is_proper (g.part_tree p) ≡ true
  part (g.OfWord w) = ap is_proper (sym (pipe.rolls-Word (g.word_tree w))) ∙ proper-roll _ ∙ word_form w
  part (g.Parens p) = whole p
  part (g.Braces ps) = sequence_form (g.pipes_trees ps) (some_wholes ps) (wholes ps)
  part (g.Block b p) = block_form b (g.pipe_tree p) (whole p)
  part (g.Tee p) = ap is_proper (sym (pipe.rolls-Tee (g.pipe_tree p))) ∙ proper-roll _ ∙ whole p
  part (g.ZipSource p q s) = zip_source_form (g.pipe_tree p) (g.pipe_tree q) s (whole p) (whole q)
  part (g.ZipSink p q) = zip_sink_form (g.pipe_tree p) (g.pipe_tree q) (whole p) (whole q)
  part (g.ZipConduit p q) = zip_conduit_form (g.pipe_tree p) (g.pipe_tree q) (whole p) (whole q)

  whole : (p : g.PipeForm) → is_proper (g.pipe_tree p) ≡ true
  whole (g.One p) = part p
  whole (g.Chain j ps p) = chain_form j (g.parts_trees ps) (g.part_tree p) (some_parts ps) (parts ps) (part p)

  parts : (ps : g.PartsForm) → AllProper (g.parts_trees ps)
  parts (g.First p) = both_true (is_proper (g.part_tree p)) true (part p) refl
  parts (g.Then ps p) = more_proper (g.parts_trees ps) (g.part_tree p) (parts ps) (part p)

  wholes : (ps : g.PipesForm) → AllProper (g.pipes_trees ps)
  wholes (g.Only p) = both_true (is_proper (g.pipe_tree p)) true (whole p) refl
  wholes (g.And ps p) = more_proper (g.pipes_trees ps) (g.pipe_tree p) (wholes ps) (whole p)

-- Statements and scripts.
sentence : (s : g.StatementForm) → HaveNames (g.statement_tokens s) → is_proper_statement (g.statement_tree s) ≡ true
sentence (g.Run p) h = whole p
sentence (g.Seal n p) h = both_true (is_name n) (is_proper (g.pipe_tree p)) (each_true (is_name n) _ h).0 (whole p)
sentence (g.Feed n p) h = both_true (is_name n) (is_proper (g.pipe_tree p)) (each_true (is_name n) _ h).0 (whole p)
sentence (g.CloseSeal n p) h = both_true (is_name n) (is_proper (g.pipe_tree p)) (each_true (is_name n) _ h).0 (whole p)
sentence (g.Hold n f) h = both_true (is_name n) true (each_true (is_name n) _ h).0 refl
sentence (g.Release n) h = (each_true (is_name n) _ h).0

script : (ss : List g.StatementForm) → HaveNames (g.script_tokens ss) → list_all is_proper_statement (g.script_tree ss) ≡ true
script [] h = refl
script (s ∷ ss) h =
    let e = each_true (list_all has_name (g.script_tokens ss)) (list_all has_name (g.statement_tokens s)) (sym (list_all-append has_name (g.script_tokens ss) (g.statement_tokens s)) ∙ h) in
    list_all-append is_proper_statement (g.script_tree ss) (g.statement_tree s ∷ [])
    ∙ both_true _ _ (script ss e.0) (both_true (is_proper_statement (g.statement_tree s)) true (sentence s e.1) refl)

pub is_proper_script : (ts : List Token) (ss : List Stmt) → g.IsScript ts ss → HaveNames ts → list_all is_proper_statement ss ≡ true
is_proper_script ts ss s h =
    let P : List Token → Type 0 = λ us. HaveNames us in
    ap (list_all is_proper_statement) (sym s.stands_for) ∙ script s.derivation (subst P (sym s.spelled) h)

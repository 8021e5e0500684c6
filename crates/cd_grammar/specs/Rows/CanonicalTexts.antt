-- Canonical texts, by computation: of pipes level by level, as the fold takes them. And which trees have the form of a script's.
use Rattle.std.specs.Prelude.{◌≡◌, refl, Bool, true, false, [], ◌∷◌, ◌++◌, codes, map, List, ℕ}
use Rattle.std.proofs.Common.{ap, sym, ◌∙◌}
use Rattle.std.specs.Fmt.{digits}
use lib.Utf8.{encode}
use Rattle.cd_elem.specs.declared.script.Join.TheVariants as join
use Rattle.cd_elem.specs.declared.script.Join.{Join}
use Rattle.cd_elem.specs.declared.script.Pipe.{Pipe}
use Rattle.cd_elem.specs.declared.script.Pipe.TheVariants as pipe
use Rattle.cd_elem.specs.declared.script.Pipe.TheOpen.{Pipe-F}
use Rattle.cd_elem.specs.declared.script.Pipe.TheFolds.{fold-roll-Pipe}
use Rattle.cd_elem.specs.declared.script.Stmt.TheVariants as stmt
use Rattle.cd_elem.specs.declared.token.Opening.TheVariants as opening
use Rattle.cd_elem.specs.declared.token.PlainWord.TheVariants as plain
use Rattle.cd_elem.specs.declared.token.Keyword.TheVariants as keyword
use Rattle.cd_elem.specs.declared.token.Sign.TheVariants as sign
use Rattle.cd_elem.specs.declared.token.Token.TheVariants as token
use Rattle.cd_elem.specs.declared.word.Word.{Word}
use Rattle.cd_elem.specs.declared.word.Word.TheVariants as word
use Rattle.cd_elem.specs.declared.word.ElemWord.TheVariants as elem
use Rattle.cd_elem.specs.declared.word.SplitWord.TheVariants as split
use Rattle.cd_elem.specs.declared.word.SourceWord.TheVariants as source
use Rattle.cd_elem.specs.declared.word.SinkWord.TheVariants as sink
use Rattle.cd_elem.specs.declared.word.ClassName.TheVariants as name
use Rattle.cd_grammar.specs.Canonical.{PipeTokens, canonical_pipe, canonical_step, canonical_statement, is_name, is_proper, is_proper_statement, is_proper_word, proper_step}
use Rattle.cd_grammar.specs.Spelling.{quoted}
use Rattle.cd_grammar.specs.CanonicalText.{statement_line, spaced, canonical_text}
use Rattle.cd_grammar.specs.Grammar.{operator}

abbrev run : PipeTokens → List ℕ
run p = spaced (token.Word keyword.Run ∷ p.tokens ++ token.Sign sign.Semicolon ∷ [])

abbrev of_word : Word → PipeTokens
of_word w = canonical_step (Pipe-F.Word w)

abbrev passed : PipeTokens
passed = of_word (word.Elem elem.PassE)

empty_script : canonical_text [] ≡ []
empty_script = refl

chain : run (canonical_step (Pipe-F.Chain join.Plain (of_word (word.Source (source.SourceFile (codes "a"))) ∷ of_word (word.Elem (elem.TakeE 5)) ∷ of_word (word.Sink sink.Stdout) ∷ []))) ≡ codes "run sourceFile \"a\" | takeE 5 | stdout;"
unfolding digits
chain = refl

chain_in_a_chain : run (canonical_step (Pipe-F.Chain join.Keep (passed ∷ canonical_step (Pipe-F.Chain join.Asked (passed ∷ passed ∷ [])) ∷ []))) ≡ codes "run passE |= (passE |? passE);"
chain_in_a_chain = refl

first_chain_in_a_chain : run (canonical_step (Pipe-F.Chain join.Plain (canonical_step (Pipe-F.Chain join.Plain (passed ∷ passed ∷ [])) ∷ passed ∷ []))) ≡ codes "run (passE | passE) | passE;"
first_chain_in_a_chain = refl

sequence : run (canonical_step (Pipe-F.Sequence (passed ∷ canonical_step (Pipe-F.Chain join.Up (passed ∷ passed ∷ [])) ∷ []))) ≡ codes "run { passE; passE |< passE };"
sequence = refl

tee : run (canonical_step (Pipe-F.Tee (canonical_step (Pipe-F.Chain join.Both (passed ∷ passed ∷ []))))) ≡ codes "run tee(passE |& passE);"
tee = refl

zip_source : run (canonical_step (Pipe-F.ZipSource passed passed (codes "x"))) ≡ codes "run zipSource(passE, passE, \"x\");"
zip_source = refl

zip_sink : run (canonical_step (Pipe-F.ZipSink passed passed)) ≡ codes "run zipSink(passE, passE);"
zip_sink = refl

zip_conduit : run (canonical_step (Pipe-F.ZipConduit passed passed)) ≡ codes "run zipConduit(passE, passE);"
zip_conduit = refl

sections : run (canonical_step (Pipe-F.Exactly 3 (canonical_step (Pipe-F.LineE (canonical_step (Pipe-F.Mark (codes "f") passed)))))) ≡ codes "run exactly 3 { lineE { mark \"f\" { passE } } };"
unfolding digits
sections = refl

section_of_elements : run (canonical_step (Pipe-F.ExactlyE 3 passed)) ≡ codes "run exactlyE 3 { passE };"
unfolding digits
section_of_elements = refl

list : run (of_word (word.Source (source.Blocks (codes "a" ∷ codes "b" ∷ [])))) ≡ codes "run blocks [\"a\", \"b\"];"
list = refl

empty_list : run (of_word (word.Source (source.Texts []))) ≡ codes "run texts [];"
empty_list = refl

character : run (of_word (word.Split (split.Split 44 9))) ≡ codes "run split \",\" 9;"
unfolding digits encode
character = refl

class : run (of_word (word.Elem (elem.FilterE (record { negated = true; what = name.Is 97 })))) ≡ codes "run filterE not is \"a\";"
unfolding encode
class = refl

statements : canonical_text (stmt.Hold (codes "k") (codes "f") ∷ stmt.Release (codes "k") ∷ []) ≡ codes "hold k = mark \"f\";\nrelease k;\n"
statements = refl

short_escapes : quoted (92 ∷ 34 ∷ 10 ∷ 13 ∷ 9 ∷ []) ≡ codes "\"\\\\\\\"\\n\\r\\t\""
short_escapes = refl

fewest_digits : quoted (0 ∷ 15 ∷ 16 ∷ 31 ∷ 32 ∷ 126 ∷ 127 ∷ []) ≡ codes "\"\\u{0}\\u{f}\\u{10}\\u{1f} ~\\u{7f}\""
fewest_digits = refl

-- the two bytes of ä
other_characters : quoted (195 ∷ 164 ∷ []) ≡ 34 ∷ 195 ∷ 164 ∷ 34 ∷ []
other_characters = refl

-- ---- statements with a pipe, of one word
abbrev pass_e : Pipe
pass_e = pipe.Word (word.Elem elem.PassE)

one_piece : (w : Word) → canonical_pipe (pipe.Word w) ≡ canonical_step (Pipe-F.Word w)
unfolding canonical_pipe
one_piece w = ap canonical_pipe (sym (pipe.rolls-Word w)) ∙ fold-roll-Pipe PipeTokens canonical_step _

run_line : statement_line (stmt.Run pass_e) ≡ codes "run passE;\n"
run_line = rw one_piece refl

let_tokens : canonical_statement (stmt.Seal (codes "a") pass_e) ≡ token.Word (keyword.Opening opening.Let) ∷ token.Named (codes "a") ∷ token.Sign sign.Equals ∷ token.Word keyword.Seal ∷ token.Word (keyword.Plain plain.PassE) ∷ token.Sign sign.Semicolon ∷ []
let_tokens = rw one_piece refl

let_line : statement_line (stmt.Seal (codes "a") pass_e) ≡ codes "let a = seal passE;\n"
let_line = rw one_piece refl

feed_tokens : canonical_statement (stmt.Feed (codes "a") pass_e) ≡ token.Word (keyword.Opening opening.Feed) ∷ token.Named (codes "a") ∷ operator join.Plain ∷ token.Word (keyword.Plain plain.PassE) ∷ token.Sign sign.Semicolon ∷ []
feed_tokens = rw one_piece refl

feed_line : statement_line (stmt.Feed (codes "a") pass_e) ≡ codes "feed a | passE;\n"
feed_line = rw one_piece refl

close_tokens : canonical_statement (stmt.CloseSeal (codes "a") pass_e) ≡ token.Word (keyword.Opening opening.Close) ∷ token.Named (codes "a") ∷ operator join.Plain ∷ token.Word (keyword.Plain plain.PassE) ∷ token.Sign sign.Semicolon ∷ []
close_tokens = rw one_piece refl

close_line : statement_line (stmt.CloseSeal (codes "a") pass_e) ≡ codes "close a | passE;\n"
close_line = rw one_piece refl

-- ---- the form of a script's tree, by what its parts are
abbrev chains : List (List Bool) → List Bool
chains parts = map (λ ps. proper_step (Pipe-F.Chain join.Plain ps)) parts

abbrev sequences : List (List Bool) → List Bool
sequences parts = map (λ ps. proper_step (Pipe-F.Sequence ps)) parts

proper_chains : chains ([] ∷ (true ∷ []) ∷ (true ∷ true ∷ []) ∷ (true ∷ true ∷ true ∷ []) ∷ (false ∷ true ∷ []) ∷ (true ∷ false ∷ []) ∷ []) ≡ false ∷ false ∷ true ∷ true ∷ false ∷ false ∷ []
proper_chains = refl

proper_sequences : sequences ([] ∷ (true ∷ []) ∷ (true ∷ true ∷ []) ∷ (false ∷ []) ∷ (true ∷ false ∷ []) ∷ []) ≡ false ∷ true ∷ true ∷ false ∷ false ∷ []
proper_sequences = refl

proper_marks : map proper_step (Pipe-F.Mark [] true ∷ Pipe-F.Mark (codes "f") true ∷ Pipe-F.Mark (codes "f") false ∷ []) ≡ false ∷ true ∷ false ∷ []
proper_marks = refl

proper_forms : map proper_step (Pipe-F.Exactly 1 false ∷ Pipe-F.ExactlyE 1 false ∷ Pipe-F.LineE false ∷ Pipe-F.Tee false ∷ []) ≡ false ∷ false ∷ false ∷ false ∷ []
proper_forms = refl

proper_zips : map proper_step (Pipe-F.ZipSource true false [] ∷ Pipe-F.ZipSource false true [] ∷ Pipe-F.ZipSink true false ∷ Pipe-F.ZipSink false true ∷ Pipe-F.ZipConduit true false ∷ Pipe-F.ZipConduit false true ∷ Pipe-F.ZipConduit true true ∷ []) ≡ false ∷ false ∷ false ∷ false ∷ false ∷ false ∷ true ∷ []
proper_zips = refl

proper_files : map is_proper_word (word.Source (source.SourceFile []) ∷ word.Source (source.SourceFile (codes "f")) ∷ word.Sink (sink.SinkFile []) ∷ word.Sink (sink.SinkFile (codes "f")) ∷ []) ≡ false ∷ true ∷ false ∷ true ∷ []
proper_files = refl

-- literals may be empty
proper_literals : map is_proper_word (word.Source (source.Bytes []) ∷ word.Source (source.Blocks []) ∷ []) ≡ true ∷ true ∷ []
proper_literals = refl

proper_names : map is_name (codes "a" ∷ codes "run2" ∷ [] ∷ codes "run" ∷ codes "scope" ∷ codes "2a" ∷ codes "a b" ∷ codes "\"a\"" ∷ []) ≡ true ∷ true ∷ false ∷ false ∷ false ∷ false ∷ false ∷ false ∷ []
proper_names = refl

-- ---- the same of statements
proper_word : (w : Word) → is_proper (pipe.Word w) ≡ proper_step (Pipe-F.Word w)
unfolding is_proper
proper_word w = ap is_proper (sym (pipe.rolls-Word w)) ∙ fold-roll-Pipe Bool proper_step _

proper_chain : (j : Join) (ps : List Pipe) → is_proper (pipe.Chain j ps) ≡ proper_step (Pipe-F.Chain j (map is_proper ps))
unfolding is_proper
proper_chain j ps = ap is_proper (sym (pipe.rolls-Chain j ps)) ∙ fold-roll-Pipe Bool proper_step _

abbrev chain_of_one : Pipe
chain_of_one = pipe.Chain join.Plain (pass_e ∷ [])

let_of_a_word : is_proper_statement (stmt.Seal (codes "a") pass_e) ≡ true
let_of_a_word = rw proper_word refl

let_of_one : is_proper_statement (stmt.Seal (codes "a") chain_of_one) ≡ false
let_of_one = rw proper_chain refl

run_of_one : is_proper_statement (stmt.Run chain_of_one) ≡ false
run_of_one = rw proper_chain refl

feed_of_one : is_proper_statement (stmt.Feed (codes "a") chain_of_one) ≡ false
feed_of_one = rw proper_chain refl

close_of_one : is_proper_statement (stmt.CloseSeal (codes "a") chain_of_one) ≡ false
close_of_one = rw proper_chain refl

reserved_names : map is_proper_statement (stmt.Seal (codes "run") pass_e ∷ stmt.Feed (codes "run") pass_e ∷ stmt.CloseSeal (codes "run") pass_e ∷ stmt.Hold (codes "run") (codes "f") ∷ stmt.Release (codes "run") ∷ []) ≡ false ∷ false ∷ false ∷ false ∷ false ∷ []
reserved_names = refl

held_files : map is_proper_statement (stmt.Hold (codes "k") [] ∷ stmt.Hold (codes "k") (codes "f") ∷ stmt.Release (codes "k") ∷ []) ≡ false ∷ true ∷ true ∷ []
held_files = refl

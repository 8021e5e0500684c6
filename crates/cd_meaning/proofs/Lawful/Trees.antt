-- Each lawful tree is lawful, and each lawful script goes on where a site gives further bytes.
use Rattle.std.proofs.Common.{◌≡◌, ℕ, Bool, true, false, ◌&&◌, IsTrue, List, [], ◌∷◌, map, refl, sym, subst}
use Rattle.cd_elem.specs.declared.word.Word.{Word}
use Rattle.cd_elem.specs.declared.word.ElemWord.{ElemWord}
use Rattle.cd_elem.specs.declared.word.PieceWord.{PieceWord}
use Rattle.cd_elem.specs.declared.script.Join.{Join}
use Rattle.cd_elem.specs.declared.script.Stmt.{Stmt}
use Rattle.cd_elem.specs.declared.script.Pipe.{Pipe, map-Pipe}
use Rattle.cd_elem.specs.declared.script.Pipe.TheOpen.{Pipe-F}
use Rattle.cd_elem.specs.declared.script.Pipe.TheViews.{roll-Pipe}
use Rattle.cd_elem.specs.declared.script.Pipe.TheFolds.{fold-roll-Pipe, ind-Pipe}
use Rattle.cd_meaning.specs.Classes.{of_element, of_piece}
use Rattle.cd_meaning.specs.Meaning.{Meaning, piped, piped_keep, piped_return, piped_both, piped_up, piped_asked, sequence_form}
use Rattle.cd_meaning.specs.Pipes.{joined, all_of, node_meaning, pipe_meaning}
use Rattle.cd_meaning.specs.WordMeanings.{word_meaning}
use Rattle.cd_meaning.specs.RunShapes.{Seen}
use Rattle.cd_meaning.specs.Further.{Begins, Further}
use Rattle.cd_meaning.specs.Scripts.{statement_meaning, script_run}
use Rattle.cd_meaning.specs.Lawful.{IsLawful, IsLawfulStatement, AreLawful}
use Rattle.cd_meaning.specs.LawfulTrees.{Lawfulness, is_map, all_lawful, all_maps, maps_but_last, chain_judged, form_judged, node_judged, judged, IsLawfulTree, OfLawfulTree, IsLawfulScript}
use Rattle.cd_meaning.proofs.Runs.Elements.{passed_is_run}
use Rattle.cd_meaning.proofs.Runs.Keeps.{passed_is_map, mapped_is_map}
use Rattle.cd_meaning.proofs.Lawful.Forms.{IsMapping, plain_is_lawful, plain_is_mapping, piped_is_lawful, piped_is_mapping, piped_keep_is_lawful, piped_return_is_lawful, piped_both_is_lawful, piped_up_is_lawful, piped_asked_is_lawful, sequence_form_is_lawful, exactly_form_is_lawful, exactly_e_form_is_lawful, line_e_form_is_lawful, mark_form_is_lawful, tee_form_is_lawful, zip_source_form_is_lawful, zip_sink_form_is_lawful, zip_conduit_form_is_lawful}
use Rattle.cd_meaning.proofs.Lawful.Words.{word_is_lawful}
use Rattle.cd_meaning.proofs.Lawful.Scripts.{run_statement_is_lawful, let_statement_is_lawful, feed_statement_is_lawful, close_statement_is_lawful, hold_statement_is_lawful, release_statement_is_lawful, statements_go_on_from_first}

-- what is judged of a part holds of its meaning
pub record Obeys (j : Lawfulness) (m : Meaning) : Type 0 where
  pub lawful : IsTrue j.lawful → IsLawful m
  pub mapping : IsTrue j.map → IsMapping m

abbrev Obey : List Lawfulness → List Meaning → Type 0
Obey [] [] = Unit {0}
Obey [] (m ∷ ms) = ⊥
Obey (j ∷ js) [] = ⊥
Obey (j ∷ js) (m ∷ ms) = Obeys j m × Obey js ms

never : {A : Type 0} → false ≡ true → A
never h = absurd cc

both_true : (a b : Bool) → IsTrue (a && b) → IsTrue a × IsTrue b
both_true true b h = (refl, h)
both_true false b h = never h

-- ---- words

plain_map : (w : Word) → IsTrue (is_map w) → IsMapping (word_meaning w)
plain_map (Word.Elem ElemWord.PassE) h = plain_is_mapping _ _ (λ k. passed_is_map)
plain_map (Word.Elem (ElemWord.MapE f)) h = plain_is_mapping _ _ (λ k. mapped_is_map (of_element f))
plain_map (Word.Elem w) h = never h
plain_map (Word.Piece PieceWord.Pass) h = plain_is_mapping _ _ (λ k. passed_is_map)
plain_map (Word.Piece (PieceWord.Map f)) h = plain_is_mapping _ _ (λ k. mapped_is_map (of_piece f k))
plain_map (Word.Piece w) h = never h
plain_map w h = never h

word_obeys : (w : Word) → Obeys (node_judged (Pipe-F.Word w)) (word_meaning w)
word_obeys w = record { lawful = λ h. word_is_lawful w; mapping = plain_map w }

-- ---- chains and sequences

-- no part passes on what it takes
none_lawful : IsLawful (all_of piped [])
none_lawful = plain_is_lawful _ _ (λ k. passed_is_run)

-- parts under an operator of lawful parts
all_of_lawful : (op : Meaning → Meaning → Meaning) → ((a b : Meaning) → IsLawful a → IsLawful b → IsLawful (op a b))
    → (js : List Lawfulness) (ms : List Meaning) → Obey js ms → IsTrue (all_lawful js) → IsLawful (all_of op ms)
all_of_lawful op keeps [] [] o h = none_lawful
all_of_lawful op keeps [] (m ∷ ms) o h = absurd o
all_of_lawful op keeps (j ∷ js) [] o h = absurd o
all_of_lawful op keeps (j ∷ []) (m ∷ []) o h = o.0.lawful (both_true j.lawful true h).0
all_of_lawful op keeps (j ∷ []) (m ∷ n ∷ ms) o h = absurd o.1
all_of_lawful op keeps (j ∷ k ∷ js) (m ∷ []) o h = absurd o.1
all_of_lawful op keeps (j ∷ k ∷ js) (m ∷ n ∷ ms) o h =
    let b = both_true j.lawful (all_lawful (k ∷ js)) h in
    keeps m (all_of op (n ∷ ms)) (o.0.lawful b.0) (all_of_lawful op keeps (k ∷ js) (n ∷ ms) o.1 b.1)

-- maps in a row
all_of_maps : (js : List Lawfulness) (ms : List Meaning) → Obey js ms → IsTrue (all_maps js) → IsMapping (all_of piped ms)
all_of_maps [] [] o h = plain_is_mapping _ _ (λ k. passed_is_map)
all_of_maps [] (m ∷ ms) o h = absurd o
all_of_maps (j ∷ js) [] o h = absurd o
all_of_maps (j ∷ []) (m ∷ []) o h = o.0.mapping (both_true j.map true h).0
all_of_maps (j ∷ []) (m ∷ n ∷ ms) o h = absurd o.1
all_of_maps (j ∷ k ∷ js) (m ∷ []) o h = absurd o.1
all_of_maps (j ∷ k ∷ js) (m ∷ n ∷ ms) o h =
    let b = both_true j.map (all_maps (k ∷ js)) h in
    piped_is_mapping m (all_of piped (n ∷ ms)) (o.0.mapping b.0) (all_of_maps (k ∷ js) (n ∷ ms) o.1 b.1)

-- maps in a row by `|=`, and a last part
all_of_kept : (js : List Lawfulness) (ms : List Meaning) → Obey js ms → IsTrue (all_lawful js) → IsTrue (maps_but_last js) → IsLawful (all_of piped_keep ms)
all_of_kept [] [] o h g = none_lawful
all_of_kept [] (m ∷ ms) o h g = absurd o
all_of_kept (j ∷ js) [] o h g = absurd o
all_of_kept (j ∷ []) (m ∷ []) o h g = o.0.lawful (both_true j.lawful true h).0
all_of_kept (j ∷ []) (m ∷ n ∷ ms) o h g = absurd o.1
all_of_kept (j ∷ k ∷ js) (m ∷ []) o h g = absurd o.1
all_of_kept (j ∷ k ∷ js) (m ∷ n ∷ ms) o h g =
    let b = both_true j.lawful (all_lawful (k ∷ js)) h in
    let c = both_true j.map (maps_but_last (k ∷ js)) g in
    piped_keep_is_lawful m (all_of piped_keep (n ∷ ms)) (o.0.mapping c.0) (all_of_kept (k ∷ js) (n ∷ ms) o.1 b.1 c.1)

chain_obeys : (join : Join) (js : List Lawfulness) (ms : List Meaning) → Obey js ms → Obeys (chain_judged join js) (all_of (joined join) ms)
chain_obeys Join.Plain js ms o = record { lawful = all_of_lawful piped piped_is_lawful js ms o; mapping = all_of_maps js ms o }
chain_obeys Join.Keep js ms o = record { lawful = λ h. let b = both_true (all_lawful js) (maps_but_last js) h in all_of_kept js ms o b.0 b.1; mapping = λ h. never h }
chain_obeys Join.Return js ms o = record { lawful = all_of_lawful piped_return piped_return_is_lawful js ms o; mapping = λ h. never h }
chain_obeys Join.Both js ms o = record { lawful = all_of_lawful piped_both piped_both_is_lawful js ms o; mapping = λ h. never h }
chain_obeys Join.Up js ms o = record { lawful = all_of_lawful piped_up piped_up_is_lawful js ms o; mapping = λ h. never h }
chain_obeys Join.Asked js ms o = record { lawful = all_of_lawful piped_asked piped_asked_is_lawful js ms o; mapping = λ h. never h }

-- ---- trees

abbrev P : Pipe → Type 0
P p = Obeys (judged p) (pipe_meaning p)

abbrev Part : Type 0
Part = (p : Pipe) × P p

abbrev first_of : Part → Pipe
first_of e = e.0

parts_obey : (parts : List Part) → Obey (map judged (map first_of parts)) (map pipe_meaning (map first_of parts))
parts_obey [] = tt
parts_obey (e ∷ parts) = (e.1, parts_obey parts)

-- at a node, what is judged and meant is that of its parts
at_node : (x : Pipe-F Pipe) → Obeys (node_judged (map-Pipe Pipe Lawfulness judged x)) (node_meaning (map-Pipe Pipe Meaning pipe_meaning x)) → P (roll-Pipe x)
at_node x o =
    subst (λ (j : Lawfulness). Obeys j (pipe_meaning (roll-Pipe x))) (sym (fold-roll-Pipe Lawfulness node_judged x))
    (subst (λ (m : Meaning). Obeys (node_judged (map-Pipe Pipe Lawfulness judged x)) m) (sym (fold-roll-Pipe Meaning node_meaning x)) o)

-- a form of one part, and of two
of_one : (m : Meaning) (j : Lawfulness) (n : Meaning) → Obeys j n → (IsLawful n → IsLawful m) → Obeys (form_judged j.lawful) m
of_one m j n o keeps = record { lawful = λ h. keeps (o.lawful h); mapping = λ h. never h }

of_two : (m : Meaning) (j k : Lawfulness) (n l : Meaning) → Obeys j n → Obeys k l → (IsLawful n → IsLawful l → IsLawful m) → Obeys (form_judged (j.lawful && k.lawful)) m
of_two m j k n l o p keeps = record { lawful = λ h. let b = both_true j.lawful k.lawful h in keeps (o.lawful b.0) (p.lawful b.1); mapping = λ h. never h }

each : (y : Pipe-F Part) → P (roll-Pipe (map-Pipe Part Pipe first_of y))
each (Pipe-F.Word w) = at_node (Pipe-F.Word w) (word_obeys w)
each (Pipe-F.Chain join parts) = at_node (Pipe-F.Chain join (map first_of parts)) (chain_obeys join _ _ (parts_obey parts))
each (Pipe-F.Sequence parts) = at_node (Pipe-F.Sequence (map first_of parts)) (record { lawful = all_of_lawful sequence_form sequence_form_is_lawful _ _ (parts_obey parts); mapping = λ h. never h })
each (Pipe-F.Exactly n a) = at_node (Pipe-F.Exactly n a.0) (of_one _ _ _ a.1 (exactly_form_is_lawful n _))
each (Pipe-F.ExactlyE n a) = at_node (Pipe-F.ExactlyE n a.0) (of_one _ _ _ a.1 (exactly_e_form_is_lawful n _))
each (Pipe-F.LineE a) = at_node (Pipe-F.LineE a.0) (of_one _ _ _ a.1 (line_e_form_is_lawful _))
each (Pipe-F.Mark name a) = at_node (Pipe-F.Mark name a.0) (of_one _ _ _ a.1 (mark_form_is_lawful name _))
each (Pipe-F.Tee a) = at_node (Pipe-F.Tee a.0) (of_one _ _ _ a.1 (tee_form_is_lawful _))
each (Pipe-F.ZipSource a b literal) = at_node (Pipe-F.ZipSource a.0 b.0 literal) (of_two _ _ _ _ _ a.1 b.1 (zip_source_form_is_lawful literal _ _))
each (Pipe-F.ZipSink a b) = at_node (Pipe-F.ZipSink a.0 b.0) (of_two _ _ _ _ _ a.1 b.1 (zip_sink_form_is_lawful _ _))
each (Pipe-F.ZipConduit a b) = at_node (Pipe-F.ZipConduit a.0 b.0) (of_two _ _ _ _ _ a.1 b.1 (zip_conduit_form_is_lawful _ _))

pub obeys : (p : Pipe) → P p
obeys = ind-Pipe P (λ x y is. subst (λ z. P (roll-Pipe z)) is (each y))

pub tree_is_lawful : (p : Pipe) → IsLawfulTree p → IsLawful (pipe_meaning p)
tree_is_lawful p h = (obeys p).lawful h

-- ---- scripts

statement_is_lawful : (s : Stmt) → OfLawfulTree s → IsLawfulStatement (statement_meaning s)
statement_is_lawful (Stmt.Run p) h = run_statement_is_lawful _ (tree_is_lawful p h)
statement_is_lawful (Stmt.Seal name p) h = let_statement_is_lawful name _ (tree_is_lawful p h)
statement_is_lawful (Stmt.Feed name p) h = feed_statement_is_lawful name _ (tree_is_lawful p h)
statement_is_lawful (Stmt.CloseSeal name p) h = close_statement_is_lawful name _ (tree_is_lawful p h)
statement_is_lawful (Stmt.Hold name file) h = hold_statement_is_lawful name
statement_is_lawful (Stmt.Release name) h = release_statement_is_lawful name

statements_are_lawful : (script : List Stmt) → IsLawfulScript script → AreLawful (map statement_meaning script)
statements_are_lawful [] h = tt
statements_are_lawful (s ∷ more) h = (statement_is_lawful s h.0, statements_are_lawful more h.1)

pub script_goes_on : (script : List Stmt) → IsLawfulScript script → (sites : ℕ → Bool) (seen seen' : Seen) → Further sites seen seen'
    → Begins sites (script_run script seen) (script_run script seen')
script_goes_on script h sites seen seen' w = statements_go_on_from_first sites seen seen' w (map statement_meaning script) (statements_are_lawful script h)

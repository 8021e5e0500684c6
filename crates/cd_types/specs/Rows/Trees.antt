-- The parts of trees that rows write, and what is judged of their scripts.
use Rattle.std.specs.Prelude.{◌≡◌, refl, ℕ, ◌+◌, List, [], ◌∷◌, length, map, position, Option, option_map}
use Rattle.std.proofs.Common.{◌∙◌, ap, sym}
use Rattle.cd_elem.specs.declared.word.Word.{Word}
use Rattle.cd_elem.specs.declared.script.Join.{Join}
use Rattle.cd_elem.specs.declared.script.Pipe.{Pipe}
use Rattle.cd_elem.specs.declared.script.Pipe.TheVariants as pipe
use Rattle.cd_elem.specs.declared.script.Pipe.TheFolds.{fold-roll-Pipe}
use Rattle.cd_meaning.specs.Rows.Trees.{Tree, Leaf, Chain, Sequence, Exactly, ExactlyE, LineE, Mark, Tee, ZipSource, ZipSink, ZipConduit, Trees, Nothing, Then, pipe_of, pipes_of, Sentence, Runs, Lets, Feeds, Closes, Holds, Releases, statement_of as stmt_of}
use Rattle.cd_types.specs.Flows.{PartType}
use Rattle.cd_types.specs.Parts.{Part, word_part}
use Rattle.cd_types.specs.Sequences.{sequence_part}
use Rattle.cd_types.specs.Chains.{chain_part}
use Rattle.cd_types.specs.Forms.{piece_section, element_section, mark_part, tee_part, zip_source_part, zip_sink_part, zip_conduit_part}
use Rattle.cd_types.specs.Numbering.{moment_sites, stands_at, site_number, part_at, part_of_types, seal_number, key_number}
use Rattle.cd_types.specs.Trees.{part, part_step}
use Rattle.cd_meaning.specs.Places.{Place}
use Rattle.cd_types.specs.declared.refusal.RefusalKind.{RefusalKind}
use Rattle.cd_types.specs.Moments.{nothing_reached}
use Rattle.cd_types.specs.Statements.{Statement, Run, Let, Feed, CloseSeal, Hold, Release, statement_of, moments_behind, script_types, types_behind, seal_names, key_names}
use Rattle.cd_types.specs.Typing.{Verdict, Refused, Passed, judged, judged_from}

-- ---- the fold at each node

pub word_is : (w : Word) → part (pipe.Word w) ≡ word_part w
unfolding part
word_is w = ap part (sym (pipe.rolls-Word w)) ∙ fold-roll-Pipe Part part_step _

pub chain_is : (j : Join) (ps : List Pipe) → part (pipe.Chain j ps) ≡ chain_part j (map part ps)
unfolding part
chain_is j ps = ap part (sym (pipe.rolls-Chain j ps)) ∙ fold-roll-Pipe Part part_step _

pub sequence_is : (ps : List Pipe) → part (pipe.Sequence ps) ≡ sequence_part (map part ps)
unfolding part
sequence_is ps = ap part (sym (pipe.rolls-Sequence ps)) ∙ fold-roll-Pipe Part part_step _

pub exactly_is : (n : ℕ) (p : Pipe) → part (pipe.Exactly n p) ≡ piece_section (part p)
unfolding part
exactly_is n p = ap part (sym (pipe.rolls-Exactly n p)) ∙ fold-roll-Pipe Part part_step _

pub exactly_e_is : (n : ℕ) (p : Pipe) → part (pipe.ExactlyE n p) ≡ element_section (part p)
unfolding part
exactly_e_is n p = ap part (sym (pipe.rolls-ExactlyE n p)) ∙ fold-roll-Pipe Part part_step _

pub line_e_is : (p : Pipe) → part (pipe.LineE p) ≡ element_section (part p)
unfolding part
line_e_is p = ap part (sym (pipe.rolls-LineE p)) ∙ fold-roll-Pipe Part part_step _

pub mark_is : (name : List ℕ) (p : Pipe) → part (pipe.Mark name p) ≡ mark_part name (part p)
unfolding part
mark_is name p = ap part (sym (pipe.rolls-Mark name p)) ∙ fold-roll-Pipe Part part_step _

pub tee_is : (p : Pipe) → part (pipe.Tee p) ≡ tee_part (part p)
unfolding part
tee_is p = ap part (sym (pipe.rolls-Tee p)) ∙ fold-roll-Pipe Part part_step _

pub zip_source_is : (p q : Pipe) (literal : List ℕ) → part (pipe.ZipSource p q literal) ≡ zip_source_part (part p) (part q) literal
unfolding part
zip_source_is p q literal = ap part (sym (pipe.rolls-ZipSource p q literal)) ∙ fold-roll-Pipe Part part_step _

pub zip_sink_is : (p q : Pipe) → part (pipe.ZipSink p q) ≡ zip_sink_part (part p) (part q)
unfolding part
zip_sink_is p q = ap part (sym (pipe.rolls-ZipSink p q)) ∙ fold-roll-Pipe Part part_step _

pub zip_conduit_is : (p q : Pipe) → part (pipe.ZipConduit p q) ≡ zip_conduit_part (part p) (part q)
unfolding part
zip_conduit_is p q = ap part (sym (pipe.rolls-ZipConduit p q)) ∙ fold-roll-Pipe Part part_step _

-- ---- trees

abbrev mutual
  pub part_of : Tree → Part
  part_of (Leaf w) = word_part w
  part_of (Chain j ts) = chain_part j (parts_of ts)
  part_of (Sequence ts) = sequence_part (parts_of ts)
  part_of (Exactly n t) = piece_section (part_of t)
  part_of (ExactlyE n t) = element_section (part_of t)
  part_of (LineE t) = element_section (part_of t)
  part_of (Mark name t) = mark_part name (part_of t)
  part_of (Tee t) = tee_part (part_of t)
  part_of (ZipSource a b literal) = zip_source_part (part_of a) (part_of b) literal
  part_of (ZipSink a b) = zip_sink_part (part_of a) (part_of b)
  part_of (ZipConduit a b) = zip_conduit_part (part_of a) (part_of b)

  pub parts_of : Trees → List Part
  parts_of Nothing = []
  parts_of (Then t more) = part_of t ∷ parts_of more

mutual
  pub is_part : (t : Tree) → part (pipe_of t) ≡ part_of t
  is_part (Leaf w) = word_is w
  is_part (Chain j ts) = chain_is j (pipes_of ts) ∙ ap (chain_part j) (are_parts ts)
  is_part (Sequence ts) = sequence_is (pipes_of ts) ∙ ap sequence_part (are_parts ts)
  is_part (Exactly n t) = exactly_is n (pipe_of t) ∙ ap piece_section (is_part t)
  is_part (ExactlyE n t) = exactly_e_is n (pipe_of t) ∙ ap element_section (is_part t)
  is_part (LineE t) = line_e_is (pipe_of t) ∙ ap element_section (is_part t)
  is_part (Mark name t) = mark_is name (pipe_of t) ∙ ap (mark_part name) (is_part t)
  is_part (Tee t) = tee_is (pipe_of t) ∙ ap tee_part (is_part t)
  is_part (ZipSource a b literal) =
      zip_source_is (pipe_of a) (pipe_of b) literal ∙ ap (λ m. zip_source_part m (part (pipe_of b)) literal) (is_part a) ∙ ap (λ m. zip_source_part (part_of a) m literal) (is_part b)
  is_part (ZipSink a b) = zip_sink_is (pipe_of a) (pipe_of b) ∙ ap (λ m. zip_sink_part m (part (pipe_of b))) (is_part a) ∙ ap (zip_sink_part (part_of a)) (is_part b)
  is_part (ZipConduit a b) =
      zip_conduit_is (pipe_of a) (pipe_of b) ∙ ap (λ m. zip_conduit_part m (part (pipe_of b))) (is_part a) ∙ ap (zip_conduit_part (part_of a)) (is_part b)

  pub are_parts : (ts : Trees) → map part (pipes_of ts) ≡ parts_of ts
  are_parts Nothing = refl
  are_parts (Then t more) = ap (λ m. m ∷ map part (pipes_of more)) (is_part t) ∙ ap (λ ms. part_of t ∷ ms) (are_parts more)

-- ---- scripts

abbrev pub sentence_statement : Sentence → Statement
sentence_statement (Runs t) = Run (part_of t)
sentence_statement (Lets name t) = Let name (part_of t)
sentence_statement (Feeds name t) = Feed name (part_of t)
sentence_statement (Closes name t) = CloseSeal name (part_of t)
sentence_statement (Holds name file) = Hold name file
sentence_statement (Releases name) = Release name

is_statement : (s : Sentence) → statement_of (stmt_of s) ≡ sentence_statement s
is_statement (Runs t) = ap Run (is_part t)
is_statement (Lets name t) = ap (Let name) (is_part t)
is_statement (Feeds name t) = ap (Feed name) (is_part t)
is_statement (Closes name t) = ap (CloseSeal name) (is_part t)
is_statement (Holds name file) = refl
is_statement (Releases name) = refl

are_statements : (ss : List Sentence) → map statement_of (map stmt_of ss) ≡ map sentence_statement ss
are_statements [] = refl
are_statements (s ∷ ss) = ap (λ m. m ∷ map statement_of (map stmt_of ss)) (is_statement s) ∙ ap (λ ms. sentence_statement s ∷ ms) (are_statements ss)

pub judged_so : (ss : List Sentence) → judged (map stmt_of ss) ≡ judged_from nothing_reached (moments_behind [] (map sentence_statement ss))
judged_so ss = ap (λ ms. judged_from nothing_reached (moments_behind [] ms)) (are_statements ss)

-- what is judged of a script that is written out
unfoldable pub verdict : List Sentence → Verdict
verdict ss = judged (map stmt_of ss)

pub verdict_is : (ss : List Sentence) → verdict ss ≡ judged_from nothing_reached (moments_behind [] (map sentence_statement ss))
unfolding verdict
verdict_is ss = judged_so ss

-- the types of its parts
unfoldable pub part_types : List Sentence → List (List PartType)
part_types ss = script_types (map stmt_of ss)

pub part_types_are : (ss : List Sentence) → part_types ss ≡ types_behind [] (map sentence_statement ss)
unfolding part_types
part_types_are ss = ap (types_behind []) (are_statements ss)

-- ---- answers

abbrev pub refused : RefusalKind → ℕ → ℕ → Verdict
refused kind statement part = Refused (record { kind = kind; statement = statement; part = part })

abbrev pub passed : List Place → ℕ → Verdict
passed sites total = Passed (record { sites = sites; total = total })

-- how many seals and how many keys
pub record Counted : Type 0 where
  pub seals : ℕ
  pub keys : ℕ

abbrev pub counted : ℕ → ℕ → Counted
counted seals keys = record { seals = seals; keys = keys }

unfoldable pub names : List Sentence → Counted
names ss = counted (length (seal_names (map stmt_of ss))) (length (key_names (map stmt_of ss)))

pub names_are : (ss : List Sentence) → names ss ≡ counted (length (seal_names (map stmt_of ss))) (length (key_names (map stmt_of ss)))
unfolding names
names_are ss = refl

-- the number of the site that is this part of this statement
unfoldable pub site_at : List Sentence → ℕ → ℕ → Option ℕ
site_at ss s n = site_number (map stmt_of ss) s n

pub site_at_is : (ss : List Sentence) (s n : ℕ) → site_at ss s n ≡ option_map (λ place. place + 1) (position (stands_at s n) (moment_sites (moments_behind [] (map sentence_statement ss))))
unfolding site_at
site_at_is ss s n = ap (λ ms. option_map (λ place. place + 1) (position (stands_at s n) (moment_sites (moments_behind [] ms)))) (are_statements ss)

-- the type of this part
unfoldable pub type_at : List Sentence → ℕ → ℕ → Option PartType
type_at ss s n = part_at (map stmt_of ss) s n

pub type_at_is : (ss : List Sentence) (s n : ℕ) → type_at ss s n ≡ part_of_types (types_behind [] (map sentence_statement ss)) s n
unfolding type_at
type_at_is ss s n = ap (λ ms. part_of_types (types_behind [] ms) s n) (are_statements ss)

-- the numbers of the seal and of the key of this statement
abbrev pub seal_at : List Sentence → ℕ → Option ℕ
seal_at ss s = seal_number (map stmt_of ss) s

abbrev pub key_at : List Sentence → ℕ → Option ℕ
key_at ss s = key_number (map stmt_of ss) s

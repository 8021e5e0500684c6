-- Trees as rows write them: data that computes, the tree of the program that each stands for, and what it means.
use Rattle.std.specs.Prelude.{◌≡◌, refl, ℕ, List, [], ◌∷◌, ◌++◌, map}
use Rattle.std.proofs.Common.{◌∙◌, ap}
use Rattle.cd_elem.specs.declared.word.Word.{Word}
use Rattle.cd_elem.specs.declared.script.Join.{Join}
use Rattle.cd_elem.specs.declared.script.Pipe.{Pipe}
use Rattle.cd_elem.specs.declared.script.Pipe.TheVariants as pipe
use Rattle.cd_elem.specs.declared.script.Stmt.{Stmt}
use Rattle.cd_meaning.specs.Places.{Place, Marks}
use Rattle.cd_meaning.specs.Meaning.{Meaning, sequence_form as sequence_meaning, exactly_form as exactly_meaning, exactly_e_form as exactly_e_meaning, line_e_form as line_e_meaning, mark_form as mark_meaning, tee_form as tee_meaning, zip_source_form as zip_source_meaning, zip_sink_form as zip_sink_meaning, zip_conduit_form as zip_conduit_meaning}
use Rattle.cd_meaning.specs.WordMeanings.{word_meaning}
use Rattle.cd_meaning.specs.Pipes.{pipe_meaning, joined, all_of, word_is, chain_is, sequence_is, exactly_is, exactly_e_is, line_e_is, mark_is, tee_is, zip_source_is, zip_sink_is, zip_conduit_is}
use Rattle.cd_meaning.specs.Scripts.{Statement, statement_meaning, statement_places, script_places, run_statement as run_meaning, let_statement as let_meaning, feed_statement as feed_meaning, close_statement as close_meaning}

mutual
  pub data Tree : Type 0 where
    Leaf : Word → Tree
    Chain : Join → Trees → Tree
    Sequence : Trees → Tree
    Exactly : ℕ → Tree → Tree
    ExactlyE : ℕ → Tree → Tree
    LineE : Tree → Tree
    Mark : List ℕ → Tree → Tree
    Tee : Tree → Tree
    ZipSource : Tree → Tree → List ℕ → Tree
    ZipSink : Tree → Tree → Tree
    ZipConduit : Tree → Tree → Tree

  pub data Trees : Type 0 where
    Nothing : Trees
    Then : Tree → Trees → Trees

-- the tree of the program
abbrev mutual
  pub pipe_of : Tree → Pipe
  pipe_of (Leaf w) = pipe.Word w
  pipe_of (Chain join parts) = pipe.Chain join (pipes_of parts)
  pipe_of (Sequence parts) = pipe.Sequence (pipes_of parts)
  pipe_of (Exactly n a) = pipe.Exactly n (pipe_of a)
  pipe_of (ExactlyE n a) = pipe.ExactlyE n (pipe_of a)
  pipe_of (LineE a) = pipe.LineE (pipe_of a)
  pipe_of (Mark name a) = pipe.Mark name (pipe_of a)
  pipe_of (Tee a) = pipe.Tee (pipe_of a)
  pipe_of (ZipSource a b literal) = pipe.ZipSource (pipe_of a) (pipe_of b) literal
  pipe_of (ZipSink a b) = pipe.ZipSink (pipe_of a) (pipe_of b)
  pipe_of (ZipConduit a b) = pipe.ZipConduit (pipe_of a) (pipe_of b)

  pub pipes_of : Trees → List Pipe
  pipes_of Nothing = []
  pipes_of (Then a more) = pipe_of a ∷ pipes_of more

-- what it means
abbrev mutual
  pub meaning_of : Tree → Meaning
  meaning_of (Leaf w) = word_meaning w
  meaning_of (Chain join parts) = all_of (joined join) (meanings_of parts)
  meaning_of (Sequence parts) = all_of sequence_meaning (meanings_of parts)
  meaning_of (Exactly n a) = exactly_meaning n (meaning_of a)
  meaning_of (ExactlyE n a) = exactly_e_meaning n (meaning_of a)
  meaning_of (LineE a) = line_e_meaning (meaning_of a)
  meaning_of (Mark name a) = mark_meaning name (meaning_of a)
  meaning_of (Tee a) = tee_meaning (meaning_of a)
  meaning_of (ZipSource a b literal) = zip_source_meaning literal (meaning_of a) (meaning_of b)
  meaning_of (ZipSink a b) = zip_sink_meaning (meaning_of a) (meaning_of b)
  meaning_of (ZipConduit a b) = zip_conduit_meaning (meaning_of a) (meaning_of b)

  pub meanings_of : Trees → List Meaning
  meanings_of Nothing = []
  meanings_of (Then a more) = meaning_of a ∷ meanings_of more

mutual
  pub means : (t : Tree) → pipe_meaning (pipe_of t) ≡ meaning_of t
  means (Leaf w) = word_is w
  means (Chain join parts) = chain_is join (pipes_of parts) ∙ ap (all_of (joined join)) (all_mean parts)
  means (Sequence parts) = sequence_is (pipes_of parts) ∙ ap (all_of sequence_meaning) (all_mean parts)
  means (Exactly n a) = exactly_is n (pipe_of a) ∙ ap (exactly_meaning n) (means a)
  means (ExactlyE n a) = exactly_e_is n (pipe_of a) ∙ ap (exactly_e_meaning n) (means a)
  means (LineE a) = line_e_is (pipe_of a) ∙ ap line_e_meaning (means a)
  means (Mark name a) = mark_is name (pipe_of a) ∙ ap (mark_meaning name) (means a)
  means (Tee a) = tee_is (pipe_of a) ∙ ap tee_meaning (means a)
  means (ZipSource a b literal) =
      zip_source_is (pipe_of a) (pipe_of b) literal
      ∙ ap (λ m. zip_source_meaning literal m (pipe_meaning (pipe_of b))) (means a)
      ∙ ap (zip_source_meaning literal (meaning_of a)) (means b)
  means (ZipSink a b) =
      zip_sink_is (pipe_of a) (pipe_of b) ∙ ap (λ m. zip_sink_meaning m (pipe_meaning (pipe_of b))) (means a) ∙ ap (zip_sink_meaning (meaning_of a)) (means b)
  means (ZipConduit a b) =
      zip_conduit_is (pipe_of a) (pipe_of b) ∙ ap (λ m. zip_conduit_meaning m (pipe_meaning (pipe_of b))) (means a) ∙ ap (zip_conduit_meaning (meaning_of a)) (means b)

  pub all_mean : (ts : Trees) → map pipe_meaning (pipes_of ts) ≡ meanings_of ts
  all_mean Nothing = refl
  all_mean (Then a more) = ap (λ m. m ∷ map pipe_meaning (pipes_of more)) (means a) ∙ ap (λ ms. meaning_of a ∷ ms) (all_mean more)

-- a statement with such a tree
pub data Sentence : Type 0 where
  Runs : Tree → Sentence
  Lets : List ℕ → Tree → Sentence
  Feeds : List ℕ → Tree → Sentence
  Closes : List ℕ → Tree → Sentence
  Holds : List ℕ → List ℕ → Sentence
  Releases : List ℕ → Sentence

abbrev pub statement_of : Sentence → Stmt
statement_of (Runs t) = Stmt.Run (pipe_of t)
statement_of (Lets name t) = Stmt.Seal name (pipe_of t)
statement_of (Feeds name t) = Stmt.Feed name (pipe_of t)
statement_of (Closes name t) = Stmt.CloseSeal name (pipe_of t)
statement_of (Holds name file) = Stmt.Hold name file
statement_of (Releases name) = Stmt.Release name

abbrev pub sentence_meaning : Sentence → Statement
sentence_meaning (Runs t) = run_meaning (meaning_of t)
sentence_meaning (Lets name t) = let_meaning name (meaning_of t)
sentence_meaning (Feeds name t) = feed_meaning name (meaning_of t)
sentence_meaning (Closes name t) = close_meaning name (meaning_of t)
sentence_meaning (Holds name file) = statement_meaning (Stmt.Hold name file)
sentence_meaning (Releases name) = statement_meaning (Stmt.Release name)

sentence_means : (s : Sentence) → statement_meaning (statement_of s) ≡ sentence_meaning s
sentence_means (Runs t) = ap run_meaning (means t)
sentence_means (Lets name t) = ap (let_meaning name) (means t)
sentence_means (Feeds name t) = ap (feed_meaning name) (means t)
sentence_means (Closes name t) = ap (close_meaning name) (means t)
sentence_means (Holds name file) = refl
sentence_means (Releases name) = refl

pub script_means : (ss : List Sentence) → map statement_meaning (map statement_of ss) ≡ map sentence_meaning ss
script_means [] = refl
script_means (s ∷ ss) = ap (λ m. m ∷ map statement_meaning (map statement_of ss)) (sentence_means s) ∙ ap (λ ms. sentence_meaning s ∷ ms) (script_means ss)

-- its places
abbrev pub sentence_places : Sentence → List Place
sentence_places (Runs t) = (meaning_of t).places
sentence_places (Lets name t) = (meaning_of t).places
sentence_places (Feeds name t) = (meaning_of t).places
sentence_places (Closes name t) = (meaning_of t).places
sentence_places (Holds name file) = Marks file ∷ []
sentence_places (Releases name) = []

abbrev pub all_places : List Sentence → List Place
all_places [] = []
all_places (s ∷ ss) = sentence_places s ++ all_places ss

places_mean : (s : Sentence) → statement_places (statement_of s) ≡ sentence_places s
places_mean (Runs t) = ap (λ m. m.places) (means t)
places_mean (Lets name t) = ap (λ m. m.places) (means t)
places_mean (Feeds name t) = ap (λ m. m.places) (means t)
places_mean (Closes name t) = ap (λ m. m.places) (means t)
places_mean (Holds name file) = refl
places_mean (Releases name) = refl

pub all_places_mean : (ss : List Sentence) → script_places (map statement_of ss) ≡ all_places ss
all_places_mean [] = refl
all_places_mean (s ∷ ss) = ap (λ p. p ++ script_places (map statement_of ss)) (places_mean s) ∙ ap (λ p. sentence_places s ++ p) (all_places_mean ss)

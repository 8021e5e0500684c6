-- What a pipe means: the fold of its tree.
use Rattle.std.specs.Prelude.{◌≡◌, ℕ, List, [], ◌∷◌, map}
use Rattle.std.proofs.Common.{◌∙◌, ap, sym}
use Rattle.cd_elem.specs.declared.word.Word.{Word}
use Rattle.cd_elem.specs.declared.script.Join.{Join}
use Rattle.cd_elem.specs.declared.script.Pipe.{Pipe}
use Rattle.cd_elem.specs.declared.script.Pipe.TheVariants as pipe
use Rattle.cd_elem.specs.declared.script.Pipe.TheOpen.{Pipe-F}
use Rattle.cd_elem.specs.declared.script.Pipe.TheFolds.{fold-Pipe, fold-roll-Pipe}
use Rattle.cd_meaning.specs.ElementWords.{passed}
use Rattle.cd_meaning.specs.Meaning.{Meaning, plain, same, piped, piped_keep, piped_return, piped_both, piped_up, piped_asked, sequence_form, exactly_form, exactly_e_form, line_e_form, mark_form, tee_form, zip_source_form, zip_sink_form, zip_conduit_form}
use Rattle.cd_meaning.specs.WordMeanings.{word_meaning}

abbrev pub joined : Join → Meaning → Meaning → Meaning
joined Join.Plain = piped
joined Join.Keep = piped_keep
joined Join.Return = piped_return
joined Join.Both = piped_both
joined Join.Up = piped_up
joined Join.Asked = piped_asked

-- `a op (b op c)`; no part at all, which no text has, passes on what it takes
abbrev pub all_of : (Meaning → Meaning → Meaning) → List Meaning → Meaning
all_of op [] = plain same (λ k. passed)
all_of op (a ∷ []) = a
all_of op (a ∷ b ∷ more) = op a (all_of op (b ∷ more))

-- a node, of the meanings of its parts
abbrev pub node_meaning : Pipe-F Meaning → Meaning
node_meaning (Pipe-F.Word w) = word_meaning w
node_meaning (Pipe-F.Chain join parts) = all_of (joined join) parts
node_meaning (Pipe-F.Sequence parts) = all_of sequence_form parts
node_meaning (Pipe-F.Exactly n a) = exactly_form n a
node_meaning (Pipe-F.ExactlyE n a) = exactly_e_form n a
node_meaning (Pipe-F.LineE a) = line_e_form a
node_meaning (Pipe-F.Mark name a) = mark_form name a
node_meaning (Pipe-F.Tee a) = tee_form a
node_meaning (Pipe-F.ZipSource a b literal) = zip_source_form literal a b
node_meaning (Pipe-F.ZipSink a b) = zip_sink_form a b
node_meaning (Pipe-F.ZipConduit a b) = zip_conduit_form a b

abbrev pub pipe_meaning : Pipe → Meaning
pipe_meaning = fold-Pipe Meaning node_meaning

-- ---- the fold at each node

pub word_is : (w : Word) → pipe_meaning (pipe.Word w) ≡ word_meaning w
word_is w = ap pipe_meaning (sym (pipe.rolls-Word w)) ∙ fold-roll-Pipe Meaning node_meaning _

pub chain_is : (join : Join) (parts : List Pipe) → pipe_meaning (pipe.Chain join parts) ≡ all_of (joined join) (map pipe_meaning parts)
chain_is join parts = ap pipe_meaning (sym (pipe.rolls-Chain join parts)) ∙ fold-roll-Pipe Meaning node_meaning _

pub sequence_is : (parts : List Pipe) → pipe_meaning (pipe.Sequence parts) ≡ all_of sequence_form (map pipe_meaning parts)
sequence_is parts = ap pipe_meaning (sym (pipe.rolls-Sequence parts)) ∙ fold-roll-Pipe Meaning node_meaning _

pub exactly_is : (n : ℕ) (p : Pipe) → pipe_meaning (pipe.Exactly n p) ≡ exactly_form n (pipe_meaning p)
exactly_is n p = ap pipe_meaning (sym (pipe.rolls-Exactly n p)) ∙ fold-roll-Pipe Meaning node_meaning _

pub exactly_e_is : (n : ℕ) (p : Pipe) → pipe_meaning (pipe.ExactlyE n p) ≡ exactly_e_form n (pipe_meaning p)
exactly_e_is n p = ap pipe_meaning (sym (pipe.rolls-ExactlyE n p)) ∙ fold-roll-Pipe Meaning node_meaning _

pub line_e_is : (p : Pipe) → pipe_meaning (pipe.LineE p) ≡ line_e_form (pipe_meaning p)
line_e_is p = ap pipe_meaning (sym (pipe.rolls-LineE p)) ∙ fold-roll-Pipe Meaning node_meaning _

pub mark_is : (name : List ℕ) (p : Pipe) → pipe_meaning (pipe.Mark name p) ≡ mark_form name (pipe_meaning p)
mark_is name p = ap pipe_meaning (sym (pipe.rolls-Mark name p)) ∙ fold-roll-Pipe Meaning node_meaning _

pub tee_is : (p : Pipe) → pipe_meaning (pipe.Tee p) ≡ tee_form (pipe_meaning p)
tee_is p = ap pipe_meaning (sym (pipe.rolls-Tee p)) ∙ fold-roll-Pipe Meaning node_meaning _

pub zip_source_is : (p q : Pipe) (literal : List ℕ) → pipe_meaning (pipe.ZipSource p q literal) ≡ zip_source_form literal (pipe_meaning p) (pipe_meaning q)
zip_source_is p q literal = ap pipe_meaning (sym (pipe.rolls-ZipSource p q literal)) ∙ fold-roll-Pipe Meaning node_meaning _

pub zip_sink_is : (p q : Pipe) → pipe_meaning (pipe.ZipSink p q) ≡ zip_sink_form (pipe_meaning p) (pipe_meaning q)
zip_sink_is p q = ap pipe_meaning (sym (pipe.rolls-ZipSink p q)) ∙ fold-roll-Pipe Meaning node_meaning _

pub zip_conduit_is : (p q : Pipe) → pipe_meaning (pipe.ZipConduit p q) ≡ zip_conduit_form (pipe_meaning p) (pipe_meaning q)
zip_conduit_is p q = ap pipe_meaning (sym (pipe.rolls-ZipConduit p q)) ∙ fold-roll-Pipe Meaning node_meaning _

-- what evaluates the meaning of a tree that is written out
pub ruleset nodes = (word_is, chain_is, sequence_is, exactly_is, exactly_e_is, line_e_is, mark_is, tee_is, zip_source_is, zip_sink_is, zip_conduit_is)

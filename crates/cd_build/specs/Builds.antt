-- What holds of a node that is built for a pipe.
use Rattle.std.specs.Prelude.{◌≡◌, ℕ, ◌+◌, ◌<◌, ◌≤◌, true, false, IsTrue, List, length, map, None, ◌⊎◌}
use Rattle.cd_elem.specs.declared.script.Join.{Join}
use Rattle.cd_elem.specs.declared.script.Pipe.{Pipe}
use Rattle.cd_elem.specs.declared.word.Word.{Word}
use Rattle.cd_meaning.specs.Meaning.{Meaning, piped, sequence_form}
use Rattle.cd_meaning.specs.Pipes.{all_of, pipe_meaning}
use Rattle.cd_meaning.specs.RunShapes.{Seen}
use Rattle.cd_meaning.specs.Stream.{Item, End}
use Rattle.cd_step.specs.Parts.{Part, of_pieces}
use Rattle.cd_types.specs.Chains.{chain_part}
use Rattle.cd_types.specs.declared.refusal.RefusalKind.{RefusalKind}
use Rattle.cd_types.specs.Flows.{Flow, sort_in}
use Rattle.cd_types.specs.Parts.{Part as TypedPart}
use Rattle.cd_types.specs.Sequences.{sequence_part}
use Rattle.cd_types.specs.Trees.{part}
use Rattle.cd_types.specs.WordTypes.{word_fails}
use Rattle.cd_build.specs.Built.{is_built, all_true}

-- The part that is seen does what the pipe means for what comes to it, where its first site has this number, and stands as the typing says of it.
pub record IsBuiltAs (a : TypedPart) (m : Meaning) (f : Flow) (site : ℕ) (p : Part) : Type 0 where
  pub means : (z : Seen) (xs : List Item) (e : End) → p.run z xs e ≡ m.run (sort_in f) site z xs e
  pub gives : p.gives ≡ (a.type f).to
  -- it takes what comes to it, or nothing
  pub takes : (p.takes ≡ None) ⊎ (p.takes ≡ f)
  pub idle : (a.type f).idle ≡ true → p.takes ≡ None
  pub exact : (a.type f).exact ≡ true → p.grade.exact ≡ true
  pub pieces : p.grade.pieces ≡ of_pieces p.takes
  pub graded : p.grade.pieces ≡ true → p.grade.exact ≡ true
  pub sites : (t : ℕ) → p.sites t ≡ true → (site ≤ t) × (t < site + length m.places)

-- nothing is refused at the word, for what comes to it
abbrev pub IsPassed : Word → Flow → Type 0
IsPassed w f = (fails : RefusalKind) → word_fails w f fails ≡ false

-- each member is built
abbrev pub AreBuilt : List Pipe → Type 0
AreBuilt ps = IsTrue (all_true (map is_built ps))

-- ---- members in a row, as a part and as a meaning

abbrev pub chain_of : List Pipe → TypedPart
chain_of ps = chain_part Join.Plain (map part ps)

abbrev pub chain_meaning : List Pipe → Meaning
chain_meaning ps = all_of piped (map pipe_meaning ps)

abbrev pub sequence_of : List Pipe → TypedPart
sequence_of ps = sequence_part (map part ps)

abbrev pub sequence_meaning : List Pipe → Meaning
sequence_meaning ps = all_of sequence_form (map pipe_meaning ps)

-- The tree of a text is within the limits.
use Rattle.std.proofs.Common.{ℕ, false, true, List, Ok, Err, IfOk}
use Rattle.cd_elem.specs.declared.script.Stmt.{Stmt}
use Rattle.cd_grammar.specs.Canonical.{IsTreeWithin}
use Rattle.cd_grammar.specs.Refusals.{tokens, IsText}
use Rattle.cd_script.specs.Answers.{Answer, Parses}
use Rattle.cd_script.proofs.WithinLimitsTrees.{canonical_within}
use Rattle.cd_script.proofs.ProperTrees.{is_proper_script}
use Rattle.cd_script.proofs.TextNames.{tokens_have_names}

pub text_is_within : (text : List ℕ) (tree : List Stmt) → IsText text tree → IsTreeWithin tree
text_is_within text tree i = record {
  proper = is_proper_script (tokens i.lexemes) tree i.script (tokens_have_names text 0 false i.lexemes i.stop true i.lexes);
  within = canonical_within (tokens i.lexemes) tree i.script i.within;
}

pub parsed_is_within : (text : List ℕ) (r : Answer) → Parses text r → IfOk r (λ tree. IsTreeWithin tree)
parsed_is_within text (Ok tree) p = text_is_within text tree p
parsed_is_within text (Err e) p = tt

-- The canonical text of a tree is a script with this tree.
use Rattle.std.proofs.Common.{◌≡◌, ◌≤◌, ℕ, true, List, length, take, ap, sym, ◌∙◌, subst}
use Rattle.std.proofs.lemmas.List.{take_all}
use Rattle.std.specs.List.{list_all}
use Rattle.cd_elem.specs.declared.script.Stmt.{Stmt}
use Rattle.cd_elem.specs.declared.token.Token.{Token}
use Rattle.cd_grammar.specs.Canonical.{IsTreeWithin}
use Rattle.cd_grammar.specs.CanonicalText.{canonical_text}
use Rattle.cd_grammar.specs.Grammar.{IsScript}
use Rattle.cd_grammar.specs.Lexemes.{Tokenizes}
use Rattle.cd_grammar.specs.Limits.{IsWithinLimits}
use Rattle.cd_grammar.specs.Refusals.{IsText}
use Rattle.cd_lex.proofs.Written.{tokenizes_canonical}
use Rattle.cd_script.specs.Ranges as ranges
use Rattle.cd_script.proofs.CanonicalDerivations.{canonical_is_script}
use Rattle.cd_script.proofs.WrittenWithin.{written_within}

pub whole_range : (n : ℕ) (tree : List Stmt) → list_all ranges.statement (take n tree) ≡ true → length tree ≤ n → list_all ranges.statement tree ≡ true
whole_range n tree range long = ap (list_all ranges.statement) (sym (take_all n tree long)) ∙ range

pub whole_text : (n : ℕ) (tree : List Stmt) (text : List ℕ) → text ≡ canonical_text (take n tree) → length tree ≤ n → text ≡ canonical_text tree
whole_text n tree text is long = is ∙ ap canonical_text (take_all n tree long)

pub is_text : (tree : List Stmt) (text : List ℕ) → IsTreeWithin tree → list_all ranges.statement tree ≡ true → text ≡ canonical_text tree → IsText text tree
is_text tree text within range is =
    let read = tokenizes_canonical tree (written_within tree within) in
    record {
      lexemes = read.0;
      stop = read.1;
      lexes = subst (λ (t : List ℕ). Tokenizes t read.0 read.1 true) (sym is) read.2;
      script = subst (λ (ts : List Token). IsScript ts tree) (sym read.3) (canonical_is_script tree within.proper range);
      within = subst IsWithinLimits (sym read.3) within.within;
    }

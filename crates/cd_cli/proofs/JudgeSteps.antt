-- What a script's bytes are judged to be, from what is found in them.
use Rattle.std.proofs.Common.{◌≡◌, ◌⊎◌, inl, inr, ◌≤◌, ◌<◌, ℕ, List, length, Err, refl, sym, subst, arith}
use Rattle.std.specs.Prelude.{IsUtf8}
use Rattle.std.specs.Str.{IsValidUpTo}
use Rattle.cd_grammar.specs.Limits.{text_limit}
use Rattle.cd_elem.specs.declared.script.Stmt.{Stmt}
use Rattle.cd_grammar.specs.Refusals.{IsText}
use Rattle.cd_script.specs.declared.refusal.ScriptRefusal.{ScriptRefusal}
use Rattle.cd_script.specs.declared.refusal.ScriptRefusal.TheVariants.{Syntax, Limit, NoMemory}
use Rattle.cd_script.specs.Answers.{Parses, AnswersOnly}
use Rattle.cd_report.specs.declared.cause.Cause.TheVariants.{ScriptLimit, ScriptText, NoMemory as WithoutMemory}
use Rattle.cd_cli.specs.Cause.{cause_of_refusal}
use Rattle.cd_cli.specs.Judge.{IsFit, HasTree, HasNone, too_long, no_utf8, syntax, limit}

module _ (text : List ℕ) where
  pub long_has_none : text_limit < length text → HasNone text ScriptLimit
  long_has_none long = record { why = too_long long; none = λ tree is. absurd (omega (arith, long, is.fit.few)) }

  pub broken_has_none : (at : ℕ) → length text ≤ text_limit → (IsUtf8 text → ⊥) → IsValidUpTo text at → HasNone text (ScriptText at)
  broken_has_none at few broken valid = record { why = no_utf8 at few broken valid; none = λ tree is. broken is.fit.utf8 }

  parsed_has_tree : (tree : List Stmt) → IsFit text → IsText text tree → ((other : List Stmt) → IsText text other → tree ≡ other) → HasTree text tree
  parsed_has_tree tree fit is only = record { is = record { fit = fit; text_is = is }; only = λ other o. sym (only other o.text_is) }

  refused_has_none : (refusal : ScriptRefusal) → IsFit text → Parses text (Err refusal) → ((tree : List Stmt) → IsText text tree → AnswersOnly tree (Err refusal))
      → (cause_of_refusal refusal ≡ WithoutMemory) ⊎ HasNone text (cause_of_refusal refusal)
  refused_has_none (Syntax at) fit parses gives = inr (record { why = syntax at fit parses; none = λ tree is. gives tree is.text_is })
  refused_has_none (Limit which at) fit parses gives = inr (record { why = limit which at fit parses; none = λ tree is. gives tree is.text_is })
  refused_has_none NoMemory fit parses gives = inl refl

  -- what is parsed is the text
  module _ (read : List ℕ) (same : read ≡ text) (few : length text ≤ text_limit) (utf8 : IsUtf8 text) where
    fit : IsFit text
    fit = record { few = few; utf8 = utf8 }

    pub read_has_tree : (tree : List Stmt) → IsText read tree → ((other : List Stmt) → IsText read other → tree ≡ other) → HasTree text tree
    read_has_tree tree is only =
        parsed_has_tree tree fit (subst (λ (t : List ℕ). IsText t tree) same is) (λ other o. only other (subst (λ (t : List ℕ). IsText t other) (sym same) o))

    pub read_has_none : (refusal : ScriptRefusal) → Parses read (Err refusal) → ((tree : List Stmt) → IsText read tree → AnswersOnly tree (Err refusal))
        → (cause_of_refusal refusal ≡ WithoutMemory) ⊎ HasNone text (cause_of_refusal refusal)
    read_has_none refusal parses gives =
        refused_has_none refusal fit (subst (λ (t : List ℕ). Parses t (Err refusal)) same parses) (λ tree is. gives tree (subst (λ (t : List ℕ). IsText t tree) (sym same) is))

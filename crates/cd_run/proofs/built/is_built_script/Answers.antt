use Rattle.std.proofs.Common.{◌≡◌, ◌≢◌, ◌⊎◌, inl, inr, ℕ, ◌+◌, ◌<◌, ◌≤◌, List, length, Some, refl, ap, sym, ◌∙◌, subst, arith, IsTrue, true, false}
use Rattle.std.specs.Prelude.{slice_get}
use Rattle.std.proofs.lemmas.Option.{slice_get_read, slice_get_within, same_Some}
use Rattle.cd_elem.specs.declared.script.Stmt.{Stmt}
use Rattle.cd_run.specs.Scripts.{IsBuiltScript, IsBuiltStatement}
use Rattle.cd_run.proofs.FileReads.{same_or}
use Rattle.cd_run.proofs.built.is_built_script.Goals as goal

no_true : {A : Type 0} → false ≡ true → A
no_true h = absurd cc

pub loop-statement-init : goal.loop-statement-init
loop-statement-init c = λ i s lt at. absurd (omega (arith, lt))

pub returns-then-not-is_built_statement : goal.returns-then-not-is_built_statement
returns-then-not-is_built_statement c =
    let same = c.as_slice-statement-items.ensures ∙ c.statements.ensures in
    let here = slice_get_read c.as_slice-statement-items.result.now _ c.loop-statement.statement-index c.statement-item.result refl c.loop-statement-test.true c.statement-item.is in (
      λ never. no_true never,
      λ all. subst IsTrue c.if-not-is_built_statement.true (c.is_built_statement.ensures.1
          (all c.loop-statement.statement-index c.statement-item.result (subst (λ (l : List Stmt). slice_get l c.loop-statement.statement-index ≡ Some c.statement-item.result) same here))),
    )

pub loop-statement-preserved : goal.loop-statement-preserved
loop-statement-preserved c = λ i s lt at. by i s lt at (same_or i c.loop-statement.statement-index) where
  by : (i : ℕ) (s : Stmt) → i < c.loop-statement.statement-index + 1 → slice_get c.as_slice-statement-items.result.now i ≡ Some s → (i ≡ c.loop-statement.statement-index) ⊎ (i ≢ c.loop-statement.statement-index) → IsBuiltStatement s
  by i s lt at (inr other) = c.loop-statement.invariant i s (omega (arith, lt, other)) at
  by i s lt at (inl is) =
      let here = slice_get_read c.as_slice-statement-items.result.now _ c.loop-statement.statement-index c.statement-item.result refl c.loop-statement-test.true c.statement-item.is in
      subst IsBuiltStatement (same_Some _ _ (sym here ∙ ap (slice_get c.as_slice-statement-items.result.now) (sym is) ∙ at))
      (c.is_built_statement.ensures.0 c.if-not-is_built_statement.false)

pub returns : goal.returns
returns c =
    let same = c.as_slice-statement-items.ensures ∙ c.statements.ensures in (
      λ all i s at.
          let here : slice_get c.as_slice-statement-items.result.now i ≡ Some s = subst (λ (l : List Stmt). slice_get l i ≡ Some s) (sym same) at in
          c.loop-statement.invariant i s (omega (arith, c.loop-statement-test.false, slice_get_within c.as_slice-statement-items.result.now i s here)) here,
      λ all. refl,
    )

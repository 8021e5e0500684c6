-- The pipe of a `run` in a script that has a type.
use Rattle.std.proofs.Common.{◌≡◌, ℕ, zero, suc, ◌+◌, false, not, nat_lt, List, [], ◌∷◌, ◌++◌, length, map, slice_get, Some, None, refl, subst}
use Rattle.std.specs.List.{fold}
use Rattle.cd_elem.specs.declared.script.Pipe.{Pipe}
use Rattle.cd_elem.specs.declared.script.Stmt.{Stmt}
use Rattle.cd_types.specs.declared.refusal.RefusalKind.TheVariants.{OpenEnd, TooMany}
use Rattle.cd_types.specs.Fitting.{Fits}
use Rattle.cd_types.specs.Flows.{Flow, is_nothing}
use Rattle.cd_types.specs.Conditions.{fails_where}
use Rattle.cd_types.specs.Limits.{statement_limit}
use Rattle.cd_types.specs.Moments.{Reached, nothing_reached, reach, ask, begin_part, AllPass}
use Rattle.cd_types.specs.Numbering.{numbered}
use Rattle.cd_types.specs.Statements.{Statement, Run, statement_of, statement_fails, statement_site, statement_moments, moments_behind, run_fails}
use Rattle.cd_types.specs.Trees.{part}
use Rattle.cd_types.specs.Typing.{HasType}
use Rattle.cd_types.proofs.Passing.{own_passes, split}

nothing_so : (g : Flow) → not (is_nothing g) ≡ false → g ≡ None
nothing_so None e = refl
nothing_so (Some k) e = let no : ⊥ = cc in absurd no

of_run : (p : Pipe) (k : ℕ) (before : List Statement) (r : Reached) → AllPass r (statement_moments k before (statement_of (Stmt.Run p))) → Fits None (part p) × (((part p).type None).to ≡ None)
of_run p k before r h =
    let a = part p in
    let first = ask k 0 (fails_where TooMany (nat_lt statement_limit k)) in
    let second = begin_part k 0 (statement_fails before (Run a)) (statement_site (Run a)) in
    let begun = reach (reach r first) second in
    let q = split begun (a.moments k 1 None) (ask k 1 (run_fails (a.type None)) ∷ []) h.1.1 in (
      record { reached = begun; statement = k; number = 1; pass = q.0 },
      nothing_so (a.type None).to (own_passes (fold reach begun (a.moments k 1 None)) (ask k 1 (run_fails (a.type None))) q.1.0 OpenEnd),
    )

of_statements : (before : List Statement) (script : List Stmt) (r : Reached) (i : ℕ) (p : Pipe) → AllPass r (moments_behind before (map statement_of script)) → slice_get script i ≡ Some (Stmt.Run p)
    → Fits None (part p) × (((part p).type None).to ≡ None)
of_statements before [] r i p h at = let no : ⊥ = cc in absurd no
of_statements before (s ∷ more) r zero p h at =
    let e : s ≡ Stmt.Run p = cc in
    of_run p (length before + 1) before r (subst (λ x. AllPass r (statement_moments (length before + 1) before (statement_of x))) e (split r (statement_moments (length before + 1) before (statement_of s)) _ h).0)
of_statements before (s ∷ more) r (suc i) p h at =
    of_statements (before ++ statement_of s ∷ []) more _ i p (split r (statement_moments (length before + 1) before (statement_of s)) _ h).1 at

pub run_fits : (script : List Stmt) (s : ℕ) (p : Pipe) → HasType script → numbered script s ≡ Some (Stmt.Run p) → Fits None (part p) × (((part p).type None).to ≡ None)
run_fits script zero p h at = let no : ⊥ = cc in absurd no
run_fits script (suc i) p h at = of_statements [] script nothing_reached i p h at

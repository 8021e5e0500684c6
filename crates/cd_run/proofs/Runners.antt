-- What a runner is handed to run.
use Rattle.std.proofs.Common.{◌≡◌, ◌<◌, ℕ, List, length, get_or, ap, subst, sym, arith}
use Rattle.cd_elem.specs.declared.script.Stmt.{Stmt}
use Rattle.cd_types.specs.Numbering.{first_site}
use Rattle.cd_types.proofs.FirstSites.{within_sites}
use Rattle.cd_run.specs.declared.runner.Runner.{Runner}
use Rattle.cd_run.specs.Runners.{MayRun, left_of, room_of, typed_of}
use Rattle.cd_run.specs.Statements.{IsSiteOf, RunsWithin}

pub runs_within : (r : Runner) (statement : ℕ) (left : List ℕ) → left ≡ left_of r → MayRun r statement → RunsWithin (typed_of r) statement left (room_of r)
runs_within r statement left same may = record {
  runs = record { script = may.script; pipe = may.pipe; is_typed = may.ready.typed; runs = may.runs; is_built = may.is_built };
  sites = λ s own. (in_table s own, subst (λ (l : List ℕ). 0 < get_or l s 0) (sym same) (may.sites s own));
  files = may.files;
} where
  in_table : (s : ℕ) → IsSiteOf may.pipe (first_site may.script statement) s → s < length left
  in_table s own =
      let all = may.ready.left in
      let len : length left ≡ length (left_of r) = ap length same in
      let within = within_sites may.script statement (Stmt.Run may.pipe) may.runs in
      let high = own.1 in
      omega (arith, all, len, within, high)

-- The sites of a script are its places, in their order, and what its moments add is the sum of the bounds of its parts.
use Rattle.std.proofs.Common.{◌≡◌, ℕ, ◌+◌, List, [], ◌∷◌, ◌++◌, length, map, None, refl, ap, ◌∙◌, arith}
use Rattle.std.proofs.lemmas.List.{append-nil}
use Rattle.cd_elem.specs.declared.script.Pipe.{Pipe}
use Rattle.cd_elem.specs.declared.script.Stmt.{Stmt}
use Rattle.cd_meaning.specs.Pipes.{pipe_meaning}
use Rattle.cd_meaning.specs.Scripts.{statement_places, script_places}
use Rattle.cd_types.specs.Flows.{Flow, PartType, bound_of}
use Rattle.cd_types.specs.Conditions.{Fails}
use Rattle.cd_types.specs.Moments.{ask, reached_by}
use Rattle.cd_types.specs.Statements.{Statement, statement_of, pipe_moments, statement_moments, moments_behind, statement_types, types_behind, script_moments, script_types, bounds_of, seal_flow, run_fails, let_fails, feed_fails}
use Rattle.cd_types.specs.Trees.{part}
use Rattle.cd_types.proofs.FormFacts.{pipe_facts}
use Rattle.cd_types.proofs.Sums.{sites_in, adds_in, sites_append, adds_append, reached_sites, reached_total}

pipe_places : (p : Pipe) (s : ℕ) (f : Flow) (asked : PartType → Fails) → sites_in (pipe_moments s f (part p) asked) ≡ (pipe_meaning p).places
pipe_places p s f asked = sites_append ((part p).moments s 1 f) _ ∙ append-nil _ ∙ (pipe_facts p).places s 1 f

pipe_adds : (p : Pipe) (s : ℕ) (f : Flow) (asked : PartType → Fails) → adds_in (pipe_moments s f (part p) asked) ≡ bound_of ((part p).types f)
pipe_adds p s f asked =
    let e = adds_append ((part p).moments s 1 f) (ask s 1 (asked ((part p).type f)) ∷ []) in
    let b = (pipe_facts p).bounds s 1 f in
    omega arith

pub places_of_statement : (s : Stmt) (k : ℕ) (before : List Statement) → sites_in (statement_moments k before (statement_of s)) ≡ statement_places s
places_of_statement (Stmt.Run p) k before = pipe_places p k _ run_fails
places_of_statement (Stmt.Seal name p) k before = pipe_places p k _ let_fails
places_of_statement (Stmt.Feed name p) k before = pipe_places p k (seal_flow before name) feed_fails
places_of_statement (Stmt.CloseSeal name p) k before = pipe_places p k (seal_flow before name) run_fails
places_of_statement (Stmt.Hold name file) k before = refl
places_of_statement (Stmt.Release name) k before = refl

of_statements : (before : List Statement) (script : List Stmt) → sites_in (moments_behind before (map statement_of script)) ≡ script_places script
of_statements before [] = refl
of_statements before (s ∷ more) =
    sites_append (statement_moments (length before + 1) before (statement_of s)) _
    ∙ ap (λ l. l ++ sites_in (moments_behind (before ++ statement_of s ∷ []) (map statement_of more))) (places_of_statement s (length before + 1) before)
    ∙ ap (λ l. statement_places s ++ l) (of_statements (before ++ statement_of s ∷ []) more)

pub sites_are_places : (script : List Stmt) → (reached_by (script_moments script)).sites ≡ script_places script
sites_are_places script = reached_sites (script_moments script) ∙ of_statements [] script

statement_adds : (s : Stmt) (k : ℕ) (before : List Statement) → adds_in (statement_moments k before (statement_of s)) ≡ bound_of (statement_types before (statement_of s))
statement_adds (Stmt.Run p) k before = let e = pipe_adds p k None run_fails in omega arith
statement_adds (Stmt.Seal name p) k before = let e = pipe_adds p k None let_fails in omega arith
statement_adds (Stmt.Feed name p) k before = let e = pipe_adds p k (seal_flow before name) feed_fails in omega arith
statement_adds (Stmt.CloseSeal name p) k before = let e = pipe_adds p k (seal_flow before name) run_fails in omega arith
statement_adds (Stmt.Hold name file) k before = refl
statement_adds (Stmt.Release name) k before = refl

statements_add : (before : List Statement) (script : List Stmt) → adds_in (moments_behind before (map statement_of script)) ≡ bounds_of (types_behind before (map statement_of script))
statements_add before [] = refl
statements_add before (s ∷ more) =
    let e = adds_append (statement_moments (length before + 1) before (statement_of s)) (moments_behind (before ++ statement_of s ∷ []) (map statement_of more)) in
    let b = statement_adds s (length before + 1) before in
    let c = statements_add (before ++ statement_of s ∷ []) more in
    omega arith

pub total_is_sum : (script : List Stmt) → (reached_by (script_moments script)).total ≡ bounds_of (script_types script)
total_is_sum script = reached_total (script_moments script) ∙ statements_add [] script

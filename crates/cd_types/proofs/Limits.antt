-- A script that has a type keeps the limits of statements, sites and bounds.
use Rattle.std.proofs.Common.{◌≡◌, ◌≤◌, ℕ, ◌+◌, false, nat_lt, List, [], ◌∷◌, ◌++◌, length, map, Option, Some, None, refl, subst, arith}
use Rattle.std.specs.List.{fold}
use Rattle.std.proofs.lemmas.Bool.{ltb-false, leb-false}
use Rattle.std.proofs.lemmas.List.{length-append}
use Rattle.cd_elem.specs.declared.script.Stmt.{Stmt}
use Rattle.cd_meaning.specs.Places.{Place}
use Rattle.cd_types.specs.declared.refusal.RefusalKind.TheVariants.{BoundTooLarge, TooMany}
use Rattle.cd_types.specs.Conditions.{fails_where}
use Rattle.cd_types.specs.Limits.{statement_limit, site_limit, total_limit}
use Rattle.cd_types.specs.Moments.{Moment, ask, Reached, reach, nothing_reached, reached_by, with_site, with_adds, site_fails, total_fails, fails_at, AllPass}
use Rattle.cd_types.specs.Statements.{Statement, statement_of, statement_moments, moments_behind, script_moments}
use Rattle.cd_types.specs.Typing.{HasType}
use Rattle.cd_types.proofs.Passing.{left_false, none_of, own_passes, right_false, split}

site_passes : (r : Reached) (m : Moment) (o : Option Place) → m.site ≡ o → fails_at r m TooMany ≡ false → length r.sites ≤ site_limit → length (with_site r.sites o) ≤ site_limit
site_passes r m None at e h = h
site_passes r m (Some p) at e h =
    let so : site_fails r.sites (Some p) TooMany ≡ false = subst (λ o. site_fails r.sites o TooMany ≡ false) at (left_false _ _ e) in
    let fewer = leb-false site_limit (length r.sites) so in
    let one = length-append r.sites (p ∷ []) in
    omega arith

pub sites_within : (r : Reached) (ms : List Moment) → AllPass r ms → length r.sites ≤ site_limit → length (fold reach r ms).sites ≤ site_limit
sites_within r [] h k = k
sites_within r (m ∷ ms) h k = sites_within (reach r m) ms h.1 (site_passes r m m.site refl (none_of (fails_at r m) h.0 TooMany) k)

total_passes : (r : Reached) (m : Moment) (o : Option ℕ) → m.adds ≡ o → fails_at r m BoundTooLarge ≡ false → r.total ≤ total_limit → with_adds r.total o ≤ total_limit
total_passes r m None at e h = h
total_passes r m (Some bound) at e h =
    ltb-false total_limit (r.total + bound)
    (subst (λ o. total_fails r.total o BoundTooLarge ≡ false) at (left_false _ (m.fails BoundTooLarge) (right_false (site_fails r.sites m.site BoundTooLarge) _ e)))

pub total_within : (r : Reached) (ms : List Moment) → AllPass r ms → r.total ≤ total_limit → (fold reach r ms).total ≤ total_limit
total_within r [] h k = k
total_within r (m ∷ ms) h k = total_within (reach r m) ms h.1 (total_passes r m m.adds refl (none_of (fails_at r m) h.0 BoundTooLarge) k)

statements_within : (r : Reached) (before : List Statement) (script : List Stmt) → AllPass r (moments_behind before (map statement_of script)) → length before ≤ statement_limit
    → length before + length script ≤ statement_limit
statements_within r before [] h k = omega arith
statements_within r before (s ∷ more) h k =
    let p = split r (statement_moments (length before + 1) before (statement_of s)) (moments_behind (before ++ statement_of s ∷ []) (map statement_of more)) h in
    let few = ltb-false statement_limit (length before + 1) (own_passes r (ask (length before + 1) 0 (fails_where TooMany (nat_lt statement_limit (length before + 1)))) p.0.0 TooMany) in
    let one = length-append before (statement_of s ∷ []) in
    let next = statements_within (fold reach r (statement_moments (length before + 1) before (statement_of s))) (before ++ statement_of s ∷ []) more p.1 (omega arith) in
    omega arith

pub few_statements : (script : List Stmt) → HasType script → length script ≤ statement_limit
few_statements script h = let e = statements_within nothing_reached [] script h (omega arith) in omega arith

pub few_sites : (script : List Stmt) → HasType script → length (reached_by (script_moments script)).sites ≤ site_limit
few_sites script h = sites_within nothing_reached (script_moments script) h (omega arith)

pub small_total : (script : List Stmt) → HasType script → (reached_by (script_moments script)).total ≤ total_limit
small_total script h = total_within nothing_reached (script_moments script) h (omega arith)

-- Steps of a walk, put together.
use Rattle.std.proofs.Common.{◌≡◌, ℕ, map, ◌||◌, ◌+◌, ◌<◌, ◌≤◌, Bool, true, false, List, [], ◌∷◌, ◌++◌, Option, Some, None, refl, ap, sym, ◌∙◌, subst, nat_lt, arith, append_assoc}
use Rattle.std.proofs.lemmas.List.{append-nil, map-append}
use Rattle.std.specs.Prelude.{IsErrAnd, IfErr, Result, Ok, Err}
use Rattle.std.specs.List.{list_any}
use Rattle.cd_meaning.specs.Places.{Place}
use Rattle.cd_types.specs.declared.refusal.RefusalKind.{RefusalKind}
use Rattle.cd_types.specs.declared.refusal.RefusalKind.TheVariants.{BoundTooLarge}
use Rattle.cd_types.specs.Conditions.{Fails, none_fails, lowest}
use Rattle.cd_types.specs.Limits.{total_limit}
use Rattle.cd_types.specs.Moments.{Moment, ask, end_part, Reached, reach, fails_at, with_site, with_adds}
use Rattle.cd_types.specs.Numbering.{ScriptSite, site_before, moment_sites}
use Rattle.cd_types.specs.Typing.{Verdict, Refused, Passed, refused_at, judged_from}
use Rattle.cd_typing.specs.declared.refusal.CheckRefusal.{CheckRefusal}
use Rattle.cd_typing.specs.Spots.{Spot, reached, step, Passes, Stops, Leads}
use Rattle.cd_typing.specs.Walking.{Moves}

-- ---- judging and sites of moments behind others

-- what comes behind moments
abbrev and_then : Verdict → (Reached → Verdict) → Verdict
and_then (Refused x) k = Refused x
and_then (Passed r) k = k r

at_first : (m : Moment) (k : Option RefusalKind) (v : Verdict) (next : Reached → Verdict) → refused_at m k (and_then v next) ≡ and_then (refused_at m k v) next
at_first m None v next = refl
at_first m (Some kind) v next = refl

judged-append : (r : Reached) (ms ns : List Moment) → judged_from r (ms ++ ns) ≡ and_then (judged_from r ms) (λ t. judged_from t ns)
judged-append r [] ns = refl
judged-append r (m ∷ ms) ns =
    ap (refused_at m (lowest (fails_at r m))) (judged-append (reach r m) ms ns) ∙ at_first m (lowest (fails_at r m)) (judged_from (reach r m) ms) (λ t. judged_from t ns)

judged-behind : (r t : Reached) (ms ns : List Moment) → judged_from r ms ≡ Passed t → judged_from r (ms ++ ns) ≡ judged_from t ns
judged-behind r t ms ns p = judged-append r ms ns ∙ ap (λ v. and_then v (λ t. judged_from t ns)) p

before-append : (s n : ℕ) (o : Option Place) (xs ys : List ScriptSite) → site_before s n o (xs ++ ys) ≡ site_before s n o xs ++ ys
before-append s n None xs ys = refl
before-append s n (Some p) xs ys = refl

pub sites-append : (ms ns : List Moment) → moment_sites (ms ++ ns) ≡ moment_sites ms ++ moment_sites ns
sites-append [] ns = refl
sites-append (m ∷ ms) ns = ap (site_before m.statement m.part m.site) (sites-append ms ns) ∙ before-append m.statement m.part m.site (moment_sites ms) (moment_sites ns)

sites-behind : (xs ys : List ScriptSite) (ms ns : List Moment) → ys ≡ xs ++ moment_sites ms → xs ++ moment_sites (ms ++ ns) ≡ ys ++ moment_sites ns
sites-behind xs ys ms ns e = ap (λ zs. xs ++ zs) (sites-append ms ns) ∙ sym (append_assoc xs (moment_sites ms) (moment_sites ns)) ∙ ap (λ zs. zs ++ moment_sites ns) (sym e)

-- ---- passing

pub passes-none : (r : Spot) → Passes r [] r
unfolding Passes
passes-none r = (refl, sym (append-nil r.sites))

pub passes-append : (r t u : Spot) (ms ns : List Moment) → Passes r ms t → Passes t ns u → Passes r (ms ++ ns) u
unfolding Passes
passes-append r t u ms ns p q = (judged-behind (reached r) (reached t) ms ns p.0 ∙ q.0, q.1 ∙ sym (sites-behind r.sites t.sites ms ns p.1))

pub passes-first : (r t u : Spot) (m : Moment) (ms : List Moment) → Passes r (m ∷ []) t → Passes t ms u → Passes r (m ∷ ms) u
passes-first r t u m ms p q = passes-append r t u (m ∷ []) ms p q

-- ---- stopping

pub stops-memory : (r : Spot) (ms : List Moment) → Stops r ms CheckRefusal.NoMemory
unfolding Stops
stops-memory r ms = tt

pub stops-here : (r : Spot) (ms ns : List Moment) (x : CheckRefusal) → Stops r ms x → Stops r (ms ++ ns) x
unfolding Stops
stops-here r ms ns (CheckRefusal.Refused x) s = judged-append (reached r) ms ns ∙ ap (λ v. and_then v (λ t. judged_from t ns)) s
stops-here r ms ns CheckRefusal.NoMemory s = tt

pub stops-first : (r : Spot) (m : Moment) (ms : List Moment) (x : CheckRefusal) → Stops r (m ∷ []) x → Stops r (m ∷ ms) x
stops-first r m ms x s = stops-here r (m ∷ []) ms x s

pub stops-behind : (r t : Spot) (ms ns : List Moment) (x : CheckRefusal) → Passes r ms t → Stops t ns x → Stops r (ms ++ ns) x
unfolding Passes Stops
stops-behind r t ms ns (CheckRefusal.Refused x) p s = judged-behind (reached r) (reached t) ms ns p.0 ∙ s
stops-behind r t ms ns CheckRefusal.NoMemory p s = tt

pub stops-later : (r t : Spot) (m : Moment) (ms : List Moment) (x : CheckRefusal) → Passes r (m ∷ []) t → Stops t ms x → Stops r (m ∷ ms) x
stops-later r t m ms x p s = stops-behind r t (m ∷ []) ms x p s

-- ---- moments

places-before : (xs : List ScriptSite) (s n : ℕ) (o : Option Place) → map (λ x. x.place) (xs ++ site_before s n o []) ≡ with_site (map (λ x. x.place) xs) o
places-before xs s n None = ap (map (λ x. x.place)) (append-nil xs)
places-before xs s n (Some p) = map-append (λ x. x.place) xs (record { statement = s; part = n; place = p } ∷ [])

step-reaches : (r : Spot) (m : Moment) → reach (reached r) m ≡ reached (step r m)
step-reaches r m = ap (λ ps. record { sites = ps; total = (reach (reached r) m).total }) (sym (places-before r.sites m.statement m.part m.site))

pub begins-stops : (r : Spot) (m : Moment) (ms : List Moment) (kind : RefusalKind) → lowest (fails_at (reached r) m) ≡ Some kind
    → Stops r (m ∷ ms) (CheckRefusal.Refused (record { kind = kind; statement = m.statement; part = m.part }))
unfolding Stops
begins-stops r m ms kind e = ap (λ o. refused_at m o (judged_from (reach (reached r) m) ms)) e

pub begins-passes : (r : Spot) (m : Moment) → lowest (fails_at (reached r) m) ≡ None → Passes r (m ∷ []) (step r m)
unfolding Passes
begins-passes r m e = (ap (λ o. refused_at m o (Passed (reach (reached r) m))) e ∙ ap Passed (step-reaches r m), refl)

-- where nothing but these conditions can fail
pub asks-stops : (r : Spot) (s n : ℕ) (fails : Fails) (ms : List Moment) (kind : RefusalKind) → lowest fails ≡ Some kind
    → Stops r (ask s n fails ∷ ms) (CheckRefusal.Refused (record { kind = kind; statement = s; part = n }))
asks-stops r s n fails ms kind e = begins-stops r (ask s n fails) ms kind e

pub asks-passes : (r : Spot) (s n : ℕ) (fails : Fails) → lowest fails ≡ None → Passes r (ask s n fails ∷ []) r
unfolding Passes
asks-passes r s n fails e = (ap (λ o. refused_at (ask s n fails) o (Passed (reached r))) e, sym (append-nil r.sites))

pub none-passes : (r : Spot) (s n : ℕ) → Passes r (ask s n none_fails ∷ []) r
none-passes r s n = asks-passes r s n none_fails refl

pub ends-stops : (r : Spot) (s n bound : ℕ) → total_limit < r.total + bound
    → Stops r (end_part s n bound ∷ []) (CheckRefusal.Refused (record { kind = BoundTooLarge; statement = s; part = n }))
ends-stops r s n bound h =
    let e : nat_lt total_limit (r.total + bound) ≡ true = grind arith in
    begins-stops r (end_part s n bound) [] BoundTooLarge (rw e refl)

pub ends-passes : (r : Spot) (s n bound : ℕ) → r.total + bound ≤ total_limit → Passes r (end_part s n bound ∷ []) (record { sites = r.sites; total = r.total + bound })
unfolding Passes
ends-passes r s n bound h =
    let e : nat_lt total_limit (r.total + bound) ≡ false = grind arith in
    let l : lowest (fails_at (reached r) (end_part s n bound)) ≡ None = rw e refl in
    (ap (λ o. refused_at (end_part s n bound) o (Passed (reach (reached r) (end_part s n bound)))) l, sym (append-nil r.sites))

pub ruleset bounds = (ends-stops, ends-passes)

pub any_of_mapped : {A B : Type 0} (p : B → Bool) (f : A → B) (xs : List A) → list_any p (map f xs) ≡ list_any (λ x. p (f x)) xs
any_of_mapped p f [] = refl
any_of_mapped p f (x ∷ xs) = ap (λ b. p (f x) || b) (any_of_mapped p f xs)

-- want of memory
pub memory-stops : {A : Type 0} (r : Spot) (ms : List Moment) (o : Result A CheckRefusal) → IsErrAnd o (λ x. x ≡ CheckRefusal.NoMemory) → IfErr o (λ x. Stops r ms x)
memory-stops r ms (Ok a) h = tt
memory-stops r ms (Err x) h = subst (Stops r ms) (sym h) (stops-memory r ms)

-- ---- leading on

pub leads-same : (r : Spot) (ms : List Moment) → Leads r ms r ms
unfolding Leads
leads-same r ms = (refl, refl)

pub leads-on : (r t u : Spot) (ms ns ps : List Moment) → Leads r ms t ns → Leads t ns u ps → Leads r ms u ps
unfolding Leads
leads-on r t u ms ns ps h k = (h.0 ∙ k.0, h.1 ∙ k.1)

pub leads-behind : (r t : Spot) (ms ns : List Moment) → Passes r ms t → Leads r (ms ++ ns) t ns
unfolding Leads Passes
leads-behind r t ms ns p = (judged-behind (reached r) (reached t) ms ns p.0, sites-behind r.sites t.sites ms ns p.1)

pub leads-stops : (r t : Spot) (ms ns : List Moment) (x : CheckRefusal) → Leads r ms t ns → Stops t ns x → Stops r ms x
unfolding Leads Stops
leads-stops r t ms ns (CheckRefusal.Refused x) h s = h.0 ∙ s
leads-stops r t ms ns CheckRefusal.NoMemory h s = tt

pub leads-passes : (r t : Spot) (ms : List Moment) → Leads r ms t [] → Passes r ms t
unfolding Leads Passes
leads-passes r t ms h = (h.0, sym (h.1 ∙ append-nil t.sites))

-- ---- what is asked

pub ask-passes : (r : Spot) (s n : ℕ) (fails : Fails) → None ≡ lowest fails → Passes r (ask s n fails ∷ []) r
ask-passes r s n fails e = asks-passes r s n fails (sym e)

pub ask-stops : (r : Spot) (s n : ℕ) (fails : Fails) (kind : RefusalKind) → Some kind ≡ lowest fails
    → Stops r (ask s n fails ∷ []) (CheckRefusal.Refused (record { kind = kind; statement = s; part = n }))
ask-stops r s n fails kind e = asks-stops r s n fails [] kind (sym e)

pub ruleset asks = (ask-passes, ask-stops)

-- two moments, one after the other
pub passes-two : (r t u : Spot) (m k : Moment) → Passes r (m ∷ []) t → Passes t (k ∷ []) u → Passes r (m ∷ k ∷ []) u
passes-two r t u m k p q = passes-first r t u m (k ∷ []) p q

-- ---- moving

-- the error that a `?` hands on
pub moves-err : {A : Type 0} (r t : Spot) (ms : List Moment) (o : Result A CheckRefusal) (x : CheckRefusal) → IsErrAnd o (λ y. y ≡ x) → Stops r ms x → Moves r ms t o
moves-err r t ms (Ok a) x h p = absurd h
moves-err r t ms (Err y) x h p = subst (Stops r ms) (sym h) p

pub moves-memory : {A : Type 0} (r t : Spot) (ms : List Moment) (o : Result A CheckRefusal) → IsErrAnd o (λ y. y ≡ CheckRefusal.NoMemory) → Moves r ms t o
moves-memory r t ms o h = moves-err r t ms o CheckRefusal.NoMemory h (stops-memory r ms)

pub moves-behind : {A : Type 0} (r t u : Spot) (ms ns : List Moment) (o : Result A CheckRefusal) → Passes r ms t → Moves t ns u o → Moves r (ms ++ ns) u o
moves-behind r t u ms ns (Ok a) p m = passes-append r t u ms ns p m
moves-behind r t u ms ns (Err x) p m = stops-behind r t ms ns x p m

pub moves-later : {A : Type 0} (r t u : Spot) (m : Moment) (ms : List Moment) (o : Result A CheckRefusal) → Passes r (m ∷ []) t → Moves t ms u o → Moves r (m ∷ ms) u o
moves-later r t u m ms o p q = moves-behind r t u (m ∷ []) ms o p q

-- no site is added
pub none_added : (xs : List ScriptSite) → xs ≡ xs ++ []
none_added xs = sym (append-nil xs)

-- what has these sites and this sum stands behind the moment
pub stands-at : (r new : Spot) (m : Moment) → new.sites ≡ r.sites ++ site_before m.statement m.part m.site [] → new.total ≡ with_adds r.total m.adds → new ≡ step r m
stands-at r new m e h = ap (λ xs. record { sites = xs; total = new.total }) e ∙ ap (λ t. record { sites = r.sites ++ site_before m.statement m.part m.site []; total = t }) h

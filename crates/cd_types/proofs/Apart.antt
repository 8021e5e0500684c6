-- The sites of a script that has a type do not clash.
use Rattle.std.proofs.Common.{◌≡◌, Bool, true, false, ◌&&◌, not, IsTrue, List, [], ◌∷◌, ◌++◌, Option, Some, None, refl, ap, sym, ◌∙◌, subst, append_assoc}
use Rattle.std.specs.List.{fold, list_any}
use Rattle.std.proofs.lemmas.List.{append-nil}
use Rattle.cd_elem.specs.declared.script.Stmt.{Stmt}
use Rattle.cd_meaning.specs.Places.{Place}
use Rattle.cd_types.specs.declared.refusal.RefusalKind.TheVariants.{NameTwice}
use Rattle.cd_types.specs.Conditions.{lowest}
use Rattle.cd_types.specs.Moments.{Moment, Reached, reach, nothing_reached, AllPass, fails_at, clash, with_site, reached_by}
use Rattle.cd_types.specs.Sites.{are_apart}
use Rattle.cd_types.specs.Statements.{script_moments}
use Rattle.cd_types.specs.Typing.{HasType}
use Rattle.cd_types.proofs.Passing.{left_false, none_of}

and_true : (b : Bool) → (b && true) ≡ b
and_true true = refl
and_true false = refl

and_assoc : (a b c : Bool) → (a && (b && c)) ≡ ((a && b) && c)
and_assoc true b c = refl
and_assoc false b c = refl

one_more : (earlier sites : List Place) (p : Place) → are_apart earlier (sites ++ p ∷ []) ≡ (are_apart earlier sites && not (list_any (clash p) (earlier ++ sites)))
one_more earlier [] p = and_true _ ∙ ap (λ ps. not (list_any (clash p) ps)) (sym (append-nil earlier))
one_more earlier (q ∷ sites) p =
    ap (λ b. not (list_any (clash q) earlier) && b)
    (one_more (earlier ++ q ∷ []) sites p
    ∙ ap (λ ps. are_apart (earlier ++ q ∷ []) sites && not (list_any (clash p) ps)) (append_assoc earlier (q ∷ []) sites))
    ∙ and_assoc (not (list_any (clash q) earlier)) (are_apart (earlier ++ q ∷ []) sites) (not (list_any (clash p) (earlier ++ q ∷ sites)))

apart_with : (r : Reached) (m : Moment) (o : Option Place) → m.site ≡ o → lowest (fails_at r m) ≡ None → IsTrue (are_apart [] r.sites) → IsTrue (are_apart [] (with_site r.sites o))
apart_with r m None at e h = h
apart_with r m (Some p) at e h =
    let free : fails_at r (record m { site = Some p }) NameTwice ≡ false =
    subst (λ o. fails_at r (record m { site = o }) NameTwice ≡ false) at (none_of (fails_at r m) e NameTwice)
    in
    let none : list_any (clash p) r.sites ≡ false = left_false _ _ (left_false _ _ free) in
    one_more [] r.sites p ∙ (rw (h, none) refl)

apart : (r : Reached) (ms : List Moment) → AllPass r ms → IsTrue (are_apart [] r.sites) → IsTrue (are_apart [] (fold reach r ms).sites)
apart r [] h a = a
apart r (m ∷ more) h a = apart (reach r m) more h.1 (apart_with r m m.site refl h.0 a)

pub sites_are_apart : (script : List Stmt) → HasType script → IsTrue (are_apart [] (reached_by (script_moments script)).sites)
sites_are_apart script h = apart nothing_reached (script_moments script) h refl

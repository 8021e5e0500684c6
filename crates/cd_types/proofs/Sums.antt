-- What moments reach, counted without what stands before them.
use Rattle.std.proofs.Common.{◌≡◌, ℕ, ◌+◌, List, [], ◌∷◌, ◌++◌, Option, Some, None, refl, ap, sym, ◌∙◌, append_assoc, arith}
use Rattle.std.specs.List.{fold}
use Rattle.std.proofs.lemmas.List.{append-nil}
use Rattle.cd_meaning.specs.Places.{Place}
use Rattle.cd_types.specs.Flows.{PartType, bound_of}
use Rattle.cd_types.specs.Moments.{Moment, Reached, reach, nothing_reached, reached_by, with_site, with_adds}

abbrev pub site_list : Option Place → List Place
site_list None = []
site_list (Some p) = p ∷ []

abbrev pub sites_in : List Moment → List Place
sites_in [] = []
sites_in (m ∷ more) = site_list m.site ++ sites_in more

abbrev pub added : Option ℕ → ℕ
added None = 0
added (Some bound) = bound

abbrev pub adds_in : List Moment → ℕ
adds_in [] = 0
adds_in (m ∷ more) = added m.adds + adds_in more

-- ---- of two lists

pub sites_append : (ms ns : List Moment) → sites_in (ms ++ ns) ≡ sites_in ms ++ sites_in ns
sites_append [] ns = refl
sites_append (m ∷ ms) ns = ap (λ l. site_list m.site ++ l) (sites_append ms ns) ∙ sym (append_assoc (site_list m.site) (sites_in ms) (sites_in ns))

pub adds_append : (ms ns : List Moment) → adds_in (ms ++ ns) ≡ adds_in ms + adds_in ns
adds_append [] ns = omega arith
adds_append (m ∷ ms) ns = let e = adds_append ms ns in omega arith

pub bounds_append : (ts us : List PartType) → bound_of (ts ++ us) ≡ bound_of ts + bound_of us
bounds_append [] us = omega arith
bounds_append (t ∷ ts) us = let e = bounds_append ts us in omega arith

-- ---- behind what was reached

with_list : (sites : List Place) (o : Option Place) → with_site sites o ≡ sites ++ site_list o
with_list sites None = sym (append-nil sites)
with_list sites (Some p) = refl

sites_from : (r : Reached) (ms : List Moment) → (fold reach r ms).sites ≡ r.sites ++ sites_in ms
sites_from r [] = sym (append-nil r.sites)
sites_from r (m ∷ ms) = sites_from (reach r m) ms ∙ ap (λ l. l ++ sites_in ms) (with_list r.sites m.site) ∙ append_assoc r.sites (site_list m.site) (sites_in ms)

with_added : (total : ℕ) (o : Option ℕ) → with_adds total o ≡ total + added o
with_added total None = omega arith
with_added total (Some bound) = refl

total_from : (r : Reached) (ms : List Moment) → (fold reach r ms).total ≡ r.total + adds_in ms
total_from r [] = omega arith
total_from r (m ∷ ms) =
    let e = total_from (reach r m) ms in
    let f = with_added r.total m.adds in
    omega arith

pub reached_sites : (ms : List Moment) → (reached_by ms).sites ≡ sites_in ms
reached_sites ms = sites_from nothing_reached ms

pub reached_total : (ms : List Moment) → (reached_by ms).total ≡ adds_in ms
reached_total ms = let e = total_from nothing_reached ms in omega arith

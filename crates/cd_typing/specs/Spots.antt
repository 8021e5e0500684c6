-- What a walk has reached, and what moments make of it.
use Rattle.std.specs.Prelude.{◌≡◌, ℕ, List, [], ◌++◌, map, ⊤}
use Rattle.cd_types.specs.Moments.{Moment, Reached, with_adds}
use Rattle.cd_types.specs.Numbering.{ScriptSite, site_before, moment_sites}
use Rattle.cd_types.specs.Typing.{judged_from, Refused, Passed}
use Rattle.cd_meaning.specs.Places.{Place}
use Rattle.cd_typed.specs.declared.site.SiteInfo.{SiteInfo}
use Rattle.cd_typed.specs.Sites.{site_of}
use Rattle.cd_typing.specs.declared.refusal.CheckRefusal.{CheckRefusal}

-- the sites so far with where they stand, and the sum of the bounds so far
pub record Spot : Type 0 where
  pub sites : List ScriptSite
  pub total : ℕ

abbrev pub nowhere : Spot
nowhere = record { sites = []; total = 0 }

-- as the definitions have it
abbrev pub reached : Spot → Reached
reached r = record { sites = map (λ site. site.place) r.sites; total = r.total }

-- what the sites of a walk are
abbrev pub places : List SiteInfo → List Place
places sites = map (λ site. site.place) (map site_of sites)

-- behind a moment
abbrev pub step : Spot → Moment → Spot
step r m = record { sites = r.sites ++ site_before m.statement m.part m.site []; total = with_adds r.total m.adds }

-- these moments are passed, and lead from one to the other
unfoldable pub Passes : Spot → List Moment → Spot → Type 0
Passes from ms to = (judged_from (reached from) ms ≡ Passed (reached to)) × (to.sites ≡ from.sites ++ moment_sites ms)

-- they end in this refusal
unfoldable pub Stops : Spot → List Moment → CheckRefusal → Type 0
Stops from ms (CheckRefusal.Refused refusal) = judged_from (reached from) ms ≡ Refused refusal
Stops from ms CheckRefusal.NoMemory = ⊤

-- judging the one from there is judging the other from here
unfoldable pub Leads : Spot → List Moment → Spot → List Moment → Type 0
Leads from ms to ns = (judged_from (reached from) ms ≡ judged_from (reached to) ns) × (from.sites ++ moment_sites ms ≡ to.sites ++ moment_sites ns)

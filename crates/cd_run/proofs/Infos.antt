-- The members of a table of sites.
use Rattle.std.proofs.Common.{◌≡◌, ℕ, zero, suc, ◌-◌, List, [], ◌∷◌, map, get_or, ap, ◌∙◌, arith}
use Rattle.cd_meaning.specs.Places.{WritesOutput}
use Rattle.cd_typed.specs.declared.site.SiteInfo.{SiteInfo}
use Rattle.cd_typed.specs.Sites.{place_of}
use Rattle.cd_scope.specs.Uses.{HasFile}
use Rattle.cd_run.specs.Going.{places_of}

at_map : (l : List SiteInfo) (n : ℕ) (x : SiteInfo) → HasFile (get_or (map place_of l) n WritesOutput) → x ≡ get_or l n x → place_of x ≡ get_or (map place_of l) n WritesOutput
at_map [] n x file is = absurd file
at_map (y ∷ l) zero x file is = ap place_of is
at_map (y ∷ l) (suc n) x file is = at_map l n x file is

pub info_at : (sites : List SiteInfo) (s : ℕ) (x : SiteInfo) → HasFile (places_of sites s) → x ≡ get_or sites (s - 1) x → place_of x ≡ places_of sites s
info_at sites zero x file is = absurd file
info_at sites (suc n) x file is = let e : suc n - 1 ≡ n = omega arith in at_map sites n x file (is ∙ ap (λ i. get_or sites i x) e)

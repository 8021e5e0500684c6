-- What goes on where sites give further bytes.
use Rattle.std.specs.Prelude.{◌≡◌, ℕ, ◌==◌, Bool, true, false, List, ◌++◌, ◌⊎◌}
use Rattle.cd_meaning.specs.Stream.{Item, More, Reading, End, Ending, Halts}
use Rattle.cd_meaning.specs.Run.{Run, Then, Ends, Component}
use Rattle.cd_meaning.specs.RunShapes.{MayGoOn, Told, Seen}
use Rattle.cd_meaning.specs.Laws.{Rising}

-- a run that ends so waits for one of these sites
abbrev pub WaitsFor : (ℕ → Bool) → Ending → Type 0
WaitsFor sites e = (site : ℕ) × (sites site ≡ true) × (e ≡ Halts (More (Reading site)))

-- The first is the second, or it is a front of it that waits for one of these sites. What the second has behind that front needs no less than there.
abbrev pub Begins : (ℕ → Bool) → Run → Run → Type 0
Begins sites (Then s a r) (Then t b q) = (s ≡ t) × (a ≡ b) × Begins sites r q
Begins sites (Then s a r) (Ends t e) = ⊥
Begins sites (Ends s e) q = (q ≡ Ends s e) ⊎ (WaitsFor sites e × Rising s.need q)

-- so on every input
abbrev pub GoesOn : (ℕ → Bool) → Component → Component → Type 0
GoesOn sites f g = (xs : List Item) (e : End) → Begins sites (f xs e) (g xs e)

-- a site might give further bytes, and then it gave more, behind which anything may be known
pub record IsFurther (t t' : Told) : Type 0 where
  pub more : List ℕ
  pub waited : t.mark ≡ MayGoOn
  pub bytes : t'.bytes ≡ t.bytes ++ more

-- so at these sites, and of all others the same is known
pub record Further (sites : ℕ → Bool) (seen seen' : Seen) : Type 0 where
  pub further : (site : ℕ) → sites site ≡ true → IsFurther (seen site) (seen' site)
  pub others : (site : ℕ) → sites site ≡ false → seen' site ≡ seen site

-- one site
abbrev pub only : ℕ → ℕ → Bool
only site other = other == site

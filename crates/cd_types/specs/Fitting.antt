-- Parts at which nothing fails for what comes to them, as those do who build them see it.
use Rattle.std.specs.Prelude.{◌≡◌, ℕ, true, false, List, [], ◌∷◌, Some, None}
use Rattle.cd_types.specs.Flows.{Flow, Sort, is_cut, kind_sort}
use Rattle.cd_types.specs.Moments.{Reached, AllPass}
use Rattle.cd_types.specs.Parts.{Part, is_last}

-- no condition fails at the part for this input, at some place of some script
pub record Fits (f : Flow) (a : Part) : Type 0 where
  pub reached : Reached
  pub statement : ℕ
  pub number : ℕ
  pub pass : AllPass reached (a.moments statement number f)

-- members of a chain: each for what the one before it gives
abbrev pub FitInChain : Flow → List Part → Type 0
FitInChain f [] = Unit {0}
FitInChain f (a ∷ more) = Fits f a × FitInChain (a.type f).to more

-- nothing, or values of this sort
abbrev pub IsOfSort : Sort → Flow → Type 0
IsOfSort k None = Unit {0}
IsOfSort k (Some kind) = kind_sort kind ≡ k

-- where bytes or characters come, the part is exact
abbrev pub IsExactOnCuts : Flow → Part → Type 0
IsExactOnCuts f a = is_cut f ≡ true → (a.type f).exact ≡ true

-- parts of a sequence: each for the input of all, each gives values of this sort or nothing, and each but the last is exact on cuts
abbrev pub FitInSequence : Sort → Flow → List Part → Type 0
FitInSequence k f [] = Unit {0}
FitInSequence k f (a ∷ more) = Fits f a × IsOfSort k (a.type f).to × (is_last more ≡ false → IsExactOnCuts f a) × FitInSequence k f more

abbrev pub AllExactOnCuts : Flow → List Part → Type 0
AllExactOnCuts f [] = Unit {0}
AllExactOnCuts f (a ∷ more) = IsExactOnCuts f a × AllExactOnCuts f more

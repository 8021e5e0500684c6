-- The cut of a call.
use Rattle.std.proofs.Common.{◌≡◌, ◌≤◌, ◌<◌, ℕ, zero, suc, min, max, List, [], ◌∷◌, Option, Some, None, Err, Bool, refl, sym, ap, arith}
use Rattle.std.specs.Prelude.{slice_get}
use Rattle.cd_world.specs.declared.world.WorldError.{WorldError}
use Rattle.cd_world.specs.declared.world.WorldError.TheVariants.{Failed, NoMemory}
use Rattle.cd_world.specs.Plan.{FailsWhere, after, cut}

pub cut-here : (cuts : List ℕ) (place count most : ℕ) → slice_get cuts place ≡ Some most → cut cuts place count ≡ min count (max most 1)
cut-here [] place count most is = cc
cut-here (m ∷ cuts) zero count most is = let same : m ≡ most = cc in ap (λ (n : ℕ). min count (max n 1)) same
cut-here (m ∷ cuts) (suc place) count most is = cut-here cuts place count most is

pub cut-behind : (cuts : List ℕ) (place count : ℕ) → slice_get cuts place ≡ None → cut cuts place count ≡ count
cut-behind [] place count is = refl
cut-behind (m ∷ cuts) zero count is = cc
cut-behind (m ∷ cuts) (suc place) count is = cut-behind cuts place count is

-- what a refused call says is the same, whatever it would have answered

pub after-error : {A : Type 0} (X Y : Type 0) (e : WorldError) (change : A → A) (a : A) → after {T = X} (Err e) change a ≡ after {T = Y} (Err e) change a
after-error X Y Failed change a = refl
after-error X Y NoMemory change a = refl

pub fails-error : (X Y : Type 0) (fails : Bool) (e : WorldError) → FailsWhere {T = X} fails (Err e) → FailsWhere {T = Y} fails (Err e)
fails-error X Y fails Failed is = is
fails-error X Y fails NoMemory is = is

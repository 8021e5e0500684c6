-- What is seen of whole files, by places.
use Rattle.std.proofs.Common.{◌≡◌, ℕ, zero, suc, List, [], ◌∷◌, refl}
use Rattle.cd_elem.specs.declared.script.Stmt.{Stmt}
use Rattle.cd_meaning.specs.Places.{Place, told_whole, bytes_at, place_in, whole}
use Rattle.cd_meaning.specs.Scripts.{script_places, whole_files}

pub whole_is : (files : List ℕ → List ℕ) (input : List ℕ) (limit : ℕ) (places : List Place) (site : ℕ)
    → whole files input limit places site ≡ told_whole limit (bytes_at files input (place_in places site))
whole_is files input limit places zero = refl
whole_is files input limit [] (suc n) = refl
whole_is files input limit (p ∷ places) (suc zero) = refl
whole_is files input limit (p ∷ places) (suc (suc n)) = whole_is files input limit places (suc n)

pub script_seen : (files : List ℕ → List ℕ) (input : List ℕ) (limit : ℕ) (script : List Stmt) (site : ℕ)
    → whole_files files input limit script site ≡ told_whole limit (bytes_at files input (place_in (script_places script) site))
script_seen files input limit script site = whole_is files input limit (script_places script) site

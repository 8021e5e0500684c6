-- What a scope over a world in memory has open.
use Rattle.std.proofs.Common.{◌≡◌, ℕ, List, [], ◌++◌, map, sym, ap, ◌∙◌, subst}
use Rattle.std.proofs.lemmas.List.{append-nil}
use Rattle.cd_meaning.specs.Places.{Place}
use Rattle.cd_world.specs.declared.memory.MemoryWorld.{MemoryWorld}
use Rattle.cd_world.specs.Live.{Open}
use Rattle.cd_world.specs.Memory.{live_in}
use Rattle.cd_scope.specs.declared.scope.Scope.{Scope}
use Rattle.cd_scope.specs.State.{held_in}
use Rattle.cd_scope.specs.Table.{IsOpen, open_of}

abbrev pub HasOpen : (ℕ → Place) → List Open → Scope → MemoryWorld → Type 0
HasOpen place base scope world = IsOpen place base (held_in scope) (live_in world)

pub none_open : (place : ℕ → Place) (scope : Scope) (world : MemoryWorld) → held_in scope ≡ [] → HasOpen place (live_in world) scope world
none_open place scope world none = sym (append-nil (live_in world)) ∙ ap (λ l. live_in world ++ map (open_of place) l) (sym none)

pub same_open : (place : ℕ → Place) (base : List Open) (s t : Scope) (w v : MemoryWorld) → t ≡ s → v ≡ w → HasOpen place base s w → HasOpen place base t v
same_open place base s t w v same world is = subst (λ (x : Scope). HasOpen place base x v) (sym same) (subst (λ (x : MemoryWorld). HasOpen place base s x) (sym world) is)

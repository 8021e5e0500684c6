-- Bytes that are due and wait to be written.
use Rattle.std.specs.Prelude.{◌<◌, ◌≡◌, ◌⊎◌, ℕ, List, [], length, map, Contains, Result}
use Rattle.cd_meaning.specs.Places.{Place}
use Rattle.cd_meaning.specs.Run.{Run}
use Rattle.cd_meaning.specs.RunShapes.{Seen}
use Rattle.cd_meaning.specs.Stream.{Effect, Put}
use Rattle.cd_world.specs.Live.{Open, IsLive}
use Rattle.cd_world.specs.declared.event.Use.TheVariants.{Writing}
use Rattle.cd_scope.specs.declared.table.Held.{Held}
use Rattle.cd_scope.specs.Calls.{does, held_at}
use Rattle.cd_scope.specs.Due.{Setting}
use Rattle.cd_scope.specs.Uses.{WritesAt}
use Rattle.cd_node.specs.declared.protocol.NodeMove.{NodeMove}
use Rattle.cd_node.specs.declared.protocol.NodeMove.TheVariants.{Emit, Need, Write}
use Rattle.cd_run.specs.declared.fault.RunFault.{RunFault}
use Rattle.cd_run.specs.declared.gathered.Gathered.{Gathered}
use Rattle.cd_run.specs.Going.{Outside, Going}
use Rattle.cd_run.specs.Ends.{MovedOn}

-- what is announced and not done yet
abbrev pub waiting : Gathered → List Effect
waiting b = map (Put b.site.0) b.bytes.items

-- where bytes wait, their site is written by this descriptor
abbrev pub IsFor : (ℕ → Place) → List Held → Gathered → Type 0
IsFor place t b = 0 < length b.bytes.items → WritesAt (place b.site.0) b.to.0 (Contains t (held_at b.site.0 b.to))

abbrev pub MayWrite : List Open → Gathered → Type 0
MayWrite live b = 0 < length b.bytes.items → (b.to.0 ≡ 1) ⊎ IsLive Writing b.to live

-- what may still wait when a move is answered: nothing before a call other than a write, nor where the run stops or ends
abbrev pub waits_on : NodeMove → List Effect → List Effect
waits_on (Emit c) ws = ws
waits_on Need ws = ws
waits_on (Write s d c) ws = ws
waits_on _ ws = []

-- whatever is meant and was called before: of these effects, which were due, only ws are still to be done; or the run met
-- a fault
abbrev pub MovesTo : {T : Type 0} → Setting → List Held → Result T RunFault → List Effect → List Effect → Outside → Outside → Type 0
MovesTo g t result es ws w w' =
    (m : Seen → Run) (left : List ℕ) (todo : Seen → Seen → Run) (w0 : Outside)
    → Going g m t left (λ all z. does es (todo all z)) w0 w → MovedOn g m result t left (λ x all z. does ws (todo all z)) w0 w'

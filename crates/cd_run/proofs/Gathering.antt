-- Bytes that wait to be written, and what of them is written.
use Rattle.std.proofs.Common.{◌≡◌, ℕ, ◌<◌, List, [], ◌++◌, length, map, Result, Ok, Err, refl, ap, sym, ◌∙◌, subst, arith}
use Rattle.std.specs.Prelude.{Contains, OnErr, OnOk}
use Rattle.std.proofs.lemmas.List.{length-map}
use Rattle.cd_meaning.specs.Places.{Place}
use Rattle.cd_meaning.specs.Run.{Run}
use Rattle.cd_meaning.specs.RunShapes.{Seen}
use Rattle.cd_meaning.specs.Stream.{Effect, Put}
use Rattle.cd_world.specs.Live.{Open}
use Rattle.cd_world.specs.declared.event.Descriptor.{Descriptor}
use Rattle.cd_scope.specs.declared.table.Held.{Held}
use Rattle.cd_scope.specs.Calls.{does, held_at}
use Rattle.cd_scope.specs.Due.{Setting}
use Rattle.cd_scope.specs.Table.{IsOpen}
use Rattle.cd_scope.specs.Uses.{WritesAt}
use Rattle.cd_scope.proofs.Further.{does_does}
use Rattle.cd_run.specs.declared.fault.RunFault.{RunFault}
use Rattle.cd_run.specs.declared.fault.RunFault.TheVariants.{NoMemory}
use Rattle.cd_run.specs.declared.gathered.Gathered.{Gathered}
use Rattle.cd_run.specs.Ends.{MovedOn, Moves}
use Rattle.cd_run.specs.Gathers.{IsFor, MayWrite, MovesTo, waiting}
use Rattle.cd_run.specs.Going.{Outside, Going}
use Rattle.cd_run.proofs.Steps.{going_same, refused}
use Rattle.cd_run.proofs.WriteSteps.{is_writable}

pub none_for : (place : ℕ → Place) (t : List Held) (b : Gathered) → b.bytes.items ≡ [] → IsFor place t b
none_for place t b none lt = absurd (let n = ap length none in omega (arith, lt, n))

pub none_left : (place : ℕ → Place) (t : List Held) (b : Gathered) → waiting b ≡ [] → IsFor place t b
none_left place t b none lt = absurd (let n = ap length none in let same = length-map b.bytes.items (Put b.site.0) in omega (arith, lt, n, same))

pub as_for : (f h : ℕ → Place) → h ≡ f → (t : List Held) (b : Gathered) → IsFor f t b → IsFor h t b
as_for f h same t b for = subst (λ (x : ℕ → Place). IsFor x t b) (sym same) for

pub none_waits : (b : Gathered) → b.bytes.items ≡ [] → waiting b ≡ []
none_waits b none = ap (λ (l : List ℕ). map (Put b.site.0) l) none

-- a descriptor in the table is open
pub may_write : (place : ℕ → Place) (base live : List Open) (t : List Held) → IsOpen place base t live → (b : Gathered) → IsFor place t b → MayWrite live b
may_write place base live t o b for some = is_writable place base live t o b.site.0 b.to (place b.site.0) refl (for some)

module _ (g : Setting) (t : List Held) (w : Outside) where
  -- nothing is done
  pub waits_on_still : {T : Type 0} (x : T) (es : List Effect) → MovesTo {T = T} g t (Ok x) es es w w
  waits_on_still x es m left todo w0 go = go

  -- all of it is done
  pub all_done : {T : Type 0} (w' : Outside) (r : Result T RunFault) (es ws : List Effect) → ws ≡ [] → Moves g t t r es w w' → MovesTo g t r es ws w w'
  all_done w' r es ws none moves m left todo w0 go = by r (moves m left todo w0 go) where
    by : {T : Type 0} (r : Result T RunFault) → MovedOn g m r t left (λ x. todo) w0 w' → MovedOn g m r t left (λ x all z. does ws (todo all z)) w0 w'
    by (Ok x) h = subst (λ es. Going g m t left (λ all z. does es (todo all z)) w0 w') (sym none) h
    by (Err f) h = h

  -- what is added waits behind the rest
  pub added : {T : Type 0} (r : Result T RunFault) (b b' : Gathered) (more : List Effect) → OnOk r (waiting b' ≡ waiting b ++ more) → OnErr r (r ≡ Err NoMemory) → MovesTo g t r (waiting b ++ more) (waiting b') w w
  added (Ok x) b b' more waits none m left todo w0 go = subst (λ es. Going g m t left (λ all z. does es (todo all z)) w0 w) (sym waits) go
  added {T} (Err f) b b' more waits none m left todo w0 go =
      subst (λ (r : Result T RunFault). MovedOn g m r t left (λ x all z. does (waiting b') (todo all z)) w0 w) (sym none) (refused g m t (λ all z. does (waiting b ++ more) (todo all z)) w0 w w go refl)

  pub added_alone : {T : Type 0} (r : Result T RunFault) (b b' : Gathered) (more : List Effect) → b.bytes.items ≡ [] → OnOk r (waiting b' ≡ waiting b ++ more) → OnErr r (r ≡ Err NoMemory) → MovesTo g t r more (waiting b') w w
  added_alone r b b' more empty waits none = subst (λ es. MovesTo g t r (es ++ more) (waiting b') w w) (none_waits b empty) (added r b b' more waits none)

-- first what waits is written, and then the rest
module _ (g : Setting) (t : List Held) (w w1 : Outside) (es more : List Effect) where
  pub then_moves : {T U : Type 0} (w2 : Outside) (x : U) (r : Result T RunFault) (ws : List Effect) → MovesTo {T = U} g t (Ok x) es [] w w1 → MovesTo g t r more ws w1 w2 → MovesTo g t r (es ++ more) ws w w2
  then_moves w2 x r ws first second m left todo w0 go =
      second m left todo w0 (first m left (λ all z. does more (todo all z)) w0 (going_same g m t (λ all z. does (es ++ more) (todo all z)) w0 w (λ all z. does es (does more (todo all z))) (λ all z. does_does es more (todo all z)) go))

  pub then_fails : (T U : Type 0) (f : RunFault) (ws : List Effect) → MovesTo {T = U} g t (Err f) es [] w w1 → MovesTo {T = T} g t (Err f) (es ++ more) ws w w1
  then_fails T U f ws first m left todo w0 go =
      first m left (λ all z. does more (todo all z)) w0 (going_same g m t (λ all z. does (es ++ more) (todo all z)) w0 w (λ all z. does es (does more (todo all z))) (λ all z. does_does es more (todo all z)) go)

-- What is known where moments pass: no condition fails at any of them.
use Rattle.std.proofs.Common.{◌≡◌, Bool, true, false, ◌||◌, if◌then◌else◌, List, [], ◌∷◌, ◌++◌, Option, Some, None, refl}
use Rattle.std.specs.List.{fold}
use Rattle.cd_types.specs.declared.refusal.RefusalKind.{RefusalKind}
use Rattle.cd_types.specs.declared.refusal.RefusalKind.TheVariants.{KindMismatch, SeesChunks, NeedsElements, DropsRest, NotInvertible, NameTwice, Seal, BoundTooLarge, ResultLost, TooMany, OpenEnd, Key}
use Rattle.cd_types.specs.Conditions.{Fails, lowest}
use Rattle.cd_types.specs.Moments.{Moment, Reached, reach, fails_at, AllPass}

none_if : {A : Type 0} (b : Bool) (x : A) (o : Option A) → (if b then Some x else o) ≡ None → (b ≡ false) × (o ≡ None)
none_if true x o e = let f : ⊥ = cc in absurd f
none_if false x o e = (refl, e)

pub none_of : (fails : Fails) → lowest fails ≡ None → (k : RefusalKind) → fails k ≡ false
none_of fails e =
    let a = none_if (fails KindMismatch) _ _ e in
    let b = none_if (fails SeesChunks) _ _ a.1 in
    let c = none_if (fails NeedsElements) _ _ b.1 in
    let d = none_if (fails DropsRest) _ _ c.1 in
    let f = none_if (fails NotInvertible) _ _ d.1 in
    let g = none_if (fails NameTwice) _ _ f.1 in
    let h = none_if (fails Seal) _ _ g.1 in
    let i = none_if (fails BoundTooLarge) _ _ h.1 in
    let j = none_if (fails ResultLost) _ _ i.1 in
    let k = none_if (fails TooMany) _ _ j.1 in
    let l = none_if (fails OpenEnd) _ _ k.1 in
    let m = none_if (fails Key) _ _ l.1 in
    each a.0 b.0 c.0 d.0 f.0 g.0 h.0 i.0 j.0 k.0 l.0 m.0
  where
    each : fails KindMismatch ≡ false → fails SeesChunks ≡ false → fails NeedsElements ≡ false → fails DropsRest ≡ false → fails NotInvertible ≡ false
        → fails NameTwice ≡ false → fails Seal ≡ false → fails BoundTooLarge ≡ false → fails ResultLost ≡ false → fails TooMany ≡ false → fails OpenEnd ≡ false
        → fails Key ≡ false → (k : RefusalKind) → fails k ≡ false
    each a b c d f g h i j k l m KindMismatch = a
    each a b c d f g h i j k l m SeesChunks = b
    each a b c d f g h i j k l m NeedsElements = c
    each a b c d f g h i j k l m DropsRest = d
    each a b c d f g h i j k l m NotInvertible = f
    each a b c d f g h i j k l m NameTwice = g
    each a b c d f g h i j k l m Seal = h
    each a b c d f g h i j k l m BoundTooLarge = i
    each a b c d f g h i j k l m ResultLost = j
    each a b c d f g h i j k l m TooMany = k
    each a b c d f g h i j k l m OpenEnd = l
    each a b c d f g h i j k l m Key = m

pub right_false : (a b : Bool) → (a || b) ≡ false → b ≡ false
right_false true b e = let f : ⊥ = cc in absurd f
right_false false b e = e

-- what fails at a moment whatever stands before
pub own_passes : (r : Reached) (m : Moment) → lowest (fails_at r m) ≡ None → (k : RefusalKind) → m.fails k ≡ false
own_passes r m e k = right_false _ (m.fails k) (right_false _ _ (none_of (fails_at r m) e k))

pub left_false : (a b : Bool) → (a || b) ≡ false → a ≡ false
left_false true b e = e
left_false false b e = refl

-- moments pass where those in front and those behind do
pub split : (r : Reached) (ms ns : List Moment) → AllPass r (ms ++ ns) → AllPass r ms × AllPass (fold reach r ms) ns
split r [] ns h = (tt, h)
split r (m ∷ ms) ns h =
    let s = split (reach r m) ms ns h.1 in
    ((h.0, s.0), s.1)

-- Where a whole stands, and parts of which an answer is waited for.
use Rattle.std.proofs.Common.{◌≡◌, ℕ, Bool, true, false, ◌||◌, Option, refl}
use Rattle.cd_elem.specs.declared.kind.Kind.{Kind}
use Rattle.cd_step.specs.declared.protocol.Stand.{Stand}
use Rattle.cd_step.specs.declared.protocol.Stand.TheVariants.{Fresh as IsFresh, Wait as IsWait, Gave as HasGiven, Over as IsOver}
use Rattle.cd_step.specs.declared.protocol.Input.{Input}
use Rattle.cd_step.specs.declared.protocol.Input.TheVariants.{Start, Chunk as Given, End as TheEnd, Next}
use Rattle.cd_step.specs.Parts.{At, Fresh, Wait, Gave, Opens, Reads, Writes, Closes, Over, IsReads, site, part_at, IsOutAt, AnswersAt}

pub site_own : (x : At) (k : ℕ → Bool) → IsOutAt x k → IsReads x → k (site x) ≡ true
site_own (Reads s) k h r = h
site_own Fresh k h r = absurd h
site_own (Opens s) k h r = absurd r
site_own Closes k h r = absurd r
site_own Wait k h r = absurd h
site_own Gave k h r = absurd h
site_own Writes k h r = absurd r
site_own Over k h r = absurd h

pub stand_fresh : (s : Stand) → part_at s ≡ Fresh → s ≡ IsFresh
stand_fresh IsFresh e = refl
stand_fresh IsWait e = cc
stand_fresh HasGiven e = cc
stand_fresh IsOver e = cc

pub stand_wait : (s : Stand) → part_at s ≡ Wait → s ≡ IsWait
stand_wait IsFresh e = cc
stand_wait IsWait e = refl
stand_wait HasGiven e = cc
stand_wait IsOver e = cc

pub stand_gave : (s : Stand) → part_at s ≡ Gave → s ≡ HasGiven
stand_gave IsFresh e = cc
stand_gave IsWait e = cc
stand_gave HasGiven e = refl
stand_gave IsOver e = cc

-- no input answers a part whose site is waited for
pub not_out : (i : Input) (x : At) (k : ℕ → Bool) (m : Option Kind) → IsOutAt x k → AnswersAt x m i → ⊥
not_out Start x k m h e = rw e at h
not_out (Given c) x k m h e = rw e.0 at h
not_out TheEnd x k m h e = rw e at h
not_out Next x k m h e = rw e at h

pub own_up : (x y : Bool) → x ≡ true → (x || y) ≡ true
own_up x y h = rw h refl

pub own_down : (x y : Bool) → y ≡ true → (x || y) ≡ true
own_down true y h = refl
own_down false y h = h

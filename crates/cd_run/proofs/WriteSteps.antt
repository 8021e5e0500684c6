-- What the outside holds after a write, for a site of a scope.
use Rattle.std.proofs.Common.{◌≡◌, ℕ, ◌⊎◌, inl, inr, List, Result, Ok, Err, refl, ap, sym, ◌∙◌, subst}
use Rattle.std.specs.Prelude.{Contains}
use Rattle.cd_world.specs.Causes.{IsCounted, risen}
use Rattle.cd_world.specs.declared.world.WorldError.TheVariants.{Failed, NoMemory as NoSpace}
use Rattle.cd_meaning.specs.Places.{Place, Reads, ReadsInput, Writes, WritesOutput as OnOutput, Marks}
use Rattle.cd_world.specs.declared.event.Descriptor.{Descriptor}
use Rattle.cd_world.specs.declared.event.Use.TheVariants.{Reading, Writing}
use Rattle.cd_world.specs.declared.world.WorldError.{WorldError}
use Rattle.cd_world.specs.Live.{Open, IsLive, open_as}
use Rattle.cd_world.specs.Files.{Files, WritesFile, WritesOutput, ReadsFile}
use Rattle.cd_scope.specs.declared.table.Held.{Held}
use Rattle.cd_scope.specs.Uses.{use_at, name_at, ReadsAt, WritesAt}
use Rattle.cd_scope.specs.Calls.{held_at}
use Rattle.cd_run.specs.Going.{AreSeparate}
use Rattle.cd_scope.specs.Table.{IsOpen}
use Rattle.cd_run.proofs.FileSteps.{Leaves, write_leaves}
use Rattle.cd_scope.proofs.TableSteps.{held_live}

module _ (place : ℕ → Place) (base live : List Open) (t : List Held) (o : IsOpen place base t live) (s : ℕ) (d : Descriptor) where
  pub live_as : (p : Place) → place s ≡ p → Contains t (held_at s d) → Contains live (open_as (use_at p) d (name_at p))
  live_as p is has = subst (λ x. Contains live (open_as (use_at x) d (name_at x))) is (held_live place base live t o (held_at s d) has)

  pub leaves_after : AreSeparate place → (bytes : List ℕ) (result : Result ℕ WorldError) (f f' : Files) → WritesAt (place s) d.0 (Contains t (held_at s d))
      → ((name : List ℕ) → Contains live (open_as Writing d name) → WritesFile name bytes result f f') → (d.0 ≡ 1 → WritesOutput bytes result f f') → Leaves place f f'
  leaves_after separate bytes result f f' at file output =
      write_leaves place separate s d bytes result f f' (place s) refl (Contains t (held_at s d)) at (λ name is has. file name (live_as (Writes name) is has)) output

  pub reads_after : (into : List ℕ) (result : Result ℕ WorldError) (f f' : Files) → ((name : List ℕ) → Contains live (open_as Reading d name) → ReadsFile d.0 name into result f f')
      → Contains t (held_at s d) → (name : List ℕ) → place s ≡ Reads name → ReadsFile d.0 name into result f f'
  reads_after into result f f' file has name is = file name (live_as (Reads name) is has)

  pub is_writable : (p : Place) → place s ≡ p → WritesAt p d.0 (Contains t (held_at s d)) → (d.0 ≡ 1) ⊎ IsLive Writing d live
  is_writable (Writes name) is at = inr (name, live_as (Writes name) is at)
  is_writable OnOutput is at = inl at
  is_writable (Reads name) is at = absurd at
  is_writable ReadsInput is at = absurd at
  is_writable (Marks name) is at = absurd at

  pub is_readable : (p : Place) → place s ≡ p → ReadsAt p d.0 (Contains t (held_at s d)) → (d.0 ≡ 0) ⊎ IsLive Reading d live
  is_readable (Reads name) is at = inr (name, live_as (Reads name) is at)
  is_readable ReadsInput is at = inl at
  is_readable (Writes name) is at = absurd at
  is_readable OnOutput is at = absurd at
  is_readable (Marks name) is at = absurd at

-- the count of failed calls after one call, by what it answered
pub count_ok : {T : Type 0} (before now : ℕ) (x : T) → IsCounted before now (Ok x) → now ≡ before
count_ok before now x c = c.calm (λ h. cc)

pub count_failed : {T : Type 0} (before now : ℕ) (e : WorldError) → e ≡ Failed → IsCounted {T = T} before now (Err e) → now ≡ risen before
count_failed before now e is c = c.failed (ap Err is)

pub count_none : {T : Type 0} (before now : ℕ) (e : WorldError) → e ≡ NoSpace → IsCounted {T = T} before now (Err e) → now ≡ before
count_none before now e is c = c.calm (λ h. let f : e ≡ Failed = cc in let k : NoSpace ≡ Failed = sym is ∙ f in cc)

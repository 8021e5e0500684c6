-- What a close leaves, by what the file was open for.
use Rattle.std.proofs.Common.{◌≡◌, List, ℕ, Ok, Err, inl, sym, ◌∙◌, ap}
use Rattle.cd_world.specs.declared.event.Descriptor.{Descriptor}
use Rattle.cd_world.specs.declared.event.Use.{Use}
use Rattle.cd_world.specs.declared.event.Use.TheVariants.{Reading, Writing, Marking}
use Rattle.cd_world.specs.declared.world.CloseFailed.{CloseFailed}
use Rattle.cd_world.specs.Live.{Open}
use Rattle.cd_world.specs.Files.{Files, with_given, without_mark, ClosesUse, ClosesFile}

done : (use_of : Use) (name : List ℕ) (f f' : Files) → f' ≡ without_mark use_of name f → ClosesUse {T = Unit {0}} use_of name (Ok tt) f f'
done Reading name f f' is = is
done Writing name f f' is = is
done Marking name f f' is = is

failed : (use_of : Use) (name : List ℕ) (e : CloseFailed) (f f' : Files) → f' ≡ f → ClosesUse {T = Unit {0}} use_of name (Err e) f f'
failed Reading name e f f' is = is
failed Writing name e f f' is = is
failed Marking name e f f' is = inl is

module _ (o : Open) (which : Descriptor) (f f' : Files) (is : o.descriptor ≡ which) where
  at : with_given which.0 0 f ≡ with_given o.descriptor.0 0 f
  at = ap (λ (d : Descriptor). with_given d.0 0 f) (sym is)

  pub closes-done : f' ≡ without_mark o.use_of o.name (with_given which.0 0 f) → ClosesFile {T = Unit {0}} o (Ok tt) f f'
  closes-done files = done o.use_of o.name (with_given o.descriptor.0 0 f) f' (files ∙ ap (without_mark o.use_of o.name) at)

  pub closes-failed : (e : CloseFailed) → f' ≡ with_given which.0 0 f → ClosesFile {T = Unit {0}} o (Err e) f f'
  closes-failed e files = failed o.use_of o.name e (with_given o.descriptor.0 0 f) f' (files ∙ at)

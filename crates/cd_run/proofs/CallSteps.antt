-- The calls of a scope, as steps of a run.
use Rattle.std.proofs.Common.{◌≡◌, ℕ, zero, suc, ◌==◌, Bool, true, false, if◌then◌else◌, List, [], ◌∷◌, ◌++◌, map, Result, Ok, Err, refl, ap, sym, ◌∙◌, subst, arith}
use Rattle.std.specs.Prelude.{Contains, IsTrue}
use Rattle.std.proofs.lemmas.Bool.Decides.{nat_tests}
use Rattle.std.proofs.lemmas.List.{append-nil}
use Rattle.cd_elem.specs.declared.site.Site.{Site}
use Rattle.cd_meaning.specs.Run.{Run}
use Rattle.cd_meaning.specs.RunShapes.{Seen}
use Rattle.cd_meaning.specs.Stream.{Open as OpenSite}
use Rattle.cd_world.specs.declared.event.Descriptor.{Descriptor}
use Rattle.cd_world.specs.Files.{after_open}
use Rattle.cd_scope.specs.declared.errors.AcquireError.{AcquireError}
use Rattle.cd_scope.specs.declared.errors.AcquireError.TheVariants.{AcquireFault as Refused, NoMemory as NoRoom}
use Rattle.cd_scope.specs.declared.table.Held.{Held}
use Rattle.cd_scope.specs.declared.table.Ticket.{Ticket}
use Rattle.cd_scope.specs.Calls.{does, event, held_at}
use Rattle.cd_scope.specs.Due.{Setting}
use Rattle.cd_scope.specs.Table.{IsNew, acquiring, descriptor_at, opening_answer}
use Rattle.cd_scope.specs.Uses.{HasFile, name_at, use_at}
use Rattle.cd_run.specs.declared.fault.RunFault.TheVariants.{AcquireFault, NoMemory}
use Rattle.cd_run.specs.Ends.{Faulted}
use Rattle.cd_run.specs.Going.{Going, Outside}
use Rattle.cd_run.proofs.Steps.{open_fails, open_step, refused}

-- the outside after an open of a site at this place, by what was answered
pub record Opened (g : Setting) (site : Site) (w w' : Outside) (result : Result Ticket AcquireError) : Type 0 where
  pub file : HasFile (g.place site.0)
  pub log : w'.log ≡ w.log ++ map (event g.place) (acquiring site.0 result)
  pub files : IsTrue g.tells → w'.files ≡ after_open (use_at (g.place site.0)) (name_at (g.place site.0)) (opening_answer result) w.files

module _ {left : List ℕ} (g : Setting) (m : Seen → Run) (t : List Held) (todo : Seen → Seen → Run) (w0 w w' : Outside) (site : Site) (G : Going g m t left (λ all z. does (OpenSite site.0 ∷ []) (todo all z)) w0 w) where
  pub acquires_well : (ticket : Ticket) (t' : List Held) → Opened g site w w' (Ok ticket) → IsNew ticket.descriptor t → t' ≡ t ++ held_at site.0 ticket.descriptor ∷ [] → Going g m t' left todo w0 w'
  acquires_well ticket t' o new more = subst (λ l. Going g m l left todo w0 w') (sym more) (open_step g m t todo w0 w w' site.0 ticket.descriptor G o.log o.file o.files new)

  pub acquires_badly : (s : Site) (t' : List Held) → s ≡ site → Opened g site w w' (Err (Refused s)) → t' ≡ t → Faulted g m (AcquireFault s) t' w0 w'
  acquires_badly s t' is o same = subst (λ l. Faulted g m (AcquireFault s) l w0 w') (sym same) (subst (λ x. Faulted g m (AcquireFault x) t w0 w') (sym is) (open_fails g m t todo w0 w w' site G o.log o.file))

  pub acquires_none : (t' : List Held) → Opened g site w w' (Err NoRoom) → t' ≡ t → Faulted g m NoMemory t' w0 w'
  acquires_none t' o same =
      subst (λ l. Faulted g m NoMemory l w0 w') (sym same) (refused g m t (λ all z. does (OpenSite site.0 ∷ []) (todo all z)) w0 w w' G (o.log ∙ append-nil w.log))

-- what is held of a site is there
pub descriptor_there : (s : ℕ) (t : List Held) → (d : Descriptor) × Contains t (held_at s d) → Contains t (held_at s (descriptor_at s t))
descriptor_there s [] (d, (i, lt, is)) = absurd (omega (arith, lt))
descriptor_there s (x ∷ t) h = by (x.site.0 == s) refl (λ e. descriptor_there s t (behind e h)) where
  behind : (x.site.0 == s) ≡ false → (d : Descriptor) × Contains (x ∷ t) (held_at s d) → (d : Descriptor) × Contains t (held_at s d)
  behind e (d, (zero, lt, is)) = absurd (let same : x.site.0 ≡ s = ap (λ (y : Held). y.site.0) is in grind (arith, nat_tests, same, e))
  behind e (d, (suc i, lt, is)) = (d, (i, omega (arith, lt), is))

  by : (b : Bool) → (x.site.0 == s) ≡ b → ((x.site.0 == s) ≡ false → Contains t (held_at s (descriptor_at s t))) → Contains (x ∷ t) (held_at s (if b then x.descriptor else descriptor_at s t))
  by true e more = (zero, omega arith, ap (λ n. held_at n x.descriptor) (let same : x.site.0 ≡ s = grind (arith, nat_tests, e) in same))
  by false e more = let there = more e in (suc there.0, let lt = there.1 in omega (arith, lt), there.2)

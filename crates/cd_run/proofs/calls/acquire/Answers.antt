use Rattle.std.proofs.Common.{◌≡◌, ◌++◌, ℕ, map, Result, Err, sym, ap, ◌∙◌, subst}
use Rattle.std.specs.Prelude.{IsTrue}
use Rattle.cd_meaning.specs.Places.{Place}
use Rattle.cd_world.specs.Files.{after_open}
use Rattle.cd_scope.specs.declared.errors.AcquireError.{AcquireError}
use Rattle.cd_scope.specs.declared.table.Ticket.{Ticket}
use Rattle.cd_scope.specs.Calls.{event}
use Rattle.cd_scope.specs.State.{held_in}
use Rattle.cd_scope.specs.Table.{AnswersAcquire, acquiring, opening_answer}
use Rattle.cd_scope.specs.Uses.{HasFile, name_at, use_at}
use Rattle.cd_run.specs.Going.{outside, places_of}
use Rattle.cd_run.proofs.CallSteps.{acquires_well, acquires_badly, acquires_none}
use Rattle.cd_run.proofs.calls.acquire.Goals as goal

pub returns-in-Ok-clause-told : goal.returns-in-Ok-clause-told
returns-in-Ok-clause-told g c = λ tells s base placed same o m left todo w0 go.
    acquires_well s m (held_in c.args.scope.now) todo w0 (outside (g.W.World.log c.args.world.now) (g.W.World.files c.args.world.now)) (outside (g.W.World.log c.acquire.new.world) (g.W.World.files c.acquire.new.world)) c.args.site go c.in-Ok.ticket (held_in c.acquire.new.self) (record {
      file = subst (λ (f : ℕ → Place). HasFile (f c.args.site.0)) (sym placed) c.requires.file;
      log = subst (λ (x : Result Ticket AcquireError). g.W.World.log c.acquire.new.world ≡ g.W.World.log c.args.world.now ++ map (event s.place) (acquiring c.args.site.0 x)) c.in-Ok.is (c.acquire.ensures.log tells s.place (ap (λ (f : ℕ → Place). f c.args.site.0) placed ∙ sym c.info_of.ensures));
      files = λ ft. subst (λ (x : Result Ticket AcquireError). g.W.World.files c.acquire.new.world ≡ after_open (use_at (s.place c.args.site.0)) (name_at (s.place c.args.site.0)) (opening_answer x) (g.W.World.files c.args.world.now)) c.in-Ok.is
          (c.acquire.ensures.files (subst IsTrue same ft) ∙ ap (λ (p : Place). after_open (use_at p) (name_at p) (opening_answer c.acquire.result) (g.W.World.files c.args.world.now)) (sym (ap (λ (f : ℕ → Place). f c.args.site.0) placed ∙ sym c.info_of.ensures)));
    }) (c.in-Ok.ensures.fresh (places_of c.args.sites.now) base o) c.in-Ok.ensures.held

pub returns-in-Err-AcquireFault-clause-told : goal.returns-in-Err-AcquireFault-clause-told
returns-in-Err-AcquireFault-clause-told g c = λ tells s base placed same o m left todo w0 go.
    acquires_badly s m (held_in c.args.scope.now) todo w0 (outside (g.W.World.log c.args.world.now) (g.W.World.files c.args.world.now)) (outside (g.W.World.log c.acquire.new.world) (g.W.World.files c.acquire.new.world)) c.args.site go c.in-Err-AcquireFault.site (held_in c.acquire.new.self) (subst (λ (e : AcquireError). AnswersAcquire c.args.site (g.W.World.faults c.args.world.now) (g.W.World.faults c.acquire.new.world) (Err e)) c.in-Err-AcquireFault.field-0-is c.in-Err-AcquireFault.ensures.answers).0 (record {
      file = subst (λ (f : ℕ → Place). HasFile (f c.args.site.0)) (sym placed) c.requires.file;
      log = subst (λ (x : Result Ticket AcquireError). g.W.World.log c.acquire.new.world ≡ g.W.World.log c.args.world.now ++ map (event s.place) (acquiring c.args.site.0 x)) (c.in-Err-AcquireFault.is ∙ ap (λ (e : AcquireError). Err e) c.in-Err-AcquireFault.field-0-is) (c.acquire.ensures.log tells s.place (ap (λ (f : ℕ → Place). f c.args.site.0) placed ∙ sym c.info_of.ensures));
      files = λ ft. subst (λ (x : Result Ticket AcquireError). g.W.World.files c.acquire.new.world ≡ after_open (use_at (s.place c.args.site.0)) (name_at (s.place c.args.site.0)) (opening_answer x) (g.W.World.files c.args.world.now)) (c.in-Err-AcquireFault.is ∙ ap (λ (e : AcquireError). Err e) c.in-Err-AcquireFault.field-0-is)
          (c.acquire.ensures.files (subst IsTrue same ft) ∙ ap (λ (p : Place). after_open (use_at p) (name_at p) (opening_answer c.acquire.result) (g.W.World.files c.args.world.now)) (sym (ap (λ (f : ℕ → Place). f c.args.site.0) placed ∙ sym c.info_of.ensures)));
    }) c.in-Err-AcquireFault.ensures.held

pub returns-in-Err-NoMemory-clause-told : goal.returns-in-Err-NoMemory-clause-told
returns-in-Err-NoMemory-clause-told g c = λ tells s base placed same o m left todo w0 go.
    acquires_none s m (held_in c.args.scope.now) todo w0 (outside (g.W.World.log c.args.world.now) (g.W.World.files c.args.world.now)) (outside (g.W.World.log c.acquire.new.world) (g.W.World.files c.acquire.new.world)) c.args.site go (held_in c.acquire.new.self) (record {
      file = subst (λ (f : ℕ → Place). HasFile (f c.args.site.0)) (sym placed) c.requires.file;
      log = subst (λ (x : Result Ticket AcquireError). g.W.World.log c.acquire.new.world ≡ g.W.World.log c.args.world.now ++ map (event s.place) (acquiring c.args.site.0 x)) (c.in-Err-NoMemory.is ∙ ap (λ (e : AcquireError). Err e) c.in-Err-NoMemory.field-0-is) (c.acquire.ensures.log tells s.place (ap (λ (f : ℕ → Place). f c.args.site.0) placed ∙ sym c.info_of.ensures));
      files = λ ft. subst (λ (x : Result Ticket AcquireError). g.W.World.files c.acquire.new.world ≡ after_open (use_at (s.place c.args.site.0)) (name_at (s.place c.args.site.0)) (opening_answer x) (g.W.World.files c.args.world.now)) (c.in-Err-NoMemory.is ∙ ap (λ (e : AcquireError). Err e) c.in-Err-NoMemory.field-0-is)
          (c.acquire.ensures.files (subst IsTrue same ft) ∙ ap (λ (p : Place). after_open (use_at p) (name_at p) (opening_answer c.acquire.result) (g.W.World.files c.args.world.now)) (sym (ap (λ (f : ℕ → Place). f c.args.site.0) placed ∙ sym c.info_of.ensures)));
    }) c.in-Err-NoMemory.ensures.held

pub returns-in-Ok-clause-open : goal.returns-in-Ok-clause-open
returns-in-Ok-clause-open g c = λ base o. c.acquire.ensures.open (places_of c.args.sites.now) base (sym c.info_of.ensures) o

pub returns-in-Err-AcquireFault-clause-open : goal.returns-in-Err-AcquireFault-clause-open
returns-in-Err-AcquireFault-clause-open g c = λ base o. c.acquire.ensures.open (places_of c.args.sites.now) base (sym c.info_of.ensures) o

pub returns-in-Err-NoMemory-clause-open : goal.returns-in-Err-NoMemory-clause-open
returns-in-Err-NoMemory-clause-open g c = λ base o. c.acquire.ensures.open (places_of c.args.sites.now) base (sym c.info_of.ensures) o

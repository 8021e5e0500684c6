-- What a run of a tree comes to.
use Rattle.std.proofs.Common.{◌≡◌, ◌⊎◌, inl, inr, ℕ, Bool, true, false, List, [], ◌∷◌, ◌++◌, map, Result, Ok, Err, refl, ap, sym, ◌∙◌, subst}
use Rattle.std.specs.Prelude.{IsTrue}
use Rattle.std.proofs.lemmas.List.{append-nil}
use Rattle.cd_elem.specs.declared.script.Stmt.{Stmt}
use Rattle.cd_meaning.specs.Places.{bytes_at, place_in, told_whole}
use Rattle.cd_meaning.specs.Run.{Run, Ends, ending, start}
use Rattle.cd_meaning.specs.RunShapes.{Seen}
use Rattle.cd_meaning.specs.Scripts.{script_places, script_run, whole_files}
use Rattle.cd_meaning.specs.Stream.{Done, Effect, Ending, Halt, Halts, Value}
use Rattle.cd_meaning.proofs.WholeFiles.{script_seen}
use Rattle.cd_world.specs.Causes.{Rose}
use Rattle.cd_world.specs.declared.event.Event.{Event}
use Rattle.cd_world.specs.Files.{Files}
use Rattle.cd_scope.specs.Calls.{Call, did, does, effects_of, event}
use Rattle.cd_scope.specs.Due.{Setting}
use Rattle.cd_run.specs.declared.fault.RunFault.{RunFault}
use Rattle.cd_run.specs.declared.fault.RunFault.TheVariants.{Decode, AcquireFault, ReadFault, WriteFault, CloseFault, TooLong, NoMemory}
use Rattle.cd_run.specs.declared.options.Options.{Options}
use Rattle.cd_run.specs.Going.{files_seen, outside}
use Rattle.cd_run.specs.Ran.{IsWhole, Ran}
use Rattle.cd_run.specs.Scripts.{IsBuiltScript, IsCaused}
use Rattle.cd_report.specs.declared.cause.Cause.{Cause}
use Rattle.cd_report.specs.declared.cause.Cause.TheVariants.{Success, NotBuilt, NoMemory as WithoutMemory}
use Rattle.cd_cli.specs.Cause.{HasOrigin, cause_of_run}
use Rattle.cd_cli.specs.Command.{EndsUnlessFailed, IsDoneOver, Logs, RunsTree, built, not_built, setting_of}

pub false_true : false ≡ true → ⊥
false_true e = absurd cc

-- ---- what was called

module _ (options : Options) (tells : Bool) (tree : List Stmt) where
  pub run_logs : (answer : Result (Unit {0}) RunFault) (l l' : List Event) (f f' : Files) → IsBuiltScript tree → Ran (setting_of tree options tells) (script_run tree) answer (outside l f) (outside l' f')
      → Logs (RunsTree options tells f tree) (cause_of_run answer) l l'
  run_logs answer l l' f f' is_built ran = record {
    calls = map (event (place_in (script_places tree))) (ran.calls ++ ran.closes);
    log = ran.log;
    does = built answer _ is_built refl (record {
      calls = ran.calls;
      closes = ran.closes;
      log = refl;
      due = ran.due;
      fits = ran.fits;
      closing = ran.closing;
      outcome = ran.outcome;
      whole = ran.whole;
    });
  }

  pub unbuilt_logs : (l : List Event) (f : Files) → (IsBuiltScript tree → ⊥) → Logs (RunsTree options tells f tree) NotBuilt l l
  unbuilt_logs l f none = record { calls = []; log = sym (append-nil l); does = not_built none refl }

-- ---- over files that hold the same

abbrev pub SameSources : Files → Files → Type 0
SameSources f f' = (f'.contents ≡ f.contents) × (f'.input ≡ f.input)

module _ (tells : Bool) (f f' : Files) (same : IsTrue tells → SameSources f f') where
  ran_over : {T : Type 0} (g : Setting) (m : Seen → Run) (answer : Result T RunFault) (calls : List Event) → g.tells ≡ tells → Ran g m answer (outside [] f') (outside calls f') → Ran g m answer (outside [] f) (outside calls f)
  ran_over g m answer calls is ran = record {
    calls = ran.calls;
    closes = ran.closes;
    log = ran.log;
    due = ran.due;
    fits = ran.fits;
    closing = ran.closing;
    outcome = ran.outcome;
    whole = λ told.
        let so = same (subst IsTrue is told) in
        subst (λ (c : List ℕ → List ℕ). IsWhole answer (m (λ s. told_whole g.limit (bytes_at c f.input (g.place s)))) ran.calls) so.0
        (subst (λ (i : List ℕ). IsWhole answer (m (λ s. told_whole g.limit (bytes_at f'.contents i (g.place s)))) ran.calls) so.1 (ran.whole told));
  }

  pub runs_over : (options : Options) (tree : List Stmt) (cause : Cause) (calls : List Event) → RunsTree options tells f' tree cause calls → RunsTree options tells f tree cause calls
  runs_over options tree cause _ (not_built none is) = not_built none is
  runs_over options tree cause _ (built answer calls is_built is ran) = built answer calls is_built is (ran_over (setting_of tree options tells) (script_run tree) answer calls refl ran)

-- ---- the end

does_ending : (es : List Effect) (r : Run) → ending (does es r) ≡ ending r
does_ending [] r = refl
does_ending (e ∷ es) r = does_ending es r

did_ending : (calls : List Call) (r : Run) → ending (did calls r) ≡ ending r
did_ending [] r = refl
did_ending (c ∷ calls) r = does_ending (effects_of c) (did calls r) ∙ did_ending calls r

-- what is done does not stop
never_stops : (r : Run) (calls : List Call) (h : Halt) → ending r ≡ Done Value.Unit → r ≡ did calls (Ends start (Halts h)) → ⊥
never_stops r calls h done stops = absurd (subst IsEnd (sym done ∙ ap ending stops ∙ did_ending calls _) tt) where
  IsEnd : Ending → Type 0
  IsEnd (Done v) = Unit {0}
  IsEnd (Halts x) = ⊥

whole_seen : (tree : List Stmt) (options : Options) (tells : Bool) (l : List Event) (f : Files) → whole_files f.contents f.input options.limit tree ≡ files_seen (setting_of tree options tells) (outside l f)
whole_seen tree options tells l f = λ i s. script_seen f.contents f.input options.limit tree s i

-- a run whose meaning over the whole files is done ends so, unless a call failed
pub run_ends : (answer : Result (Unit {0}) RunFault) (options : Options) (tells : Bool) (tree : List Stmt) (l l' : List Event) (f f' : Files) (before now : ℕ) → IsTrue tells
    → Ran (setting_of tree options tells) (script_run tree) answer (outside l f) (outside l' f') → IsCaused before now answer → IsDoneOver f options tree → EndsUnlessFailed before now (cause_of_run answer)
run_ends (Ok x) options tells tree l l' f f' before now told ran caused done quiet = inl refl
run_ends (Err (Decode fault)) options tells tree l l' f f' before now told ran caused done quiet =
    absurd (never_stops _ ran.calls _ (ap (λ (seen : Seen). ending (script_run tree seen)) (sym (whole_seen tree options tells l f)) ∙ done) (ran.whole told))
run_ends (Err (TooLong s)) options tells tree l l' f f' before now told ran caused done quiet =
    absurd (never_stops _ ran.calls _ (ap (λ (seen : Seen). ending (script_run tree seen)) (sym (whole_seen tree options tells l f)) ∙ done) (ran.whole told))
run_ends (Err (AcquireFault s)) options tells tree l l' f f' before now told ran caused done quiet = absurd (quiet caused)
run_ends (Err (ReadFault s)) options tells tree l l' f f' before now told ran caused done quiet = absurd (quiet caused)
run_ends (Err (WriteFault s)) options tells tree l l' f f' before now told ran caused done quiet = absurd (quiet caused)
run_ends (Err (CloseFault s)) options tells tree l l' f f' before now told ran caused done quiet = absurd (quiet caused)
run_ends (Err NoMemory) options tells tree l l' f f' before now told ran caused done quiet = inr refl

pub caused_origin : (answer : Result (Unit {0}) RunFault) (before now : ℕ) → IsCaused before now answer → HasOrigin before now (cause_of_run answer)
caused_origin (Ok x) before now caused = caused
caused_origin (Err (Decode fault)) before now caused = tt
caused_origin (Err (TooLong s)) before now caused = tt
caused_origin (Err (AcquireFault s)) before now caused = caused
caused_origin (Err (ReadFault s)) before now caused = caused
caused_origin (Err (WriteFault s)) before now caused = caused
caused_origin (Err (CloseFault s)) before now caused = caused
caused_origin (Err NoMemory) before now caused = tt

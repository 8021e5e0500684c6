-- What a call and a fault make of a run from one outside to another.
use Rattle.std.proofs.Common.{◌≡◌, ℕ, ◌+◌, ◌-◌, ◌≤◌, ◌<◌, List, [], ◌∷◌, ◌++◌, length, map, take, drop, Result, Ok, Err, refl, ap, sym, ◌∙◌, subst, arith, append_assoc, length-drop, length-take}
use Rattle.std.specs.Prelude.{Contains, IsTrue}
use Rattle.std.proofs.lemmas.List.{map-append, take_all, take-append-drop, drop-drop, drop_all, append-nil}
use Rattle.cd_meaning.specs.Stream.{Halt, Halts, Effect, Open as OpenSite, Put, Close}
use Rattle.cd_meaning.specs.Run.{start, Run, Ends}
use Rattle.cd_meaning.specs.RunShapes.{Seen}
use Rattle.cd_meaning.specs.Places.{Place}
use Rattle.cd_world.specs.declared.event.Descriptor.{Descriptor}
use Rattle.cd_world.specs.declared.event.Event.{Event}
use Rattle.cd_world.specs.declared.event.Event.TheVariants.{OpenFailed, Wrote, WriteFailed, Closed, CloseFailed}
use Rattle.cd_world.specs.declared.world.WorldError.{WorldError}
use Rattle.cd_world.specs.declared.world.WorldError.TheVariants.{Failed, NoMemory as NoSpace}
use Rattle.cd_world.specs.declared.world.CloseFailed.{CloseFailed as CloseRefused}
use Rattle.cd_world.specs.Events.{opening, wrote}
use Rattle.cd_world.specs.Files.{after_open, ClosesFile}
use Rattle.cd_elem.specs.declared.site.Site.{Site}
use Rattle.cd_run.specs.declared.fault.RunFault.{RunFault}
use Rattle.cd_run.specs.declared.fault.RunFault.TheVariants.{AcquireFault, WriteFault, CloseFault as CloseFaulted, NoMemory}
use Rattle.cd_scope.specs.declared.errors.CloseFault.{CloseFault}
use Rattle.cd_scope.specs.declared.table.Held.{Held}
use Rattle.cd_scope.specs.Uses.{use_at, name_at, HasFile, WritesAt}
use Rattle.cd_scope.specs.Calls.{Call, Opening, Refusing, Writing, Losing, Closing, Sticking, event, over, effects_of, does, did, held_at, without, opens}
use Rattle.cd_scope.specs.Due.{Setting, Due, Fits, GoesOn, Clean, IsNext}
use Rattle.cd_run.specs.Going.{Outside, Going, AreSeparate, Filed, files_seen}
use Rattle.cd_run.specs.Ends.{EndsBy, FailsBy, EndsIn, HaltsSo, StopsSo, Faulted}
use Rattle.cd_scope.specs.Table.{ClosesWith, IsNew, closing, open_of}
use Rattle.cd_scope.proofs.Openings.{not_opened}
use Rattle.cd_scope.proofs.Lists.{each_snoc}
use Rattle.cd_scope.proofs.Further.{open_snoc, does_does}
use Rattle.cd_run.proofs.Running.{over_files, stands_call}
use Rattle.cd_run.proofs.Opened.{was_opened, gave_none}
use Rattle.cd_run.proofs.FileSteps.{IsQuiet, quiet_counted, Leaves, leaves_filed, opening_filed, closing_filed}

pub logged : (place : ℕ → Place) (l0 l l' : List Event) (cs : List Call) (c : Call) → l ≡ l0 ++ map (event place) cs → l' ≡ l ++ event place c ∷ [] → l' ≡ l0 ++ map (event place) (cs ++ c ∷ [])
logged place l0 l l' cs c e more = more ∙ ap (λ t. t ++ event place c ∷ []) e ∙ append_assoc l0 _ _ ∙ ap (λ t. l0 ++ t) (sym (map-append (event place) cs (c ∷ [])))

module _ {left : List ℕ} (g : Setting) (m : Seen → Run) (t : List Held) (todo : Seen → Seen → Run) (w0 w : Outside) where
  -- a call that does what is due, and reads nothing
  pub going_quiet : (t' : List Held) (w' : Outside) (c : Call) → IsQuiet c → (G : Going g m t left (λ all z. does (effects_of c) (todo all z)) w0 w) → w'.log ≡ w.log ++ event g.place c ∷ []
      → Due m G.calls c → Fits g G.calls c → GoesOn G.calls c → opens c t ≡ t' → (IsTrue g.tells → Filed g G.calls t w0.files w.files → Filed g (G.calls ++ c ∷ []) t' w0.files w'.files)
      → Going g m t' left todo w0 w'
  going_quiet t' w' c q G log due fits fine after files = record {
    calls = G.calls ++ c ∷ [];
    log = logged g.place w0.log w.log w'.log G.calls c G.log log;
    due = each_snoc (Due m) G.calls c G.due due;
    fits = each_snoc (Fits g) G.calls c G.fits fits;
    clean = each_snoc GoesOn G.calls c G.clean fine;
    standing = open_snoc G.calls c ∙ ap (opens c) G.standing ∙ after;
    stands = λ z. stands_call m todo c G.calls G.stands z ∙ ap (λ y. did (G.calls ++ c ∷ []) (todo (over (G.calls ++ c ∷ []) z) y)) (q.on z);
    once = G.once;
    counted = quiet_counted c q G.calls g left G.counted;
    filed = λ tells. files tells (G.filed tells);
  }

  -- a call that failed
  pub faulted_in : (t' : List Held) (w' : Outside) (c : Call) (f : RunFault) → (G : Going g m t left (λ all z. does (effects_of c) (todo all z)) w0 w) → w'.log ≡ w.log ++ event g.place c ∷ []
      → Due m G.calls c → Fits g G.calls c → opens c t ≡ t' → ((calls : List Call) → EndsIn calls c → FailsBy f calls) → ((calls : List Call) → IsNext m calls [] → EndsBy f m calls)
      → ((r : Run) (calls : List Call) → StopsSo f r calls) → Faulted g m f t' w0 w'
  faulted_in t' w' c f G log due fits after fails ends whole = record {
    calls = G.calls ++ c ∷ [];
    log = logged g.place w0.log w.log w'.log G.calls c G.log log;
    due = each_snoc (Due m) G.calls c G.due due;
    fits = each_snoc (Fits g) G.calls c G.fits fits;
    standing = open_snoc G.calls c ∙ ap (opens c) G.standing ∙ after;
    failed = fails (G.calls ++ c ∷ []) (record { front = G.calls; calls_are = refl; clean = G.clean });
    ends = ends (G.calls ++ c ∷ []) (λ z. (_, stands_call m todo c G.calls G.stands z));
    whole = λ tells. whole (m (files_seen g w0)) (G.calls ++ c ∷ []);
  }

  -- refused for want of memory
  pub refused : (w' : Outside) → (G : Going g m t left todo w0 w) → w'.log ≡ w.log → Faulted g m NoMemory t w0 w'
  refused w' G same = record { calls = G.calls; log = same ∙ G.log; due = G.due; fits = G.fits; standing = G.standing; failed = G.clean; ends = λ z. (_, G.stands z); whole = λ tells. tt }

  pub refused_by : (w' : Outside) (listed : WorldError → List Event) (e : WorldError) → e ≡ NoSpace → listed NoSpace ≡ [] → (G : Going g m t left todo w0 w) → w'.log ≡ w.log ++ listed e → Faulted g m NoMemory t w0 w'
  refused_by w' listed e is none G log = refused w' G (log ∙ ap (λ (x : WorldError). w.log ++ listed x) is ∙ ap (λ (l : List Event). w.log ++ l) none ∙ append-nil w.log)

  -- what is left stops
  pub stopped : (f : RunFault) (h : Halt) → ((calls : List Call) → Clean calls → FailsBy f calls) → ((calls : List Call) → HaltsSo m calls h → EndsBy f m calls)
      → ((r : Run) (calls : List Call) → r ≡ did calls (Ends start (Halts h)) → StopsSo f r calls) → ((all z : Seen) → todo all z ≡ Ends start (Halts h))
      → Going g m t left todo w0 w → Faulted g m f t w0 w
  stopped f h fails ends over_whole stops G = record {
    calls = G.calls;
    log = G.log;
    due = G.due;
    fits = G.fits;
    standing = G.standing;
    failed = fails G.calls G.clean;
    ends = ends G.calls (λ z. G.stands z ∙ ap (did G.calls) (stops (over G.calls z) z));
    whole = λ tells. over_whole (m (files_seen g w0)) G.calls (over_files g m t left todo w0 w tells G ∙ ap (did G.calls) (stops (files_seen g w0) _));
  }

  -- ---- opens and closes

  pub open_step : (w' : Outside) (s : ℕ) (d : Descriptor) → Going g m t left (λ all z. does (OpenSite s ∷ []) (todo all z)) w0 w → w'.log ≡ w.log ++ opening (use_at (g.place s)) (name_at (g.place s)) d ∷ []
      → HasFile (g.place s) → (IsTrue g.tells → w'.files ≡ after_open (use_at (g.place s)) (name_at (g.place s)) (Ok d) w.files) → IsNew d t → Going g m (t ++ held_at s d ∷ []) left todo w0 w'
  open_step w' s d G log file files new =
      let q : IsQuiet (Opening s d) = record { given = λ x. refl; marks = λ x n. refl; on = λ z. refl } in
      going_quiet (t ++ held_at s d ∷ []) w' (Opening s d) q G log (λ z. (_, G.stands z)) file (λ is. is) refl
      (λ tells old. opening_filed (Opening s d) q g G.calls t s d w0.files w.files w'.files old file (files tells) new
      (λ k has. λ (e : k.site.0 ≡ s). not_opened m G.once G.calls s (λ z. (_, G.stands z)) k.descriptor (subst (λ x. Contains G.calls (Opening x k.descriptor)) e (was_opened G.calls k (subst (λ l. Contains l k) (sym G.standing) has))))
      (λ name reads. gave_none g s name reads G.calls G.fits (not_opened m G.once G.calls s (λ z. (_, G.stands z)))))

  pub open_fails : (w' : Outside) (site : Site) → Going g m t left (λ all z. does (OpenSite site.0 ∷ []) (todo all z)) w0 w → w'.log ≡ w.log ++ OpenFailed (name_at (g.place site.0)) ∷ [] → HasFile (g.place site.0)
      → Faulted g m (AcquireFault site) t w0 w'
  open_fails w' site G log file = record {
    calls = G.calls ++ Refusing site.0 ∷ [];
    log = logged g.place w0.log w.log w'.log G.calls (Refusing site.0) G.log log;
    due = each_snoc (Due m) G.calls (Refusing site.0) G.due (λ z. (_, G.stands z));
    fits = each_snoc (Fits g) G.calls (Refusing site.0) G.fits file;
    standing = open_snoc G.calls (Refusing site.0) ∙ G.standing;
    failed = record { front = G.calls; calls_are = refl; clean = G.clean };
    ends = λ z. (_, stands_call m (λ all z. does (OpenSite site.0 ∷ []) (todo all z)) (Refusing site.0) G.calls G.stands z);
    whole = λ tells. tt;
  }

  pub close_step : {T : Type 0} (w' : Outside) (s : ℕ) (d : Descriptor) (result : Result T CloseRefused) → Going g m t left (λ all z. does (Close s ∷ []) (todo all z)) w0 w → w'.log ≡ w.log ++ Closed d ∷ []
      → Contains t (held_at s d) → (IsTrue g.tells → ClosesFile (open_of g.place (held_at s d)) result w.files w'.files) → Going g m (without s d t) left todo w0 w'
  close_step w' s d result G log there files =
      let q : IsQuiet (Closing s d) = record { given = λ x. refl; marks = λ x n. refl; on = λ z. refl } in
      going_quiet (without s d t) w' (Closing s d) q G log (λ z. (_, G.stands z)) (subst (λ l. Contains l (held_at s d)) (sym G.standing) there) (λ is. is) refl
      (λ tells old. closing_filed (Closing s d) q g G.calls t s d result w0.files w.files w'.files old there (files tells))

  pub close_fails : (w' : Outside) (site : Site) (d : Descriptor) → Going g m t left (λ all z. does (Close site.0 ∷ []) (todo all z)) w0 w → w'.log ≡ w.log ++ CloseFailed d ∷ []
      → Contains t (held_at site.0 d) → Faulted g m (CloseFaulted site) (without site.0 d t) w0 w'
  close_fails w' site d G log there =
      faulted_in (without site.0 d t) w' (Sticking site.0 d) (CloseFaulted site) G log (λ z. (_, G.stands z)) (subst (λ l. Contains l (held_at site.0 d)) (sym G.standing) there) refl (λ calls is. (d, is)) (λ calls next. next) (λ r calls. tt)

  -- the same to be done
  pub going_same : (other : Seen → Seen → Run) → ((all z : Seen) → todo all z ≡ other all z) → Going g m t left todo w0 w → Going g m t left other w0 w
  going_same other same G = record {
    calls = G.calls;
    log = G.log;
    due = G.due;
    fits = G.fits;
    clean = G.clean;
    standing = G.standing;
    stands = λ z. G.stands z ∙ ap (did G.calls) (same (over G.calls z) z);
    once = G.once;
    counted = G.counted;
    filed = G.filed;
  }

  -- ---- writes

  put_step : (w' : Outside) (s : ℕ) (d : Descriptor) (bytes : List ℕ) → 0 < length bytes → Going g m t left (λ all z. does (map (Put s) bytes) (todo all z)) w0 w → w'.log ≡ w.log ++ Wrote d bytes ∷ []
      → WritesAt (g.place s) d.0 (Contains t (held_at s d)) → (IsTrue g.tells → AreSeparate g.place → Leaves g.place w.files w'.files) → Going g m t left todo w0 w'
  put_step w' s d bytes some G log at files =
      let q : IsQuiet (Writing s d bytes) = record { given = λ x. refl; marks = λ x n. refl; on = λ z. refl } in
      going_quiet t w' (Writing s d bytes) q G log (λ z. (_, G.stands z)) (subst (λ l. WritesAt (g.place s) d.0 (Contains l (held_at s d))) (sym G.standing) at, some) (λ is. is) refl
      (λ tells old. leaves_filed (Writing s d bytes) q G.calls g t w0.files w.files w'.files (files tells old.separate) old)

  pub write_fails_at : (w' : Outside) (site : Site) (b : ℕ) (more : List Effect) (d : Descriptor) → Going g m t left (λ all z. does (Put site.0 b ∷ more) (todo all z)) w0 w → w'.log ≡ w.log ++ WriteFailed d ∷ []
      → WritesAt (g.place site.0) d.0 (Contains t (held_at site.0 d)) → Faulted g m (WriteFault site) t w0 w'
  write_fails_at w' site b more d G log at = record {
    calls = G.calls ++ Losing site.0 d ∷ [];
    log = logged g.place w0.log w.log w'.log G.calls (Losing site.0 d) G.log log;
    due = each_snoc (Due m) G.calls (Losing site.0 d) G.due (b, λ z. (_, G.stands z));
    fits = each_snoc (Fits g) G.calls (Losing site.0 d) G.fits (subst (λ l. WritesAt (g.place site.0) d.0 (Contains l (held_at site.0 d))) (sym G.standing) at);
    standing = open_snoc G.calls (Losing site.0 d) ∙ G.standing;
    failed = (d, record { front = G.calls; calls_are = refl; clean = G.clean });
    ends = λ z. (_, stands_call m (λ all z. does (Put site.0 b ∷ more) (todo all z)) (Losing site.0 d) G.calls G.stands z);
    whole = λ tells. tt;
  }

-- what is due of a chunk, after one write more
puts_front : (s done count : ℕ) (bytes : List ℕ) → map (Put s) (drop done bytes) ≡ map (Put s) (take count (take (length bytes - done) (drop done bytes))) ++ map (Put s) (drop (done + count) bytes)
puts_front s done count bytes =
    let whole = take_all (length bytes - done) (drop done bytes) (omega (arith, length-drop done bytes)) in
    ap (map (Put s)) (sym (take-append-drop count (drop done bytes)))
    ∙ map-append (Put s) (take count (drop done bytes)) (drop count (drop done bytes))
    ∙ ap (λ l. map (Put s) (take count l) ++ map (Put s) (drop count (drop done bytes))) (sym whole)
    ∙ ap (λ l. map (Put s) (take count (take (length bytes - done) (drop done bytes))) ++ map (Put s) l) (drop-drop count done bytes)

puts_first : (s done : ℕ) (bytes : List ℕ) → done < length bytes → (b : ℕ) × (more : List ℕ) × (map (Put s) (drop done bytes) ≡ Put s b ∷ map (Put s) more)
puts_first s done bytes lt = first (drop done bytes) (omega (arith, length-drop done bytes)) where
  first : (l : List ℕ) → 0 < length l → (b : ℕ) × (more : List ℕ) × (map (Put s) l ≡ Put s b ∷ map (Put s) more)
  first [] lt = absurd (omega (arith, lt))
  first (b ∷ l) lt = (b, l, refl)

-- what a write of a chunk has still to do
abbrev pub puts_left : ℕ → ℕ → List ℕ → (Seen → Seen → Run) → Seen → Seen → Run
puts_left s done bytes todo all z = does (map (Put s) (drop done bytes)) (todo all z)

module _ {left : List ℕ} (g : Setting) (m : Seen → Run) (t : List Held) (todo : Seen → Seen → Run) (w0 w w' : Outside) (site : Site) (d : Descriptor) (done : ℕ) (bytes : List ℕ)
    (at : WritesAt (g.place site.0) d.0 (Contains t (held_at site.0 d))) (G : Going g m t left (puts_left site.0 done bytes todo) w0 w) where
  pub write_step : (count : ℕ) → 0 < count → count ≤ length (take (length bytes - done) (drop done bytes)) → w'.log ≡ w.log ++ Wrote d (take count (take (length bytes - done) (drop done bytes))) ∷ []
      → (IsTrue g.tells → AreSeparate g.place → Leaves g.place w.files w'.files) → Going g m t left (puts_left site.0 (done + count) bytes todo) w0 w'
  write_step count some within log files =
      put_step g m t (puts_left site.0 (done + count) bytes todo) w0 w w' site.0 d (take count (take (length bytes - done) (drop done bytes))) (let n = length-take count (take (length bytes - done) (drop done bytes)) in omega (arith, some, within, n))
      (going_same g m t (puts_left site.0 done bytes todo) w0 w (λ all z. does (map (Put site.0) (take count (take (length bytes - done) (drop done bytes)))) (puts_left site.0 (done + count) bytes todo all z))
      (λ all z. ap (λ es. does es (todo all z)) (puts_front site.0 done count bytes) ∙ does_does _ _ (todo all z)) G) log at files

  pub write_fails : (e : WorldError) → e ≡ Failed → done < length bytes → w'.log ≡ w.log ++ wrote d [] (Err e) → Faulted g m (WriteFault site) t w0 w'
  write_fails e is lt log =
      let f = puts_first site.0 done bytes lt in
      write_fails_at g m t todo w0 w w' site f.0 (map (Put site.0) f.1) d
      (going_same g m t (puts_left site.0 done bytes todo) w0 w (λ all z. does (Put site.0 f.0 ∷ map (Put site.0) f.1) (todo all z)) (λ all z. ap (λ es. does es (todo all z)) f.2) G)
      (log ∙ ap (λ (x : WorldError). w.log ++ wrote d [] (Err x)) is) at

  pub write_done : length bytes ≤ done → Going g m t left todo w0 w
  write_done le = going_same g m t (puts_left site.0 done bytes todo) w0 w todo (λ all z. ap (λ (l : List ℕ). does (map (Put site.0) l) (todo all z)) (drop_all done bytes le)) G

-- ---- a close of what is in the table

module _ {left : List ℕ} (g : Setting) (m : Seen → Run) (t t' : List Held) (todo : Seen → Seen → Run) (w0 w w' : Outside) (site : Site) (d : Descriptor) (out : t' ≡ without site.0 d t)
    (has : Contains t (held_at site.0 d)) (G : Going g m t left (λ all z. does (Close site.0 ∷ []) (todo all z)) w0 w) where
  pub closes_well : (T : Type 0) (x : T) → w'.log ≡ w.log ++ event g.place (closing {T = T} {E = CloseFault} site.0 d (Ok x)) ∷ [] → (IsTrue g.tells → ClosesWith {T = T} (open_of g.place (held_at site.0 d)) (Ok x) w.files w'.files) → Going g m t' left todo w0 w'
  closes_well T x log files = subst (λ l. Going g m l left todo w0 w') (sym out) (close_step g m t todo w0 w w' site.0 d (Ok x) G log has files)

  pub closes_badly : (T : Type 0) (e : CloseFault) → w'.log ≡ w.log ++ event g.place (closing {T = T} site.0 d (Err e)) ∷ [] → Faulted g m (CloseFaulted site) t' w0 w'
  closes_badly T e log = subst (λ l. Faulted g m (CloseFaulted site) l w0 w') (sym out) (close_fails g m t todo w0 w w' site d G log has)

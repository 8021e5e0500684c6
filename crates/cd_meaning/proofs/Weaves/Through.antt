-- A run fed into a word that reads one value after another: each output is replaced by what the word does on it.
use Rattle.std.proofs.Common.{◌≡◌, ℕ, List, [], ◌∷◌, Option, Some, None, refl, ap, sym, ◌∙◌, arith}
use Rattle.cd_meaning.specs.Stream.{Item, Value, Stop, Ended, Ending, Done, Halts, Act, Out, Do}
use Rattle.cd_meaning.specs.Run.{Stamp, stamp, Run, Then, Ends, outs, end_of, acts_at, restamp}
use Rattle.cd_meaning.specs.Fusion.{fuse_at}
use Rattle.cd_meaning.specs.Laws.{Rising, less_by}
use Rattle.cd_meaning.specs.Scan.{Reply, Go, Back, Fail, Scan, at_ready, replied, closed, scan}
use Rattle.cd_meaning.proofs.Restamp.{restamp_twice, restamp_acts}
use Rattle.cd_meaning.proofs.Weaves.Steps.{fuse_up_emits, fuse_up_does, fuse_ended, fuse_needs}
use Rattle.cd_meaning.proofs.Runs.Scans.{scan_rising, scan_asks, acts_rising, closed_rising, later, scan_later, scan_ready}

abbrev pub ready_at : Option Value → Stamp → Run → Run
ready_at (Some v) s r = Ends s (Done v)
ready_at None s r = r

abbrev pub replied_at : {S : Type 0} → Stamp → Reply S → (S → Run) → Run
replied_at s (Go acts st) k = acts_at s acts (k st)
replied_at s (Back v) k = Ends s (Done v)
replied_at s (Fail f) k = Ends s (Halts (Stop f))

abbrev pub closed_at : Stamp → List Act → Ending → Ending → Run
closed_at s acts v (Done u) = acts_at s acts (Ends s v)
closed_at s acts v (Halts h) = Ends s (Halts h)

-- the word carries st, and stands behind this run, of which the last output had the stamp s
abbrev pub through : {S : Type 0} → Scan S → Stamp → S → Run → Run
through w s st (Then t (Out x) r) = ready_at (w.ready st) s (replied_at t (w.step st x) (λ st'. through w t st' r))
through w s st (Then t (Do e) r) = ready_at (w.ready st) s (Then t (Do e) (through w s st r))
through w s st (Ends t e) = ready_at (w.ready st) s (closed_at t (w.close st) (w.ending st) e)

fuse_down_all : (s : Stamp) (k : ℕ) (acts : List Act) (a b : Run) → fuse_at s a (acts_at (stamp 0 k) acts b) ≡ acts_at s acts (fuse_at s a b)
fuse_down_all s k [] a b = refl
fuse_down_all s k (x ∷ acts) a b = ap (λ r. Then s x r) (fuse_down_all s k acts a b)

-- one value more was asked for
one_later : (s : Stamp) (a b : Run) → fuse_at s a (restamp (less_by 1) (restamp later b)) ≡ fuse_at s a b
one_later s a b = ap (fuse_at s a) (restamp_twice (less_by 1) later b) ∙ fuse_needs (λ t. less_by 1 (later t)) s a b (λ t. omega arith)

at_ready_is : (s : Stamp) (o : Option Value) (a b q : Run) → fuse_at s a b ≡ q → fuse_at s a (at_ready o 0 b) ≡ ready_at o s q
at_ready_is s (Some v) a b q h = refl
at_ready_is s None a b q h = h

restamp_closed : (t : Stamp) (acts : List Act) (v : Ending) → restamp (λ u. t) (acts_at (stamp 1 0) acts (Ends (stamp 1 0) v)) ≡ acts_at t acts (Ends t v)
restamp_closed t acts v = restamp_acts (λ u. t) (stamp 1 0) acts (Ends (stamp 1 0) v)

ends_is : (s t : Stamp) (acts : List Act) (v e : Ending) → fuse_at s (Ends t e) (closed 0 acts v (end_of (Ends t e))) ≡ closed_at t acts v e
ends_is s t acts v (Done u) = fuse_ended s t (Done u) _ (closed_rising 0 acts v Ended) ∙ restamp_closed t acts v
ends_is s t acts v (Halts h) = refl

module _ {S : Type 0} (w : Scan S) where
  reply_is : (s t : Stamp) (x : Item) (r : Run) (p : Reply S) (k q : S → Run) → ((st : S) → Rising 1 (k st)) → ((st : S) → fuse_at t r (restamp (less_by 1) (k st)) ≡ q st)
      → fuse_at s (Then t (Out x) r) (replied 0 p k) ≡ replied_at t p q
  reply_is s t x r (Go acts st) k q h1 h2 =
      fuse_up_emits s t (x ∷ []) r (acts_at (stamp 1 1) acts (k st)) (acts_rising 1 (stamp 1 1) acts (k st) (omega arith) (h1 st))
      ∙ ap (fuse_at t r) (restamp_acts (less_by 1) (stamp 1 1) acts (k st))
      ∙ fuse_down_all t 1 acts r _ ∙ ap (acts_at t acts) (h2 st)
  reply_is s t x r (Back v) k q h1 h2 = refl
  reply_is s t x r (Fail f) k q h1 h2 = refl

  -- the weave of any run with a scan
  pub fuse_scan : (s : Stamp) (st : S) (r : Run) → fuse_at s r (scan w 0 st (outs r) (end_of r)) ≡ through w s st r
  fuse_scan s st (Then t (Out x) r) =
      at_ready_is s (w.ready st) (Then t (Out x) r) _ _
      (reply_is s t x r (w.step st x) _ _ (λ st'. scan_rising w 1 st' (outs r) (end_of r))
      (λ st'. ap (λ b. fuse_at t r (restamp (less_by 1) b)) (scan_later w 0 st' (outs r) (end_of r)) ∙ one_later t r _ ∙ fuse_scan t st' r))
  fuse_scan s st (Then t (Do e) r) = by_ready (w.ready st) refl (fuse_scan s st r) where
    by_ready : (o : Option Value) → w.ready st ≡ o → fuse_at s r (scan w 0 st (outs r) (end_of r)) ≡ through w s st r
        → fuse_at s (Then t (Do e) r) (scan w 0 st (outs r) (end_of r)) ≡ ready_at (w.ready st) s (Then t (Do e) (through w s st r))
    by_ready (Some v) h k = ap (fuse_at s (Then t (Do e) r)) (scan_ready w 0 st (outs r) (end_of r) v h) ∙ sym (ap (λ o. ready_at o s (Then t (Do e) (through w s st r))) h)
    by_ready None h k =
        fuse_up_does s t e r _ (scan_asks w 0 st (outs r) (end_of r) h) ∙ ap (λ q. Then t (Do e) q) k
        ∙ sym (ap (λ o. ready_at o s (Then t (Do e) (through w s st r))) h)
  fuse_scan s st (Ends t e) = at_ready_is s (w.ready st) (Ends t e) _ _ (ends_is s t (w.close st) (w.ending st) e)

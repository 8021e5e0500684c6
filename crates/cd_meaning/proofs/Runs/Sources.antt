-- Sources and sinks are runs.
use Rattle.std.proofs.Common.{◌≡◌, ℕ, suc, ◌+◌, ◌≤◌, List, [], ◌∷◌, ◌++◌, length, map, refl, ap, sym, ◌∙◌, subst, arith}
use Rattle.cd_meaning.specs.Stream.{Item, Elem, Value, End, Ended, Halted, Done, Act, Do, Open, Close}
use Rattle.cd_meaning.specs.Run.{Stamp, stamp, start, Run, Then, Ends, Component, acts_at, outs_at}
use Rattle.cd_meaning.specs.RunShapes.{each, Mark, AtEnd, MayGoOn, Broken, TooLong, Told}
use Rattle.cd_meaning.specs.Sources.{source_end, source_file, stdin, given, puts, stdout, closing, sink_file}
use Rattle.cd_meaning.specs.Laws.{Rising, EachStamp, IsStamp, IsRun}
use Rattle.cd_meaning.specs.Scan.{Go, Scan, closed, scan}
use Rattle.cd_meaning.proofs.Stamps.{each_stamp}
use Rattle.cd_meaning.proofs.Cut.{cut_act, cut_all, AtMost}
use Rattle.cd_meaning.proofs.Weaves.Laws.{start_is}
use Rattle.cd_meaning.proofs.Runs.Shapes.{is_run_as, never, each_is_run, each_scan, each_is_scan}

-- ---- sources, which ask for nothing

abbrev pub AtStart : Stamp → Type 0
AtStart s = s ≡ start

pub start_rising : (r : Run) → EachStamp AtStart r → Rising 0 r
start_rising (Then s a r) h = (omega arith, subst (λ q. Rising q.need r) (sym h.0) (start_rising r h.1))
start_rising (Ends s e) h = omega arith

start_each : (P : Stamp → Type 0) (r : Run) → P start → EachStamp AtStart r → EachStamp P r
start_each P r p h = each_stamp AtStart P r (λ s k. subst P (sym k) p) h

pub source_is_run : (r : Run) → EachStamp AtStart r → IsRun (λ xs e. r)
source_is_run r h = record {
  rising = λ xs e. start_rising r h;
  stamps = λ xs e. start_each (IsStamp (length xs)) r (start_is (length xs)) h;
  known = λ xs ys x e. sym (cut_all (length xs) x r (start_each (AtMost (length xs)) r (zero_le (length xs)) h));
} where
  zero_le : (n : ℕ) → 0 ≤ n
  zero_le n = omega arith

pub outs_start : (xs : List Item) (r : Run) → EachStamp AtStart r → EachStamp AtStart (outs_at start xs r)
outs_start [] r h = h
outs_start (x ∷ xs) r h = (refl, outs_start xs r h)

acts_start : (acts : List Act) (r : Run) → EachStamp AtStart r → EachStamp AtStart (acts_at start acts r)
acts_start [] r h = h
acts_start (a ∷ acts) r h = (refl, acts_start acts r h)

pub source_end_start : (s : ℕ) (acts : List Act) (m : Mark) → EachStamp AtStart (source_end s acts m)
source_end_start s acts AtEnd = acts_start acts _ refl
source_end_start s acts MayGoOn = refl
source_end_start s acts Broken = refl
source_end_start s acts TooLong = refl

pub source_file_is_run : (s : ℕ) (t : Told) → IsRun (source_file s t)
source_file_is_run s t =
    let closes = Do (Close s) ∷ [] in
    source_is_run _ (refl, outs_start (map Elem t.bytes) (source_end s closes t.mark) (source_end_start s closes t.mark))

pub stdin_is_run : (s : ℕ) (t : Told) → IsRun (stdin s t)
stdin_is_run s t = source_is_run _ (outs_start (map Elem t.bytes) (source_end s [] t.mark) (source_end_start s [] t.mark))

pub given_is_run : (xs : List Item) → IsRun (given xs)
given_is_run xs = source_is_run _ (outs_start xs _ refl)

-- ---- sinks

pub stdout_is_scan : (s : ℕ) (xs : List Item) (e : End) → stdout s xs e ≡ scan (each_scan (puts s)) 0 tt xs e
stdout_is_scan s = each_is_scan (puts s)

pub stdout_is_run : (s : ℕ) → IsRun (stdout s)
stdout_is_run s = each_is_run (puts s)

-- an act that stands before all else
pub opened_is_run : (a : Act) (f : Component) → IsRun f → IsRun (λ xs e. Then start a (f xs e))
opened_is_run a f k = record {
  rising = λ xs e. (omega arith, k.rising xs e);
  stamps = λ xs e. (start_is (length xs), k.stamps xs e);
  known = λ xs ys h e. ap (Then start a) (k.known xs ys h e) ∙ sym (cut_act (length xs) h start a (f (xs ++ ys) e) (omega arith));
}

-- what a sink does once its file is open
abbrev pub sink_file_scan : ℕ → Scan (Unit {0})
sink_file_scan s = record { ready = never; step = λ t x. Go (puts s x) tt; close = λ t. Do (Close s) ∷ []; ending = λ t. Done Value.Unit }

closing_is : (s i : ℕ) (e : End) → closing s i e ≡ closed i (Do (Close s) ∷ []) (Done Value.Unit) e
closing_is s i Ended = refl
closing_is s i (Halted h) = refl

sink_file_is : (s i : ℕ) (xs : List Item) (e : End) (n : ℕ) → n ≡ i + length xs → each (puts s) i xs (closing s n e) ≡ scan (sink_file_scan s) i tt xs e
sink_file_is s i [] e n h = (let k : n ≡ i = omega (arith, h) in rw k (closing_is s i e))
sink_file_is s i (x ∷ xs) e n h = ap (acts_at (stamp (suc i) (suc i)) (puts s x)) (sink_file_is s (suc i) xs e n (omega (arith, h)))

-- it opens its file, and is a scan from there on
pub sink_file_is_scan : (s : ℕ) (xs : List Item) (e : End) → sink_file s xs e ≡ Then start (Do (Open s)) (scan (sink_file_scan s) 0 tt xs e)
sink_file_is_scan s xs e = ap (Then start (Do (Open s))) (sink_file_is s 0 xs e (length xs) (omega arith))

pub sink_file_is_run : (s : ℕ) → IsRun (sink_file s)
sink_file_is_run s = opened_is_run (Do (Open s)) _ (is_run_as _ (sink_file_scan s) tt (λ xs e. sink_file_is s 0 xs e (length xs) (omega arith)))

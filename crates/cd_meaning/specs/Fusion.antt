-- Fusion: whole runs, put together by index.
use Rattle.std.specs.Prelude.{ℕ, zero, suc, nat_lt, if◌then◌else◌, List, length, take, drop}
use Rattle.cd_meaning.specs.Stream.{Item, Value, absent, present, Ending, Done, Halts, Out, Do}
use Rattle.cd_meaning.specs.Run.{Stamp, start, Run, Then, Ends, Component, outs, ending, end_of}

-- A[j] is what stands in a up to and with its j-th Out, and all of a where it has fewer.

-- the effects of A[j], and r behind them
abbrev pub effects_to : ℕ → Run → Run → Run
effects_to zero a r = r
effects_to (suc j) (Then s (Out x) a) r = effects_to j a r
effects_to (suc j) (Then s (Do e) a) r = Then s (Do e) (effects_to (suc j) a r)
effects_to (suc j) (Ends s e) r = r

-- the effects of A[j] that are not in A[i], and r behind them
abbrev pub between : ℕ → ℕ → Run → Run → Run
between zero j a r = effects_to j a r
between (suc i) zero a r = r
between (suc i) (suc j) (Then s (Out x) a) r = between i j a r
between (suc i) (suc j) (Then s (Do e) a) r = between (suc i) (suc j) a r
between (suc i) (suc j) (Ends s e) r = r

-- what stands behind A[j]
abbrev pub after : ℕ → Run → Run
after zero a = a
after (suc j) (Then s (Out x) a) = after j a
after (suc j) (Then s (Do e) a) = after (suc j) a
after (suc j) (Ends s e) = Ends s e

-- the stamp of A[j], where that of A[0] is s
abbrev pub place : Stamp → ℕ → Run → Stamp
place s zero a = s
place s (suc j) (Then t (Out x) a) = place t j a
place s (suc j) (Then t (Do e) a) = place s (suc j) a
place s (suc j) (Ends t e) = t

-- b's acts and b's ending in order. Before each of need j stand those effects of A[j] that are not in A[i],
-- where i is the need before. Each gets the stamp that at gives for its need; finish says what a Done becomes.
abbrev pub woven : (ℕ → Stamp) → (Stamp → Value → Run) → Run → ℕ → Run → Run
woven at finish a i (Then t act b) = between i t.need a (Then (at t.need) act (woven at finish a t.need b))
woven at finish a i (Ends t (Done v)) = between i t.need a (finish t v)
woven at finish a i (Ends t (Halts h)) = between i t.need a (Ends (at t.need) (Halts h))

-- b's run on a's outputs
abbrev pub fed : Run → Component → Run
fed a b = b (outs a) (end_of a)

-- plain fusion, where the stamp of A[0] is s
abbrev pub fuse_at : Stamp → Run → Run → Run
fuse_at s a b = woven (λ j. place s j a) (λ t v. Ends (place s t.need a) (Done v)) a 0 b

abbrev pub fuse : Component → Component → Component
fuse a b xs e = fuse_at start (a xs e) (fed (a xs e) b)

-- ---- `|=`

-- the weave with b's own stamps
abbrev pub kept_stamps : Run → ℕ → Run → Run
kept_stamps a i (Then t act b) = between i t.need a (Then t act (kept_stamps a t.need b))
kept_stamps a i (Ends t e) = between i t.need a (Ends t e)

abbrev pub fuse_keep : Component → Component → Component
fuse_keep a b xs e = let r = a xs e in kept_stamps r 0 (fed r b)

-- ---- results: what the weave's Done becomes

-- the weave of r and b, where b's Done is as finish says
abbrev pub fuse_by : (Run → Stamp → Value → Run) → Component → Component → Component
fuse_by finish a b xs e = let r = a xs e in woven (λ j. place start j r) (finish r) r 0 (fed r b)

-- the outputs after the k-th and up to the j-th
abbrev pub outs_between : ℕ → ℕ → Run → List Item
outs_between k j a = drop k (take j (outs a))

-- `|+`: list is what a list of a's outputs is as a result
abbrev pub returned : (List Item → Value) → Run → Stamp → Value → Run
returned list r t v = Ends (place start t.need r) (Done (Value.Pair v (list (outs_between t.net t.need r))))

abbrev pub fuse_return : (List Item → Value) → Component → Component → Component
fuse_return list = fuse_by (returned list)

-- the effects of a, and its ending with the value that pair makes of its own
abbrev pub drain : (Value → Value) → Run → Run
drain pair (Then s (Out x) a) = drain pair a
drain pair (Then s (Do e) a) = Then s (Do e) (drain pair a)
drain pair (Ends s (Done v)) = Ends s (Done (pair v))
drain pair (Ends s (Halts h)) = Ends s (Halts h)

abbrev pub drained : (Value → Value → Value) → Run → Stamp → Value → Run
drained pair r t v = drain (λ u. pair u v) (after t.need r)

abbrev pub fuse_drained : (Value → Value → Value) → Component → Component → Component
fuse_drained pair = fuse_by (drained pair)

-- both values, the first alone, the second alone
abbrev pub both : Value → Value → Value
both Value.Unit Value.Unit = Value.Unit
both u v = Value.Pair u v

abbrev pub first_value : Value → Value → Value
first_value u v = u

abbrev pub second_value : Value → Value → Value
second_value u v = v

-- `|&` and `|<`
abbrev pub fuse_both : Component → Component → Component
fuse_both = fuse_drained both

abbrev pub fuse_up : Component → Component → Component
fuse_up = fuse_drained first_value

-- `|?`: b asked for j of n outputs
abbrev pub asked : ℕ → ℕ → Ending → Value → Value
asked j n (Done u) v = Value.Pair (if nat_lt n j then present u else absent) v
asked j n (Halts h) v = Value.Pair absent v

abbrev pub told : Run → Stamp → Value → Run
told r t v = Ends (place start t.need r) (Done (asked t.need (length (outs r)) (ending r) v))

abbrev pub fuse_asked : Component → Component → Component
fuse_asked = fuse_by told

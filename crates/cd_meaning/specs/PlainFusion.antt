-- Fusion as the rules say it, by A[j]: what stands in a run up to and with its j-th output. `Fusion` has it in the form that proofs use.
use Rattle.std.specs.Prelude.{ℕ, zero, suc, nat_le, Bool, true, false, not, if◌then◌else◌, List, [], ◌∷◌, length, drop, take, ◌+◌}
use Rattle.std.specs.List.{filter}
use Rattle.cd_meaning.specs.Stream.{Item, Value, Ending, Done, Halts, Act, Out, Do}
use Rattle.cd_meaning.specs.Run.{Stamp, start, Run, Then, Ends, Component, outs, last, ending}
use Rattle.cd_meaning.specs.Fusion.{asked, fed}

pub record ActAt : Type 0 where
  pub stamp : Stamp
  pub act : Act

abbrev pub act_at : Stamp → Act → ActAt
act_at s a = record { stamp = s; act = a }

abbrev pub acts : Run → List ActAt
acts (Then s a r) = act_at s a ∷ acts r
acts (Ends s e) = []

abbrev pub is_out : Act → Bool
is_out (Out x) = true
is_out (Do e) = false

-- A[j], of the acts of a: none for 0, those up to and with the j-th output, and all where there are fewer outputs
abbrev pub up_to : ℕ → List ActAt → List ActAt
up_to zero all = []
up_to (suc j) [] = []
up_to (suc j) (a ∷ more) = a ∷ up_to (if is_out a.act then j else suc j) more

-- its effects
abbrev pub effects_up_to : ℕ → Run → List ActAt
effects_up_to j a = filter (λ x. not (is_out x.act)) (up_to j (acts a))

-- the stamp of the last of these, or this one where there is none
abbrev pub last_stamp : Stamp → List ActAt → Stamp
last_stamp s [] = s
last_stamp s (a ∷ more) = last_stamp a.stamp more

-- the stamp of A[j]: (0, 0) for 0, that of the j-th output, and that of a's ending where there are fewer
abbrev pub stamp_up_to : ℕ → Run → Stamp
stamp_up_to j a = if nat_le j (length (outs a)) then last_stamp start (up_to j (acts a)) else last a

-- these acts with their stamps, and what comes behind them
abbrev pub with_acts : List ActAt → Run → Run
with_acts [] r = r
with_acts (a ∷ more) r = Then a.stamp a.act (with_acts more r)

-- those effects of A[j] that are not there yet, where so many are
abbrev pub due : ℕ → ℕ → Run → Run → Run
due there j a r = with_acts (drop there (effects_up_to j a)) r

-- What b does, in order, where so many effects of a are there: before each act and before the ending of need j stand those that are due by A[j]. Each stamp becomes what at says, and finish says what a Done becomes.
abbrev pub in_order : (Stamp → Stamp) → (Stamp → Value → Run) → Run → ℕ → Run → Run
in_order at finish a there (Then t act b) = due there t.need a (Then (at t) act (in_order at finish a (length (effects_up_to t.need a)) b))
in_order at finish a there (Ends t (Done v)) = due there t.need a (finish t v)
in_order at finish a there (Ends t (Halts h)) = due there t.need a (Ends (at t) (Halts h))

-- each stamp is that of A[j]
abbrev pub plain_fuse_by : (Run → Stamp → Value → Run) → Component → Component → Component
plain_fuse_by finish a b xs e = let r = a xs e in in_order (λ t. stamp_up_to t.need r) (finish r) r 0 (fed r b)

-- `|`
abbrev pub plain_fuse : Component → Component → Component
plain_fuse = plain_fuse_by (λ r t v. Ends (stamp_up_to t.need r) (Done v))

-- `|=`: with b's own stamps
abbrev pub plain_fuse_keep : Component → Component → Component
plain_fuse_keep a b xs e = let r = a xs e in in_order (λ t. t) (λ t v. Ends t (Done v)) r 0 (fed r b)

-- `|+`: with the list of a's outputs behind the k-th and up to the j-th, where b is done at (j, k)
abbrev pub plain_fuse_return : (List Item → Value) → Component → Component → Component
plain_fuse_return list = plain_fuse_by (λ r t v. Ends (stamp_up_to t.need r) (Done (Value.Pair v (list (drop t.net (take t.need (outs r)))))))

-- `|?`: with a's value, where it is done and b asked for one output more than there are
abbrev pub plain_fuse_asked : Component → Component → Component
plain_fuse_asked = plain_fuse_by (λ r t v. Ends (stamp_up_to t.need r) (Done (asked t.need (length (outs r)) (ending r) v)))

-- the ending, with what becomes of a value
abbrev pub with_value : (Value → Value) → Ending → Ending
with_value f (Done v) = Done (f v)
with_value f (Halts h) = Halts h

-- `|&`, `|<` and sections: where b is done at j, all effects of a that are not in A[j], and a's ending, with a's stamps
abbrev pub plain_fuse_drained : (Value → Value → Value) → Component → Component → Component
plain_fuse_drained pair =
    plain_fuse_by (λ r t v. due (length (effects_up_to t.need r)) (length (outs r) + 1) r (Ends (last r) (with_value (λ u. pair u v) (ending r))))

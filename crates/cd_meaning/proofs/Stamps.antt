-- Stamps of a run.
use Rattle.std.proofs.Common.{suc, ◌≤◌, List}
use Rattle.cd_meaning.specs.Stream.{Item, End}
use Rattle.cd_meaning.specs.Run.{Stamp, Run, Then, Ends, Component, last, restamp}
use Rattle.cd_meaning.specs.Laws.{EachStamp, IsRun}

pub each_stamp : (P Q : Stamp → Type 0) (r : Run) → ((s : Stamp) → P s → Q s) → EachStamp P r → EachStamp Q r
each_stamp P Q (Then s a r) f k = (f s k.0, each_stamp P Q r f k.1)
each_stamp P Q (Ends s e) f k = f s k

pub each_restamp : (P Q : Stamp → Type 0) (f : Stamp → Stamp) (r : Run) → ((s : Stamp) → P s → Q (f s)) → EachStamp P r → EachStamp Q (restamp f r)
each_restamp P Q f (Then s a r) g k = (g s k.0, each_restamp P Q f r g k.1)
each_restamp P Q f (Ends s e) g k = g s k

pub each_last : (P : Stamp → Type 0) (r : Run) → EachStamp P r → P (last r)
each_last P (Then s a r) k = each_last P r k.1
each_last P (Ends s e) k = k

-- at each point at most one value more was asked for than was taken
pub need_bound : (f : Component) → IsRun f → (xs : List Item) (e : End) → EachStamp (λ s. s.need ≤ suc s.net) (f xs e)
need_bound f k xs e = each_stamp _ _ (f xs e) (λ s p. p.one_back) (k.stamps xs e)

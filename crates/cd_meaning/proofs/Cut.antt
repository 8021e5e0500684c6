-- What is known of a run.
use Rattle.std.proofs.Common.{◌≡◌, ℕ, suc, ◌≤◌, arith}
use Rattle.std.proofs.lemmas.Bool.{le-leb, lt-leb}
use Rattle.cd_meaning.specs.Stream.{Halt, Ending, Halts, Act}
use Rattle.cd_meaning.specs.Run.{Stamp, stamp, Run, Then, Ends, last}
use Rattle.cd_meaning.specs.Laws.{Rising, cut, EachStamp}

pub cut_act : (n : ℕ) (h : Halt) (s : Stamp) (a : Act) (r : Run) → s.need ≤ n → cut n h (Then s a r) ≡ Then s a (cut n h r)
cut_act n h s a r k = rw (le-leb s.need n k)

pub cut_last : (n : ℕ) (h : Halt) (s : Stamp) (e : Ending) → s.need ≤ n → cut n h (Ends s e) ≡ Ends s e
cut_last n h s e k = rw (le-leb s.need n k)

-- nothing of a run that asks for more is known
pub cut_none : (n : ℕ) (h : Halt) (r : Run) → Rising (suc n) r → cut n h r ≡ Ends (stamp (suc n) n) (Halts h)
cut_none n h (Then s a r) k = rw (lt-leb s.need n k.0)
cut_none n h (Ends s e) k = rw (lt-leb s.need n k)

abbrev pub AtMost : ℕ → Stamp → Type 0
AtMost n s = s.need ≤ n

-- all is known of a run that asks for no more
pub cut_all : (n : ℕ) (h : Halt) (r : Run) → EachStamp (AtMost n) r → cut n h r ≡ r
cut_all n h (Then s a r) k = rw (le-leb s.need n k.0, cut_all n h r k.1)
cut_all n h (Ends s e) k = rw (le-leb s.need n k)

-- the ending has the largest need
pub at_most_last : (n m : ℕ) (r : Run) → Rising m r → (last r).need ≤ n → EachStamp (AtMost n) r
at_most_last n m (Then s a r) k h = (le_last s.need r n k.1 h, at_most_last n s.need r k.1 h) where
  le_last : (m : ℕ) (r : Run) (n : ℕ) → Rising m r → (last r).need ≤ n → m ≤ n
  le_last m (Then s a r) n k h = (let k0 = k.0 in let i = le_last s.need r n k.1 h in omega arith)
  le_last m (Ends s e) n k h = omega arith
at_most_last n m (Ends s e) k h = h

-- A zip of sinks where one part is quiet: a chunk of any length may be given to one part after the other.
use Rattle.std.proofs.Common.{◌≡◌, ℕ, suc, ◌+◌, ◌-◌, ◌≤◌, ◌<◌, ◌⊎◌, inl, inr, max, List, [], ◌++◌, length, refl, ap, sym, ◌∙◌, subst, arith, length-append}
use Rattle.std.proofs.lemmas.Bool.{le-leb, lt-leb, cases_lt}
use Rattle.std.proofs.lemmas.List.{append-nil}
use Rattle.cd_meaning.specs.Stream.{Item, Halt, End, Halted, Ending, Done, Halts, Act}
use Rattle.cd_meaning.specs.Run.{Stamp, stamp, Run, Then, Ends, Component, restamp}
use Rattle.cd_meaning.specs.Zips.{merge}
use Rattle.cd_meaning.specs.Fusion.{both}
use Rattle.cd_meaning.specs.Laws.{cut, less_by, EachStamp, IsRun}
use Rattle.cd_meaning.specs.Rest.{Rest, needs, view, past_by, Moves, Gets, reads_first, pending, zipped}
use Rattle.cd_meaning.proofs.Restamp.{restamp_same, stamp_same}
use Rattle.cd_meaning.proofs.Zips.Runs.{OneMore}
use Rattle.cd_meaning.proofs.Zips.Moves.{merge_same}

-- no acts, and it stops only where its input of n values does
abbrev pub Quiet : ℕ → Run → Type 0
Quiet n (Then s a r) = ⊥
Quiet n (Ends s (Done v)) = Unit {0}
Quiet n (Ends s (Halts h)) = s.need ≡ suc n

-- no act needs more than n values
abbrev pub Within : ℕ → Run → Type 0
Within n (Then s a r) = (s.need ≤ n) × Within n r
Within n (Ends s e) = Unit {0}

-- where the first stops, the second one has no later act
abbrev pub StopsBehind : ℕ → Run → Run → Type 0
StopsBehind n (Then s a d) r = ⊥
StopsBehind n (Ends s (Done v)) r = Unit {0}
StopsBehind n (Ends s (Halts h)) r = Within n r

-- so it is where the input stops
pub within_halted : (f : Component) → IsRun f → (xs : List Item) (h : Halt) → Within (length xs) (f xs (Halted h))
within_halted f k xs h = subst (Within (length xs)) (sym (k.known xs [] h (Halted h))) (within_cut (length xs) h (f (xs ++ []) (Halted h))) where
  within_cut : (n : ℕ) (h : Halt) (r : Run) → Within n (cut n h r)
  within_cut n h (Then s a r) = by_need n h s a r (within_cut n h r) (cases_lt n s.need) where
    by_need : (n : ℕ) (h : Halt) (s : Stamp) (a : Act) (r : Run) → Within n (cut n h r) → (n < s.need) ⊎ (s.need ≤ n) → Within n (cut n h (Then s a r))
    by_need n h s a r i (inl l) = rw (lt-leb s.need n l) tt
    by_need n h s a r i (inr l) = rw (le-leb s.need n l) (l, i)
  within_cut n h (Ends s e) = by_need n h s e (cases_lt n s.need) where
    by_need : (n : ℕ) (h : Halt) (s : Stamp) (e : Ending) → (n < s.need) ⊎ (s.need ≤ n) → Within n (cut n h (Ends s e))
    by_need n h s e (inl l) = rw (lt-leb s.need n l) tt
    by_need n h s e (inr l) = rw (le-leb s.need n l) tt

-- ---- k values are in hand: of the merge on k and n values, where one side is quiet, needs are lowered as those of its parts

then_needs : (i j : ℕ) (x : Act) (p q : Run) → view needs p ≡ view needs q → view needs (Then (stamp i j) x p) ≡ view needs (Then (stamp i 0) x q)
then_needs i j x p q e = ap (Then (stamp i 0) x) e

pub merge_less_second : (k n : ℕ) (r d : Run) → Quiet (k + n) d → EachStamp (OneMore (k + n)) r
    → view needs (restamp (less_by k) (merge (k + n) r d)) ≡ view needs (merge n (restamp (less_by k) r) (restamp (less_by k) d))
merge_less_second k n r (Then t y d) q j = absurd q
merge_less_second k n (Then s x r) (Ends t (Done v)) q j = ap (Then (stamp (s.need - k) 0) x) (merge_less_second k n r (Ends t (Done v)) q j.1)
merge_less_second k n (Ends s (Done u)) (Ends t (Done v)) q j =
    (let e : max s.need t.need - k ≡ max (s.need - k) (t.need - k) = omega arith in ap (λ i. Ends (stamp i 0) (Done (both u v))) e)
merge_less_second k n (Ends s (Halts g)) (Ends t (Done v)) q j = refl
merge_less_second k n (Then s x r) (Ends t (Halts h)) q j =
    (let j0 = j.0 in
    rw (le-leb s.need t.need (omega (arith, q)), le-leb (s.need - k) (t.need - k) (omega (arith, q)))
    (ap (Then (stamp (s.need - k) 0) x) (merge_less_second k n r (Ends t (Halts h)) q j.1)))
merge_less_second k n (Ends s (Done u)) (Ends t (Halts h)) q j = refl
merge_less_second k n (Ends s (Halts g)) (Ends t (Halts h)) q j =
    rw (le-leb s.need t.need (omega (arith, q)), le-leb (s.need - k) (t.need - k) (omega (arith, q)))

pub merge_less_first : (k n : ℕ) (d r : Run) → Quiet (k + n) d → StopsBehind (k + n) d r → EachStamp (OneMore (k + n)) r
    → view needs (restamp (less_by k) (merge (k + n) d r)) ≡ view needs (merge n (restamp (less_by k) d) (restamp (less_by k) r))
merge_less_first k n (Then s x d) r q w j = absurd q
merge_less_first k n (Ends s (Done u)) (Then t y r) q w j = ap (Then (stamp (t.need - k) 0) y) (merge_less_first k n (Ends s (Done u)) r q tt j.1)
merge_less_first k n (Ends s (Done u)) (Ends t (Done v)) q w j =
    (let e : max s.need t.need - k ≡ max (s.need - k) (t.need - k) = omega arith in ap (λ i. Ends (stamp i 0) (Done (both u v))) e)
merge_less_first k n (Ends s (Done u)) (Ends t (Halts g)) q w j = refl
merge_less_first k n (Ends s (Halts h)) (Then t y r) q w j =
    (let w0 = w.0 in
    rw (lt-leb s.need t.need (omega (arith, q)), lt-leb (s.need - k) (t.need - k) (omega (arith, q)))
    (ap (Then (stamp (t.need - k) 0) y) (merge_less_first k n (Ends s (Halts h)) r q w.1 j.1)))
merge_less_first k n (Ends s (Halts h)) (Ends t (Done v)) q w j = refl
merge_less_first k n (Ends s (Halts h)) (Ends t (Halts g)) q w j = by_need k n s t h g q (cases_lt t.need s.need) where
  by_need : (k n : ℕ) (s t : Stamp) (h g : Halt) → s.need ≡ suc (k + n) → (t.need < s.need) ⊎ (s.need ≤ t.need)
      → view needs (restamp (less_by k) (merge (k + n) (Ends s (Halts h)) (Ends t (Halts g)))) ≡ view needs (merge n (Ends (less_by k s) (Halts h)) (Ends (less_by k t) (Halts g)))
  by_need k n s t h g q (inl l) = rw (lt-leb s.need t.need l, lt-leb (s.need - k) (t.need - k) (omega (arith, q)))
  by_need k n s t h g q (inr l) = rw (le-leb s.need t.need l, le-leb (s.need - k) (t.need - k) (omega arith))

-- ---- a chunk is in hand: the first part takes it, and it waits for the second one

first_is_less : (k : ℕ) (r : Run) → restamp (reads_first 0 k) r ≡ restamp (less_by k) r
first_is_less k r = restamp_same (reads_first 0 k) (less_by k) r (λ s. stamp_same (max 0 (s.need - k)) (s.need - k) s.net s.net (omega arith) refl)

needs_past : (k : ℕ) (r : Run) → view needs (restamp (past_by k) r) ≡ view needs r
needs_past k (Then s a r) = ap (Then (stamp s.need 0) a) (needs_past k r)
needs_past k (Ends s (Done v)) = refl
needs_past k (Ends s (Halts h)) = refl

-- one of both is quiet
abbrev pub OneQuiet : ℕ → Run → Run → Type 0
OneQuiet n a b = (Quiet n b × EachStamp (OneMore n) a) ⊎ (Quiet n a × StopsBehind n a b × EachStamp (OneMore n) b)

merge_less : (k n : ℕ) (a b : Run) → OneQuiet (k + n) a b → view needs (restamp (less_by k) (merge (k + n) a b)) ≡ view needs (merge n (restamp (less_by k) a) (restamp (less_by k) b))
merge_less k n a b (inl q) = merge_less_second k n a b q.0 q.1
merge_less k n a b (inr q) = merge_less_first k n a b q.0 q.1 q.2

pub zip_chunk_given : (c : List Item) (a a' b : Rest) → ((ys : List Item) (e : End) → OneQuiet (length c + length ys) (a.run (c ++ ys) e) (b.run (c ++ ys) e)) → Gets needs c a a'
    → Moves needs [] (pending c 0 (zipped 0 a b)) (zipped 0 a' (pending c 0 b))
zip_chunk_given c a a' b q m = record {
  read = c;
  unread = sym (append-nil c);
  floor = refl;
  run = λ ys e i.
      let k = length c in
      let n = length ys in
      let ra = a.run (c ++ ys) e in
      let rb = b.run (c ++ ys) e in
      ap (view needs) (first_is_less k (merge (length (c ++ ys)) ra rb) ∙ ap (λ j. restamp (less_by k) (merge j ra rb)) (length-append c ys))
      ∙ merge_less k n ra rb (q ys e)
      ∙ ap (view needs) (merge_same n (restamp (less_by k) ra) (a'.run ys e) (restamp (less_by k) rb) (restamp (reads_first 0 k) rb) (sym (m.run ys e)) (ap (view needs) (sym (first_is_less k rb))))
      ∙ sym (needs_past k (merge n (a'.run ys e) (restamp (reads_first 0 k) rb)));
}

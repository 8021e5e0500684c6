-- What a suspended component still does, and how each of its moves changes that.
use Rattle.std.specs.Prelude.{◌≡◌, ℕ, zero, suc, ◌+◌, ◌-◌, max, Bool, true, false, List, [], ◌++◌, length, take, drop, map, Option, Some, None}
use Rattle.cd_meaning.specs.Stream.{Item, Value, Halt, End, Ended, Halted, Done, Halts, Act, Do, Close}
use Rattle.cd_meaning.specs.Run.{Stamp, stamp, start, Run, Then, Ends, Component, outs, ending, last, outs_at, acts_at, restamp, follow}
use Rattle.cd_meaning.specs.Zips.{merge, paired, zip_runs}
use Rattle.cd_meaning.specs.Laws.{Rising, less_by}
use Rattle.cd_meaning.specs.Fusion.{woven, place, after, drain, asked, fuse_at, fed}

-- The run of what is left, on the unread values and further values behind them.
-- A need counts the further values alone, and is at least the floor: 1 once the end was told, else 0.
-- A net counts the unread and the further values.
pub record Rest : Type 0 where
  pub unread : List Item
  pub floor : ℕ
  pub run : Component

-- What is compared of two runs beside acts, endings and needs: all nets, where the input is of pieces,
-- and the net of Done, where the part is exact.
pub record Grade : Type 0 where
  pub pieces : Bool
  pub exact : Bool

-- the same, and the net of the ending
abbrev pub to_end : Grade → Grade
to_end g = record { pieces = g.pieces; exact = true }

-- all nets, or none
abbrev pub nets : Bool → Grade
nets b = record { pieces = b; exact = b }

-- needs alone
abbrev pub needs : Grade
needs = nets false

abbrev pub net_if : Bool → Stamp → Stamp
net_if true s = s
net_if false s = stamp s.need 0

-- another stamp for each, and one of its own for Done
abbrev pub restamp_by : (Stamp → Stamp) → (Stamp → Stamp) → Run → Run
restamp_by f h (Then s a r) = Then (f s) a (restamp_by f h r)
restamp_by f h (Ends s (Done v)) = Ends (h s) (Done v)
restamp_by f h (Ends s (Halts x)) = Ends (f s) (Halts x)

-- what is compared of a run
abbrev pub view : Grade → Run → Run
view g = restamp_by (net_if g.pieces) (net_if g.exact)

-- what may still come to a part: anything, or once the end was told nothing
abbrev pub IsToCome : ℕ → List Item → End → Type 0
IsToCome zero ys e = Unit {0}
IsToCome (suc n) ys e = (ys ≡ []) × (e ≡ Ended)

-- n unread values were read
abbrev pub past_by : ℕ → Stamp → Stamp
past_by n s = stamp s.need (n + s.net)

-- p acts so, reads some of its unread values, and goes on as q. With no acts, p and q mean the same.
pub record Moves (g : Grade) (acts : List Act) (p q : Rest) : Type 0 where
  pub read : List Item
  pub unread : p.unread ≡ read ++ q.unread
  pub floor : q.floor ≡ p.floor
  pub run : (ys : List Item) (e : End) → IsToCome p.floor ys e → view g (p.run ys e) ≡ view g (acts_at (stamp p.floor (length read)) acts (restamp (past_by (length read)) (q.run ys e)))

-- p is given further values, and goes on as q
pub record Gets (g : Grade) (c : List Item) (p q : Rest) : Type 0 where
  pub unread : q.unread ≡ p.unread ++ c
  pub not_told : p.floor ≡ 0
  pub floor : q.floor ≡ 0
  pub run : (ys : List Item) (e : End) → view g (q.run ys e) ≡ view g (restamp (less_by (length c)) (p.run (c ++ ys) e))

-- p is told that there is no further value, and goes on as q
pub record GetsEnd (g : Grade) (p q : Rest) : Type 0 where
  pub unread : q.unread ≡ p.unread
  pub floor : q.floor ≡ 1
  pub run : view g (q.run [] Ended) ≡ view g (p.run [] Ended)

-- p asks for a further value before all else
pub record Asks (p : Rest) : Type 0 where
  pub not_told : p.floor ≡ 0
  pub first : (ys : List Item) (e : End) → Rising 1 (p.run ys e)
  pub halted : (h : Halt) → (net : ℕ) × (p.run [] (Halted h) ≡ Ends (stamp 1 net) (Halts h))

-- p ends with this value, and gives back the rest of what is unread
pub record Finishes (g : Grade) (v : Value) (rest : List Item) (p : Rest) : Type 0 where
  pub read : List Item
  pub unread : p.unread ≡ read ++ rest
  pub run : (ys : List Item) (e : End) → IsToCome p.floor ys e → view g (p.run ys e) ≡ view g (Ends (stamp p.floor (length read)) (Done v))

-- p goes no further: it has met a fault, or nothing more is known of a site that it reads
pub record Stuck (h : Halt) (p : Rest) : Type 0 where
  pub run : (ys : List Item) (e : End) → IsToCome p.floor ys e → (net : ℕ) × (p.run ys e ≡ Ends (stamp p.floor net) (Halts h))

-- ---- trees

-- plain fusion of two suspended parts
abbrev pub fused : Rest → Rest → Rest
fused a b = record {
  unread = a.unread;
  floor = a.floor;
  run = λ ys e. fuse_at (stamp a.floor 0) (a.run ys e) (fed (a.run ys e) b.run);
}

-- plain fusion where upstream has ended, and gave this back
abbrev pub fused_ended : List Item → ℕ → Rest → Rest
fused_ended back floor b = record { unread = back; floor = floor; run = λ ys e. restamp (λ s. stamp floor 0) (b.run [] Ended) }

-- a sequence whose second part has not begun
abbrev pub behind_rest : ℕ → Stamp → Stamp → Stamp
behind_rest k s t = stamp (max s.need ((s.net + t.need) - k)) (s.net + t.net)

abbrev pub followed : Rest → Component → Rest
followed a b = record {
  unread = a.unread;
  floor = a.floor;
  run = λ ys e. follow (a.run ys e) (λ s v. restamp (behind_rest (length a.unread) s) (b (drop s.net (a.unread ++ ys)) e));
}

-- a part that reads c before the input of the whole, whose floor is f
abbrev pub reads_first : ℕ → ℕ → Stamp → Stamp
reads_first f n t = stamp (max f (t.need - n)) t.net

abbrev pub pending : List Item → ℕ → Rest → Rest
pending c f p = record { unread = p.unread ++ c; floor = f; run = λ ys e. restamp (reads_first f (length c)) (p.run (c ++ ys) e) }

-- a part that has not begun
abbrev pub fresh : Component → Rest
fresh b = record { unread = []; floor = 0; run = b }

-- ---- result fusions: where b is Done v at need j, the whole is as finish says

abbrev pub weave_by : (Stamp → Run → ℕ → Value → Run) → Stamp → Run → Run → Run
weave_by finish s a b = woven (λ j. place s j a) (λ t v. finish s a t.need v) a 0 b

abbrev pub fused_by : (Stamp → Run → ℕ → Value → Run) → Rest → Rest → Rest
fused_by finish a b = record {
  unread = a.unread;
  floor = a.floor;
  run = λ ys e. weave_by finish (stamp a.floor 0) (a.run ys e) (fed (a.run ys e) b.run);
}

abbrev pub plain_finish : Stamp → Run → ℕ → Value → Run
plain_finish s a j v = Ends (place s j a) (Done v)

abbrev pub drained_finish : (Value → Value → Value) → Stamp → Run → ℕ → Value → Run
drained_finish pair s a j v = drain (λ u. pair u v) (after j a)

abbrev pub asked_finish : Stamp → Run → ℕ → Value → Run
asked_finish s a j v = Ends (place s j a) (Done (asked j (length (outs a)) (ending a) v))

-- b has ended, and a is run to its own end
abbrev pub draining : (Value → Value) → Rest → Rest
draining pair a = record { unread = a.unread; floor = a.floor; run = λ ys e. drain pair (a.run ys e) }

-- a has ended, and b goes on to a value of which pair makes the whole's
abbrev pub ended_with : (Value → Value) → List Item → ℕ → Rest → Rest
ended_with pair back floor b = record {
  unread = back;
  floor = floor;
  run = λ ys e. follow (restamp (λ s. stamp floor 0) (b.run [] Ended)) (λ s v. Ends s (Done (pair v)));
}

-- ---- `|+`

-- the value that v is made into, with the list of what b was given and did not take: u was unread before, and b ended at t on a's outputs
abbrev pub return_finish : (List Item → Value) → List Item → Stamp → Run → Stamp → Value → Run
return_finish list u s a t v = Ends (place s t.need a) (Done (Value.Pair v (list (drop t.net (u ++ take t.need (outs a))))))

abbrev pub fused_return : (List Item → Value) → Rest → Rest → Rest
fused_return list a b = record {
  unread = a.unread;
  floor = a.floor;
  run = λ ys e.
      let s = stamp a.floor 0 in
      let r = a.run ys e in
      woven (λ j. place s j r) (return_finish list b.unread s r) r 0 (fed r b.run);
}

-- a has ended, and b goes on
abbrev pub ended_return : (List Item → Value) → List Item → ℕ → Rest → Rest
ended_return list back floor b = record {
  unread = back;
  floor = floor;
  run = λ ys e.
      let r = b.run [] Ended in
      follow (restamp (λ s. stamp floor 0) r) (λ s v. Ends s (Done (Value.Pair v (list (drop (last r).net b.unread)))));
}

-- ---- `|=`

-- a part behind the map f, which g undoes: what it gives back is undone
abbrev pub behind_map : (Item → Item) → (Item → Item) → Rest → Rest
behind_map f g p = record { unread = map g p.unread; floor = p.floor; run = λ ys e. p.run (map f ys) e }

-- ---- `mark`

-- the closing of site s, and the value behind it
abbrev pub closes_mark : ℕ → Stamp → Value → Run
closes_mark s t v = Then t (Do (Close s)) (Ends t (Done v))

-- a body whose site is open
abbrev pub marking : ℕ → Rest → Rest
marking s p = record { unread = p.unread; floor = p.floor; run = λ ys e. follow (p.run ys e) (closes_mark s) }

-- a part that has only its value to tell
abbrev pub over : Value → List Item → ℕ → Rest
over v back floor = record { unread = back; floor = floor; run = λ ys e. Ends (stamp floor 0) (Done v) }

-- ---- sealed sources

-- what is left of the source a behind a sink that ended at t, with u unread by the sink before: what it gave back, and what it did not ask for
abbrev pub source_left : List Item → Run → Stamp → Run
source_left u a t = outs_at start (drop t.net (u ++ take t.need (outs a))) (after t.need a)

-- ---- zips on pieces: leftovers stay within their part

abbrev pub zipped : ℕ → Rest → Rest → Rest
zipped f a b = record { unread = []; floor = f; run = λ ys e. merge (length ys) (a.run ys e) (b.run ys e) }

-- ---- `zipSource`: both parts on nothing

-- given is the piece that the first part gave and the second one has not met yet
abbrev pub zip_at : List ℕ → Option Item → Run → Run → Run
zip_at separator None a b = zip_runs separator a b
zip_at separator (Some x) a b = paired separator x (zip_runs separator a) b

abbrev pub zipped_sources : List ℕ → Option Item → Rest → Rest → Rest
zipped_sources separator given a b = record { unread = []; floor = 0; run = λ ys e. zip_at separator given (a.run [] Ended) (b.run [] Ended) }

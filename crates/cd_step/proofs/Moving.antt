-- Moves of parts, one after another, and what an input that is taken in says.
use Rattle.std.proofs.Common.{◌≡◌, ℕ, ◌+◌, Bool, true, false, ◌||◌, List, [], length, refl, ap, sym, ◌∙◌, subst}
use Rattle.cd_meaning.specs.Stream.{Item, Value, Halt, Done, Halts, Act}
use Rattle.cd_meaning.specs.Run.{Stamp, stamp, Run, Then, Ends, last, restamp}
use Rattle.cd_meaning.specs.Rest.{Rest, Grade, nets, needs, net_if, view, IsToCome, past_by, Moves, Gets, GetsEnd, Finishes, Stuck}
use Rattle.cd_meaning.specs.RunShapes.{Told, Seen}
use Rattle.cd_meaning.specs.Values.{value_meaning}
use Rattle.cd_meaning.proofs.Restamp.{restamp_id}
use Rattle.cd_meaning.proofs.Moves.Laws.{past_by_0, net_if_twice}
use Rattle.cd_meaning.proofs.Moves.Fused.{IsGrade}
use Rattle.cd_meaning.proofs.Moves.Plain.{finishes_after}
use Rattle.cd_meaning.proofs.Moves.Scans.{moves_after}
use Rattle.cd_step.specs.declared.protocol.Move.{Move}
use Rattle.cd_step.specs.declared.protocol.Move.TheVariants.{Emit, Need, Done as Finished, Fault as Faulted}
use Rattle.cd_step.specs.declared.protocol.Input.TheVariants.{Chunk as Given, End as TheEnd}
use Rattle.cd_meaning.specs.Known.{known, nothing_known}
use Rattle.cd_step.specs.Parts.{Chunk, Part, rest, items, rest_items, fed, IsOf, Takes, Goes, Goes_on, IsGiven, Kept, Had, IsSound, AreApart}
use Rattle.cd_step.specs.Flows.{Same, Says}

-- ---- what is compared by the one grade is compared by the other

abbrev pub Sees : Grade → Grade → Type 0
Sees g g' = (r : Run) → view g' (view g r) ≡ view g' r

pub none_of : (b : Bool) (s : Stamp) → net_if false (net_if b s) ≡ net_if false s
none_of true s = refl
none_of false s = refl

pub needs_seen : (g : Grade) → Sees g needs
needs_seen g (Then s a r) = rw (none_of g.pieces s, needs_seen g r)
needs_seen g (Ends s (Done v)) = rw (none_of g.exact s)
needs_seen g (Ends s (Halts h)) = rw (none_of g.pieces s)

pub nets_seen : (g : Grade) → IsGrade g → Sees g (nets g.pieces)
nets_seen g k (Then s a r) = rw (net_if_twice g.pieces s, nets_seen g k r)
nets_seen g k (Ends s (Done v)) = rw (k s)
nets_seen g k (Ends s (Halts h)) = rw (net_if_twice g.pieces s)

lower_net : (b b' : Bool) (s : Stamp) → (b' ≡ true → b ≡ true) → net_if b' (net_if b s) ≡ net_if b' s
lower_net true b' s h = refl
lower_net false true s h = absurd (let e : false ≡ true = h refl in cc)
lower_net false false s h = refl

-- a grade that compares no more sees no more
pub lower_seen : (g g' : Grade) → (g'.pieces ≡ true → g.pieces ≡ true) → (g'.exact ≡ true → g.exact ≡ true) → Sees g g'
lower_seen g g' h k (Then s a r) = rw (lower_net g.pieces g'.pieces s h, lower_seen g g' h k r)
lower_seen g g' h k (Ends s (Done v)) = rw (lower_net g.exact g'.exact s k)
lower_seen g g' h k (Ends s (Halts x)) = rw (lower_net g.pieces g'.pieces s h)

view_by : (g g' : Grade) → Sees g g' → (r r' : Run) → view g r ≡ view g r' → view g' r ≡ view g' r'
view_by g g' s r r' h = sym (s r) ∙ ap (view g') h ∙ s r'

pub moves_by : (g g' : Grade) → Sees g g' → (acts : List Act) (p q : Rest) → Moves g acts p q → Moves g' acts p q
moves_by g g' s acts p q m = record { read = m.read; unread = m.unread; floor = m.floor; run = λ ys e i. view_by g g' s _ _ (m.run ys e i) }

pub finishes_by : (g g' : Grade) → Sees g g' → (v : Value) (r : List Item) (p : Rest) → Finishes g v r p → Finishes g' v r p
finishes_by g g' s v r p m = record { read = m.read; unread = m.unread; run = λ ys e i. view_by g g' s (p.run ys e) (Ends (stamp p.floor (length m.read)) (Done v)) (m.run ys e i) }

-- ---- moves

pub moves_none : (g : Grade) (p : Rest) → Moves g [] p p
moves_none g p = record { read = []; unread = refl; floor = refl; run = λ ys e i. ap (view g) (sym (restamp_id (past_by 0) (p.run ys e) past_by_0)) }

pub gets_fed : (g : Grade) (c : Chunk) (p : Part) (z : Seen) → p.floor ≡ 0 → Gets g (items c) (rest p z) (rest (fed (Given c) p) z)
gets_fed g c p z h = record { unread = refl; not_told = h; floor = refl; run = λ ys e. refl }

pub gets_end_fed : (g : Grade) (p : Part) (z : Seen) → GetsEnd g (rest p z) (rest (fed TheEnd p) z)
gets_end_fed g p z = record { unread = refl; floor = refl; run = refl }

pub moves_gets : (g : Grade) (c : Chunk) (p : Part) (z : Seen) (q : Rest) → Gets g (items c) (rest p z) q → Moves g [] (rest (fed (Given c) p) z) q
moves_gets g c p z q m = record {
  read = [];
  unread = sym m.unread;
  floor = m.floor;
  run = λ ys e i. sym (m.run ys e) ∙ ap (view g) (sym (restamp_id (past_by 0) (q.run ys e) past_by_0));
}

pub moves_gets_end : (g : Grade) (p : Part) (z : Seen) (q : Rest) → GetsEnd g (rest p z) q → Moves g [] (rest (fed TheEnd p) z) q
moves_gets_end g p z q m = record {
  read = [];
  unread = sym m.unread;
  floor = m.floor;
  run = λ ys e i.
      sym m.run
      ∙ ap (λ t. view g (q.run [] t)) (sym i.1)
      ∙ ap (λ l. view g (q.run l e)) (sym i.0)
      ∙ ap (view g) (sym (restamp_id (past_by 0) (q.run ys e) past_by_0));
}

IsHalt : Stamp → Halt → Run → Type 0
IsHalt s h r = (net : ℕ) × (r ≡ Ends (stamp s.need net) (Halts h))

-- a run that looks like one that halts, halts
view_halts : (g : Grade) (r : Run) (s : Stamp) (h : Halt) → view g r ≡ view g (Ends s (Halts h)) → (net : ℕ) × (r ≡ Ends (stamp s.need net) (Halts h))
view_halts g (Then t a r) s h e = absurd (let k = e in cc)
view_halts g (Ends t (Done v)) s h e = absurd (let k = e in cc)
view_halts g (Ends t (Halts j)) s h e = (t.net, let k = need_of g.pieces t s j h e in rw (k.0, k.1) refl) where
  need_of : (b : Bool) (t s : Stamp) (j h : Halt) → Ends (net_if b t) (Halts j) ≡ Ends (net_if b s) (Halts h) → (t.need ≡ s.need) × (j ≡ h)
  need_of true t s j h e = (ap (λ r. (last r).need) e, cc)
  need_of false t s j h e = (ap (λ r. (last r).need) e, cc)

pub stuck_after : (g : Grade) (h : Halt) (p q : Rest) → Moves g [] p q → Stuck h q → Stuck h p
stuck_after g h p q m n = record {
  run = λ ys e i.
      let k = length m.read in
      let w = n.run ys e (subst (λ f. IsToCome f ys e) (sym m.floor) i) in
      let x = view_halts g (p.run ys e) (stamp q.floor (k + w.0)) h (m.run ys e i ∙ ap (λ r. view g (restamp (past_by k) r)) w.1) in
      (x.0, x.1 ∙ ap (λ f. Ends (stamp f x.0) (Halts h)) m.floor);
}

-- ---- parts

pub kept_none : (p : Part) → Kept p p
kept_none p = (refl, refl, refl, refl, refl, λ s d h. h)

pub same_none : (p : Part) → Same p p
same_none p = record { goes = λ z. moves_none p.grade (rest p z); kept = kept_none p }

moves_graded : (g g' : Grade) (acts : List Act) (p q : Rest) → g' ≡ g → Moves g' acts p q → Moves g acts p q
moves_graded g g' acts p q e m = subst (λ x. Moves x acts p q) e m

pub after_acts : (acts : List Act) (p q r : Part) → Same p q → Goes_on acts q r → Goes_on acts p r
after_acts acts p q r s h z = moves_after p.grade acts (rest p z) (rest q z) (rest r z) (s.goes z) (moves_graded p.grade q.grade acts (rest q z) (rest r z) s.kept.0 (h z))

pub kept_after : (p q r : Part) → Kept p q → Kept q r → Kept p r
kept_after p q r h k = (k.0 ∙ h.0, k.1 ∙ h.1, k.2 ∙ h.2, k.3 ∙ h.3, k.4 ∙ h.4, λ s d t. h.5 s d (k.5 s d t))

pub same_after : (p q r : Part) → Same p q → Same q r → Same p r
same_after p q r s t = record { goes = after_acts [] p q r s t.goes; kept = kept_after p q r s.kept t.kept }

pub floor_of : (p q : Part) → Same p q → q.floor ≡ p.floor
floor_of p q s = (s.goes nothing_known).floor

pub goes_after : (m : Move) (p q r : Part) → Same p q → Goes m q r → Goes m p r
goes_after (Emit d) p q r s h = (subst (λ k. IsOf k d) s.kept.2 h.0, record { is_at = h.1.is_at; goes = after_acts _ p q r s h.1.goes })
goes_after Need p q r s h = record { is_at = h.is_at; takes = subst Takes s.kept.3 h.takes; goes = after_acts [] p q r s h.goes; none_unread = h.none_unread; asks = h.asks }
goes_after (Finished v x) p q r s h = record {
  is_at = h.is_at;
  floor = h.floor ∙ floor_of p q s;
  given = subst (λ g. IsGiven g x) s.kept.3 h.given;
  left = h.left;
  finishes = λ z. finishes_after p.grade (value_meaning v) (rest_items x) (rest p z) (rest q z) (s.goes z) (subst (λ g. Finishes g (value_meaning v) (rest_items x) (rest q z)) s.kept.0 (h.finishes z));
}
goes_after (Faulted f) p q r s h = record { is_at = h.is_at; stuck = λ z. stuck_after p.grade _ (rest p z) (rest q z) (s.goes z) (h.stuck z) }

pub says_goes : (m : Move) (p q : Part) → Says m p q → Goes m p q
says_goes (Emit d) p q h = h
says_goes Need p q h = h
says_goes (Finished v x) p q h = absurd h
says_goes (Faulted f) p q h = h

-- ---- sites

pub rest_local : (p : Part) (s : ℕ) (w : Told) (z : Seen) → IsSound p → p.sites s ≡ false → rest p (known s w z) ≡ rest p z
rest_local p s w z h k i = record { unread = p.unread; floor = p.floor; run = h.local s k w z i }

not_both : (x y : Bool) → (x ≡ true → y ≡ false) → y ≡ true → x ≡ false
not_both false y h k = refl
not_both true y h k = absurd (let e = h refl in cc)

pub apart_other : (a b : ℕ → Bool) → AreApart a b → AreApart b a
apart_other a b h s = not_both (a s) (b s) (h s)

-- ---- tickets

or_true : (x y x1 y1 : Bool) → (x1 ≡ true → x ≡ true) → (y1 ≡ true → y ≡ true) → (x1 || y1) ≡ true → (x || y) ≡ true
or_true x y true y1 h k e = rw (h refl) refl
or_true true y false y1 h k e = refl
or_true false y false y1 h k e = k e

pub own_either : (x y u v : Bool) → (x ≡ true → u ≡ true) → (y ≡ true → v ≡ true) → (x || y) ≡ true → (u || v) ≡ true
own_either x y u v h k e = or_true u v x y h k e

pub had_both : (a q b r : Part) → Had a q → Had b r → (s d : ℕ) → (q.tickets s d || r.tickets s d) ≡ true → (a.tickets s d || b.tickets s d) ≡ true
had_both a q b r h k s d e = or_true (a.tickets s d) (b.tickets s d) (q.tickets s d) (r.tickets s d) (h s d) (k s d) e

pub or_first : (x y z : Bool) → ((x || y) || z) ≡ true → (x || (y || z)) ≡ true
or_first true y z h = refl
or_first false y z h = h

pub or_second : (x y z : Bool) → (y || (x || z)) ≡ true → (x || (y || z)) ≡ true
or_second true y z h = refl
or_second false true z h = refl
or_second false false z h = h

pub none_here : (p : Part) (s : ℕ) → IsSound p → p.sites s ≡ false → (d : ℕ) → p.tickets s d ≡ false
none_here p s h e d = lacks (p.tickets s d) (p.sites s) (h.own s d) e where
  lacks : (x y : Bool) → (x ≡ true → y ≡ true) → y ≡ false → x ≡ false
  lacks false y h e = refl
  lacks true y h e = absurd (let k : y ≡ true = h refl in let j : true ≡ false = sym k ∙ e in cc)

pub neither : (x y : Bool) → x ≡ false → y ≡ false → (x || y) ≡ false
neither x y h k = rw (h, k) refl

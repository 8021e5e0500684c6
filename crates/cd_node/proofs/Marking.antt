-- What a bracket does, and what its body does in it, is the next step of the whole.
use Rattle.std.proofs.Common.{◌≡◌, ℕ, ◌+◌, ◌≤◌, ◌==◌, ◌||◌, Bool, true, false, List, [], ◌∷◌, refl, ap, sym, ◌∙◌, subst, Option, Some, None, arith}
use Rattle.std.proofs.lemmas.Bool.{eq-eqb}
use Rattle.cd_elem.specs.declared.value.Value.{Value as Result}
use Rattle.cd_meaning.specs.Known.{known, nothing_known}
use Rattle.cd_meaning.specs.Laws.{Rising}
use Rattle.cd_meaning.specs.Places.{Place, Marks}
use Rattle.cd_meaning.specs.Rest.{Moves, over, marking}
use Rattle.cd_meaning.specs.Run.{last}
use Rattle.cd_meaning.specs.RunShapes.{Told, Seen}
use Rattle.cd_meaning.specs.Stream.{Item, Act, End, Do, Close}
use Rattle.cd_meaning.specs.Values.{value_meaning}
use Rattle.cd_meaning.proofs.Follow.{follow_rising}
use Rattle.cd_meaning.proofs.Moves.Fused.{IsGrade}
use Rattle.cd_meaning.proofs.Moves.Marks.{mark_opens, mark_moves, mark_gets, mark_gets_end, mark_closes, mark_asks, mark_stuck, over_finishes}
use Rattle.cd_meaning.proofs.Rising.{le_self, rising_less}
use Rattle.cd_scope.specs.Uses.{HasFile}
use Rattle.cd_scope.specs.declared.table.Ticket.{Ticket}
use Rattle.cd_step.specs.Flows.{Same, Retires}
use Rattle.cd_step.specs.Parts.{At, Chunk as ChunkSeen, Part, IsGiven, IsHeld, IsReads, IsSound, IsUnbegun, Kept, fed, items, outs_of, rest, rest_items, weigh, weight_any}
use Rattle.cd_step.specs.Parts as parts
use Rattle.cd_step.specs.Sites.{is_ticket}
use Rattle.cd_step.specs.declared.protocol.Input.TheVariants.{Chunk as PlainChunk, End as PlainEnd}
use Rattle.cd_step.proofs.Moving.{moves_gets, moves_gets_end, gets_fed, gets_end_fed, same_none, or_second, own_either, none_here, neither}
use Rattle.cd_step.proofs.Outs.{own_up, own_down}
use Rattle.cd_step.proofs.Sides.{rest_fresh, moves_same, fresh_not_over, right_false}
use Rattle.cd_step.proofs.Weighing.{weigh_back}
use Rattle.cd_node.specs.Marks.{IsBodyIn, IsInside, IsPortIn, IsTicketAt, MarkTurnLaw, kept_back, mark_at, mark_fits, mark_floor, mark_part, mark_rest, mark_unread, whole_mark}
use Rattle.cd_node.specs.Nodes.{AnswersNode, GoesNode, Opening as OpensNext, Closing as ClosesNext, fed_node, puts_of}
use Rattle.cd_node.specs.Ports.{IsOpenAt, ticket_of}
use Rattle.cd_node.specs.declared.mark.Mark.{Mark}
use Rattle.cd_node.specs.declared.mark.MarkStand.{MarkStand}
use Rattle.cd_node.specs.declared.mark.MarkStand.TheVariants.{Fresh, Opening, Body, Closing, Over}
use Rattle.cd_node.specs.declared.mark.MarkTurn.TheVariants.{Inner}
use Rattle.cd_node.specs.declared.port.Medium.TheVariants.{File}
use Rattle.cd_node.specs.declared.protocol.NodeInput.{NodeInput}
use Rattle.cd_node.specs.declared.protocol.NodeInput.TheVariants as given
use Rattle.cd_node.specs.declared.protocol.NodeMove.{NodeMove}
use Rattle.cd_node.specs.declared.protocol.NodeMove.TheVariants.{Emit, Need, Acquire, Read, Write, Release, Done, Fault}
use Rattle.cd_node.proofs.Tickets.{none_had, reads_by, ticket_own, ticket_site, writes_by}

-- ---- where it stands

pub body_wait : (t : MarkStand) (s : ℕ) (at : At) → mark_at t s at ≡ parts.Wait → t ≡ Body
body_wait Fresh s at e = cc
body_wait Opening s at e = cc
body_wait Body s at e = refl
body_wait (Closing v r) s at e = cc
body_wait Over s at e = cc

pub body_gave : (t : MarkStand) (s : ℕ) (at : At) → mark_at t s at ≡ parts.Gave → t ≡ Body
body_gave Fresh s at e = cc
body_gave Opening s at e = cc
body_gave Body s at e = refl
body_gave (Closing v r) s at e = cc
body_gave Over s at e = cc

pub body_writes : (t : MarkStand) (s : ℕ) (at : At) → mark_at t s at ≡ parts.Writes → t ≡ Body
body_writes Fresh s at e = cc
body_writes Opening s at e = cc
body_writes Body s at e = refl
body_writes (Closing v r) s at e = cc
body_writes Over s at e = cc

pub body_reads : (t : MarkStand) (s : ℕ) (at : At) → IsReads (mark_at t s at) → t ≡ Body
body_reads Fresh s at e = absurd e
body_reads Opening s at e = absurd e
body_reads Body s at e = refl
body_reads (Closing v r) s at e = absurd e
body_reads Over s at e = absurd e

pub body_fresh : (t : MarkStand) (s : ℕ) (at : At) → mark_at t s at ≡ parts.Fresh → (t ≡ Fresh → ⊥) → t ≡ Body
body_fresh Fresh s at e n = absurd (n refl)
body_fresh Opening s at e n = cc
body_fresh Body s at e n = refl
body_fresh (Closing v r) s at e n = cc
body_fresh Over s at e n = cc

pub body_opens : (t : MarkStand) (s n : ℕ) (at : At) → mark_at t s at ≡ parts.Opens n → (t ≡ Opening → ⊥) → t ≡ Body
body_opens Fresh s n at e u = cc
body_opens Opening s n at e u = absurd (u refl)
body_opens Body s n at e u = refl
body_opens (Closing v r) s n at e u = cc
body_opens Over s n at e u = cc

pub own_opens : (t : MarkStand) (s n : ℕ) (at : At) → t ≡ Opening → mark_at t s at ≡ parts.Opens n → n ≡ s
own_opens t s n at i e = let k : parts.Opens s ≡ parts.Opens n = subst (λ x. mark_at x s at ≡ parts.Opens n) i e in cc

pub body_closes : (t : MarkStand) (s : ℕ) (at : At) → mark_at t s at ≡ parts.Closes → ((v : Result) (r : Option ChunkSeen) → t ≡ Closing v r → ⊥) → t ≡ Body
body_closes Fresh s at e n = cc
body_closes Opening s at e n = cc
body_closes Body s at e n = refl
body_closes (Closing v r) s at e n = absurd (n v r refl)
body_closes Over s at e n = cc

-- an answer that is neither the first input nor of the bracket's file is for the body
pub body_on : (i : NodeInput) (t : MarkStand) (s : ℕ) (k : Option Ticket) (p : Part) → (i ≡ given.Start → ⊥) → ((t : Ticket) → i ≡ given.Acquired t → ⊥) → (i ≡ given.Closed → ⊥) → AnswersNode (mark_part t s k p) i → t ≡ Body
body_on given.Start t s k p u v w a = absurd (u refl)
body_on (given.Chunk c) t s k p u v w a = body_wait t s p.at a.0
body_on given.End t s k p u v w a = body_wait t s p.at a
body_on given.Next t s k p u v w a = body_gave t s p.at a
body_on (given.Acquired x) t s k p u v w a = absurd (v x refl)
body_on (given.Gave c) t s k p u v w a = body_reads t s p.at a.0
body_on given.GaveEnd t s k p u v w a = body_reads t s p.at a
body_on given.Wrote t s k p u v w a = body_writes t s p.at a
body_on given.Closed t s k p u v w a = absurd (w refl)

-- ---- what no step changes

pub mark_kept : (t t1 : MarkStand) (s : ℕ) (k k1 : Option Ticket) (p q : Part) → ((n d : ℕ) → ticket_of k1 n d ≡ true → ticket_of k n d ≡ true) → Kept p q → Kept (mark_part t s k p) (mark_part t1 s k1 q)
mark_kept t t1 s k k1 p q h m = (m.0, ap (λ f n. (n == s) || f n) m.1, m.2, m.3, m.4, λ n d e. own_either (ticket_of k1 n d) (q.tickets n d) (ticket_of k n d) (p.tickets n d) (h n d) (m.5 n d) e)

pub inside_by : (s : ℕ) (p q : Part) → Kept p q → IsInside s p → IsInside s q
inside_by s p q m h = record { apart = ap (λ f. f s) m.1 ∙ h.apart; graded = subst IsGrade (sym m.0) h.graded }

body_held : (t : MarkStand) (p : Part) → IsBodyIn t p → p.held + weight_any (kept_back t) ≤ p.room
body_held Fresh p h = let x = h.1 in omega (arith, x)
body_held Opening p h = let x = h.1 in omega (arith, x)
body_held Body p h = let x = h.0 in omega (arith, x)
body_held (Closing v r) p h = h.1
body_held Over p h = let x = h in omega (arith, x)

pub fits_held : (m : Mark) (p : Part) → mark_fits m p → IsHeld (whole_mark m p)
fits_held m p f = body_held m.stand p f.1

own_site : (s : ℕ) (p : Part) → ((s == s) || p.sites s) ≡ true
own_site s p = own_up (s == s) (p.sites s) (eq-eqb s s refl)

-- ---- the bracket's own moves

marks_file : (p : Place) (name : List ℕ) → p ≡ Marks name → HasFile p
marks_file p name e = rw e tt

pub opens_first : (place : ℕ → Place) (s : ℕ) (k : Option Ticket) (p : Part) (name : List ℕ) → place s ≡ Marks name → OpensNext place s (mark_part Fresh s k p) (mark_part Opening s k p)
opens_first place s k p name e = record {
  own = own_site s p;
  file = marks_file (place s) name e;
  acts = record { is_at = refl; goes = λ z. mark_opens p.grade s (p.run z) };
}

-- the file is there, and the body begins
pub begins_body : (t : Ticket) (s : ℕ) (k : Option Ticket) (p : Part) → IsUnbegun p → Same (fed_node (given.Acquired t) (mark_part Opening s k p)) (mark_part Body s (Some t) p)
begins_body t s k p u = record {
  goes = λ z. moves_same p.grade _ _ (ap (marking s) (sym (rest_fresh p z u)));
  kept = (refl, refl, refl, refl, refl, λ n d e. own_either (is_ticket t.site.0 t.descriptor.0 n d) (p.tickets n d) (is_ticket t.site.0 t.descriptor.0 n d) (ticket_of k n d || p.tickets n d) (λ x. x) (own_down (ticket_of k n d) (p.tickets n d)) e);
}

-- the file is gone, and the value is told
pub tells : (v : Result) (r : Option ChunkSeen) (place : ℕ → Place) (s : ℕ) (k : Option Ticket) (p : Part) → IsBodyIn (Closing v r) p → GoesNode place (Done v r) (mark_part (Closing v r) s k p) (mark_part Over s k p)
tells v r place s k p h = record {
  is_at = refl;
  floor = refl;
  given = h.0;
  left = let x = h.1 in omega (arith, x);
  finishes = λ z. over_finishes p.grade (value_meaning v) (rest_items r) p.floor;
}

-- ---- what is given to the body

pub inner_part : (i : NodeInput) (s : ℕ) (k : Option Ticket) (p : Part) → IsInside s p → IsBodyIn Body p → AnswersNode p i
    → AnswersNode p i × IsInside s (fed_node i p) × Same (fed_node i (mark_part Body s k p)) (mark_part Body s k (fed_node i p))
inner_part given.Start s k p h b a = (a, h, same_none (mark_part Body s k p))
inner_part (given.Chunk c) s k p h b a = (
  a,
  record { apart = h.apart; graded = h.graded },
  record {
    goes = λ z. moves_gets p.grade c (mark_part Body s k p) z (rest (mark_part Body s k (fed (PlainChunk c) p)) z) (mark_gets p.grade s h.graded (items c) (rest p z) (rest (fed (PlainChunk c) p) z) (gets_fed p.grade c p z (b.1 a.0)));
    kept = (refl, refl, refl, refl, refl, λ n d e. e);
  },
)
inner_part given.End s k p h b a = (
  a,
  record { apart = h.apart; graded = h.graded },
  record {
    goes = λ z. moves_gets_end p.grade (mark_part Body s k p) z (rest (mark_part Body s k (fed PlainEnd p)) z) (mark_gets_end p.grade s h.graded (rest p z) (rest (fed PlainEnd p) z) (gets_end_fed p.grade p z));
    kept = (refl, refl, refl, refl, refl, λ n d e. e);
  },
)
inner_part given.Next s k p h b a = (a, h, same_none (mark_part Body s k p))
inner_part (given.Acquired t) s k p h b a = (
  a,
  record { apart = h.apart; graded = h.graded },
  record {
    goes = (same_none (mark_part Body s k p)).goes;
    kept = (refl, refl, refl, refl, refl, λ n d e. or_second (is_ticket t.site.0 t.descriptor.0 n d) (ticket_of k n d) (p.tickets n d) e);
  },
)
inner_part (given.Gave c) s k p h b a = (a, record { apart = h.apart; graded = h.graded }, same_none (fed_node (given.Gave c) (mark_part Body s k p)))
inner_part given.GaveEnd s k p h b a = (a, record { apart = h.apart; graded = h.graded }, same_none (fed_node given.GaveEnd (mark_part Body s k p)))
inner_part given.Wrote s k p h b a = (a, h, same_none (mark_part Body s k p))
inner_part given.Closed s k p h b a = (a, h, same_none (mark_part Body s k p))

pub inner_turn : (i : NodeInput) (m : Mark) (p : Part) → m.stand ≡ Body → mark_fits m p → AnswersNode (whole_mark m p) i → MarkTurnLaw (fed_node i (whole_mark m p)) (Inner i) m p
inner_turn i m p e f a =
    let s = m.port.site.0 in
    let k = m.port.ticket in
    let r = inner_part i s k p f.0 (subst (λ x. IsBodyIn x p) e f.1) (subst (λ x. AnswersNode (mark_part x s k p) i) e a) in
    (r.0, (e, r.1), subst (λ x. Same (fed_node i (mark_part x s k p)) (mark_part x s k (fed_node i p))) (sym e) r.2)

-- ---- what the body does

-- the bracket has no ticket of another site
no_other : (k : Option Ticket) (s n d : ℕ) → IsOpenAt File k s → (n ≡ s → ⊥) → ticket_of k n d ≡ false
no_other None s n d o e = refl
no_other (Some t) s n d o e = by (is_ticket t.site.0 t.descriptor.0 n d) refl where
  by : (b : Bool) → is_ticket t.site.0 t.descriptor.0 n d ≡ b → is_ticket t.site.0 t.descriptor.0 n d ≡ false
  by true i = absurd (e (ticket_site t n d i ∙ o))
  by false i = i

other_site : (f : ℕ → Bool) (s n : ℕ) → f s ≡ false → f n ≡ true → n ≡ s → ⊥
other_site f s n h k e = let x : f s ≡ true = subst (λ y. f y ≡ true) e k in let y : true ≡ false = sym x ∙ h in cc

abbrev pub IsNoEnd : NodeMove → Type 0
IsNoEnd (Done v r) = ⊥
IsNoEnd (Emit d) = Unit {0}
IsNoEnd Need = Unit {0}
IsNoEnd (Acquire n) = Unit {0}
IsNoEnd (Read n d) = Unit {0}
IsNoEnd (Write n d c) = Unit {0}
IsNoEnd (Release t) = Unit {0}
IsNoEnd (Fault x) = Unit {0}

pub no_end : (m : NodeMove) → ((v : Result) (r : Option ChunkSeen) → m ≡ Done v r → ⊥) → IsNoEnd m
no_end (Done v r) n = absurd (n v r refl)
no_end (Emit d) n = tt
no_end Need n = tt
no_end (Acquire s) n = tt
no_end (Read s d) n = tt
no_end (Write s d c) n = tt
no_end (Release t) n = tt
no_end (Fault x) n = tt

module _ (place : ℕ → Place) (s : ℕ) (k : Option Ticket) (p q : Part) (h : IsInside s p) (same : Kept p q) (o : IsOpenAt File k s) where
  acts_inside : (acts : List Act) → ((z : Seen) → Moves p.grade acts (rest p z) (rest q z)) → (z : Seen) → Moves p.grade acts (rest (mark_part Body s k p) z) (rest (mark_part Body s k q) z)
  acts_inside acts g z = mark_moves p.grade s h.graded acts (rest p z) (rest q z) (g z)

  pub move_part : (m : NodeMove) → IsNoEnd m → GoesNode place m p q → GoesNode place m (mark_part Body s k p) (mark_part Body s k q)
  move_part (Done v r) n g = absurd n
  move_part (Emit d) n g = (g.0, record { is_at = g.1.is_at; goes = acts_inside (outs_of d) g.1.goes })
  move_part Need n g = record { is_at = g.is_at; takes = g.takes; goes = acts_inside [] g.goes; none_unread = g.none_unread; asks = λ z. mark_asks s (rest q z) (g.asks z) }
  move_part (Acquire n1) n g = record { own = own_down (n1.0 == s) (q.sites n1.0) g.own; file = g.file; acts = record { is_at = g.acts.is_at; goes = acts_inside _ g.acts.goes } }
  move_part (Read n1 d) n g = record {
    is_at = g.is_at;
    own = own_down (n1.0 == s) (q.sites n1.0) g.own;
    readable = reads_by (place n1.0) d.0 (q.tickets n1.0 d.0 ≡ true) ((ticket_of k n1.0 d.0 || q.tickets n1.0 d.0) ≡ true) (own_down (ticket_of k n1.0 d.0) (q.tickets n1.0 d.0)) g.readable;
    goes = acts_inside [] g.goes;
    stops = λ z mark x e y. mark_stuck s x (rest q z) (g.stops z mark x e y);
  }
  move_part (Write n1 d c) n g = record {
    own = own_down (n1.0 == s) (q.sites n1.0) g.own;
    writable = writes_by (place n1.0) d.0 (q.tickets n1.0 d.0 ≡ true) ((ticket_of k n1.0 d.0 || q.tickets n1.0 d.0) ≡ true) (own_down (ticket_of k n1.0 d.0) (q.tickets n1.0 d.0)) g.writable;
    bytes = g.bytes;
    some = g.some;
    acts = record { is_at = g.acts.is_at; goes = acts_inside (puts_of n1.0 c.1) g.acts.goes };
  }
  move_part (Release t) n g = record {
    own = own_down (t.site.0 == s) (q.sites t.site.0) g.own;
    live = own_down (ticket_of k t.site.0 t.descriptor.0) (p.tickets t.site.0 t.descriptor.0) g.live;
    gone = λ d. neither (ticket_of k t.site.0 d) (q.tickets t.site.0 d) (no_other k s t.site.0 d o (other_site q.sites s t.site.0 (inside_by s p q same h).apart g.own)) (g.gone d);
    acts = record { is_at = g.acts.is_at; goes = acts_inside _ g.acts.goes };
  }
  move_part (Fault x) n g = record { is_at = g.is_at; stuck = λ z. mark_stuck s _ (rest p z) (g.stuck z) }

  -- the body has ended: the file is removed, and then the value is told
  pub closes_behind : (t : Ticket) (v : Result) (r : Option ChunkSeen) → IsSound q → k ≡ Some t → GoesNode place (Done v r) p q → ClosesNext t (mark_part Body s k p) (mark_part (Closing v r) s None q)
  closes_behind t v r l e g =
      let i : t.site.0 ≡ s = subst (λ x. IsOpenAt File x s) e o in
      record {
        own = subst (λ n. ((n == s) || q.sites n) ≡ true) (sym i) (own_site s q);
        live = own_up (ticket_of k t.site.0 t.descriptor.0) (p.tickets t.site.0 t.descriptor.0) (subst (λ x. ticket_of x t.site.0 t.descriptor.0 ≡ true) (sym e) (ticket_own t));
        gone = λ d. subst (λ n. q.tickets n d ≡ false) (sym i) (none_here q s l (inside_by s p q same h).apart d);
        acts = record {
          is_at = refl;
          goes = λ z. subst (λ n. Moves p.grade (Do (Close n) ∷ []) (rest (mark_part Body s k p) z) (rest (mark_part (Closing v r) s None q) z)) (sym i)
              (subst (λ f. Moves p.grade (Do (Close s) ∷ []) (marking s (rest p z)) (over (value_meaning v) (rest_items r) f)) (sym g.floor)
              (mark_closes p.grade s h.graded (value_meaning v) (rest_items r) (rest p z) (g.finishes z)));
        };
      }

  -- what holds behind a move of the body
  waits_untold : (m : NodeMove) → GoesNode place m p q → q.at ≡ parts.Wait → q.floor ≡ 0
  waits_untold (Emit d) g e = let x : parts.Gave ≡ parts.Wait = sym g.1.is_at ∙ e in cc
  waits_untold Need g e = (g.asks nothing_known).not_told
  waits_untold (Acquire n) g e = let x : parts.Opens n.0 ≡ parts.Wait = sym g.acts.is_at ∙ e in cc
  waits_untold (Read n d) g e = let x : parts.Reads n.0 ≡ parts.Wait = sym g.is_at ∙ e in cc
  waits_untold (Write n d c) g e = let x : parts.Writes ≡ parts.Wait = sym g.acts.is_at ∙ e in cc
  waits_untold (Release t) g e = let x : parts.Closes ≡ parts.Wait = sym g.acts.is_at ∙ e in cc
  waits_untold (Done v r) g e = let x : parts.Over ≡ parts.Wait = sym g.is_at ∙ e in cc
  waits_untold (Fault x) g e = let y : parts.Over ≡ parts.Wait = sym g.is_at ∙ e in cc

  pub body_keeps : (m : NodeMove) → GoesNode place m p q → IsHeld q → IsInside s q × IsBodyIn Body q × Kept (mark_part Body s k p) (mark_part Body s k q) × IsHeld (mark_part Body s k q)
  body_keeps m g y = (inside_by s p q same h, (y, waits_untold m g), mark_kept Body Body s k k p q (λ n d e. e) same, omega (arith, y))

  pub end_keeps : (v : Result) (r : Option ChunkSeen) → GoesNode place (Done v r) p q → IsInside s q × IsBodyIn (Closing v r) q × Kept (mark_part Body s k p) (mark_part (Closing v r) s None q) × IsHeld (mark_part (Closing v r) s None q)
  end_keeps v r g = (inside_by s p q same h, (subst (λ x. IsGiven x r) (sym same.3) g.given, g.left), mark_kept Body (Closing v r) s k None p q (λ n d e. none_had None (ticket_of k n d) n d refl e) same, g.left)

-- ---- no step follows

unbegun_there : (p : Part) → IsUnbegun p → p.at ≡ parts.Over → ⊥
unbegun_there p u = fresh_not_over p.at u.is_at

pub retires_body : (t : MarkStand) (s : ℕ) (k : Option Ticket) (p q : Part) (r : Option ChunkSeen) → ((v : Result) (x : Option ChunkSeen) → t ≡ Closing v x → ⊥) → IsBodyIn t p → Retires p r q
    → Retires (mark_part t s k p) r (mark_part Over s k q)
retires_body Fresh s k p q r n b h = (
  h.0 ∙ b.0.floor,
  mark_kept Fresh Over s k k p q (λ i d e. e) h.1,
  (let x = h.2 in omega (arith, x)),
  λ u. ((h.3 (unbegun_there p b.0)).0 ∙ b.0.unread, (h.3 (unbegun_there p b.0)).1),
)
retires_body Opening s k p q r n b h = (
  h.0 ∙ b.0.floor,
  mark_kept Opening Over s k k p q (λ i d e. e) h.1,
  (let x = h.2 in omega (arith, x)),
  λ u. ((h.3 (unbegun_there p b.0)).0 ∙ b.0.unread, (h.3 (unbegun_there p b.0)).1),
)
retires_body Body s k p q r n b h = (h.0, mark_kept Body Over s k k p q (λ i d e. e) h.1, (let x = h.2 in omega (arith, x)), λ u. h.3 u)
retires_body (Closing v x) s k p q r n b h = absurd (n v x refl)
retires_body Over s k p q r n b h = (h.0, mark_kept Over Over s k k p q (λ i d e. e) h.1, (let x = h.2 in omega (arith, x)), λ u. absurd (u refl))

-- what the body gave back as it ended
pub retires_ended : (v : Result) (x : Option ChunkSeen) (s : ℕ) (k : Option Ticket) (p q : Part) (r : Option ChunkSeen) → IsBodyIn (Closing v x) p → Retires p r q → Retires (mark_part (Closing v x) s k p) x (mark_part Over s k q)
retires_ended v x s k p q r b h = (h.0, mark_kept (Closing v x) Over s k k p q (λ i d e. e) h.1, (let y = h.2 in omega (arith, y)), λ u. (refl, b.0))

pub retires_fits : (t : MarkStand) (s : ℕ) (p q : Part) (r : Option ChunkSeen) → IsInside s p → IsBodyIn t p → Retires p r q → IsInside s q × IsBodyIn Over q
retires_fits t s p q r i b h = (inside_by s p q h.1 i, let x = body_held t p b in let y = h.2 in let e = h.1.4 in rw e (omega (arith, x, y)))

-- ---- facts of every part

rest_known : (p : Part) (n : ℕ) (w : Told) (z : Seen) → IsSound p → p.sites n ≡ false → p.run (known n w z) ≡ p.run z
rest_known p n w z l e = l.local n e w z

mark_local : (t : MarkStand) (s : ℕ) (p : Part) (n : ℕ) (w : Told) (z : Seen) → IsSound p → p.sites n ≡ false → (mark_rest t s p (known n w z)).run ≡ (mark_rest t s p z).run
mark_local Fresh s p n w z l e = rw (rest_known p n w z l e) refl
mark_local Opening s p n w z l e = rw (rest_known p n w z l e) refl
mark_local Body s p n w z l e = rw (rest_known p n w z l e) refl
mark_local (Closing v r) s p n w z l e = refl
mark_local Over s p n w z l e = rest_known p n w z l e

closing_rising : (s n : ℕ) (p : Part) (z : Seen) (ys : List Item) (e : End) → n ≤ p.floor → IsSound p → Rising n ((marking s (rest p z)).run ys e)
closing_rising s n p z ys e i l = follow_rising n (p.run z ys e) _ (rising_less n p.floor (p.run z ys e) i (l.rising z ys e)) (λ v. (le_self (last (p.run z ys e)).need, le_self (last (p.run z ys e)).need))

mark_rising : (t : MarkStand) (s : ℕ) (p : Part) (z : Seen) (ys : List Item) (e : End) → IsSound p → Rising (mark_floor t p) ((mark_rest t s p z).run ys e)
mark_rising Fresh s p z ys e l = (le_self 0, closing_rising s 0 p z ys e (omega arith) l)
mark_rising Opening s p z ys e l = closing_rising s 0 p z ys e (omega arith) l
mark_rising Body s p z ys e l = closing_rising s p.floor p z ys e (le_self p.floor) l
mark_rising (Closing v r) s p z ys e l = le_self p.floor
mark_rising Over s p z ys e l = l.rising z ys e

mark_counts : (t : MarkStand) (p : Part) → IsSound p → weigh (mark_unread t p) ≤ p.held + weight_any (kept_back t)
mark_counts Fresh p l = omega arith
mark_counts Opening p l = omega arith
mark_counts Body p l = let x = l.counts in omega (arith, x)
mark_counts (Closing v r) p l = let x = weigh_back r in omega (arith, x)
mark_counts Over p l = let x = l.counts in omega (arith, x)

port_own : (t : MarkStand) (k : Option Ticket) (s n d : ℕ) → IsPortIn t k s → ticket_of k n d ≡ true → (n == s) ≡ true
port_own t k s n d i e = eq-eqb n s (here k (owned t k s i) e) where
  owned : (t : MarkStand) (k : Option Ticket) (s : ℕ) → IsPortIn t k s → IsTicketAt k s
  owned Fresh k s i = rw i tt
  owned Opening k s i = rw i tt
  owned Body None s i = tt
  owned Body (Some t) s i = i
  owned (Closing v r) k s i = rw i tt
  owned Over k s i = i

  here : (k : Option Ticket) → IsTicketAt k s → ticket_of k n d ≡ true → n ≡ s
  here None i e = cc
  here (Some t) i e = ticket_site t n d e ∙ i

pub mark_sound : (m : Mark) (p : Part) → IsPortIn m.stand m.port.ticket m.port.site.0 → IsSound p → IsSound (whole_mark m p)
mark_sound m p i l = record {
  local = λ n x w z. mark_local m.stand m.port.site.0 p n w z l (right_false (n == m.port.site.0) (p.sites n) x);
  counts = mark_counts m.stand p l;
  rising = λ z ys e. mark_rising m.stand m.port.site.0 p z ys e l;
  graded = l.graded;
  own = λ n d x. own_either (ticket_of m.port.ticket n d) (p.tickets n d) (n == m.port.site.0) (p.sites n) (port_own m.stand m.port.ticket m.port.site.0 n d i) (l.own n d) x;
}

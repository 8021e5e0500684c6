-- A part in a bracket: a file is made before it and removed behind it. What is seen of the whole, and what holds of it between two steps.
use Rattle.std.specs.Prelude.{◌≡◌, ℕ, ◌+◌, ◌≤◌, ◌==◌, ◌||◌, false, List, [], Option, Some, None}
use Rattle.cd_meaning.specs.Places.{Place, Marks}
use Rattle.cd_meaning.specs.Rest.{Rest, fresh, marking, over}
use Rattle.cd_meaning.specs.RunShapes.{Seen}
use Rattle.cd_meaning.specs.Sources.{marked}
use Rattle.cd_meaning.specs.Stream.{Item}
use Rattle.cd_meaning.specs.Values.{value_meaning}
use Rattle.cd_meaning.proofs.Moves.Fused.{IsGrade}
use Rattle.cd_scope.specs.declared.table.Ticket.{Ticket}
use Rattle.cd_step.specs.Flows.{Same}
use Rattle.cd_step.specs.Parts.{At, Chunk, Part, IsGiven, IsHeld, IsUnbegun, Kept, both_tickets, rest, rest_items, weight_any}
use Rattle.cd_step.specs.Parts as parts
use Rattle.cd_node.specs.Nodes.{AnswersNode, GoesNode, fed_node}
use Rattle.cd_node.specs.Ports.{IsOpenAt, ticket_of}
use Rattle.cd_node.specs.declared.mark.Mark.{Mark}
use Rattle.cd_node.specs.declared.mark.MarkStand.{MarkStand}
use Rattle.cd_node.specs.declared.mark.MarkStand.TheVariants.{Fresh, Opening, Body, Closing, Over}
use Rattle.cd_node.specs.declared.mark.MarkTurn.{MarkTurn}
use Rattle.cd_node.specs.declared.mark.MarkTurn.TheVariants.{Own, Inner}
use Rattle.cd_node.specs.declared.port.Medium.TheVariants.{File}

-- ---- the whole

abbrev pub mark_at : MarkStand → ℕ → At → At
mark_at Fresh s at = parts.Fresh
mark_at Opening s at = parts.Opens s
mark_at Body s at = at
mark_at (Closing v r) s at = parts.Closes
mark_at Over s at = parts.Over

-- what the body gave back as it ended
abbrev pub kept_back : MarkStand → Option Chunk
kept_back Fresh = None
kept_back Opening = None
kept_back Body = None
kept_back (Closing v r) = r
kept_back Over = None

-- what is left: the opening, the body and the closing; and once the body has ended, its value
abbrev pub mark_rest : MarkStand → ℕ → Part → Seen → Rest
mark_rest Fresh s p z = fresh (marked s (p.run z))
mark_rest Opening s p z = marking s (fresh (p.run z))
mark_rest Body s p z = marking s (rest p z)
mark_rest (Closing v r) s p z = over (value_meaning v) (rest_items r) p.floor
mark_rest Over s p z = rest p z

abbrev pub mark_unread : MarkStand → Part → List Item
mark_unread Fresh p = []
mark_unread Opening p = []
mark_unread Body p = p.unread
mark_unread (Closing v r) p = rest_items r
mark_unread Over p = p.unread

abbrev pub mark_floor : MarkStand → Part → ℕ
mark_floor Fresh p = 0
mark_floor Opening p = 0
mark_floor Body p = p.floor
mark_floor (Closing v r) p = p.floor
mark_floor Over p = p.floor

abbrev pub mark_part : MarkStand → ℕ → Option Ticket → Part → Part
mark_part stand s k p = record {
  at = mark_at stand s p.at;
  grade = p.grade;
  sites = λ t. (t == s) || p.sites t;
  gives = p.gives;
  takes = p.takes;
  room = p.room;
  held = p.held + weight_any (kept_back stand);
  tickets = both_tickets (ticket_of k) p.tickets;
  unread = mark_unread stand p;
  floor = mark_floor stand p;
  run = λ z. (mark_rest stand s p z).run;
}

abbrev pub whole_mark : Mark → Part → Part
whole_mark m p = mark_part m.stand m.port.site.0 m.port.ticket p

-- ---- where it stands

-- where it has a ticket, that is of its site
abbrev pub IsTicketAt : Option Ticket → ℕ → Type 0
IsTicketAt None s = Unit {0}
IsTicketAt (Some t) s = t.site.0 ≡ s

-- its file is open while the body goes on, and until the scope has it
abbrev pub IsPortIn : MarkStand → Option Ticket → ℕ → Type 0
IsPortIn Fresh k s = k ≡ None
IsPortIn Opening k s = k ≡ None
IsPortIn Body k s = IsOpenAt File k s
IsPortIn (Closing v r) k s = k ≡ None
IsPortIn Over k s = IsTicketAt k s

abbrev pub mark_stands : Mark → Type 0
mark_stands m = (m.port.medium ≡ File) × IsPortIn m.stand m.port.ticket m.port.site.0

abbrev pub IsBodyIn : MarkStand → Part → Type 0
IsBodyIn Fresh p = IsUnbegun p × IsHeld p
IsBodyIn Opening p = IsUnbegun p × IsHeld p
IsBodyIn Body p = IsHeld p × (p.at ≡ parts.Wait → p.floor ≡ 0)
-- what the body gave back stood in its own room
IsBodyIn (Closing v r) p = IsGiven p.takes r × (p.held + weight_any r ≤ p.room)
IsBodyIn Over p = IsHeld p

-- the body has not the bracket's site, and its grade sees the closing as it sees the value
pub record IsInside (s : ℕ) (p : Part) : Type 0 where
  pub apart : p.sites s ≡ false
  pub graded : IsGrade p.grade

abbrev pub mark_fits : Mark → Part → Type 0
mark_fits m p = IsInside m.port.site.0 p × IsBodyIn m.stand p

-- the body has taken its input in, and goes on for the whole
abbrev pub mark_goes_on : Mark → Part → Type 0
mark_goes_on m p = (m.stand ≡ Body) × IsInside m.port.site.0 p

-- where the sites have these places, the bracket marks its own
abbrev pub MarksPlace : Mark → (ℕ → Place) → Type 0
MarksPlace m place = (name : List ℕ) × (place m.port.site.0 ≡ Marks name)

-- ---- turns

-- p goes on by this turn, of which q is the whole behind
abbrev pub MarkTurnLaw : Part → MarkTurn → Mark → Part → Type 0
MarkTurnLaw p (Own move) m a = mark_fits m a × Kept p (whole_mark m a) × IsHeld (whole_mark m a)
MarkTurnLaw p (Inner i) m a = AnswersNode a i × mark_goes_on m (fed_node i a) × Same p (whole_mark m (fed_node i a))

-- a move of its own is the next step of p
abbrev pub OwnMoveLaw : (ℕ → Place) → Part → MarkTurn → Mark → Part → Type 0
OwnMoveLaw place p (Own move) m a = GoesNode place move p (whole_mark m a)
OwnMoveLaw place p (Inner i) m a = Unit {0}

-- behind a move of the body
pub record MarkKeeps (p : Part) (m : Mark) (q : Part) : Type 0 where
  pub fits : mark_fits m q
  pub kept : Kept p (whole_mark m q)
  pub held : IsHeld (whole_mark m q)

-- What comes to the sites of a part: bytes, and a ticket.
use Rattle.std.specs.Prelude.{ℕ, ◌==◌, Bool, ◌||◌, ◌&&◌}
use Rattle.cd_meaning.specs.RunShapes.{Told, Seen}
use Rattle.cd_meaning.specs.Known.{known}
use Rattle.cd_step.specs.Parts.{Part}

-- the part where w is to come at site s
abbrev pub told : ℕ → (Seen → Told) → Part → Part
told s w p = record {
  at = p.at;
  grade = p.grade;
  sites = p.sites;
  gives = p.gives;
  takes = p.takes;
  room = p.room;
  held = p.held;
  tickets = p.tickets;
  unread = p.unread;
  floor = p.floor;
  run = λ z. p.run (known s (w z) z);
}

abbrev pub is_ticket : ℕ → ℕ → ℕ → ℕ → Bool
is_ticket t n s d = (s == t) && (d == n)

abbrev pub with_ticket : ℕ → ℕ → (ℕ → ℕ → Bool) → ℕ → ℕ → Bool
with_ticket t n h s d = is_ticket t n s d || h s d

-- the part with the ticket of descriptor n at site t too
abbrev pub got : ℕ → ℕ → Part → Part
got t n p = record {
  at = p.at;
  grade = p.grade;
  sites = p.sites;
  gives = p.gives;
  takes = p.takes;
  room = p.room;
  held = p.held;
  tickets = with_ticket t n p.tickets;
  unread = p.unread;
  floor = p.floor;
  run = p.run;
}

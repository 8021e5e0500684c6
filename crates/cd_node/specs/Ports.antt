-- The site of a word, with the ticket of its file.
use Rattle.std.specs.Prelude.{◌≡◌, ℕ, Bool, true, false, List, [], ◌∷◌, Option, Some, None, Contains}
use Rattle.cd_meaning.specs.Stream.{Act, Do, Open, Close}
use Rattle.cd_scope.specs.Calls.{held_at}
use Rattle.cd_scope.specs.declared.table.Held.{Held}
use Rattle.cd_scope.specs.declared.table.Ticket.{Ticket}
use Rattle.cd_step.specs.Sites.{is_ticket}
use Rattle.cd_node.specs.declared.port.Medium.{Medium}
use Rattle.cd_node.specs.declared.port.Medium.TheVariants.{File, Standard}
use Rattle.cd_node.specs.declared.port.Port.{Port}

-- ---- tickets

abbrev pub ticket_of : Option Ticket → ℕ → ℕ → Bool
ticket_of None s d = false
ticket_of (Some t) s d = is_ticket t.site.0 t.descriptor.0 s d

-- a scope that holds these made all of the tickets
abbrev pub AreTicketsHeld : List Held → (ℕ → ℕ → Bool) → Type 0
AreTicketsHeld table tickets = (s d : ℕ) → tickets s d ≡ true → Contains table (held_at s (record { 0 = d }))

abbrev pub HasNone : (ℕ → ℕ → Bool) → Type 0
HasNone tickets = (s d : ℕ) → tickets s d ≡ false

-- ---- ports

abbrev pub with_ticket_of : Ticket → Port → Port
with_ticket_of t port = record port { ticket = Some t }

abbrev pub without_ticket : Port → Port
without_ticket port = record port { ticket = None }

-- a file is open where its ticket is there, a standard stream always
abbrev pub IsOpenAt : Medium → Option Ticket → ℕ → Type 0
IsOpenAt File None s = ⊥
IsOpenAt File (Some t) s = t.site.0 ≡ s
IsOpenAt Standard None s = Unit {0}
IsOpenAt Standard (Some t) s = ⊥

abbrev pub IsOpenPort : Port → Type 0
IsOpenPort port = IsOpenAt port.medium port.ticket port.site.0

-- the descriptor is that of the ticket, or of the standard stream
abbrev pub IsDescriptorAt : Medium → Option Ticket → ℕ → ℕ → ℕ → Type 0
IsDescriptorAt File k s standard d = ticket_of k s d ≡ true
IsDescriptorAt Standard k s standard d = d ≡ standard

abbrev pub IsDescriptorOf : Port → ℕ → ℕ → Type 0
IsDescriptorOf port standard d = IsDescriptorAt port.medium port.ticket port.site.0 standard d

-- ---- brackets

-- a file is opened before all else and closed at the end
abbrev pub opening_acts : Medium → ℕ → List Act
opening_acts File s = Do (Open s) ∷ []
opening_acts Standard s = []

abbrev pub closing_acts : Medium → ℕ → List Act
closing_acts File s = Do (Close s) ∷ []
closing_acts Standard s = []

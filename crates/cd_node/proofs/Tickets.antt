-- Tickets of a part.
use Rattle.std.proofs.Common.{◌≡◌, ℕ, ◌==◌, ◌&&◌, ◌||◌, Bool, true, false, Option, Some, None, refl, subst, sym, ◌∙◌}
use Rattle.std.proofs.lemmas.Bool.{eqb-true, eq-eqb}
use Rattle.cd_meaning.specs.Places.{Place, Reads as ReadsFile, ReadsInput, Writes as WritesFile, WritesOutput, Marks}
use Rattle.cd_scope.specs.Uses.{ReadsAt, WritesAt}
use Rattle.cd_scope.specs.declared.table.Ticket.{Ticket}
use Rattle.cd_step.specs.Sites.{is_ticket, with_ticket}
use Rattle.cd_node.specs.Ports.{HasNone, IsDescriptorAt, IsOpenAt, ticket_of}
use Rattle.cd_node.specs.declared.port.Medium.{Medium}
use Rattle.cd_node.specs.declared.port.Medium.TheVariants.{File, Standard}

pub ticket_own : (t : Ticket) → is_ticket t.site.0 t.descriptor.0 t.site.0 t.descriptor.0 ≡ true
ticket_own t = rw (eq-eqb t.site.0 t.site.0 refl, eq-eqb t.descriptor.0 t.descriptor.0 refl) refl

pub open_site : (m : Medium) (k : Option Ticket) (t : Ticket) (s : ℕ) → m ≡ File → k ≡ Some t → IsOpenAt m k s → t.site.0 ≡ s
open_site m k t s e h o = subst (λ x. IsOpenAt File x s) h (subst (λ x. IsOpenAt x k s) e o)

-- where its file is open, a site is read and written at its ticket's descriptor
pub descriptor_some : (m : Medium) (k : Option Ticket) (t : Ticket) (s standard d : ℕ) → k ≡ Some t → IsOpenAt m k s → d ≡ t.descriptor.0 → IsDescriptorAt m k s standard d
descriptor_some File k t s standard d e o h =
    let i : t.site.0 ≡ s = subst (λ x. IsOpenAt File x s) e o in
    rw (e, h) (subst (λ x. is_ticket t.site.0 t.descriptor.0 x t.descriptor.0 ≡ true) i (ticket_own t))
descriptor_some Standard k t s standard d e o h = absurd (subst (λ x. IsOpenAt Standard x s) e o)

pub descriptor_none : (m : Medium) (k : Option Ticket) (s standard d : ℕ) → k ≡ None → IsOpenAt m k s → d ≡ standard → IsDescriptorAt m k s standard d
descriptor_none File k s standard d e o h = absurd (subst (λ x. IsOpenAt File x s) e o)
descriptor_none Standard k s standard d e o h = h

-- a file that is open has its ticket
pub file_open : (m : Medium) (k : Option Ticket) (s : ℕ) → m ≡ File → k ≡ None → IsOpenAt m k s → ⊥
file_open m k s e h o = subst (λ x. IsOpenAt File x s) h (subst (λ x. IsOpenAt x k s) e o)

-- a standard stream has none
pub standard_none : (m : Medium) (k : Option Ticket) (s : ℕ) → m ≡ Standard → IsOpenAt m k s → k ≡ None
standard_none m None s e o = refl
standard_none m (Some t) s e o = absurd (subst (λ x. IsOpenAt x (Some t) s) e o)

-- a part keeps the ticket that was put into it
pub put_had : (t : Ticket) (k : Option Ticket) (s d : ℕ) → ticket_of (Some t) s d ≡ true → with_ticket t.site.0 t.descriptor.0 (ticket_of k) s d ≡ true
put_had t k s d h = either (is_ticket t.site.0 t.descriptor.0 s d) (ticket_of k s d) h where
  either : (x y : Bool) → x ≡ true → (x || y) ≡ true
  either x y h = rw h refl

-- what is held of tickets
pub none_had : (k : Option Ticket) (x : Bool) (s d : ℕ) → k ≡ None → ticket_of k s d ≡ true → x ≡ true
none_had k x s d e h = absurd (let y : false ≡ true = subst (λ j. ticket_of j s d ≡ true) e h in cc)

pub ticket_site : (t : Ticket) (s d : ℕ) → is_ticket t.site.0 t.descriptor.0 s d ≡ true → s ≡ t.site.0
ticket_site t s d h = eqb-true s t.site.0 (first (s == t.site.0) (d == t.descriptor.0) h) where
  first : (x y : Bool) → (x && y) ≡ true → x ≡ true
  first true y h = refl
  first false y h = cc

pub some_had : (k : Option Ticket) (t : Ticket) → k ≡ Some t → HasNone (ticket_of k) → ⊥
some_had k t e h = let x : is_ticket t.site.0 t.descriptor.0 t.site.0 t.descriptor.0 ≡ false = subst (λ j. ticket_of j t.site.0 t.descriptor.0 ≡ false) e (h t.site.0 t.descriptor.0) in let y : true ≡ false = sym (ticket_own t) ∙ x in cc

pub ticket_descriptor : (t : Ticket) (s d : ℕ) → is_ticket t.site.0 t.descriptor.0 s d ≡ true → d ≡ t.descriptor.0
ticket_descriptor t s d h = eqb-true d t.descriptor.0 (second (s == t.site.0) (d == t.descriptor.0) h) where
  second : (x y : Bool) → (x && y) ≡ true → y ≡ true
  second true y h = h
  second false y h = cc

-- ---- a descriptor that is open for one is open for the other

pub reads_by : (x : Place) (d : ℕ) (P Q : Type 0) → (P → Q) → ReadsAt x d P → ReadsAt x d Q
reads_by (ReadsFile name) d P Q f h = f h
reads_by ReadsInput d P Q f h = h
reads_by (WritesFile name) d P Q f h = h
reads_by WritesOutput d P Q f h = h
reads_by (Marks name) d P Q f h = h

pub writes_by : (x : Place) (d : ℕ) (P Q : Type 0) → (P → Q) → WritesAt x d P → WritesAt x d Q
writes_by (ReadsFile name) d P Q f h = h
writes_by ReadsInput d P Q f h = h
writes_by (WritesFile name) d P Q f h = f h
writes_by WritesOutput d P Q f h = h
writes_by (Marks name) d P Q f h = h

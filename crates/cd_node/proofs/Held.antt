-- A scope made each ticket of a part: what keeps that.
use Rattle.std.proofs.Common.{◌≡◌, ◌||◌, Bool, true, false, List, [], ◌∷◌, ◌++◌, refl, sym, ◌∙◌, subst, arith}
use Rattle.std.specs.Prelude.{◌≢◌, Contains}
use Rattle.std.proofs.lemmas.List.Elements.{Contains-append_left, Contains-append_right}
use Rattle.cd_scope.specs.Calls.{held_at}
use Rattle.cd_scope.specs.Table.{IsHeldBy}
use Rattle.cd_scope.specs.declared.table.Held.{Held}
use Rattle.cd_scope.specs.declared.table.Ticket.{Ticket}
use Rattle.cd_step.specs.Parts.{Kept, Part}
use Rattle.cd_node.specs.Nodes.{AreHeld, Closing, fed_node}
use Rattle.cd_step.specs.Sites.{is_ticket}
use Rattle.cd_node.specs.declared.protocol.NodeInput.TheVariants.{Acquired}
use Rattle.cd_node.proofs.Tickets.{ticket_site, ticket_descriptor}

pub held_kept : (table : List Held) (p q : Part) → Kept p q → AreHeld table p → AreHeld table q
held_kept table p q k h s d e = h s d (k.5 s d e)

pub held_acquired : (table : List Held) (t : Ticket) (p : Part) → AreHeld table p → AreHeld (table ++ held_at t.site.0 t.descriptor ∷ []) (fed_node (Acquired t) p)
held_acquired table t p h s d e = by (is_ticket t.site.0 t.descriptor.0 s d) refl e where
  all : List Held
  all = table ++ held_at t.site.0 t.descriptor ∷ []

  own : s ≡ t.site.0 → d ≡ t.descriptor.0 → held_at s (record { 0 = d }) ≡ held_at t.site.0 t.descriptor
  own i j = rw (i, j) refl

  by : (b : Bool) → is_ticket t.site.0 t.descriptor.0 s d ≡ b → (b || p.tickets s d) ≡ true → Contains all (held_at s (record { 0 = d }))
  by true i x =
      subst (λ y. Contains all y) (sym (own (ticket_site t s d i) (ticket_descriptor t s d i)))
      (Contains-append_right table (held_at t.site.0 t.descriptor ∷ []) (held_at t.site.0 t.descriptor) (0, omega arith, refl))
  by false i x = Contains-append_left table (held_at t.site.0 t.descriptor ∷ []) (held_at s (record { 0 = d })) (h s d x)

pub held_by : (table : List Held) (t : Ticket) (p q : Part) → AreHeld table p → Closing t p q → IsHeldBy t table
held_by table t p q h c = h t.site.0 t.descriptor.0 c.live

pub held_released : (table table1 : List Held) (t : Ticket) (p q : Part) → AreHeld table p → Kept p q → Closing t p q
    → ((h : Held) → h.site.0 ≢ t.site.0 → Contains table h → Contains table1 h) → AreHeld table1 q
held_released table table1 t p q h k c o s d e = o (held_at s (record { 0 = d })) (λ i. gone (q.tickets t.site.0 d) (subst (λ x. q.tickets x d ≡ true) i e) (c.gone d)) (h s d (k.5 s d e)) where
  gone : (x : Bool) → x ≡ true → x ≡ false → ⊥
  gone x e h = let y : true ≡ false = sym e ∙ h in cc

-- Where a list of members keeps them: its value is the list itself, and its `Vec` stores each member by its own row.
use mathlib.Core.Path.{◌≡◌, refl, sym}
use mathlib.Core.List.{List, []}
use mathlib.Core.Former.{Former, this, list, via, children}
use base.Stored.{code_map}
use denote.RattleType.{RattleType}
use denote.HoleLaws.{Alike}
use denote.HolePlaces.{Recodes, struct_places, laid}
use denote.Hole.Carrier.{listed, list-listed}
use denote.Hole.Fix.{over}
use denote.Param.Weighed.{Weighed, w_list}
use denote.Model.Placed.{view_places}
use Rattle.std.specs.declared.alloc.Global.{Global}
use Rattle.std.specs.contracts.alloc.Global as global
use Rattle.std.specs.contracts.impls.GlobalAllocator.TheImpl.{ghosts}
use Rattle.std.specs.formers.vec.Vec as vec
use Rattle.cd_elem.specs.declared.items.Items.TheInside.{Inside}
use Rattle.cd_elem.specs.declared.items.Items.TheView.{view, invariant}
use Rattle.cd_elem.specs.contracts.items.Items as whole
use Rattle.cd_elem.specs.contracts.items.Items.TheInside as inside

abbrev pub the_former : Former {0} → Former {0}
the_former member = list member

abbrev pub the_weighed : {member : Former {0}} → Weighed member → Weighed (the_former member)
the_weighed weight = w_list weight

-- the list with no member, where there can be none
pub the_empty : List ⊥
the_empty = []

abbrev pub the_items : (X : Type 0) → List X → List X
the_items X members = members

pub the_items_listed : (X : Type 0) (members : List X) → listed _ (children (the_former this) X members) ≡ the_items X members
the_items_listed X members = list-listed X members

-- the struct as its one field
abbrev stored : Former {0}
stored = via (vec.the_former this Global) Inside (λ X fields. fields.items) (λ X members. record { items = members }) (λ X fields. refl) (λ X members. refl)

module _ (R R' : RattleType) (h : R.Denot → R'.Denot) where
  pub the_places : Alike R R' h → Alike (whole.the_row R) (whole.the_row R') ((the_former this).map R.Denot R'.Denot h)
  the_places alike = view_places stored (the_former this) view (λ X Y f fields. refl) (λ X fields. refl) R.Denot R'.Denot h
      (whole.the_row R).coded (whole.the_row R').coded (invariant R.Denot) (invariant R'.Denot)
      (λ fields p q. refl) (λ fields p q. refl) (λ fields holds. tt) (λ fields holds. tt) (over (inside.the_row R)) (over (inside.the_row R'))
      (struct_places (inside.the_type R) (inside.the_type R') (vec.mapped h, tt) _ (λ d. refl) refl
      (laid _ _ _ (vec.the_places global.the_row ghosts R R' h alike), tt))

  pub the_codes_placed : Recodes R R' h → Recodes (whole.the_row R) (whole.the_row R') ((the_former this).map R.Denot R'.Denot h)
  the_codes_placed recodes members = sym (code_map R.coded.code R'.coded.code h (λ member. sym (recodes member)) members)

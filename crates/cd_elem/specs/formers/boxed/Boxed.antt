-- Where a boxed value lies: contracts see the value alone, and its `Box` stores it by its own row.
use mathlib.Core.Path.{refl}
use mathlib.Core.Former.{Former, this, const, pair, via}
use base.Fml.{ftrue}
use base.Stored.{gnil}
use denote.RattleType.{RattleType}
use denote.Memory.{part_of}
use denote.RawPtr.{Ptr}
use denote.Sharing.{nothing}
use denote.HoleLaws.{Alike}
use denote.HolePlaces.{Recodes, struct_places, laid, one_value}
use denote.Hole.Fix.{over}
use denote.Param.Weighed.{Weighed}
use denote.Model.Placed.{view_places}
use Rattle.std.specs.declared.alloc.Global.{Global}
use Rattle.std.specs.contracts.alloc.Global as global
use Rattle.std.specs.contracts.impls.GlobalAllocator.TheImpl.{ghosts}
use Rattle.std.specs.declared.boxed.Box.{Box}
use Rattle.std.specs.contracts.boxed.Box as std_box
use Rattle.cd_elem.specs.declared.boxed.Boxed.TheInside.{Inside}
use Rattle.cd_elem.specs.declared.boxed.Boxed.TheView.{view, invariant}
use Rattle.cd_elem.specs.contracts.boxed.Boxed as whole
use Rattle.cd_elem.specs.contracts.boxed.Boxed.TheInside as inside

abbrev pub the_former : Former {0} → Former {0}
the_former held = held

abbrev pub the_weighed : {held : Former {0}} → Weighed held → Weighed (the_former held)
the_weighed weight = weight

-- the struct as the handle of its block beside what it holds
abbrev stored : Former {0}
stored = via (pair (const (Ptr × Global)) this) Inside (λ X fields. ((fields.inner.ptr, fields.inner.alloc), fields.inner.value))
    (λ X parts. record { inner = record { ptr = parts.0.0; alloc = parts.0.1; value = parts.1 } }) (λ X fields. refl) (λ X parts. refl)

-- the same block with another value in it
abbrev holding : {X Y : Type 0} → Box X Global → Y → Box Y Global
holding block other = record { ptr = block.ptr; alloc = block.alloc; value = other }

abbrev block_row : RattleType → RattleType
block_row R = std_box.the_row R global.the_row ghosts

module _ (R R' : RattleType) (h : R.Denot → R'.Denot) where
  block_places : Alike R R' h → Alike (block_row R) (block_row R') (λ block. holding block (h block.value))
  unfolding part_of
  block_places alike = record {
    mir_same = λ i. (block_row (one_value R (alike.mir_same i) (λ _. ftrue) (λ _ _. nothing) gnil)).mir;
    own_same = λ block i. (block_row (one_value R (alike.mir_same i) (alike.own_same block.value i) (alike.shr_same block.value i) gnil)).own_val (holding block tt);
    shr_same = λ block i. (block_row (one_value R (alike.mir_same i) (alike.own_same block.value i) (alike.shr_same block.value i) gnil)).shr_at (holding block tt);
  }

  pub the_places : Alike R R' h → Alike (whole.the_row R) (whole.the_row R') ((the_former this).map R.Denot R'.Denot h)
  the_places alike = view_places stored (the_former this) view (λ X Y f fields. refl) (λ X fields. refl) R.Denot R'.Denot h
      (whole.the_row R).coded (whole.the_row R').coded (invariant R.Denot) (invariant R'.Denot)
      (λ fields p q. refl) (λ fields p q. refl) (λ fields holds. tt) (λ fields holds. tt) (over (inside.the_row R)) (over (inside.the_row R'))
      (struct_places (inside.the_type R) (inside.the_type R') ((λ block. holding block (h block.value)), tt) _ (λ d. refl) refl
      (laid _ _ _ (block_places alike), tt))

  pub the_codes_placed : Recodes R R' h → Recodes (whole.the_row R) (whole.the_row R') ((the_former this).map R.Denot R'.Denot h)
  the_codes_placed recodes held = recodes held

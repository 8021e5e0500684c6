-- The beginning of a marked file, which may have a key.
use Rattle.std.proofs.Common.{◌≡◌, ℕ, Bool, true, false, ◌||◌, List, [], ◌∷◌, ◌++◌, length, Some, None, refl, ap, sym, ◌∙◌, subst, nat_le}
use Rattle.std.specs.List.{list_any}
use Rattle.cd_meaning.specs.Places.{Marks}
use Rattle.cd_types.specs.declared.refusal.RefusalKind.{RefusalKind}
use Rattle.cd_types.specs.declared.refusal.RefusalKind.TheVariants.{NameTwice, TooMany, Key}
use Rattle.cd_types.specs.Conditions.{fails_where, lowest}
use Rattle.cd_types.specs.Limits.{site_limit}
use Rattle.cd_types.specs.Moments.{Moment, begin_part, fails_at, clash}
use Rattle.cd_types.specs.Numbering.{site_before}
use Rattle.cd_typing.specs.declared.refusal.CheckRefusal.{CheckRefusal}
use Rattle.cd_typing.specs.Lowest.{at_mark}
use Rattle.cd_typing.specs.Spots.{Spot, reached, Passes, Stops}
use Rattle.cd_typing.proofs.Steps.{begins-stops, begins-passes, stands-at}

or-false : (b : Bool) → (b || false) ≡ b
or-false true = refl
or-false false = refl

pub named : (r : Spot) (text name : List ℕ) (found so : Bool) → text ≡ name → found ≡ list_any (clash (Marks text)) (reached r).sites → found ≡ so → list_any (clash (Marks name)) (reached r).sites ≡ so
named r text name found so e h k = ap (λ ns. list_any (clash (Marks ns)) (reached r).sites) (sym e) ∙ sym h ∙ k

module _ (r : Spot) (s n : ℕ) (name : List ℕ) (known : Bool) where
  abbrev twice : Bool
  twice = list_any (clash (Marks name)) (reached r).sites

  abbrev many : Bool
  many = nat_le site_limit (length (reached r).sites)

  abbrev begins : Moment
  begins = begin_part s n (fails_where Key known) (Some (Marks name))

  is_lowest : lowest (fails_at (reached r) begins) ≡ at_mark twice many known
  is_lowest = simp or-false refl

  refused-as : (k : RefusalKind) (x : CheckRefusal) → x ≡ CheckRefusal.Refused (record { kind = k; statement = s; part = n }) → at_mark twice many known ≡ Some k → Stops r (begins ∷ []) x
  refused-as k x e h = subst (Stops r (begins ∷ [])) (sym e) (begins-stops r begins [] k (is_lowest ∙ h))

  pub mark-twice : (x : CheckRefusal) → x ≡ CheckRefusal.Refused (record { kind = NameTwice; statement = s; part = n }) → twice ≡ true → Stops r (begins ∷ []) x
  mark-twice x same e = refused-as NameTwice x same (rw e refl)

  module _ (e : twice ≡ false) where
    pub mark-many : (x : CheckRefusal) → x ≡ CheckRefusal.Refused (record { kind = TooMany; statement = s; part = n }) → many ≡ true → Stops r (begins ∷ []) x
    mark-many x same h = refused-as TooMany x same (rw (e, h) refl)

    module _ (h : many ≡ false) where
      pub mark-known : (x : CheckRefusal) → x ≡ CheckRefusal.Refused (record { kind = Key; statement = s; part = n }) → known ≡ true → Stops r (begins ∷ []) x
      mark-known x same k = refused-as Key x same (rw (e, h, k) refl)

      pub mark-passes : (new : Spot) → known ≡ false → new.sites ≡ r.sites ++ site_before s n (Some (Marks name)) [] → new.total ≡ r.total → Passes r (begins ∷ []) new
      mark-passes new k sites total =
          let l : lowest (fails_at (reached r) begins) ≡ None = is_lowest ∙ (rw (e, h, k) refl) in
          subst (Passes r (begins ∷ [])) (sym (stands-at r new begins sites total)) (begins-passes r begins l)

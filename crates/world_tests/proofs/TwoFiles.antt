-- Of two files that are open at once, one stays open where the other one is closed.
use Rattle.std.proofs.Common.{◌≡◌, ℕ, List, [], ◌∷◌, ◌++◌, Contains, sym, ap, ◌∙◌, refl, subst, append_assoc}
use Rattle.std.proofs.lemmas.List.{append-nil}
use Rattle.std.proofs.lemmas.List.Elements.{Contains-push, Contains-append_left}
use Rattle.cd_world.specs.declared.event.Descriptor.{Descriptor}
use Rattle.cd_world.specs.declared.event.Use.{Use}
use Rattle.cd_world.specs.Live.{Open, open_as, IsLive, Removes}

-- the first, behind the open of the second
pub first_opened : (u : Use) (n m : List ℕ) (l0 l1 l2 : List Open) (d e : Descriptor) → l1 ≡ l0 ++ open_as u d n ∷ [] → l2 ≡ l1 ++ open_as u e m ∷ [] → IsLive u d l2
first_opened u n m l0 l1 l2 d e first second =
    let here : Contains l1 (open_as u d n) = subst (λ (l : List Open). Contains l (open_as u d n)) (sym first) (Contains-push l0 (open_as u d n)) in
    (n, subst (λ (l : List Open). Contains l (open_as u d n)) (sym second) (Contains-append_left l1 (open_as u e m ∷ []) (open_as u d n) here))

module _ (u : Use) (n m : List ℕ) (l0 l1 l2 l3 : List Open) (d e : Descriptor) (first : l1 ≡ l0 ++ open_as u d n ∷ []) (second : l2 ≡ l1 ++ open_as u e m ∷ []) where
  -- the first, where the second is closed
  pub first_stays : Removes e l2 l3 → IsLive u d l3
  first_stays removes =
      (n, subst (λ (l : List Open). Contains l (open_as u d n)) (sym (removes l1 (open_as u e m) [] second refl ∙ append-nil l1 ∙ first)) (Contains-push l0 (open_as u d n)))

  -- the second, where the first is closed
  pub second_stays : Removes d l2 l3 → IsLive u e l3
  second_stays removes =
      let both : l2 ≡ l0 ++ open_as u d n ∷ open_as u e m ∷ [] =
      second ∙ ap (λ (l : List Open). l ++ open_as u e m ∷ []) first ∙ append_assoc l0 (open_as u d n ∷ []) (open_as u e m ∷ []) in
      (m, subst (λ (l : List Open). Contains l (open_as u e m)) (sym (removes l0 (open_as u d n) (open_as u e m ∷ []) both refl)) (Contains-push l0 (open_as u e m)))

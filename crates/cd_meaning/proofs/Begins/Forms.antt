-- Sequences, marks and results go on where their parts do.
use Rattle.std.proofs.Common.{Bool, ◌≡◌, ℕ, zero, suc, ◌≤◌, ◌<◌, ◌⊎◌, inl, inr, List, ◌++◌, length, drop, take, refl, ap, sym, ◌∙◌, subst, arith, length-append}
use Rattle.std.proofs.lemmas.Bool.{cases_lt}
use Rattle.std.proofs.lemmas.List.{take-append-le}
use Rattle.cd_meaning.specs.Stream.{Item, Value, Halt, More, Reading, End, Halted, Ending, Done, Halts, Out, Do, Close, end_of_ending}
use Rattle.cd_meaning.specs.Run.{Stamp, start, Run, Then, Ends, Component, outs, ending, end_of, last, restamp, follow}
use Rattle.cd_meaning.specs.Fusion.{after, place, fed, fuse, fuse_by, returned, fuse_return, drain, drained, fuse_drained, second_value, told, fuse_asked}
use Rattle.cd_meaning.specs.Sections.{one_line, exactly, line, behind, sequence}
use Rattle.cd_meaning.specs.ElementWords.{taken}
use Rattle.cd_meaning.specs.Sources.{marked}
use Rattle.cd_meaning.specs.Laws.{Rising, cut, IsRun}
use Rattle.cd_meaning.specs.Further.{WaitsFor, Begins, GoesOn}
use Rattle.cd_meaning.proofs.Rising.{le_self}
use Rattle.cd_meaning.proofs.Cut.{cut_all, at_most_last}
use Rattle.cd_meaning.proofs.Follow.{follow_rising}
use Rattle.cd_meaning.proofs.Weaves.Laws.{cut_ends, woven_ending}
use Rattle.cd_meaning.proofs.Runs.Elements.{taken_is_run, one_line_is_run}
use Rattle.cd_meaning.proofs.Runs.Sequences.{rising_behind}
use Rattle.cd_meaning.proofs.Runs.Results.{FinishIsRun, by_follow, rising_finish, drain_rising, asked_within, drained_is_run, returned_is_run, told_is_run}
use Rattle.cd_meaning.proofs.Begins.Laws.{goes_on_refl, begins_refl, begins_same, begins_cases, begins_ended, begins_outs, begins_rising, begins_trans}
use Rattle.cd_meaning.proofs.Begins.Fused.{fed_halted, fuse_first_begins, fuse_second_begins}

pub done_waits_not : (sites : ℕ → Bool) (v : Value) (x : Ending) → x ≡ Done v → WaitsFor sites x → ⊥
done_waits_not sites v x e w = (let g : Done v ≡ Halts (More (Reading w.0)) = sym e ∙ w.2 in cc)

-- what stands behind the value goes on as the run does, or where the run is the same
pub follow_begins : (sites : ℕ → Bool) (r q : Run) (k k' : Stamp → Value → Run) → Begins sites r q
    → ((v : Value) → ending r ≡ Done v → Begins sites (k (last r) v) (k' (last r) v))
    → ((v : Value) → Rising (last q).need (k' (last q) v)) → Begins sites (follow r k) (follow q k')
follow_begins sites (Then s a r) (Then t b q) k k' i f g = (i.0, i.1, follow_begins sites r q k k' i.2 f g)
follow_begins sites (Then s a r) (Ends t e) k k' i f g = absurd i
follow_begins sites (Ends s (Done v)) q k k' (inl e) f g = subst (λ x. Begins sites (k s v) (follow x k')) (sym e) (f v refl)
follow_begins sites (Ends s (Done v)) q k k' (inr e) f g = absurd (done_waits_not sites v (Done v) refl e.0)
follow_begins sites (Ends s (Halts x)) q k k' (inl e) f g = inl (ap (λ x. follow x k') e)
follow_begins sites (Ends s (Halts x)) q k k' (inr e) f g = inr (e.0, follow_rising s.need q k' e.1 g)

-- ---- sequence and `mark`

behind_rising : (s t : Stamp) (r : Run) → Rising t.need r → Rising (behind s t).need (restamp (behind s) r)
behind_rising s t (Then u a r) k = (let k0 : t.need ≤ u.need = k.0 in omega arith, behind_rising s u r k.1)
behind_rising s t (Ends u e) k = omega arith

behind_begins : (sites : ℕ → Bool) (s : Stamp) (r q : Run) → Begins sites r q → Begins sites (restamp (behind s) r) (restamp (behind s) q)
behind_begins sites s (Then t a r) (Then u b q) k = (ap (behind s) k.0, k.1, behind_begins sites s r q k.2)
behind_begins sites s (Then t a r) (Ends u e) k = absurd k
behind_begins sites s (Ends t e) q (inl k) = inl (ap (restamp (behind s)) k)
behind_begins sites s (Ends t e) q (inr k) = inr (k.0, behind_rising s t q k.1)

pub sequence_goes_on : (sites : ℕ → Bool) (a a' b b' : Component) → IsRun b' → GoesOn sites a a' → GoesOn sites b b' → GoesOn sites (sequence a b) (sequence a' b')
sequence_goes_on sites a a' b b' kb ga gb xs e =
    follow_begins sites (a xs e) (a' xs e) (λ s v. restamp (behind s) (b (drop s.net xs) e)) (λ s v. restamp (behind s) (b' (drop s.net xs) e)) (ga xs e)
    (λ v i. behind_begins sites (last (a xs e)) (b (drop (last (a xs e)).net xs) e) (b' (drop (last (a xs e)).net xs) e) (gb _ e))
    (λ v. rising_behind (last (a' xs e)) 0 _ (kb.rising _ _))

pub marked_goes_on : (sites : ℕ → Bool) (site : ℕ) (body body' : Component) → GoesOn sites body body' → GoesOn sites (marked site body) (marked site body')
marked_goes_on sites site body body' g xs e = (
  refl,
  refl,
  follow_begins sites (body xs e) (body' xs e) (closes site) (closes site) (g xs e)
      (λ v i. begins_refl sites (closes site (last (body xs e)) v))
      (λ v. (le_self (last (body' xs e)).need, le_self (last (body' xs e)).need)),
) where
  closes : ℕ → Stamp → Value → Run
  closes site t v = Then t (Do (Close site)) (Ends t (Done v))

-- ---- results

-- a finish goes on as the first part does, where no more was asked for than that gave
abbrev pub FinishGoesOn : (Run → Stamp → Value → Run) → Type 0
FinishGoesOn finish = (sites : ℕ → Bool) (a a' : Run) (t : Stamp) (v : Value) → Begins sites a a' → t.need ≤ length (outs a) → Begins sites (finish a t v) (finish a' t v)

-- a known part that is done is all
done_cut : (n : ℕ) (h : Halt) (r : Run) (v : Value) → Rising 0 r → ending (cut n h r) ≡ Done v → ((last r).need ≤ n) × (cut n h r ≡ r)
done_cut n h r v k e = by_need n h r v k e (cases_lt n (last r).need) where
  not_halted : (h : Halt) (v : Value) (x : Ending) → end_of_ending x ≡ Halted h → x ≡ Done v → ⊥
  not_halted h v x e f = (let g : end_of_ending (Done v) ≡ Halted h = ap end_of_ending (sym f) ∙ e in cc)

  by_need : (n : ℕ) (h : Halt) (r : Run) (v : Value) → Rising 0 r → ending (cut n h r) ≡ Done v → (n < (last r).need) ⊎ ((last r).need ≤ n) → ((last r).need ≤ n) × (cut n h r ≡ r)
  by_need n h r v k e (inl l) = absurd (not_halted h v (ending (cut n h r)) (cut_ends n h r l) e)
  by_need n h r v k e (inr l) = (l, cut_all n h r (at_most_last n 0 r k l))

pub finish_begins : (finish : Run → Stamp → Value → Run) → FinishGoesOn finish → (sites : ℕ → Bool) (a a' : Run) (b : Component) (v : Value) → IsRun b → Begins sites a a' → ending (fed a b) ≡ Done v
    → Begins sites (finish a (last (fed a b)) v) (finish a' (last (fed a' b)) v)
finish_begins finish G sites a a' b v kb k z = by_case finish G sites a a' b v kb k z (begins_cases sites a a' k) where
  by_case : (finish : Run → Stamp → Value → Run) → FinishGoesOn finish → (sites : ℕ → Bool) (a a' : Run) (b : Component) (v : Value) → IsRun b → Begins sites a a' → ending (fed a b) ≡ Done v → (a' ≡ a) ⊎ WaitsFor sites (ending a)
      → Begins sites (finish a (last (fed a b)) v) (finish a' (last (fed a' b)) v)
  by_case finish G sites a a' b v kb k z (inl e) = begins_same sites _ _ (ap (λ q. finish q (last (fed q b)) v) (sym e))
  by_case finish G sites a a' b v kb k z (inr e) =
      let m = length (outs a) in
      let f = fed_halted sites a a' b kb k e in
      let d = done_cut m (More (Reading e.0)) (fed a' b) v (kb.rising _ _) (ap ending (sym f) ∙ z) in
      subst (λ q. Begins sites (finish a (last q) v) (finish a' (last (fed a' b)) v)) (sym (f ∙ d.1)) (G sites a a' (last (fed a' b)) v k d.0)

module _ (finish : Run → Stamp → Value → Run) (F : FinishIsRun finish) (G : FinishGoesOn finish) where
  first_begins : (sites : ℕ → Bool) (a a' b : Component) → IsRun a → IsRun b → GoesOn sites a a' → GoesOn sites (fuse_by finish a b) (fuse_by finish a' b)
  first_begins sites a a' b ka kb g xs e =
      let r = a xs e in
      let q = a' xs e in
      let jq = begins_rising sites 0 r q (g xs e) (ka.rising xs e) in
      subst (λ x. Begins sites x (fuse_by finish a' b xs e)) (sym (by_follow finish F a b xs e))
      (subst (λ x. Begins sites (follow (fuse a b xs e) (λ s v. finish r (last (fed r b)) v)) x) (sym (by_follow finish F a' b xs e))
      (follow_begins sites (fuse a b xs e) (fuse a' b xs e) (λ s v. finish r (last (fed r b)) v) (λ s v. finish q (last (fed q b)) v)
      (fuse_first_begins sites start r q b kb (g xs e))
      (λ v i. finish_begins finish G sites r q b v kb (g xs e) (sym (woven_ending (λ j. place start j r) r 0 (fed r b)) ∙ i))
      (λ v. rising_finish finish F q b v jq)))

  second_begins : (sites : ℕ → Bool) (a b b' : Component) → ((xs : List Item) (e : End) → Rising 0 (a xs e)) → IsRun b → GoesOn sites b b' → GoesOn sites (fuse_by finish a b) (fuse_by finish a b')
  second_begins sites a b b' ja kb g xs e =
      let r = a xs e in
      let gr = g (outs r) (end_of r) in
      subst (λ x. Begins sites x (fuse_by finish a b' xs e)) (sym (by_follow finish F a b xs e))
      (subst (λ x. Begins sites (follow (fuse a b xs e) (λ s v. finish r (last (fed r b)) v)) x) (sym (by_follow finish F a b' xs e))
      (follow_begins sites (fuse a b xs e) (fuse a b' xs e) (λ s v. finish r (last (fed r b)) v) (λ s v. finish r (last (fed r b')) v)
      (fuse_second_begins sites start r (fed r b) (fed r b') (ja xs e) (kb.rising _ _) gr)
      (λ v i.
      begins_same sites _ _ (ap (λ q. finish r (last q) v)
      (sym (begins_ended sites (fed r b) (fed r b') gr (done_waits_not sites v (ending (fed r b)) (sym (woven_ending (λ j. place start j r) r 0 (fed r b)) ∙ i))))))
      (λ v. rising_finish finish F r b' v (ja xs e))))

  pub fuse_by_goes_on : (sites : ℕ → Bool) (a a' b b' : Component) → IsRun a → IsRun b → GoesOn sites a a' → GoesOn sites b b' → GoesOn sites (fuse_by finish a b) (fuse_by finish a' b')
  fuse_by_goes_on sites a a' b b' ka kb ga gb xs e =
      begins_trans sites (fuse_by finish a b xs e) (fuse_by finish a' b xs e) (fuse_by finish a' b' xs e)
      (first_begins sites a a' b ka kb ga xs e)
      (second_begins sites a' b b' (λ xs e. begins_rising sites 0 (a xs e) (a' xs e) (ga xs e) (ka.rising xs e)) kb gb xs e)

-- ---- the finishes

pub after_begins : (sites : ℕ → Bool) (j : ℕ) (a a' : Run) → Begins sites a a' → j ≤ length (outs a) → Begins sites (after j a) (after j a')
after_begins sites zero a a' k l = k
after_begins sites (suc j) (Then t (Out x) a) (Then u y a') k l = subst (λ z. Begins sites (after j a) (after (suc j) (Then u z a'))) k.1 (after_begins sites j a a' k.2 (omega arith))
after_begins sites (suc j) (Then t (Do e) a) (Then u y a') k l = subst (λ z. Begins sites (after (suc j) a) (after (suc j) (Then u z a'))) k.1 (after_begins sites (suc j) a a' k.2 l)
after_begins sites (suc j) (Then t x a) (Ends u e) k l = absurd k
after_begins sites (suc j) (Ends t e) a' k l = absurd (omega arith)

drain_begins : (sites : ℕ → Bool) (pair : Value → Value) (a a' : Run) → Begins sites a a' → Begins sites (drain pair a) (drain pair a')
drain_begins sites pair (Then t (Out x) a) (Then u y a') k = subst (λ z. Begins sites (drain pair a) (drain pair (Then u z a'))) k.1 (drain_begins sites pair a a' k.2)
drain_begins sites pair (Then t (Do e) a) (Then u y a') k =
    subst (λ z. Begins sites (Then t (Do e) (drain pair a)) (drain pair (Then u z a'))) k.1 (k.0, refl, drain_begins sites pair a a' k.2)
drain_begins sites pair (Then t x a) (Ends u e) k = absurd k
drain_begins sites pair (Ends t (Done v)) a' (inl k) = inl (ap (drain pair) k)
drain_begins sites pair (Ends t (Done v)) a' (inr k) = absurd (done_waits_not sites v (Done v) refl k.0)
drain_begins sites pair (Ends t (Halts g)) a' (inl k) = inl (ap (drain pair) k)
drain_begins sites pair (Ends t (Halts g)) a' (inr k) = inr (k.0, drain_rising pair t.need a' k.1)

drained_goes_on : (pair : Value → Value → Value) → FinishGoesOn (drained pair)
drained_goes_on pair sites a a' t v k l = drain_begins sites (λ u. pair u v) (after t.need a) (after t.need a') (after_begins sites t.need a a' k l)

place_begins : (sites : ℕ → Bool) (s : Stamp) (j : ℕ) (a a' : Run) → Begins sites a a' → j ≤ length (outs a) → place s j a ≡ place s j a'
place_begins sites s zero a a' k l = refl
place_begins sites s (suc j) (Then t (Out x) a) (Then u y a') k l =
    subst (λ z. place t j a ≡ place s (suc j) (Then u z a')) k.1 (subst (λ z. place t j a ≡ place z j a') k.0 (place_begins sites t j a a' k.2 (omega arith)))
place_begins sites s (suc j) (Then t (Do e) a) (Then u y a') k l = subst (λ z. place s (suc j) a ≡ place s (suc j) (Then u z a')) k.1 (place_begins sites s (suc j) a a' k.2 l)
place_begins sites s (suc j) (Then t x a) (Ends u e) k l = absurd k
place_begins sites s (suc j) (Ends t e) a' k l = absurd (omega arith)

-- a finish that ends at once, with a value that stays
ends_goes_on : (value : Run → Stamp → Value → Value)
    → ((sites : ℕ → Bool) (a a' : Run) (t : Stamp) (v : Value) → Begins sites a a' → t.need ≤ length (outs a) → value a t v ≡ value a' t v)
    → FinishGoesOn (λ a t v. Ends (place start t.need a) (Done (value a t v)))
ends_goes_on value f sites a a' t v k l =
    begins_same sites _ _ (ap (λ q. Ends q (Done (value a t v))) (place_begins sites start t.need a a' k l) ∙ ap (λ u. Ends (place start t.need a') (Done u)) (f sites a a' t v k l))

pub take_begins : (sites : ℕ → Bool) (j : ℕ) (a a' : Run) → Begins sites a a' → j ≤ length (outs a) → take j (outs a) ≡ take j (outs a')
take_begins sites j a a' k l = (let w = begins_outs sites a a' k in sym (ap (take j) w.1 ∙ take-append-le j (outs a) w.0 l))

returned_goes_on : (list : List Item → Value) → FinishGoesOn (returned list)
returned_goes_on list = ends_goes_on _ (λ sites a a' t v k l. ap (λ q. Value.Pair v (list (drop t.net q))) (take_begins sites t.need a a' k l))

told_goes_on : FinishGoesOn told
told_goes_on = ends_goes_on _ (λ sites a a' t v k l.
    asked_within t.need (length (outs a)) (ending a) v l
    ∙ sym (asked_within t.need (length (outs a')) (ending a') v (longer t.need (outs a) (begins_outs sites a a' k).0 (outs a') (begins_outs sites a a' k).1 l))) where
      longer : (j : ℕ) (xs ys zs : List Item) → zs ≡ xs ++ ys → j ≤ length xs → j ≤ length zs
      longer j xs ys zs e l = subst (λ q. j ≤ length q) (sym e) (omega (arith, length-append xs ys))

pub fuse_drained_goes_on : (sites : ℕ → Bool) (pair : Value → Value → Value) (a a' b b' : Component) → IsRun a → IsRun b → GoesOn sites a a' → GoesOn sites b b'
    → GoesOn sites (fuse_drained pair a b) (fuse_drained pair a' b')
fuse_drained_goes_on sites pair = fuse_by_goes_on (drained pair) (drained_is_run pair) (drained_goes_on pair) sites

pub exactly_goes_on : (sites : ℕ → Bool) (n : ℕ) (b b' : Component) → IsRun b → GoesOn sites b b' → GoesOn sites (exactly n b) (exactly n b')
exactly_goes_on sites n b b' k g = fuse_drained_goes_on sites second_value (taken n) (taken n) b b' (taken_is_run n) k (goes_on_refl sites (taken n)) g

pub line_goes_on : (sites : ℕ → Bool) (b b' : Component) → IsRun b → GoesOn sites b b' → GoesOn sites (line b) (line b')
line_goes_on sites b b' k g = fuse_drained_goes_on sites second_value one_line one_line b b' one_line_is_run k (goes_on_refl sites one_line) g

pub fuse_return_goes_on : (sites : ℕ → Bool) (list : List Item → Value) (a a' b b' : Component) → IsRun a → IsRun b → GoesOn sites a a' → GoesOn sites b b'
    → GoesOn sites (fuse_return list a b) (fuse_return list a' b')
fuse_return_goes_on sites list = fuse_by_goes_on (returned list) (returned_is_run list) (returned_goes_on list) sites

pub fuse_asked_goes_on : (sites : ℕ → Bool) (a a' b b' : Component) → IsRun a → IsRun b → GoesOn sites a a' → GoesOn sites b b' → GoesOn sites (fuse_asked a b) (fuse_asked a' b')
fuse_asked_goes_on sites = fuse_by_goes_on told told_is_run told_goes_on sites

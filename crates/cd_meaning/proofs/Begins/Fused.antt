-- Fusion goes on where either part does.
use Rattle.std.proofs.Common.{Bool, ◌≡◌, ℕ, zero, suc, ◌-◌, ◌⊎◌, inl, inr, length, refl, ap, sym, ◌∙◌, subst, arith}
use Rattle.cd_meaning.specs.Stream.{More, Reading, Out, Do, end_of_ending}
use Rattle.cd_meaning.specs.Run.{Stamp, start, Run, Then, Ends, Component, outs, ending, end_of}
use Rattle.cd_meaning.specs.Fusion.{fed, fuse_at, fuse}
use Rattle.cd_meaning.specs.Laws.{Rising, cut, IsRun}
use Rattle.cd_meaning.specs.Further.{WaitsFor, Begins, GoesOn}
use Rattle.cd_meaning.proofs.Rising.{rising_less, le_self}
use Rattle.cd_meaning.proofs.Weaves.Inputs.{Asked, Ask, Say, Fin, asks, asked, asked_from, weave, weave_any, weave_rising, cut_asked, asked_cut, fuse_weave}
use Rattle.cd_meaning.proofs.Begins.Laws.{act_same, begins_refl, begins_cases, begins_outs, begins_rising, begins_trans}

-- ---- the first part goes on

-- the weave of a run that waits begins that of the whole run
weave_begins : (sites : ℕ → Bool) (s : Stamp) (a a' : Run) (b : Asked) → Begins sites a a' → (w : WaitsFor sites (ending a))
    → Begins sites (weave s a (cut_asked (length (outs a)) (More (Reading w.0)) b)) (weave s a' b)
weave_begins sites s a a' (Fin e) k w = inl refl
weave_begins sites s a a' (Say x b) k w = (refl, refl, weave_begins sites s a a' b k w)
weave_begins sites s (Then t (Out x) a) (Then t' y a') (Ask b) k w =
    subst (λ q. Begins sites (weave t a (cut_asked (length (outs a)) (More (Reading w.0)) b)) (weave s q (Ask b))) (act_same t t' _ _ a' k.0 k.1) (weave_begins sites t a a' b k.2 w)
weave_begins sites s (Then t (Do f) a) (Then t' y a') (Ask b) k w =
    subst (λ q. Begins sites (weave s (Then t (Do f) a) (cut_asked (length (outs a)) (More (Reading w.0)) (Ask b))) (weave s q (Ask b))) (act_same t t' _ _ a' k.0 k.1)
    (refl, refl, weave_begins sites s a a' (Ask b) k.2 w)
weave_begins sites s (Then t x a) (Ends t' e) (Ask b) k w = absurd k
weave_begins sites s (Ends t e) a' (Ask b) (inl k) w =
    inr ((w.0, w.1, refl), subst (λ q. Rising t.need (weave s q (Ask b))) (sym k) (weave_rising t (Ends t e) b (le_self t.need)))
weave_begins sites s (Ends t e) a' (Ask b) (inr k) w =
    inr ((w.0, w.1, refl), subst (Rising t.need) (weave_any t s a' b) (weave_rising t a' (Ask b) k.1))

-- what the second part does, where the first one waits
pub fed_halted : (sites : ℕ → Bool) (a a' : Run) (b : Component) → IsRun b → Begins sites a a' → (w : WaitsFor sites (ending a))
    → fed a b ≡ cut (length (outs a)) (More (Reading w.0)) (fed a' b)
fed_halted sites a a' b kb k w =
    let o = outs a in
    let h = More (Reading w.0) in
    let more = begins_outs sites a a' k in
    ap (b o) (ap end_of_ending w.2) ∙ kb.known o more.0 h (end_of a') ∙ ap (λ q. cut (length o) h (b q (end_of a'))) (sym more.1)

fuse_stuck : (sites : ℕ → Bool) (s : Stamp) (a a' : Run) (b : Component) → IsRun b → Begins sites a a' → WaitsFor sites (ending a)
    → Begins sites (fuse_at s a (fed a b)) (fuse_at s a' (fed a' b))
fuse_stuck sites s a a' b kb k w =
    let o = outs a in
    let m = length o in
    let h = More (Reading w.0) in
    let whole = fed a' b in
    let e1 = fed_halted sites a a' b kb k w in
    let e2 : fuse_at s a (fed a b) ≡ weave s a (cut_asked m h (asked 0 whole)) =
    ap (fuse_at s a) e1
    ∙ fuse_weave s a (cut m h whole) (subst (Rising 0) e1 (kb.rising o (end_of a)))
    ∙ ap (weave s a) (asked_cut m 0 h whole (omega arith) (kb.rising (outs a') (end_of a')) ∙ (let e3 : m - 0 ≡ m = omega arith in ap (λ n. cut_asked n h (asked 0 whole)) e3)) in
    subst (λ q. Begins sites q (fuse_at s a' whole)) (sym e2)
    (subst (λ q. Begins sites (weave s a (cut_asked m h (asked 0 whole))) q) (sym (fuse_weave s a' whole (kb.rising (outs a') (end_of a'))))
    (weave_begins sites s a a' (asked 0 whole) k w))

pub fuse_first_begins : (sites : ℕ → Bool) (s : Stamp) (a a' : Run) (b : Component) → IsRun b → Begins sites a a' → Begins sites (fuse_at s a (fed a b)) (fuse_at s a' (fed a' b))
fuse_first_begins sites s a a' b kb k = at_case (begins_cases sites a a' k) where
  at_case : (a' ≡ a) ⊎ WaitsFor sites (ending a) → Begins sites (fuse_at s a (fed a b)) (fuse_at s a' (fed a' b))
  at_case (inl e) = subst (λ q. Begins sites (fuse_at s a (fed a b)) (fuse_at s q (fed q b))) (sym e) (begins_refl sites (fuse_at s a (fed a b)))
  at_case (inr w) = fuse_stuck sites s a a' b kb k w

-- ---- the second part goes on

-- marks of a run that begins another
abbrev BeginsAsked : (ℕ → Bool) → Asked → Asked → Type 0
BeginsAsked sites (Ask b) (Ask c) = BeginsAsked sites b c
BeginsAsked sites (Ask b) (Say x c) = ⊥
BeginsAsked sites (Ask b) (Fin e) = ⊥
BeginsAsked sites (Say x b) (Say y c) = (x ≡ y) × BeginsAsked sites b c
BeginsAsked sites (Say x b) (Ask c) = ⊥
BeginsAsked sites (Say x b) (Fin e) = ⊥
BeginsAsked sites (Fin e) c = (c ≡ Fin e) ⊎ WaitsFor sites e

asks_begin : (sites : ℕ → Bool) (n : ℕ) (b c : Asked) → BeginsAsked sites b c → BeginsAsked sites (asks n b) (asks n c)
asks_begin sites zero b c k = k
asks_begin sites (suc n) b c k = asks_begin sites n b c k

asked_begins : (sites : ℕ → Bool) (i : ℕ) (b c : Run) → Begins sites b c → Rising i b → BeginsAsked sites (asked i b) (asked i c)
asked_begins sites i (Then s x b) (Then t y c) k j =
    subst (λ u. BeginsAsked sites (asks (s.need - i) (Say x (asked s.need b))) (asks (u.need - i) (Say y (asked u.need c)))) k.0
    (asks_begin sites (s.need - i) _ _ (k.1, asked_begins sites s.need b c k.2 j.1))
asked_begins sites i (Then s x b) (Ends t e) k j = absurd k
asked_begins sites i (Ends s e) c (inl k) j = subst (λ q. BeginsAsked sites (asked i (Ends s e)) (asked i q)) (sym k) (asks_begin sites (s.need - i) (Fin e) (Fin e) (inl refl))
asked_begins sites i (Ends s e) c (inr k) j =
    subst (BeginsAsked sites (asked i (Ends s e))) (sym (asked_from i s.need c j k.1)) (asks_begin sites (s.need - i) (Fin e) (asked s.need c) (inr k.0))

weave_goes_on : (sites : ℕ → Bool) (s : Stamp) (a : Run) (b c : Asked) → Rising s.need a → BeginsAsked sites b c → Begins sites (weave s a b) (weave s a c)
weave_goes_on sites s a (Fin e) c j (inl k) = subst (λ q. Begins sites (Ends s e) (weave s a q)) (sym k) (inl refl)
weave_goes_on sites s a (Fin e) c j (inr k) = inr (k, weave_rising s a c j)
weave_goes_on sites s a (Say x b) (Say y c) j k = (refl, k.0, weave_goes_on sites s a b c j k.1)
weave_goes_on sites s a (Say x b) (Ask c) j k = absurd k
weave_goes_on sites s a (Say x b) (Fin e) j k = absurd k
weave_goes_on sites s (Then t (Out x) a) (Ask b) (Ask c) j k = weave_goes_on sites t a b c j.1 k
weave_goes_on sites s (Then t (Do e) a) (Ask b) (Ask c) j k = (refl, refl, weave_goes_on sites s a (Ask b) (Ask c) (rising_less s.need t.need a j.0 j.1) k)
weave_goes_on sites s (Ends t e) (Ask b) (Ask c) j k = weave_goes_on sites t (Ends t e) b c (le_self t.need) k
weave_goes_on sites s a (Ask b) (Say y c) j k = absurd k
weave_goes_on sites s a (Ask b) (Fin e) j k = absurd k

pub fuse_second_begins : (sites : ℕ → Bool) (s : Stamp) (a b c : Run) → Rising s.need a → Rising 0 b → Begins sites b c → Begins sites (fuse_at s a b) (fuse_at s a c)
fuse_second_begins sites s a b c ja jb k =
    subst (λ q. Begins sites q (fuse_at s a c)) (sym (fuse_weave s a b jb))
    (subst (Begins sites (weave s a (asked 0 b))) (sym (fuse_weave s a c (begins_rising sites 0 b c k jb)))
    (weave_goes_on sites s a (asked 0 b) (asked 0 c) ja (asked_begins sites 0 b c k jb)))

-- ---- both

pub fuse_goes_on : (sites : ℕ → Bool) (a a' b b' : Component) → IsRun a → IsRun b → GoesOn sites a a' → GoesOn sites b b' → GoesOn sites (fuse a b) (fuse a' b')
fuse_goes_on sites a a' b b' ka kb ga gb xs e =
    let r = a xs e in
    let q = a' xs e in
    begins_trans sites (fuse_at start r (fed r b)) (fuse_at start q (fed q b)) (fuse_at start q (fed q b'))
    (fuse_first_begins sites start r q b kb (ga xs e))
    (fuse_second_begins sites start q (fed q b) (fed q b') (begins_rising sites 0 r q (ga xs e) (ka.rising xs e)) (kb.rising _ _) (gb (outs q) (end_of q)))

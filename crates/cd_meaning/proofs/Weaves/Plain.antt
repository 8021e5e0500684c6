-- Fusion is what the rules say by A[j].
use Rattle.std.proofs.Common.{◌≡◌, ℕ, zero, suc, ◌+◌, nat_le, if◌then◌else◌, List, [], length, refl, ap, sym, ◌∙◌, arith}
use Rattle.std.proofs.lemmas.List.{drop_all}
use Rattle.std.proofs.lemmas.Bool.{le-leb, lt-leb}
use Rattle.cd_meaning.specs.Stream.{Item, Value, End, Done, Halts, Out, Do}
use Rattle.cd_meaning.specs.Run.{Stamp, start, Run, Then, Ends, Component, outs, last, ending}
use Rattle.cd_meaning.specs.Fusion.{effects_to, between, after, place, woven, kept_stamps, fed, fuse, fuse_by, fuse_keep, outs_between, fuse_return, drain, drained, fuse_drained, asked, fuse_asked}
use Rattle.cd_meaning.specs.PlainFusion.{acts, up_to, effects_up_to, last_stamp, stamp_up_to, with_acts, due, in_order, with_value, plain_fuse, plain_fuse_by, plain_fuse_keep, plain_fuse_return, plain_fuse_asked, plain_fuse_drained}
use Rattle.cd_meaning.proofs.Runs.Shapes.{nat_le_suc}

-- ---- the effects that are due

effects_are : (j : ℕ) (a r : Run) → effects_to j a r ≡ with_acts (effects_up_to j a) r
effects_are zero a r = refl
effects_are (suc j) (Then s (Out x) a) r = effects_are j a r
effects_are (suc j) (Then s (Do e) a) r = ap (Then s (Do e)) (effects_are (suc j) a r)
effects_are (suc j) (Ends s e) r = refl

between_is_due : (i j : ℕ) (a r : Run) → between i j a r ≡ due (length (effects_up_to i a)) j a r
between_is_due zero j a r = effects_are j a r
between_is_due (suc i) zero a r = ap (λ l. with_acts l r) (sym (drop_all (length (effects_up_to (suc i) a)) [] (omega arith)))
between_is_due (suc i) (suc j) (Then s (Out x) a) r = between_is_due i j a r
between_is_due (suc i) (suc j) (Then s (Do e) a) r = between_is_due (suc i) (suc j) a r
between_is_due (suc i) (suc j) (Ends s e) r = refl

-- ---- the stamp of A[j]

place_any : (s t : Stamp) (j : ℕ) (a : Run) → place s (suc j) a ≡ place t (suc j) a
place_any s t j (Then u (Out x) a) = refl
place_any s t j (Then u (Do e) a) = place_any s t j a
place_any s t j (Ends u e) = refl

place_is : (s : Stamp) (j : ℕ) (a : Run) → place s j a ≡ (if nat_le j (length (outs a)) then last_stamp s (up_to j (acts a)) else last a)
place_is s zero a = rw (le-leb 0 (length (outs a)) (omega arith))
place_is s (suc j) (Then t (Out x) a) = place_is t j a ∙ rw (nat_le_suc j (length (outs a)))
place_is s (suc j) (Then t (Do e) a) = place_any s t j a ∙ place_is t (suc j) a
place_is s (suc j) (Ends t e) = rw (lt-leb (suc j) 0 (omega arith))

pub place_is_stamp : (j : ℕ) (a : Run) → place start j a ≡ stamp_up_to j a
place_is_stamp j a = place_is start j a

-- ---- the weave

woven_in_order : (at : ℕ → Stamp) (at' : Stamp → Stamp) (finish finish' : Stamp → Value → Run) (a : Run) → ((t : Stamp) → at t.need ≡ at' t) → ((t : Stamp) (v : Value) → finish t v ≡ finish' t v)
    → (i : ℕ) (b : Run) → woven at finish a i b ≡ in_order at' finish' a (length (effects_up_to i a)) b
woven_in_order at at' finish finish' a h k i (Then t act b) =
    let next = woven at finish a t.need b in
    between_is_due i t.need a (Then (at t.need) act next)
    ∙ ap (due (length (effects_up_to i a)) t.need a) (ap (λ s. Then s act next) (h t) ∙ ap (Then (at' t) act) (woven_in_order at at' finish finish' a h k t.need b))
woven_in_order at at' finish finish' a h k i (Ends t (Done v)) = between_is_due i t.need a (finish t v) ∙ ap (due (length (effects_up_to i a)) t.need a) (k t v)
woven_in_order at at' finish finish' a h k i (Ends t (Halts g)) =
    between_is_due i t.need a (Ends (at t.need) (Halts g)) ∙ ap (λ s. due (length (effects_up_to i a)) t.need a (Ends s (Halts g))) (h t)

by_plain : (finish finish' : Run → Stamp → Value → Run) → ((r : Run) (t : Stamp) (v : Value) → finish r t v ≡ finish' r t v) → (a b : Component) (xs : List Item) (e : End) → fuse_by finish a b xs e ≡ plain_fuse_by finish' a b xs e
by_plain finish finish' k a b xs e =
    let r = a xs e in
    woven_in_order (λ j. place start j r) (λ t. stamp_up_to t.need r) (finish r) (finish' r) r (λ t. place_is_stamp t.need r) (k r) 0 (fed r b)

-- where b is done with a value that the weave has another one for
done_plain : (f : Run → Stamp → Value → Value) (r : Run) (t : Stamp) (v : Value) → Ends (place start t.need r) (Done (f r t v)) ≡ Ends (stamp_up_to t.need r) (Done (f r t v))
done_plain f r t v = ap (λ s. Ends s (Done (f r t v))) (place_is_stamp t.need r)

pub fuse_is_plain : (a b : Component) (xs : List Item) (e : End) → fuse a b xs e ≡ plain_fuse a b xs e
fuse_is_plain = by_plain (λ r t v. Ends (place start t.need r) (Done v)) (λ r t v. Ends (stamp_up_to t.need r) (Done v)) (done_plain (λ r t v. v))

pub fuse_return_is_plain : (list : List Item → Value) (a b : Component) (xs : List Item) (e : End) → fuse_return list a b xs e ≡ plain_fuse_return list a b xs e
fuse_return_is_plain list = by_plain _ _ (done_plain (λ r t v. Value.Pair v (list (outs_between t.net t.need r))))

pub fuse_asked_is_plain : (a b : Component) (xs : List Item) (e : End) → fuse_asked a b xs e ≡ plain_fuse_asked a b xs e
fuse_asked_is_plain = by_plain _ _ (done_plain (λ r t v. asked t.need (length (outs r)) (ending r) v))

drain_is : (pair : Value → Value) (a : Run) → drain pair a ≡ with_acts (effects_up_to (suc (length (outs a))) a) (Ends (last a) (with_value pair (ending a)))
drain_is pair (Then s (Out x) a) = drain_is pair a
drain_is pair (Then s (Do e) a) = ap (Then s (Do e)) (drain_is pair a)
drain_is pair (Ends s (Done v)) = refl
drain_is pair (Ends s (Halts h)) = refl

after_is_due : (pair : Value → Value) (j : ℕ) (a : Run) → drain pair (after j a) ≡ due (length (effects_up_to j a)) (suc (length (outs a))) a (Ends (last a) (with_value pair (ending a)))
after_is_due pair zero a = drain_is pair a
after_is_due pair (suc j) (Then s (Out x) a) = after_is_due pair j a
after_is_due pair (suc j) (Then s (Do e) a) = after_is_due pair (suc j) a
after_is_due pair (suc j) (Ends s (Done v)) = refl
after_is_due pair (suc j) (Ends s (Halts h)) = refl

pub fuse_drained_is_plain : (pair : Value → Value → Value) (a b : Component) (xs : List Item) (e : End) → fuse_drained pair a b xs e ≡ plain_fuse_drained pair a b xs e
fuse_drained_is_plain pair =
    by_plain (drained pair) _
    (λ r t v.
    let k : suc (length (outs r)) ≡ length (outs r) + 1 = omega arith in
    after_is_due (λ u. pair u v) t.need r ∙ ap (λ n. due (length (effects_up_to t.need r)) n r (Ends (last r) (with_value (λ u. pair u v) (ending r)))) k)

kept_in_order : (a : Run) (i : ℕ) (b : Run) → kept_stamps a i b ≡ in_order (λ t. t) (λ t v. Ends t (Done v)) a (length (effects_up_to i a)) b
kept_in_order a i (Then t act b) = between_is_due i t.need a (Then t act (kept_stamps a t.need b)) ∙ ap (λ r. due (length (effects_up_to i a)) t.need a (Then t act r)) (kept_in_order a t.need b)
kept_in_order a i (Ends t (Done v)) = between_is_due i t.need a (Ends t (Done v))
kept_in_order a i (Ends t (Halts g)) = between_is_due i t.need a (Ends t (Halts g))

pub fuse_keep_is_plain : (a b : Component) (xs : List Item) (e : End) → fuse_keep a b xs e ≡ plain_fuse_keep a b xs e
fuse_keep_is_plain a b xs e = kept_in_order (a xs e) 0 (fed (a xs e) b)

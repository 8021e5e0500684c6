-- Each element of a list so many times, written run by run.
use Rattle.std.proofs.Common.{◌≡◌, ◌<◌, ◌≤◌, ◌+◌, ◌*◌, ℕ, suc, List, [], ◌∷◌, ◌++◌, take, drop, length, get_or, slice_set, replicate, flat_map, refl, sym, ap, ap₂, ◌∙◌, subst, arith, length-append}
use Rattle.std.proofs.lemmas.List.{length-take-le, length-replicate, take_at, drop_at, drop-drop, take_more, flat_map_more}
use Rattle.std.proofs.lemmas.List.Edits.{paste_all, fill_from_more, sets-eq}

pub length_repeats : {X : Type 0} (n : ℕ) (xs : List X) → length (flat_map (λ x. replicate n x) xs) ≡ length xs * n
length_repeats n [] = omega arith
length_repeats n (x ∷ xs) =
    length-append (replicate n x) (flat_map (λ x. replicate n x) xs)
    ∙ ap (λ m. m + length (flat_map (λ x. replicate n x) xs)) (length-replicate n x)
    ∙ ap (λ m. n + m) (length_repeats n xs)
    ∙ grind (arith)

repeats_once : {X : Type 0} (xs : List X) → flat_map (λ x. replicate 1 x) xs ≡ xs
repeats_once [] = refl
repeats_once (x ∷ xs) = ap (λ l. x ∷ l) (repeats_once xs)

pub repeats_one : {X : Type 0} (n : ℕ) (xs : List X) → n ≡ 1 → xs ≡ flat_map (λ x. replicate n x) xs
repeats_one n xs is = subst (λ m. xs ≡ flat_map (λ x. replicate m x) xs) (sym is) (sym (repeats_once xs))

-- the places of two that follow each other
pub pair_written : {X : Type 0} (ps : List X) (i : ℕ) (x : X) → i + 2 ≤ length ps → slice_set (slice_set ps i x) (i + 1) x ≡ take i ps ++ replicate 2 x ++ drop (i + 2) ps
pair_written ps i x within =
    let next : i + 1 ≡ suc i = omega arith in
    ap (λ m. slice_set (slice_set ps i x) m x) next ∙ sets-eq (x ∷ x ∷ []) ps i within

-- a run that is one place longer
pub run_more : {X : Type 0} (ds : List X) (at i : ℕ) (x : X) → at + i < length ds
    → slice_set (take at ds ++ (replicate i x ++ drop (at + i) ds)) (at + i) x ≡ take at ds ++ (replicate (i + 1) x ++ drop (at + (i + 1)) ds)
run_more ds at i x within =
    ap (λ l. slice_set l (at + i) x) (sym (paste_all ds at (replicate i x) i (sym (length-replicate i x))))
    ∙ fill_from_more ds at i x within
    ∙ paste_all ds at (replicate (i + 1) x) (i + 1) (sym (length-replicate (i + 1) x))

-- the run of the next element stands behind those of the elements before it
pub run_next : {X : Type 0} (n k : ℕ) (xs ds ps qs : List X) (x d : X) → k < length xs → x ≡ get_or xs k d
    → ps ≡ flat_map (λ y. replicate n y) (take k xs) ++ drop (k * n) ds
    → qs ≡ take (k * n) ps ++ replicate n x ++ drop (k * n + n) ps
    → qs ≡ flat_map (λ y. replicate n y) (take (k + 1) xs) ++ drop ((k + 1) * n) ds
run_next n k xs ds ps qs x d within read is written =
    let front = flat_map (λ y. replicate n y) (take k xs) in
    let len : length front ≡ k * n = length_repeats n (take k xs) ∙ ap (λ m. m * n) (length-take-le k xs (omega (arith, within))) in
    let before : take (k * n) ps ≡ front = ap (take (k * n)) is ∙ take_at front (drop (k * n) ds) (k * n) len in
    let from : drop (k * n) ps ≡ drop (k * n) ds = ap (drop (k * n)) is ∙ drop_at front (drop (k * n) ds) (k * n) len in
    let behind : drop (k * n + n) ps ≡ drop (k * n + n) ds = sym (drop-drop n (k * n) ps) ∙ ap (drop n) from ∙ drop-drop n (k * n) ds in
    let next : k * n + n ≡ (k + 1) * n = grind arith in
    let more : take (k + 1) xs ≡ take k xs ++ x ∷ [] = take_more xs k d within ∙ ap (λ y. take k xs ++ y ∷ []) (sym read) in
    let joined : front ++ replicate n x ≡ flat_map (λ y. replicate n y) (take (k + 1) xs) =
    flat_map_more (λ y. replicate n y) [] (take k xs) x ∙ ap (flat_map (λ y. replicate n y)) (sym more) in
    written
    ∙ ap₂ (λ a b. a ++ replicate n x ++ b) before behind
    ∙ ap₂ (λ a b. a ++ b) joined (ap (λ m. drop m ds) next)

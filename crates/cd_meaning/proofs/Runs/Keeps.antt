-- Behind a map, `|=` is the second part on mapped values.
use Rattle.std.proofs.Common.{◌≡◌, ℕ, zero, suc, List, [], ◌∷◌, ◌++◌, length, map, refl, ap, sym, ◌∙◌, subst}
use Rattle.std.proofs.lemmas.List.{length-map, map-append}
use Rattle.cd_meaning.specs.Stream.{Item, Value, End, Ended, Halted, Out, Do}
use Rattle.cd_meaning.specs.Run.{Stamp, stamp, start, Run, Then, Ends, Component, outs, end_of, past}
use Rattle.cd_meaning.specs.RunShapes.{each}
use Rattle.cd_meaning.specs.ElementWords.{passed, mapped}
use Rattle.cd_meaning.specs.Fusion.{effects_to, between, fed, kept_stamps, fuse_at, fuse, fuse_keep}
use Rattle.cd_meaning.specs.Laws.{cut, EachStamp, IsStamp, IsRun}
use Rattle.cd_meaning.proofs.Weaves.Through.{through, fuse_scan}
use Rattle.cd_meaning.proofs.Runs.Shapes.{is_run_by, each_scan, each_is_scan}

-- one value for each, as soon as that was taken, and nothing else
pub record IsMap (a : Component) : Type 0 where
  pub value : Item → Item
  pub same : (xs : List Item) (e : End) → a xs e ≡ mapped value xs e

pub mapped_is_map : (f : Item → Item) → IsMap (mapped f)
mapped_is_map f = record { value = f; same = λ xs e. refl }

pub passed_is_map : IsMap passed
passed_is_map = record { value = λ x. x; same = λ xs e. refl }

-- ---- the run of a map

abbrev gives : (Item → Item) → ℕ → List Item → Run → Run
gives f i xs r = each (λ x. Out (f x) ∷ []) i xs r

outs_past : (n : ℕ) (e : End) (v : Value) → outs (past n e v) ≡ []
outs_past n Ended v = refl
outs_past n (Halted h) v = refl

end_past : (n : ℕ) (e : End) (v : Value) → end_of (past n e v) ≡ e
end_past n Ended v = refl
end_past n (Halted h) v = refl

gives_outs : (f : Item → Item) (i n : ℕ) (xs : List Item) (e : End) (v : Value) → outs (gives f i xs (past n e v)) ≡ map f xs
gives_outs f i n [] e v = outs_past n e v
gives_outs f i n (x ∷ xs) e v = ap (λ l. f x ∷ l) (gives_outs f (suc i) n xs e v)

gives_end : (f : Item → Item) (i n : ℕ) (xs : List Item) (e : End) (v : Value) → end_of (gives f i xs (past n e v)) ≡ e
gives_end f i n [] e v = end_past n e v
gives_end f i n (x ∷ xs) e v = gives_end f (suc i) n xs e v

-- what b does behind a map
mapped_fed : (f : Item → Item) (b : Component) (xs : List Item) (e : End) → fed (mapped f xs e) b ≡ b (map f xs) e
mapped_fed f b xs e = rw (gives_outs f 0 (length xs) xs e Value.Unit, gives_end f 0 (length xs) xs e Value.Unit)

-- outputs alone
abbrev Quiet : Run → Type 0
Quiet (Then s (Out x) a) = Quiet a
Quiet (Then s (Do e) a) = ⊥
Quiet (Ends s e) = Unit {0}

quiet_past : (n : ℕ) (e : End) (v : Value) → Quiet (past n e v)
quiet_past n Ended v = tt
quiet_past n (Halted h) v = tt

quiet_gives : (f : Item → Item) (i n : ℕ) (xs : List Item) (e : End) (v : Value) → Quiet (gives f i xs (past n e v))
quiet_gives f i n [] e v = quiet_past n e v
quiet_gives f i n (x ∷ xs) e v = quiet_gives f (suc i) n xs e v

effects_quiet : (j : ℕ) (a r : Run) → Quiet a → effects_to j a r ≡ r
effects_quiet zero a r q = refl
effects_quiet (suc j) (Then s (Out x) a) r q = effects_quiet j a r q
effects_quiet (suc j) (Then s (Do e) a) r q = absurd q
effects_quiet (suc j) (Ends s e) r q = refl

between_quiet : (i j : ℕ) (a r : Run) → Quiet a → between i j a r ≡ r
between_quiet zero j a r q = effects_quiet j a r q
between_quiet (suc i) zero a r q = refl
between_quiet (suc i) (suc j) (Then s (Out x) a) r q = between_quiet i j a r q
between_quiet (suc i) (suc j) (Then s (Do e) a) r q = absurd q
between_quiet (suc i) (suc j) (Ends s e) r q = refl

kept_quiet : (a : Run) (i : ℕ) (b : Run) → Quiet a → kept_stamps a i b ≡ b
kept_quiet a i (Then t x b) q = between_quiet i t.need a _ q ∙ ap (Then t x) (kept_quiet a t.need b q)
kept_quiet a i (Ends t e) q = between_quiet i t.need a _ q

mapped_keep : (f : Item → Item) (b : Component) (xs : List Item) (e : End) → fuse_keep (mapped f) b xs e ≡ b (map f xs) e
mapped_keep f b xs e = kept_quiet (mapped f xs e) 0 (fed (mapped f xs e) b) (quiet_gives f 0 (length xs) xs e Value.Unit) ∙ mapped_fed f b xs e

pub keep_on_mapped : (a b : Component) (m : IsMap a) (xs : List Item) (e : End) → fuse_keep a b xs e ≡ b (map m.value xs) e
keep_on_mapped a b m xs e = ap (λ r. kept_stamps r 0 (fed r b)) (m.same xs e) ∙ mapped_keep m.value b xs e

-- ---- a map behind a map

gives_twice : (f g : Item → Item) (i : ℕ) (xs : List Item) (r : Run) → gives g i (map f xs) r ≡ gives (λ x. g (f x)) i xs r
gives_twice f g i [] r = refl
gives_twice f g i (x ∷ xs) r = ap (λ q. Then (stamp (suc i) (suc i)) (Out (g (f x))) q) (gives_twice f g (suc i) xs r)

mapped_twice : (f g : Item → Item) (xs : List Item) (e : End) → mapped g (map f xs) e ≡ mapped (λ x. g (f x)) xs e
mapped_twice f g xs e =
    ap (λ n. gives g 0 (map f xs) (past n e Value.Unit)) (length-map xs f) ∙ gives_twice f g 0 xs (past (length xs) e Value.Unit)

pub keep_is_map : (a b : Component) → IsMap a → IsMap b → IsMap (fuse_keep a b)
keep_is_map a b m k = record {
  value = λ x. k.value (m.value x);
  same = λ xs e. keep_on_mapped a b m xs e ∙ k.same (map m.value xs) e ∙ mapped_twice m.value k.value xs e;
}

-- by `|` too, whose stamps are the first map's
gives_through : (f g : Item → Item) (s : Stamp) (i n : ℕ) (xs : List Item) (e : End)
    → through (each_scan (λ x. Out (g x) ∷ [])) s tt (gives f i xs (past n e Value.Unit)) ≡ gives (λ x. g (f x)) i xs (past n e Value.Unit)
gives_through f g s i n [] Ended = refl
gives_through f g s i n [] (Halted h) = refl
gives_through f g s i n (x ∷ xs) e = ap (λ q. Then (stamp (suc i) (suc i)) (Out (g (f x))) q) (gives_through f g (stamp (suc i) (suc i)) (suc i) n xs e)

fuse_mapped : (f g : Item → Item) (xs : List Item) (e : End) → fuse (mapped f) (mapped g) xs e ≡ mapped (λ x. g (f x)) xs e
fuse_mapped f g xs e =
    let r = mapped f xs e in
    ap (fuse_at start r) (each_is_scan (λ x. Out (g x) ∷ []) (outs r) (end_of r))
    ∙ fuse_scan (each_scan (λ x. Out (g x) ∷ [])) start tt r
    ∙ gives_through f g start 0 (length xs) xs e

pub fuse_is_map : (a b : Component) → IsMap a → IsMap b → IsMap (fuse a b)
fuse_is_map a b m k = record {
  value = λ x. k.value (m.value x);
  same = λ xs e.
      ap (λ r. fuse_at start r (fed r b)) (m.same xs e)
      ∙ ap (fuse_at start (mapped m.value xs e)) (k.same (outs (mapped m.value xs e)) (end_of (mapped m.value xs e)))
      ∙ fuse_mapped m.value k.value xs e;
}

-- ---- it is a run

on_mapped_is_run : (f : Item → Item) (b : Component) → IsRun b → IsRun (λ xs e. b (map f xs) e)
on_mapped_is_run f b k = record {
  rising = λ xs e. k.rising (map f xs) e;
  stamps = λ xs e. subst (λ n. EachStamp (IsStamp n) (b (map f xs) e)) (length-map xs f) (k.stamps (map f xs) e);
  known = λ xs ys h e.
      k.known (map f xs) (map f ys) h e
      ∙ ap (λ n. cut n h (b (map f xs ++ map f ys) e)) (length-map xs f)
      ∙ ap (λ l. cut (length xs) h (b l e)) (sym (map-append f xs ys));
}

pub fuse_keep_is_run : (a b : Component) → IsMap a → IsRun b → IsRun (fuse_keep a b)
fuse_keep_is_run a b m k = is_run_by (fuse_keep a b) (λ xs e. b (map m.value xs) e) (keep_on_mapped a b m) (on_mapped_is_run m.value b k)

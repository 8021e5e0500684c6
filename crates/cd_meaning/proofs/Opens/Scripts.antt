-- Each lawful script in which names are used while they stand opens each of its sites at most once.
use Rattle.std.proofs.Common.{◌≡◌, ℕ, suc, ◌+◌, ◌-◌, ◌≤◌, ◌<◌, Bool, true, false, if◌then◌else◌, List, [], ◌∷◌, ◌++◌, length, map, codes, ◌⊎◌, inl, inr, None, bytes_eq, refl, ap, sym, subst, arith}
use Rattle.std.proofs.lemmas.Bool.{cases_lt, cases_Bool}
use Rattle.std.proofs.lemmas.Slice.Eq.{bytes_eq-Decides}
use Rattle.cd_elem.specs.declared.script.Stmt.{Stmt}
use Rattle.cd_meaning.specs.Stream.{Value, Ended, Done, Halts, Out, Do, Put}
use Rattle.cd_meaning.specs.Run.{Stamp, start, Run, Then, Ends, Component, last, effects, acts_at}
use Rattle.cd_meaning.specs.RunShapes.{Seen}
use Rattle.cd_meaning.specs.ValueText.{value_text}
use Rattle.cd_meaning.specs.Places.{Place, Marks, place_in}
use Rattle.cd_meaning.specs.Fusion.{place, after, fed, outs_between}
use Rattle.cd_meaning.specs.Seals.{fed_run, left_by}
use Rattle.cd_meaning.specs.Laws.{Rising}
use Rattle.cd_meaning.specs.Meaning.{Meaning}
use Rattle.cd_meaning.specs.Pipes.{pipe_meaning}
use Rattle.cd_meaning.specs.Scripts.{ScriptState, value_puts, goes_on, ran, passed_sites, with_name, with_sealed, sink_of, run_statement, let_statement, feed_statement, close_statement, hold_statement, release_statement, statement_meaning, first_state, statements_from, script_run, script_places}
use Rattle.cd_meaning.specs.Scoped.{UsesStanding, IsScoped}
use Rattle.cd_meaning.specs.Opens.{opens_of, openings_at, openings_from, openings_in, files_in, closes_of, OpensOnce, ClosesOpen}
use Rattle.cd_meaning.specs.LawfulTrees.{IsLawfulScript}
use Rattle.cd_meaning.specs.Lawful.{IsLawful}
use Rattle.cd_meaning.proofs.Lawful.Trees.{tree_is_lawful}
use Rattle.cd_meaning.proofs.Opens.Spends.{Spends, Whatever, Within, within_more, outs_spend, Harmless, acts_spend, woven_spend}
use Rattle.cd_meaning.proofs.Opens.FormSpends.{own}
use Rattle.cd_meaning.proofs.Opens.Counts.{within_opens, within_closes, within_closed, openings_once, differ, at_most, openings_before, openings_behind, openings_most, openings_place}
use Rattle.cd_meaning.proofs.Opens.Few.{few_openings}
use Rattle.cd_meaning.proofs.Opens.Forms.{OpensOwn, openings_append}
use Rattle.cd_meaning.proofs.Opens.Trees.{tree_opens_own}

-- ---- effects alone, and what stands behind them

puts_harmless : (bytes : List ℕ) → Harmless (map (λ b. Do (Put 0 b)) bytes)
puts_harmless [] = tt
puts_harmless (b ∷ bytes) = puts_harmless bytes

value_harmless : (v : Value) → Harmless (value_puts v)
value_harmless Value.Unit = tt
value_harmless v = puts_harmless (codes "= " ++ value_text v ++ 10 ∷ [])

goes_on_within : (k : ℕ) (Q : ℕ → ℕ → Stamp → Value → Type 0) (f g o d : ℕ) (r : Run) (next : Stamp → Value → Run)
    → ((p q : ℕ) (s : Stamp) (v : Value) → Q p q s v → Within k (p + f) (q + g) (next s v))
    → Spends k Q o d r → Within k (o + f) (d + g) (goes_on r next)
goes_on_within k Q f g o d (Then s (Out x) r) next h w = goes_on_within k Q f g o d r next h w
goes_on_within k Q f g o d (Then s (Do e) r) next h w = (w.0 + f, w.1 + g, omega (arith, w.2), omega (arith, w.3), goes_on_within k Q f g w.0 w.1 r next h w.4)
goes_on_within k Q f g o d (Ends s (Done v)) next h w = h o d s v w
goes_on_within k Q f g o d (Ends s (Halts e)) next h w = tt

ran_within : (k : ℕ) (Q : ℕ → ℕ → Stamp → Value → Type 0) (f g o d : ℕ) (r next : Run)
    → ((p q : ℕ) (s : Stamp) (v : Value) → Q p q s v → Within k (p + f) (q + g) next)
    → Spends k Q o d r → Within k (o + f) (d + g) (ran r next)
ran_within k Q f g o d r next h w =
    goes_on_within k Q f g o d r (λ s v. acts_at start (value_puts v) next)
    (λ p q s v i. acts_spend k Whatever (p + f) (q + g) start (value_puts v) next (value_harmless v) (h p q s v i)) w

-- ---- names

-- of one name alone
abbrev only_at : List ℕ → ℕ → List ℕ → ℕ
only_at n o name = if bytes_eq name n then o else 0

at_itself : (name : List ℕ) (o : ℕ) → only_at name o name ≡ o
at_itself name o = ap (λ (b : Bool). if b then o else 0) ((bytes_eq-Decides name name).1 refl)

at_other : (name n : List ℕ) (o : ℕ) → bytes_eq name n ≡ false → only_at n o name ≡ 0
at_other name n o e = ap (λ (b : Bool). if b then o else 0) e

name_cases : (name n : List ℕ) → (name ≡ n) ⊎ (bytes_eq name n ≡ false)
name_cases name n = by (cases_Bool (bytes_eq name n)) where
  by : (bytes_eq name n ≡ true) ⊎ (bytes_eq name n ≡ false) → (name ≡ n) ⊎ (bytes_eq name n ≡ false)
  by (inl e) = inl ((bytes_eq-Decides name n).0 e)
  by (inr e) = inr e

-- What stands of site k: the source s may still open it o times and close it d times more, no other source may, and h times it is held by the key t.
-- Sites that are still to come are untouched.
record Standing (k : ℕ) (sealed held : List ℕ → Bool) (st : ScriptState) (s : List ℕ) (o d : ℕ) (t : List ℕ) (h : ℕ) : Type 0 where
  seals : (name : List ℕ) → sealed name ≡ true → Within k (only_at s o name) (only_at s d name) (st.sealed name)
  keys : (name : List ℕ) → held name ≡ true → own k (st.key name) 1 ≤ only_at t h name
  fresh : st.site ≤ k → (o ≡ 0) × (d ≡ 0) × (h ≡ 0)

-- what stands behind a statement keeps to what stands, where these places are still to come
abbrev Next : ℕ → (List ℕ → Bool) → (List ℕ → Bool) → List Place → (ScriptState → Run) → Type 0
Next k sealed held places next = (st : ScriptState) (s : List ℕ) (o d : ℕ) (t : List ℕ) (h : ℕ) → Standing k sealed held st s o d t h
    → Within k (o + openings_from k st.site places) (d + h) (next st)

no_true : {A : Type 0} → false ≡ true → A
no_true h = absurd cc

-- ---- statements

module _ (k : ℕ) (sealed held : List ℕ → Bool) (seen : Seen) (places : List Place) (next : ScriptState → Run) (st : ScriptState) (s : List ℕ) (o d : ℕ) (t : List ℕ) (h : ℕ) (stands : Standing k sealed held st s o d t h) where
  passed : (m : Meaning) → st.site + length m.places ≤ k → (o ≡ 0) × (d ≡ 0) × (h ≡ 0)
  passed m l = stands.fresh (omega (arith, l))

  run_within : (m : Meaning) → OpensOwn m → Next k sealed held places next → Within k (o + openings_from k st.site (m.places ++ places)) (d + h) (run_statement m seen st next)
  run_within m w go =
      let rest = openings_from k (st.site + length m.places) places in
      let c = openings_from k st.site m.places in
      let r = m.run None st.site seen [] Ended in
      within_more k (c + (o + rest)) (0 + (d + h)) _ _ (ran r (next (passed_sites st m))) (omega (arith, openings_append k st.site m.places places)) (omega arith)
      (ran_within k Whatever (o + rest) (d + h) c 0 r (next (passed_sites st m))
      (λ p q s' v i. within_more k (o + rest) (d + h) _ _ (next (passed_sites st m)) (omega arith) (omega arith)
      (go (passed_sites st m) s o d t h (record { seals = stands.seals; keys = stands.keys; fresh = passed m })))
      (w.opens k None st.site seen [] Ended))

  let_within : (name : List ℕ) (m : Meaning) → OpensOwn m → Next k (with_name sealed name true) held places next
      → Within k (o + openings_from k st.site (m.places ++ places)) (d + h) (let_statement name m seen st next)
  let_within name m w go = by (cases_lt k st.site) where
    r : Run
    r = m.run None st.site seen [] Ended

    st' : ScriptState
    st' = record { site = st.site + length m.places; sealed = with_name st.sealed name r; flow = with_name st.flow name (m.gives None); key = st.key }

    old_or : (a b : ℕ) (c : Bool) (x : Bool) (q : Run) → Within k 0 0 r → (x ≡ true → Within k a b q) → (if c then true else x) ≡ true → Within k a b (if c then r else q)
    old_or a b true x q w i e = within_more k 0 0 a b r (omega arith) (omega arith) w
    old_or a b false x q w i e = i e

    new_or : (a : ℕ) (c : Bool) (x : Bool) (q : Run) → Within k a 0 r → (x ≡ true → Within k 0 0 q) → (if c then true else x) ≡ true
        → Within k (if c then a else 0) (if c then 0 else 0) (if c then r else q)
    new_or a true x q w i e = w
    new_or a false x q w i e = i e

    by : (k < st.site) ⊎ (st.site ≤ k) → Within k (o + openings_from k st.site (m.places ++ places)) (d + h) (next st')
    by (inl l) =
        let z = openings_before k st.site m.places l in
        within_more k (o + openings_from k (st.site + length m.places) places) (d + h) _ _ (next st') (omega (arith, openings_append k st.site m.places places)) (omega arith)
        (go st' s o d t h (record {
          seals = λ other i. old_or (only_at s o other) (only_at s d other) (bytes_eq other name) (sealed other) (st.sealed other) (subst (λ n. Within k n 0 r) z (w.opens k None st.site seen [] Ended)) (stands.seals other) i;
          keys = stands.keys;
          fresh = passed m;
        }))
    by (inr l) =
        let c = openings_from k st.site m.places in
        let z = stands.fresh l in
        within_more k (c + openings_from k (st.site + length m.places) places) (0 + h) _ _ (next st') (omega (arith, openings_append k st.site m.places places)) (omega arith)
        (go st' name c 0 t h (record {
          seals = λ other i. new_or c (bytes_eq other name) (sealed other) (st.sealed other) (w.opens k None st.site seen [] Ended)
              (λ j. within_more k (only_at s o other) (only_at s d other) 0 0 (st.sealed other) (omega (arith, at_most (bytes_eq other s) o, z.0)) (omega (arith, at_most (bytes_eq other s) d, z.1)) (stands.seals other j)) i;
          keys = stands.keys;
          fresh = λ m'. (openings_behind k st.site m.places m', refl, (passed m m').2);
        }))

-- what a sink leaves of a source that had o and d
abbrev Leaves : ℕ → ℕ → ℕ → Run → ℕ → ℕ → Stamp → Value → Type 0
Leaves k o d r f g s v = (p : ℕ) × (q : ℕ) × (p ≤ f) × (q ≤ g) × (p + q ≤ o + d) × Within k p q r

fed_spend : (k o d f : ℕ) (a : Run) (b : Component) → Rising 0 (fed a b) → Within k o d a → Within k f 0 (fed a b) → Spends k (Leaves k o d (left_by a b)) (o + f) (d + 0) (fed_run a b)
fed_spend k o d f a b rise w u =
    woven_spend k (Leaves k o d (left_by a b)) (λ j. place start j a) (λ t v. Ends (place start t.need a) (Done v)) a 0 o d f 0 (fed a b) rise w u
    (λ v p q f' g' l. (p, q, omega arith, omega arith, l.0, outs_spend k Whatever p q start (outs_between (last (fed a b)).net (last (fed a b)).need a) (after (last (fed a b)).need a) l.1))

module _ (k : ℕ) (sealed held : List ℕ → Bool) (seen : Seen) (places : List Place) (next : ScriptState → Run) (st : ScriptState) (s : List ℕ) (o d : ℕ) (t : List ℕ) (h : ℕ) (stands : Standing k sealed held st s o d t h) where
  -- a feed of this sink, of which what is left is as Q says, and what stands behind it has as much more
  fed_within : (name : List ℕ) (m : Meaning) → OpensOwn m → IsLawful m → (beyond : Run) (f g o' d' : ℕ)
      → Within k o' d' (st.sealed name) → o' + f ≤ o + openings_from k (st.site + length m.places) places → d' + g ≤ d + h
      → ((p q : ℕ) → p + q ≤ o' + d' → Within k p q (left_by (st.sealed name) (sink_of name m seen st)) → Within k (p + f) (q + g) beyond)
      → Within k (o + openings_from k st.site (m.places ++ places)) (d + h) (ran (fed_run (st.sealed name) (sink_of name m seen st)) beyond)
  fed_within name m w lawful beyond f g o' d' a l l' go =
      let c = openings_from k st.site m.places in
      let b = sink_of name m seen st in
      let run = fed_run (st.sealed name) b in
      within_more k ((o' + c) + f) ((d' + 0) + g) _ _ (ran run beyond) (omega (arith, l, openings_append k st.site m.places places)) (omega (arith, l'))
      (ran_within k (Leaves k o' d' (left_by (st.sealed name) b)) f g (o' + c) (d' + 0) run beyond
      (λ p q s' v i. within_more k (i.0 + f) (i.1 + g) (p + f) (q + g) beyond (omega (arith, i.2)) (omega (arith, i.3)) (go i.0 i.1 i.4 i.5))
      (fed_spend k o' d' c (st.sealed name) b ((lawful.runs (st.flow name) st.site seen).rising _ _) a (w.opens k (st.flow name) st.site seen _ _)))

  feed_within : (name : List ℕ) (m : Meaning) → OpensOwn m → IsLawful m → sealed name ≡ true → Next k sealed held places next
      → Within k (o + openings_from k st.site (m.places ++ places)) (d + h) (feed_statement name m seen st next)
  feed_within name m w lawful is go = by (name_cases name s) where
    left : Run
    left = left_by (st.sealed name) (sink_of name m seen st)

    st' : ScriptState
    st' = with_sealed (passed_sites st m) name left

    rest : ℕ
    rest = openings_from k (st.site + length m.places) places

    past : st.site + length m.places ≤ k → (o ≡ 0) × (d ≡ 0) × (h ≡ 0)
    past l = stands.fresh (omega (arith, l))

    new_or : (p q a b : ℕ) (c : Bool) (old : Run) → Within k p q left → Within k (if c then a else 0) (if c then b else 0) old
        → Within k (if c then p else 0) (if c then q else 0) (if c then left else old)
    new_or p q a b true old u v = u
    new_or p q a b false old u v = v

    old_or : (a b : ℕ) (c : Bool) (old : Run) → Within k 0 0 left → Within k a b old → Within k a b (if c then left else old)
    old_or a b true old u v = within_more k 0 0 a b left (omega arith) (omega arith) u
    old_or a b false old u v = v

    by : (name ≡ s) ⊎ (bytes_eq name s ≡ false) → Within k (o + openings_from k st.site (m.places ++ places)) (d + h) (feed_statement name m seen st next)
    by (inl e) =
        let seals : (other : List ℕ) → sealed other ≡ true → Within k (only_at name o other) (only_at name d other) (st.sealed other) =
        subst (λ n. (other : List ℕ) → sealed other ≡ true → Within k (only_at n o other) (only_at n d other) (st.sealed other)) (sym e) stands.seals in
        let a = at_itself name o in
        let b = at_itself name d in
        fed_within name m w lawful (next st') rest h (only_at name o name) (only_at name d name) (seals name is) (omega (arith, a)) (omega (arith, b))
        (λ p q l u.
        go st' name p q t h (record {
          seals = λ other i. new_or p q o d (bytes_eq other name) (st.sealed other) u (seals other i);
          keys = stands.keys;
          fresh = λ m'. let z = past m' in (omega (arith, l, a, b, z.0, z.1), omega (arith, l, a, b, z.0, z.1), z.2);
        }))
    by (inr e) =
        let a = at_other name s o e in
        let b = at_other name s d e in
        fed_within name m w lawful (next st') (o + rest) (d + h) (only_at s o name) (only_at s d name) (stands.seals name is) (omega (arith, a)) (omega (arith, b))
        (λ p q l u.
        within_more k (o + rest) (d + h) (p + (o + rest)) (q + (d + h)) (next st') (omega arith) (omega arith)
        (go st' s o d t h (record {
          seals = λ other i. old_or (only_at s o other) (only_at s d other) (bytes_eq other name) (st.sealed other)
              (within_more k p q 0 0 left (omega (arith, l, a, b)) (omega (arith, l, a, b)) u) (stands.seals other i);
          keys = stands.keys;
          fresh = past;
        })))

  close_within : (name : List ℕ) (m : Meaning) → OpensOwn m → IsLawful m → sealed name ≡ true → Next k (with_name sealed name false) held places next
      → Within k (o + openings_from k st.site (m.places ++ places)) (d + h) (close_statement name m seen st next)
  close_within name m w lawful is go = by (name_cases name s) where
    st' : ScriptState
    st' = passed_sites st m

    rest : ℕ
    rest = openings_from k (st.site + length m.places) places

    past : st.site + length m.places ≤ k → (o ≡ 0) × (d ≡ 0) × (h ≡ 0)
    past l = stands.fresh (omega (arith, l))

    none_or : (a b : ℕ) (c x : Bool) (old : Run) → (x ≡ true → Within k (if c then a else 0) (if c then b else 0) old) → (if c then false else x) ≡ true
        → Within k (if c then 0 else 0) (if c then 0 else 0) old
    none_or a b true x old i j = no_true j
    none_or a b false x old i j = i j

    old_or : (a b : ℕ) (c x : Bool) (old : Run) → (x ≡ true → Within k a b old) → (if c then false else x) ≡ true → Within k a b old
    old_or a b true x old i j = no_true j
    old_or a b false x old i j = i j

    by : (name ≡ s) ⊎ (bytes_eq name s ≡ false) → Within k (o + openings_from k st.site (m.places ++ places)) (d + h) (close_statement name m seen st next)
    by (inl e) =
        let seals : (other : List ℕ) → sealed other ≡ true → Within k (only_at name o other) (only_at name d other) (st.sealed other) =
        subst (λ n. (other : List ℕ) → sealed other ≡ true → Within k (only_at n o other) (only_at n d other) (st.sealed other)) (sym e) stands.seals in
        let a = at_itself name o in
        let b = at_itself name d in
        fed_within name m w lawful (next st') rest h (only_at name o name) (only_at name d name) (seals name is) (omega (arith, a)) (omega (arith, b))
        (λ p q l u.
        within_more k (0 + rest) (0 + h) (p + rest) (q + h) (next st') (omega arith) (omega arith)
        (go st' name 0 0 t h (record {
          seals = λ other i. none_or o d (bytes_eq other name) (sealed other) (st.sealed other) (seals other) i;
          keys = stands.keys;
          fresh = λ m'. (refl, refl, (past m').2);
        })))
    by (inr e) =
        let a = at_other name s o e in
        let b = at_other name s d e in
        fed_within name m w lawful (next st') (o + rest) (d + h) (only_at s o name) (only_at s d name) (stands.seals name is) (omega (arith, a)) (omega (arith, b))
        (λ p q l u.
        within_more k (o + rest) (d + h) (p + (o + rest)) (q + (d + h)) (next st') (omega arith) (omega arith)
        (go st' s o d t h (record {
          seals = λ other i. old_or (only_at s o other) (only_at s d other) (bytes_eq other name) (sealed other) (st.sealed other) (stands.seals other) i;
          keys = stands.keys;
          fresh = past;
        })))

  hold_within : (name file : List ℕ) → Next k sealed (with_name held name true) places next
      → Within k (o + openings_from k st.site (Marks file ∷ places)) (d + h) (hold_statement name seen st next)
  hold_within name file go = by (cases_lt k st.site) where
    st' : ScriptState
    st' = record { site = suc st.site; sealed = st.sealed; flow = st.flow; key = with_name st.key name st.site }

    rest : ℕ
    rest = openings_from k (suc st.site) places

    old_or : (a : ℕ) (c x : Bool) (key : ℕ) → own k st.site 1 ≡ 0 → (x ≡ true → own k key 1 ≤ a) → (if c then true else x) ≡ true → own k (if c then st.site else key) 1 ≤ a
    old_or a true x key z i j = omega (arith, z)
    old_or a false x key z i j = i j

    new_or : (c x : Bool) (key : ℕ) → (x ≡ true → own k key 1 ≤ 0) → (if c then true else x) ≡ true → own k (if c then st.site else key) 1 ≤ (if c then own k st.site 1 else 0)
    new_or true x key i j = omega arith
    new_or false x key i j = i j

    by : (k < st.site) ⊎ (st.site ≤ k) → Within k (o + openings_from k st.site (Marks file ∷ places)) (d + h) (hold_statement name seen st next)
    by (inl l) =
        let z = differ st.site k 1 (λ e. omega (arith, l, e)) in (
          o + rest,
          d + h,
          omega (arith, z),
          omega (arith, z),
          go st' s o d t h (record {
            seals = stands.seals;
            keys = λ other i. old_or (only_at t h other) (bytes_eq other name) (held other) (st.key other) z (stands.keys other) i;
            fresh = λ m'. stands.fresh (omega (arith, m'));
          }),
        )
    by (inr l) =
        let z = stands.fresh l in (
          o + rest,
          d + own k st.site 1,
          omega arith,
          omega (arith, z.2),
          go st' s o d name (own k st.site 1) (record {
            seals = stands.seals;
            keys = λ other i. new_or (bytes_eq other name) (held other) (st.key other)
                (λ j. let b = stands.keys other j in omega (arith, b, at_most (bytes_eq other t) h, z.2)) i;
            fresh = λ m'. (z.0, z.1, differ st.site k 1 (λ e. omega (arith, m', e)));
          }),
        )

  release_within : (name : List ℕ) → held name ≡ true → Next k sealed (with_name held name false) places next
      → Within k (o + openings_from k st.site places) (d + h) (release_statement name seen st next)
  release_within name is go = by (name_cases name t) where
    cost : ℕ
    cost = own k (st.key name) 1

    old_or : (a : ℕ) (c x : Bool) (key : ℕ) → (x ≡ true → own k key 1 ≤ a) → (if c then false else x) ≡ true → own k key 1 ≤ a
    old_or a true x key i j = no_true j
    old_or a false x key i j = i j

    none_or : (a b : ℕ) (c x : Bool) (key : ℕ) → (x ≡ true → own k key 1 ≤ (if c then a else 0)) → (if c then false else x) ≡ true → own k key 1 ≤ (if c then b else 0)
    none_or a b true x key i j = no_true j
    none_or a b false x key i j = i j

    by : (name ≡ t) ⊎ (bytes_eq name t ≡ false) → Within k (o + openings_from k st.site places) (d + h) (release_statement name seen st next)
    by (inl e) =
        let keys : (other : List ℕ) → held other ≡ true → own k (st.key other) 1 ≤ only_at name h other =
        subst (λ n. (other : List ℕ) → held other ≡ true → own k (st.key other) 1 ≤ only_at n h other) (sym e) stands.keys in
        let a = at_itself name h in
        let b = keys name is in (
          o + openings_from k st.site places,
          d + (h - cost),
          omega arith,
          omega (arith, a, b),
          go st s o d name (h - cost) (record {
            seals = stands.seals;
            keys = λ other i. none_or h (h - cost) (bytes_eq other name) (held other) (st.key other) (keys other) i;
            fresh = λ m'. let z = stands.fresh m' in (z.0, z.1, omega (arith, z.2));
          }),
        )
    by (inr e) =
        let a = at_other name t h e in
        let b = stands.keys name is in (
          o + openings_from k st.site places,
          d + h,
          omega arith,
          omega (arith, a, b),
          go st s o d t h (record {
            seals = stands.seals;
            keys = λ other i. old_or (only_at t h other) (bytes_eq other name) (held other) (st.key other) (stands.keys other) i;
            fresh = stands.fresh;
          }),
        )

-- ---- scripts

statements_within : (k : ℕ) (seen : Seen) (script : List Stmt) → IsLawfulScript script → (sealed held : List ℕ → Bool) → UsesStanding sealed held script
    → Next k sealed held (script_places script) (statements_from (map statement_meaning script) seen)
statements_within k seen [] lawful sealed held uses st s o d t h stands = tt
statements_within k seen (Stmt.Run p ∷ more) lawful sealed held uses st s o d t h stands =
    run_within k sealed held seen (script_places more) (statements_from (map statement_meaning more) seen) st s o d t h stands (pipe_meaning p) (tree_opens_own p lawful.0)
    (statements_within k seen more lawful.1 sealed held uses)
statements_within k seen (Stmt.Seal name p ∷ more) lawful sealed held uses st s o d t h stands =
    let_within k sealed held seen (script_places more) (statements_from (map statement_meaning more) seen) st s o d t h stands name (pipe_meaning p) (tree_opens_own p lawful.0)
    (statements_within k seen more lawful.1 (with_name sealed name true) held uses)
statements_within k seen (Stmt.Feed name p ∷ more) lawful sealed held uses st s o d t h stands =
    feed_within k sealed held seen (script_places more) (statements_from (map statement_meaning more) seen) st s o d t h stands name (pipe_meaning p) (tree_opens_own p lawful.0) (tree_is_lawful p lawful.0) uses.0
    (statements_within k seen more lawful.1 sealed held uses.1)
statements_within k seen (Stmt.CloseSeal name p ∷ more) lawful sealed held uses st s o d t h stands =
    close_within k sealed held seen (script_places more) (statements_from (map statement_meaning more) seen) st s o d t h stands name (pipe_meaning p) (tree_opens_own p lawful.0) (tree_is_lawful p lawful.0) uses.0
    (statements_within k seen more lawful.1 (with_name sealed name false) held uses.1)
statements_within k seen (Stmt.Hold name file ∷ more) lawful sealed held uses st s o d t h stands =
    hold_within k sealed held seen (script_places more) (statements_from (map statement_meaning more) seen) st s o d t h stands name file
    (statements_within k seen more lawful.1 sealed (with_name held name true) uses)
statements_within k seen (Stmt.Release name ∷ more) lawful sealed held uses st s o d t h stands =
    release_within k sealed held seen (script_places more) (statements_from (map statement_meaning more) seen) st s o d t h stands name uses.0
    (statements_within k seen more lawful.1 sealed (with_name held name false) uses.1)

script_within : (script : List Stmt) → IsLawfulScript script → IsScoped script → (seen : Seen) (k : ℕ) → Within k (0 + openings_from k 1 (script_places script)) 0 (script_run script seen)
script_within script lawful scoped seen k =
    statements_within k seen script lawful (λ name. false) (λ name. false) scoped first_state [] 0 0 [] 0
    (record { seals = λ name i. no_true i; keys = λ name i. no_true i; fresh = λ l. (refl, refl, refl) })

-- each site is opened as often as its place lets it: once, and only where it has a file
pub script_opens_own : (script : List Stmt) → IsLawfulScript script → IsScoped script → (seen : Seen) (site : ℕ) → opens_of site (effects (script_run script seen)) ≤ openings_at (place_in (script_places script) site)
script_opens_own script lawful scoped seen site =
    let h = within_opens site (0 + openings_from site 1 (script_places script)) 0 (script_run script seen) (script_within script lawful scoped seen site) in
    omega (arith, h, openings_place (script_places script) site)

pub script_opens_once : (script : List Stmt) → IsLawfulScript script → IsScoped script → OpensOnce (script_run script)
script_opens_once script lawful scoped seen site =
    let h = script_opens_own script lawful scoped seen site in
    omega (arith, h, openings_most (place_in (script_places script) site))

-- a closing finds its site open, so there is at most one
pub script_closes_open : (script : List Stmt) → IsLawfulScript script → IsScoped script → (seen : Seen) (site : ℕ) → ClosesOpen site (script_run script seen)
script_closes_open script lawful scoped seen site =
    within_closes site (0 + openings_from site 1 (script_places script)) (script_run script seen) (omega (arith, openings_once site 1 (script_places script))) (script_within script lawful scoped seen site)

pub script_closes_once : (script : List Stmt) → IsLawfulScript script → IsScoped script → (seen : Seen) (site : ℕ) → closes_of site (effects (script_run script seen)) ≤ 1
script_closes_once script lawful scoped seen site =
    let h = within_closed site (0 + openings_from site 1 (script_places script)) 0 (script_run script seen) (script_within script lawful scoped seen site) in
    let g = script_opens_once script lawful scoped seen site in omega (arith, h, g)

-- so there are no more openings than places with a file
pub script_opens_few : (script : List Stmt) → IsLawfulScript script → IsScoped script → (seen : Seen) → openings_in (effects (script_run script seen)) ≤ files_in (script_places script)
script_opens_few script lawful scoped seen =
    few_openings (effects (script_run script seen)) (script_places script)
    (λ site. let h = within_opens site (0 + openings_from site 1 (script_places script)) 0 (script_run script seen) (script_within script lawful scoped seen site) in omega (arith, h))

-- Statements of lawful pipes are lawful, and a script of such goes on where sites give further bytes.
use Rattle.std.proofs.Common.{◌≡◌, ℕ, inl, inr, List, [], ◌∷◌, drop, Bool, true, false, if◌then◌else◌, None, bytes_eq, refl, ap, sym, ◌∙◌, subst, arith}
use Rattle.cd_meaning.specs.Stream.{Item, Value, Ended, Done, Halts, Act, Out, Do}
use Rattle.cd_meaning.specs.Run.{Stamp, start, Run, Then, Ends, Component, outs, ending, end_of, last, acts_at, outs_at}
use Rattle.cd_meaning.specs.RunShapes.{Seen}
use Rattle.cd_meaning.specs.Fusion.{place, after, fed, outs_between}
use Rattle.cd_meaning.specs.Seals.{fed_run, resealed, left_by}
use Rattle.cd_meaning.specs.Laws.{Rising, IsRun}
use Rattle.cd_meaning.specs.Further.{Begins, GoesOn, Further}
use Rattle.cd_meaning.specs.Lawful.{IsLawful, SealsGoOn, with_seals, IsLawfulStatement, AreLawful}
use Rattle.cd_meaning.specs.Meaning.{Meaning}
use Rattle.cd_meaning.specs.Scripts.{ScriptState, Statement, value_puts, goes_on, passed_sites, with_name, with_sealed, run_statement, let_statement, feed_statement, close_statement, hold_statement, release_statement, first_state, statements_from}
use Rattle.cd_meaning.proofs.Rising.{rising_less, le_self}
use Rattle.cd_meaning.proofs.Runs.Results.{after_rising}
use Rattle.cd_meaning.proofs.Weaves.Laws.{woven_ending}
use Rattle.cd_meaning.proofs.Begins.Laws.{begins_refl, begins_ended, begins_rising, begins_trans, outs_begin}
use Rattle.cd_meaning.proofs.Begins.Fused.{fuse_first_begins, fuse_second_begins}
use Rattle.cd_meaning.proofs.Begins.Forms.{FinishGoesOn, finish_begins, done_waits_not, after_begins, take_begins}

-- ---- effects alone, and what stands behind them

goes_on_rising : (r : Run) (k : Stamp → Value → Run) → ((s : Stamp) (v : Value) → Rising 0 (k s v)) → Rising 0 (goes_on r k)
goes_on_rising (Then s (Out x) r) k f = goes_on_rising r k f
goes_on_rising (Then s (Do e) r) k f = (le_self 0, goes_on_rising r k f)
goes_on_rising (Ends s (Done v)) k f = f s v
goes_on_rising (Ends s (Halts sites)) k f = le_self 0

goes_on_begins : (sites : ℕ → Bool) (r q : Run) (k k' : Stamp → Value → Run) → Begins sites r q
    → ((v : Value) → ending r ≡ Done v → Begins sites (k (last r) v) (k' (last r) v))
    → ((s : Stamp) (v : Value) → Rising 0 (k' s v)) → Begins sites (goes_on r k) (goes_on q k')
goes_on_begins sites (Then s (Out x) r) (Then t y q) k k' i f g = subst (λ z. Begins sites (goes_on r k) (goes_on (Then t z q) k')) i.1 (goes_on_begins sites r q k k' i.2 f g)
goes_on_begins sites (Then s (Do e) r) (Then t y q) k k' i f g =
    subst (λ z. Begins sites (Then start (Do e) (goes_on r k)) (goes_on (Then t z q) k')) i.1 (refl, refl, goes_on_begins sites r q k k' i.2 f g)
goes_on_begins sites (Then s x r) (Ends t e) k k' i f g = absurd i
goes_on_begins sites (Ends s (Done v)) q k k' (inl e) f g = subst (λ x. Begins sites (k s v) (goes_on x k')) (sym e) (f v refl)
goes_on_begins sites (Ends s (Done v)) q k k' (inr e) f g = absurd (done_waits_not sites v (Done v) refl e.0)
goes_on_begins sites (Ends s (Halts x)) q k k' (inl e) f g = inl (ap (λ x. goes_on x k') e)
goes_on_begins sites (Ends s (Halts x)) q k k' (inr e) f g = inr (e.0, goes_on_rising q k' g)

acts_begin : (sites : ℕ → Bool) (acts : List Act) (r q : Run) → Begins sites r q → Begins sites (acts_at start acts r) (acts_at start acts q)
acts_begin sites [] r q k = k
acts_begin sites (a ∷ acts) r q k = (refl, refl, acts_begin sites acts r q k)

puts_rising : (acts : List Act) (r : Run) → Rising 0 r → Rising 0 (acts_at start acts r)
puts_rising [] r k = k
puts_rising (a ∷ acts) r k = (le_self 0, puts_rising acts r k)

-- ---- sealed sources

fed_begins : (sites : ℕ → Bool) (a a' : Run) (b b' : Component) → Rising 0 a → IsRun b → Begins sites a a' → GoesOn sites b b' → Begins sites (fed_run a b) (fed_run a' b')
fed_begins sites a a' b b' ja kb k g =
    begins_trans sites (fed_run a b) (fed_run a' b) (fed_run a' b')
    (fuse_first_begins sites start a a' b kb k)
    (fuse_second_begins sites start a' (fed a' b) (fed a' b') (begins_rising sites 0 a a' k ja) (kb.rising _ _) (g (outs a') (end_of a')))

resealed_goes_on : FinishGoesOn (λ a t v. resealed a t)
resealed_goes_on sites a a' t v k l =
    subst (λ xs. Begins sites (resealed a t) (outs_at start xs (after t.need a'))) (ap (drop t.net) (take_begins sites t.need a a' k l))
    (outs_begin sites (outs_between t.net t.need a) (after t.need a) (after t.need a') (after_begins sites t.need a a' k l))

-- what a sink leaves goes on, where the sink was done
left_begins : (sites : ℕ → Bool) (a a' : Run) (b b' : Component) (v : Value) → IsRun b → Begins sites a a' → GoesOn sites b b' → ending (fed_run a b) ≡ Done v → Begins sites (left_by a b) (left_by a' b')
left_begins sites a a' b b' v kb k g z =
    let e = fuse_first_begins sites start a a' b kb k in
    let ended = λ (r : Run). woven_ending (λ j. place start j r) r 0 (fed r b) in
    let z' = sym (ended a') ∙ ap ending (begins_ended sites (fed_run a b) (fed_run a' b) e (done_waits_not sites v (ending (fed_run a b)) z)) ∙ z in
    let same = begins_ended sites (fed a' b) (fed a' b') (g (outs a') (end_of a')) (done_waits_not sites v (ending (fed a' b)) z') in
    subst (λ q. Begins sites (left_by a b) (resealed a' (last q))) (sym same)
    (finish_begins (λ a t v. resealed a t) resealed_goes_on sites a a' b v kb k (sym (ended a) ∙ z))

outs_rising : (xs : List Item) (r : Run) → Rising 0 r → Rising 0 (outs_at start xs r)
outs_rising [] r k = k
outs_rising (x ∷ xs) r k = (le_self 0, outs_rising xs r k)

resealed_rising : (a : Run) (t : Stamp) → Rising 0 a → Rising 0 (resealed a t)
resealed_rising a t k = outs_rising (outs_between t.net t.need a) (after t.need a) (rising_less 0 (place start t.need a).need (after t.need a) (omega arith) (after_rising start t.need a k))

-- a source that is sealed, or goes on to be
with_name_goes_on : (sites : ℕ → Bool) (f g : List ℕ → Run) (name : List ℕ) (a b : Run) → SealsGoOn sites f g → Begins sites a b → Rising 0 a → SealsGoOn sites (with_name f name a) (with_name g name b)
with_name_goes_on sites f g name a b k i j other = by_test (bytes_eq other name) (k other) i j where
  by_test : (c : Bool) → Begins sites (f other) (g other) × Rising 0 (f other) → Begins sites a b → Rising 0 a
      → Begins sites (if c then a else f other) (if c then b else g other) × Rising 0 (if c then a else f other)
  by_test true k i j = (i, j)
  by_test false k i j = k

-- ---- statements

pub run_statement_is_lawful : (m : Meaning) → IsLawful m → IsLawfulStatement (run_statement m)
run_statement_is_lawful m k = record {
  rising = λ seen st next f. goes_on_rising (m.run None st.site seen [] Ended) _ (λ t v. puts_rising (value_puts v) _ (f (passed_sites st m)));
  goes_on = λ sites seen seen' w st sealed i next next' f g.
      goes_on_begins sites (m.run None st.site seen [] Ended) (m.run None st.site seen' [] Ended) _ _ (k.goes_on sites seen seen' w None st.site [] Ended)
      (λ v z. acts_begin sites (value_puts v) _ _ (g (passed_sites st m) sealed i))
      (λ t v. puts_rising (value_puts v) _ (f (passed_sites (with_seals st sealed) m)));
}

pub let_statement_is_lawful : (name : List ℕ) (m : Meaning) → IsLawful m → IsLawfulStatement (let_statement name m)
let_statement_is_lawful name m k = record {
  rising = λ seen st next f. f _;
  goes_on = λ sites seen seen' w st sealed i next next' f g.
      let r = m.run None st.site seen [] Ended in
      g _ (with_name sealed name (m.run None st.site seen' [] Ended))
      (with_name_goes_on sites st.sealed sealed name r (m.run None st.site seen' [] Ended) i (k.goes_on sites seen seen' w None st.site [] Ended) ((k.runs None st.site seen).rising [] Ended));
}

pub close_statement_is_lawful : (name : List ℕ) (m : Meaning) → IsLawful m → IsLawfulStatement (close_statement name m)
close_statement_is_lawful name m k = record {
  rising = λ seen st next f. goes_on_rising (fed_run (st.sealed name) (m.run (st.flow name) st.site seen)) _ (λ t v. puts_rising (value_puts v) _ (f (passed_sites st m)));
  goes_on = λ sites seen seen' w st sealed i next next' f g.
      let b = m.run (st.flow name) st.site seen in
      let b' = m.run (st.flow name) st.site seen' in
      goes_on_begins sites (fed_run (st.sealed name) b) (fed_run (sealed name) b') _ _
      (fed_begins sites (st.sealed name) (sealed name) b b' (i name).1 (k.runs (st.flow name) st.site seen) (i name).0 (k.goes_on sites seen seen' w (st.flow name) st.site))
      (λ v z. acts_begin sites (value_puts v) _ _ (g (passed_sites st m) sealed i))
      (λ t v. puts_rising (value_puts v) _ (f (passed_sites (with_seals st sealed) m)));
}

pub feed_statement_is_lawful : (name : List ℕ) (m : Meaning) → IsLawful m → IsLawfulStatement (feed_statement name m)
feed_statement_is_lawful name m k = record {
  rising = λ seen st next f. goes_on_rising (fed_run (st.sealed name) (m.run (st.flow name) st.site seen)) _ (λ t v. puts_rising (value_puts v) _ (f _));
  goes_on = λ sites seen seen' w st sealed i next next' f g.
      let a = st.sealed name in
      let b = m.run (st.flow name) st.site seen in
      let b' = m.run (st.flow name) st.site seen' in
      let kb = k.runs (st.flow name) st.site seen in
      let gb = k.goes_on sites seen seen' w (st.flow name) st.site in
      goes_on_begins sites (fed_run a b) (fed_run (sealed name) b') _ _
      (fed_begins sites a (sealed name) b b' (i name).1 kb (i name).0 gb)
      (λ v z.
      acts_begin sites (value_puts v) _ _
      (g (with_sealed (passed_sites st m) name (left_by a b)) (with_name sealed name (left_by (sealed name) b'))
      (with_name_goes_on sites st.sealed sealed name (left_by a b) (left_by (sealed name) b') i (left_begins sites a (sealed name) b b' v kb (i name).0 gb z) (resealed_rising a (last (fed a b)) (i name).1))))
      (λ t v. puts_rising (value_puts v) _ (f _));
}

pub hold_statement_is_lawful : (name : List ℕ) → IsLawfulStatement (hold_statement name)
hold_statement_is_lawful name = record {
  rising = λ seen st next f. (le_self 0, f _);
  goes_on = λ sites seen seen' w st sealed i next next' f g. (refl, refl, g _ sealed i);
}

pub release_statement_is_lawful : (name : List ℕ) → IsLawfulStatement (release_statement name)
release_statement_is_lawful name = record {
  rising = λ seen st next f. (le_self 0, f st);
  goes_on = λ sites seen seen' w st sealed i next next' f g. (refl, refl, g st sealed i);
}

-- ---- scripts

statements_rising : (seen : Seen) (statements : List Statement) → AreLawful statements → (st : ScriptState) → Rising 0 (statements_from statements seen st)
statements_rising seen [] k st = le_self 0
statements_rising seen (s ∷ more) k st = k.0.rising seen st (statements_from more seen) (statements_rising seen more k.1)

statements_go_on : (sites : ℕ → Bool) (seen seen' : Seen) → Further sites seen seen' → (statements : List Statement) → AreLawful statements
    → (st : ScriptState) (sealed : List ℕ → Run) → SealsGoOn sites st.sealed sealed
    → Begins sites (statements_from statements seen st) (statements_from statements seen' (with_seals st sealed))
statements_go_on sites seen seen' w [] k st sealed i = inl refl
statements_go_on sites seen seen' w (s ∷ more) k st sealed i =
    k.0.goes_on sites seen seen' w st sealed i (statements_from more seen) (statements_from more seen')
    (statements_rising seen' more k.1) (statements_go_on sites seen seen' w more k.1)

-- what was meant of what was seen begins what is meant where sites gave further bytes, and is all of it where it waits for none of them
pub statements_go_on_from_first : (sites : ℕ → Bool) (seen seen' : Seen) → Further sites seen seen' → (statements : List Statement) → AreLawful statements
    → Begins sites (statements_from statements seen first_state) (statements_from statements seen' first_state)
statements_go_on_from_first sites seen seen' w statements k =
    statements_go_on sites seen seen' w statements k first_state first_state.sealed (λ name. (begins_refl sites (first_state.sealed name), le_self 0))

-- What a read makes of a run.
use Rattle.std.proofs.Common.{◌≡◌, ◌≢◌, ℕ, ◌+◌, ◌≤◌, ◌<◌, inl, inr, Bool, true, false, List, [], ◌∷◌, ◌++◌, length, take, get_or, Ok, Err, refl, ap, sym, ◌∙◌, subst, arith, if◌then◌else◌, ◌==◌}
use Rattle.std.specs.Prelude.{Contains, IsTrue, Some}
use Rattle.std.proofs.lemmas.Bool.Decides.{nat_tests}
use Rattle.cd_elem.specs.declared.site.Site.{Site}
use Rattle.cd_meaning.specs.Stream.{Value, Halt, Halts, Stop, More, Reading, ReadBad, Long}
use Rattle.cd_meaning.specs.Run.{start, Run, Ends}
use Rattle.cd_meaning.specs.RunShapes.{Told, Seen, Mark, MayGoOn, Broken, TooLong as PastLimit}
use Rattle.cd_step.specs.Parts.{Part, Reads, rest, site}
use Rattle.cd_meaning.specs.Known.{nothing_known, known, pick, before, no_more, unknown}
use Rattle.cd_world.specs.declared.event.Descriptor.{Descriptor}
use Rattle.cd_world.specs.declared.event.Event.TheVariants.{Gave as HasGiven, GaveEnd as HasEnded}
use Rattle.cd_world.specs.declared.world.WorldError.{WorldError}
use Rattle.cd_world.specs.declared.world.WorldError.TheVariants.{Failed, NoMemory as NoSpace}
use Rattle.cd_world.specs.Events.{gave}
use Rattle.cd_scope.specs.declared.table.Held.{Held}
use Rattle.cd_run.specs.declared.fault.RunFault.TheVariants.{NoMemory, ReadFault, TooLong}
use Rattle.cd_scope.specs.Uses.{ReadsAt}
use Rattle.cd_scope.specs.Calls.{Giving, Passing, Ending, Breaking, did, held_at, given_of, mark_of}
use Rattle.cd_scope.specs.Due.{Setting, Due, Fits, GoesOn, Readable, Awaits}
use Rattle.cd_run.specs.Going.{Outside, Going, Filed, MayBeRead, to_come}
use Rattle.cd_run.specs.Ends.{Faulted}
use Rattle.cd_scope.proofs.Lists.{each_snoc}
use Rattle.cd_scope.proofs.Further.{did_snoc, open_snoc}
use Rattle.cd_run.proofs.Running.{over_files, stands_call}
use Rattle.cd_run.proofs.Steps.{logged, refused_by}
use Rattle.cd_node.specs.Nodes.{StopsWith, halted, fed_node}
use Rattle.cd_node.specs.declared.protocol.NodeInput.TheVariants.{Gave, GaveEnd}
use Rattle.cd_run.specs.Statements.{goes, left_run, within}
use Rattle.cd_run.specs.Paused.{Forgets}
use Rattle.cd_run.proofs.Goes.{stuck_goes}
use Rattle.cd_run.proofs.FileReads.{give_counted, end_counted, past_limit}
use Rattle.cd_step.specs.Parts as parts

same_test : (s : ℕ) → (s == s) ≡ true
same_test s = grind (arith, nat_tests)

other_test : (s t : ℕ) → t ≢ s → (t == s) ≡ false
other_test s t e = grind (arith, nat_tests, e)

known_here : (s : ℕ) (w : Told) (z : Seen) → known s w z s ≡ w
known_here s w z = ap (λ b. pick b w (z s)) (same_test s)

module _ {t : List Held} {left : List ℕ} (g : Setting) (m : Seen → Run) (k : Seen → Value → Run) (w0 w w' : Outside) (own : Site) (d : Descriptor) (q : Part)
    (at : q.at ≡ Reads own.0) (stops : StopsWith own.0 q) (open_at : ReadsAt (g.place own.0) d.0 (Contains t (held_at own.0 d))) (lt : own.0 < length left) (more : 0 < get_or left own.0 0) (G : Going g m t left (within (left_run q) k) w0 w) where
  awaits : Awaits m G.calls own.0
  awaits = G.stands nothing_known ∙ ap (did G.calls) (stuck_goes (More (Reading own.0)) q nothing_known _ (stops nothing_known MayGoOn (More (Reading own.0)) refl refl))

  going : mark_of own.0 G.calls ≡ MayGoOn
  going = by (G.counted.counts own.0 lt) where
    by : MayBeRead g (mark_of own.0 G.calls) (length (given_of own.0 G.calls)) (get_or left own.0 0) → mark_of own.0 G.calls ≡ MayGoOn
    by (inl o) = absurd (omega (arith, o.1, more))
    by (inr o) = o.0

  readable : Readable g G.calls own.0 d
  readable = subst (λ l. ReadsAt (g.place own.0) d.0 (Contains l (held_at own.0 d))) (sym G.standing) open_at

  halts : (mark : Mark) (h : Halt) → halted own.0 mark ≡ Some h → (z : Seen) (next : Value → Run) → goes (left_run q (known own.0 (unknown mark) z)) next ≡ Ends start (Halts h)
  halts mark h is z next = stuck_goes h q (known own.0 (unknown mark) z) next (stops (known own.0 (unknown mark) z) mark h (known_here own.0 (unknown mark) z) is)

  pub given : (left' : List ℕ) (chunk : parts.Chunk) (b : List ℕ) → chunk.1 ≡ b → w'.log ≡ w.log ++ HasGiven d b ∷ [] → 0 < length b → length b ≤ g.size
      → get_or left' own.0 0 + length b ≡ get_or left own.0 0 → 0 < get_or left' own.0 0 → ((x : ℕ) → x ≢ own.0 → get_or left' x 0 ≡ get_or left x 0) → length left' ≡ length left
      → (IsTrue g.tells → length (given_of own.0 G.calls) + length b ≤ g.limit → Filed g G.calls t w0.files w.files → Filed g (G.calls ++ Giving own.0 d b ∷ []) t w0.files w'.files)
      → Going g m t left' (within (left_run (fed_node (Gave chunk) q)) k) w0 w'
  given left' chunk b is log some small here still others len files =
      subst (λ x. Going g m t left' (within (λ z. left_run q (known (site x) (before chunk.1 (z (site x))) z)) k) w0 w') (sym at)
      (subst (λ l. Going g m t left' (within (λ z. left_run q (known own.0 (before l (z own.0)) z)) k) w0 w') (sym is) (record {
        calls = G.calls ++ Giving own.0 d b ∷ [];
        log = logged g.place w0.log w.log w'.log G.calls (Giving own.0 d b) G.log log;
        due = each_snoc (Due m) G.calls (Giving own.0 d b) G.due awaits;
        fits = each_snoc (Fits g) G.calls (Giving own.0 d b) G.fits (going, readable, small, few (G.counted.counts own.0 lt));
        clean = each_snoc GoesOn G.calls (Giving own.0 d b) G.clean (λ x. x);
        standing = open_snoc G.calls (Giving own.0 d b) ∙ G.standing;
        stands = stands_call m (within (left_run q) k) (Giving own.0 d b) G.calls G.stands;
        once = G.once;
        counted = give_counted G.calls own.0 d b g left left' G.counted here more some lt others len;
        filed = λ tells. files tells (few (G.counted.counts own.0 lt)) (G.filed tells);
      })) where
        few : MayBeRead g (mark_of own.0 G.calls) (length (given_of own.0 G.calls)) (get_or left own.0 0) → length (given_of own.0 G.calls) + length b ≤ g.limit
        few (inl o) = absurd (omega (arith, o.1, more))
        few (inr o) = let c = o.1 in omega (arith, c, here, still)

  pub ended : (left' : List ℕ) → w'.log ≡ w.log ++ HasEnded d ∷ [] → get_or left' own.0 0 ≡ 0 → ((x : ℕ) → x ≢ own.0 → get_or left' x 0 ≡ get_or left x 0) → length left' ≡ length left
      → (IsTrue g.tells → Filed g G.calls t w0.files w.files → Filed g (G.calls ++ Ending own.0 d ∷ []) t w0.files w'.files)
      → Going g m t left' (within (left_run (fed_node GaveEnd q)) k) w0 w'
  ended left' log here others len files =
      subst (λ x. Going g m t left' (within (λ z. left_run q (known (site x) no_more z)) k) w0 w') (sym at) (record {
        calls = G.calls ++ Ending own.0 d ∷ [];
        log = logged g.place w0.log w.log w'.log G.calls (Ending own.0 d) G.log log;
        due = each_snoc (Due m) G.calls (Ending own.0 d) G.due awaits;
        fits = each_snoc (Fits g) G.calls (Ending own.0 d) G.fits (going, readable);
        clean = each_snoc GoesOn G.calls (Ending own.0 d) G.clean (λ x. x);
        standing = open_snoc G.calls (Ending own.0 d) ∙ G.standing;
        stands = stands_call m (within (left_run q) k) (Ending own.0 d) G.calls G.stands;
        once = G.once;
        counted = end_counted G.calls own.0 d g left left' G.counted going here others len;
        filed = λ tells. files tells (G.filed tells);
      })

  pub broke : (into : List ℕ) (e : WorldError) → e ≡ Failed → w'.log ≡ w.log ++ gave d into (Err e) → Faulted g m (ReadFault own) t w0 w'
  broke into e is log = record {
    calls = G.calls ++ Breaking own.0 d ∷ [];
    log = logged g.place w0.log w.log w'.log G.calls (Breaking own.0 d) G.log (log ∙ ap (λ (x : WorldError). w.log ++ gave d into (Err x)) is);
    due = each_snoc (Due m) G.calls (Breaking own.0 d) G.due awaits;
    fits = each_snoc (Fits g) G.calls (Breaking own.0 d) G.fits (going, readable);
    standing = open_snoc G.calls (Breaking own.0 d) ∙ G.standing;
    failed = (d, record { front = G.calls; calls_are = refl; clean = G.clean });
    ends = λ z. stands_call m (within (left_run q) k) (Breaking own.0 d) G.calls G.stands z ∙ ap (did (G.calls ++ Breaking own.0 d ∷ [])) (halts Broken (Stop (ReadBad own.0)) refl z _);
    whole = λ tells. tt;
  }

  pub passed : (b : List ℕ) → length b ≡ 1 → get_or left own.0 0 ≡ 1 → w'.log ≡ w.log ++ HasGiven d b ∷ [] → ((tells : IsTrue g.tells) → 0 < length ((G.filed tells).more own.0)) → Faulted g m (TooLong own) t w0 w'
  passed b one last log some = record {
    calls = G.calls ++ Passing own.0 d b ∷ [];
    log = logged g.place w0.log w.log w'.log G.calls (Passing own.0 d b) G.log log;
    due = each_snoc (Due m) G.calls (Passing own.0 d b) G.due awaits;
    fits = each_snoc (Fits g) G.calls (Passing own.0 d b) G.fits (going, readable, one, full (G.counted.counts own.0 lt));
    standing = open_snoc G.calls (Passing own.0 d b) ∙ G.standing;
    failed = (d, b, record { front = G.calls; calls_are = refl; clean = G.clean });
    ends = λ z. stands_call m (within (left_run q) k) (Passing own.0 d b) G.calls G.stands z ∙ ap (did (G.calls ++ Passing own.0 d b ∷ [])) (halts PastLimit (Stop (Long own.0)) refl z _);
    whole = λ tells. over_files g m t left (within (left_run q) k) w0 w tells G
        ∙ ap (did G.calls) (stuck_goes (Stop (Long own.0)) q (ahead tells) _ (stops (ahead tells) PastLimit (Stop (Long own.0)) (past_limit _ ((G.filed tells).more own.0) (let n = full (G.counted.counts own.0 lt) in omega (arith, n)) (some tells)) refl))
        ∙ sym (did_snoc G.calls (Passing own.0 d b) _);
  } where
    ahead : IsTrue g.tells → Seen
    ahead tells = to_come g G.calls (G.filed tells).more

    full : MayBeRead g (mark_of own.0 G.calls) (length (given_of own.0 G.calls)) (get_or left own.0 0) → length (given_of own.0 G.calls) ≡ g.limit
    full (inl o) = absurd (omega (arith, o.1, last))
    full (inr o) = let c = o.1 in omega (arith, c, last)

  pub read_refused : (into : List ℕ) (e : WorldError) → e ≡ NoSpace → w'.log ≡ w.log ++ gave d into (Err e) → Faulted g m NoMemory t w0 w'
  read_refused into e is log = refused_by g m t (within (left_run q) k) w0 w w' (λ x. gave d into (Err x)) e is refl G log

-- what a read lists
pub lists_end : (d : Descriptor) (into : List ℕ) (count : ℕ) → count ≡ 0 → gave d into (Ok count) ≡ HasEnded d ∷ []
lists_end d into count is = ap (λ n. if n == 0 then HasEnded d ∷ [] else HasGiven d (take n into) ∷ []) is

pub lists_some : (d : Descriptor) (into : List ℕ) (count : ℕ) → count ≢ 0 → gave d into (Ok count) ≡ HasGiven d (take count into) ∷ []
lists_some d into count is = ap (λ b. if b then HasEnded d ∷ [] else HasGiven d (take count into) ∷ []) (other_test 0 count is)

-- ---- a site whose end was told

twice : (s : ℕ) (a w : Told) (z : Seen) → known s a (known s w z) ≡ known s a z
twice s a w z = λ i t. at t i where
  at : (t : ℕ) → known s a (known s w z) t ≡ known s a z t
  at t = by (t == s) where
    by : (b : Bool) → pick b a (pick b w (z t)) ≡ pick b a (z t)
    by true = refl
    by false = refl

apart : (s t : ℕ) (a w : Told) (z : Seen) → s ≢ t → known s a (known t w z) ≡ known t w (known s a z)
apart s t a w z e = λ i x. at x i where
  swap : (b c : Bool) (v : Told) → (b ≡ true → c ≡ false) → pick b a (pick c w v) ≡ pick c w (pick b a v)
  swap true true v h = absurd (grind (arith, h refl))
  swap true false v h = refl
  swap false true v h = refl
  swap false false v h = refl

  at : (x : ℕ) → known s a (known t w z) x ≡ known t w (known s a z) x
  at x = swap (x == s) (x == t) (z x) (λ is. other_test t x (λ (h : x ≡ t). e (grind (arith, nat_tests, is, h))))

pub end_forgotten : (s : ℕ) (q : Part) → q.at ≡ Reads s → Forgets s (fed_node GaveEnd q)
end_forgotten s q at w z next = subst (λ t. goes (left_run q (known (site t) no_more (known s w z))) next ≡ goes (left_run q (known (site t) no_more z)) next) (sym at)
    (ap (λ y. goes (left_run q y) next) (twice s no_more w z))

pub gave_forgets : (s t : ℕ) (q : Part) (c : parts.Chunk) → q.at ≡ Reads s → s ≢ t → Forgets t q → Forgets t (fed_node (Gave c) q)
gave_forgets s t q c at e ig w z next = subst (λ x. goes (left_run q (known (site x) (before c.1 (known t w z (site x))) (known t w z))) next ≡ goes (left_run q (known (site x) (before c.1 (z (site x))) z)) next) (sym at)
    (ap (λ y. goes (left_run q (known s (before c.1 y) (known t w z))) next) (ap (λ b. pick b w (z s)) (other_test t s e))
    ∙ ap (λ y. goes (left_run q y) next) (apart s t _ w z e) ∙ ig w (known s (before c.1 (z s)) z) next)

pub end_forgets : (s t : ℕ) (q : Part) → q.at ≡ Reads s → s ≢ t → Forgets t q → Forgets t (fed_node GaveEnd q)
end_forgets s t q at e ig w z next = subst (λ x. goes (left_run q (known (site x) no_more (known t w z))) next ≡ goes (left_run q (known (site x) no_more z)) next) (sym at)
    (ap (λ y. goes (left_run q y) next) (apart s t _ w z e) ∙ ig w (known s no_more z) next)

-- a tree that reads a site speaks of it
pub not_forgotten : (s : ℕ) (q : Part) → StopsWith s q → Forgets s q → ⊥
not_forgotten s q stuck ig = apart_ends (sym (stuck_goes (More (Reading s)) q nothing_known next (stuck nothing_known MayGoOn (More (Reading s)) refl refl))
    ∙ sym (ig (unknown Broken) nothing_known next)
    ∙ stuck_goes (Stop (ReadBad s)) q (known s (unknown Broken) nothing_known) next (stuck (known s (unknown Broken) nothing_known) Broken (Stop (ReadBad s)) (known_here s (unknown Broken) nothing_known) refl)) where
      next : Value → Run
      next v = Ends start (Halts (More (Reading s)))

      is_more : Run → Type 0
      is_more (Ends x (Halts (More w))) = Unit {0}
      is_more _ = ⊥

      apart_ends : Ends start (Halts (More (Reading s))) ≡ Ends start (Halts (Stop (ReadBad s))) → ⊥
      apart_ends e = subst is_more e tt

-- Events are read as calls in one way.
use Rattle.std.proofs.Common.{◌≡◌, ℕ, ◌+◌, nat_lt, Bool, true, false, if◌then◌else◌, List, [], ◌∷◌, ◌++◌, length, map, refl, ap, sym, ◌∙◌, subst, arith}
use Rattle.std.proofs.lemmas.Bool.Decides.{nat_tests}
use Rattle.cd_meaning.specs.Known.{nothing_known}
use Rattle.cd_meaning.specs.Places.{Place}
use Rattle.cd_meaning.specs.Run.{start, Run, Then, Ends}
use Rattle.cd_meaning.specs.RunShapes.{Seen}
use Rattle.cd_meaning.specs.Stream.{Effect, Open, Put, Close, Do, Out, Done, Halts, More, Stop, Reading, Input}
use Rattle.cd_world.specs.declared.event.Descriptor.{Descriptor}
use Rattle.cd_world.specs.declared.event.Event.{Event}
use Rattle.cd_world.specs.declared.event.Event.TheVariants.{OpenedRead, Created, Marked, OpenFailed, Gave, GaveEnd, ReadFailed, Wrote, WriteFailed, Closed, CloseFailed}
use Rattle.cd_world.specs.declared.event.Use.{Use}
use Rattle.cd_world.specs.Events.{opening}
use Rattle.cd_scope.specs.Uses.{use_at, name_at}
use Rattle.cd_scope.specs.Calls.{Call, Opening, Refusing, Giving, Passing, Ending, Breaking, Writing, Losing, Closing, Sticking, event, seen, effects_of, does, did, given_of}
use Rattle.cd_scope.specs.Due.{Each, Due, Fits, IsReading, Setting, waiting}
use Rattle.cd_scope.proofs.Lists.{each_on}

-- ---- the site

abbrev site_of : Call → ℕ
site_of (Opening s d) = s
site_of (Refusing s) = s
site_of (Giving s d bytes) = s
site_of (Passing s d bytes) = s
site_of (Ending s d) = s
site_of (Breaking s d) = s
site_of (Writing s d bytes) = s
site_of (Losing s d) = s
site_of (Closing s d) = s
site_of (Sticking s d) = s

-- the site of what a run does next, or waits for
abbrev next_site : Run → ℕ
next_site (Then t (Do (Open s)) r) = s
next_site (Then t (Do (Put s b)) r) = s
next_site (Then t (Do (Close s)) r) = s
next_site (Then t (Out x) r) = 0
next_site (Ends t (Halts (More (Reading s)))) = s
next_site (Ends t (Halts (More Input))) = 0
next_site (Ends t (Halts (Stop x))) = 0
next_site (Ends t (Done v)) = 0

-- behind these calls m does something at this site, or waits for it
record Points (m : Seen → Run) (front : List Call) (s : ℕ) : Type 0 where
  left : Run
  is : m (seen front) ≡ did front left
  at : next_site left ≡ s

due_points : (g : Setting) (m : Seen → Run) (front : List Call) (c : Call) → Due m front c → Fits g front c → Points m front (site_of c)
due_points g m front (Opening s d) due fits = let n = due nothing_known in record { left = Then start (Do (Open s)) n.0; is = n.1; at = refl }
due_points g m front (Refusing s) due fits = let n = due nothing_known in record { left = Then start (Do (Open s)) n.0; is = n.1; at = refl }
due_points g m front (Giving s d bytes) due fits = record { left = waiting s; is = due; at = refl }
due_points g m front (Passing s d bytes) due fits = record { left = waiting s; is = due; at = refl }
due_points g m front (Ending s d) due fits = record { left = waiting s; is = due; at = refl }
due_points g m front (Breaking s d) due fits = record { left = waiting s; is = due; at = refl }
due_points g m front (Writing s d []) due fits = absurd (omega (arith, fits.1))
due_points g m front (Writing s d (b ∷ bytes)) due fits = let n = due nothing_known in record { left = Then start (Do (Put s b)) (does (map (Put s) bytes) n.0); is = n.1; at = refl }
due_points g m front (Losing s d) due fits = let n = due.1 nothing_known in record { left = Then start (Do (Put s due.0)) n.0; is = n.1; at = refl }
due_points g m front (Closing s d) due fits = let n = due nothing_known in record { left = Then start (Do (Close s)) n.0; is = n.1; at = refl }
due_points g m front (Sticking s d) due fits = let n = due nothing_known in record { left = Then start (Do (Close s)) n.0; is = n.1; at = refl }

abbrev behind : Run → Run
behind (Then t a r) = r
behind (Ends t e) = Ends t e

does_same : (es : List Effect) (r other : Run) → does es r ≡ does es other → r ≡ other
does_same [] r other e = e
does_same (x ∷ es) r other e = does_same es r other (ap behind e)

did_same : (cs : List Call) (r other : Run) → did cs r ≡ did cs other → r ≡ other
did_same [] r other e = e
did_same (c ∷ cs) r other e = did_same cs r other (does_same (effects_of c) (did cs r) (did cs other) e)

one_site : (m : Seen → Run) (front : List Call) (s t : ℕ) → Points m front s → Points m front t → s ≡ t
one_site m front s t p q = sym p.at ∙ ap next_site (did_same front p.left q.left (sym p.is ∙ q.is)) ∙ q.at

-- ---- the call of an event at a site

abbrev passes : Call → Bool
passes (Passing s d bytes) = true
passes _ = false

abbrev call_with : Event → ℕ → Bool → Call
call_with (OpenedRead name d) s p = Opening s d
call_with (Created name d) s p = Opening s d
call_with (Marked name d) s p = Opening s d
call_with (OpenFailed name) s p = Refusing s
call_with (Gave d bytes) s p = if p then Passing s d bytes else Giving s d bytes
call_with (GaveEnd d) s p = Ending s d
call_with (ReadFailed d) s p = Breaking s d
call_with (Wrote d bytes) s p = Writing s d bytes
call_with (WriteFailed d) s p = Losing s d
call_with (Closed d) s p = Closing s d
call_with (CloseFailed d) s p = Sticking s d

-- a read passes the limit where it gives more than was left of it
abbrev is_past : Setting → List Call → ℕ → Event → Bool
is_past g front s (Gave d bytes) = nat_lt g.limit (length (given_of s front) + length bytes)
is_past g front s _ = false

opening_with : (u : Use) (name : List ℕ) (d : Descriptor) (s : ℕ) (p : Bool) → call_with (opening u name d) s p ≡ Opening s d
opening_with Use.Reading name d s p = refl
opening_with Use.Writing name d s p = refl
opening_with Use.Marking name d s p = refl

opening_passes : (g : Setting) (front : List Call) (s : ℕ) (u : Use) (name : List ℕ) (d : Descriptor) → false ≡ is_past g front s (opening u name d)
opening_passes g front s Use.Reading name d = refl
opening_passes g front s Use.Writing name d = refl
opening_passes g front s Use.Marking name d = refl

is_with : (place : ℕ → Place) (c : Call) → call_with (event place c) (site_of c) (passes c) ≡ c
is_with place (Opening s d) = opening_with (use_at (place s)) (name_at (place s)) d s false
is_with place (Refusing s) = refl
is_with place (Giving s d bytes) = refl
is_with place (Passing s d bytes) = refl
is_with place (Ending s d) = refl
is_with place (Breaking s d) = refl
is_with place (Writing s d bytes) = refl
is_with place (Losing s d) = refl
is_with place (Closing s d) = refl
is_with place (Sticking s d) = refl

passes_is : (g : Setting) (front : List Call) (c : Call) → Fits g front c → passes c ≡ is_past g front (site_of c) (event g.place c)
passes_is g front (Opening s d) fits = opening_passes g front s (use_at (g.place s)) (name_at (g.place s)) d
passes_is g front (Refusing s) fits = refl
passes_is g front (Giving s d bytes) fits = let most = fits.3 in grind (arith, nat_tests, most)
passes_is g front (Passing s d bytes) fits = let one = fits.2 in let all = fits.3 in grind (arith, nat_tests, one, all)
passes_is g front (Ending s d) fits = refl
passes_is g front (Breaking s d) fits = refl
passes_is g front (Writing s d bytes) fits = refl
passes_is g front (Losing s d) fits = refl
passes_is g front (Closing s d) fits = refl
passes_is g front (Sticking s d) fits = refl

one_call : (g : Setting) (m : Seen → Run) (front : List Call) (c other : Call) → Due m front c → Fits g front c → Due m front other → Fits g front other → event g.place c ≡ event g.place other → c ≡ other
one_call g m front c other due fits due2 fits2 same =
    sym (is_with g.place c)
    ∙ ap (λ (p : Bool). call_with (event g.place c) (site_of c) p) (passes_is g front c fits)
    ∙ ap (λ (s : ℕ). call_with (event g.place c) s (is_past g front s (event g.place c))) (one_site m front (site_of c) (site_of other) (due_points g m front c due fits) (due_points g m front other due2 fits2))
    ∙ ap (λ (e : Event). call_with e (site_of other) (is_past g front (site_of other) e)) same
    ∙ ap (λ (p : Bool). call_with (event g.place other) (site_of other) p) (sym (passes_is g front other fits2))
    ∙ is_with g.place other

-- ---- lists

abbrev first_event : Event → List Event → Event
first_event e [] = e
first_event e (x ∷ l) = x

abbrev more_events : List Event → List Event
more_events [] = []
more_events (x ∷ l) = l

abbrev has_none : List Event → Type 0
has_none [] = Unit {0}
has_none (x ∷ l) = ⊥

module _ (g : Setting) (m : Seen → Run) where
  same_from : (front a b : List Call) → Each (Due m) (front ++ a) → Each (Fits g) (front ++ a) → Each (Due m) (front ++ b) → Each (Fits g) (front ++ b) → map (event g.place) a ≡ map (event g.place) b → a ≡ b
  same_from front [] [] due fits due2 fits2 e = refl
  same_from front [] (c ∷ b) due fits due2 fits2 e = absurd (subst has_none e tt)
  same_from front (c ∷ a) [] due fits due2 fits2 e = absurd (subst has_none (sym e) tt)
  same_from front (c ∷ a) (x ∷ b) due fits due2 fits2 e =
      let is : c ≡ x = one_call g m front c x (due front c a refl) (fits front c a refl) (due2 front x b refl) (fits2 front x b refl) (ap (first_event (event g.place c)) e) in
      ap (λ (y : Call). y ∷ a) is
      ∙ ap (λ (l : List Call). x ∷ l)
      (same_from (front ++ x ∷ []) a b
      (each_on (Due m) front x a (subst (λ (y : Call). Each (Due m) (front ++ y ∷ a)) is due))
      (each_on (Fits g) front x a (subst (λ (y : Call). Each (Fits g) (front ++ y ∷ a)) is fits))
      (each_on (Due m) front x b due2)
      (each_on (Fits g) front x b fits2)
      (ap more_events e))

pub one_reading : (g : Setting) (m : Seen → Run) (events : List Event) (calls other : List Call) → IsReading g m events calls → IsReading g m events other → calls ≡ other
one_reading g m events calls other a b = same_from g m [] calls other a.due a.fits b.due b.fits (sym a.events_are ∙ b.events_are)

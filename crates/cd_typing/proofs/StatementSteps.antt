-- Statements, put together of what their steps answer.
use Rattle.std.proofs.Common.{◌≡◌, ℕ, ◌+◌, Bool, true, false, not, ◌||◌, Some, List, [], ◌∷◌, ◌++◌, length, map, refl, ap, sym, ◌∙◌, subst, nat_lt}
use Rattle.std.specs.Prelude.{IsErrAnd, IfOk, Result, Ok, Err}
use Rattle.cd_types.specs.declared.refusal.RefusalKind.TheVariants.{TooMany, Key}
use Rattle.cd_meaning.specs.Places.{Marks}
use Rattle.cd_types.specs.Conditions.{Fails, fails_where}
use Rattle.cd_types.specs.Flows.{Flow, PartType as PartTypeOf}
use Rattle.cd_types.specs.Limits.{statement_limit}
use Rattle.cd_types.specs.Moments.{Moment, ask, begin_part}
use Rattle.cd_types.specs.Parts.{Part}
use Rattle.cd_types.specs.Statements.{Statement, Hold, is_key, statement_moments, statement_fails, statement_site, body_moments, pipe_moments}
use Rattle.cd_part_types.specs.declared.part_type.PartType.{PartType}
use Rattle.cd_part_types.specs.Types.{type_of}
use Rattle.cd_typed.specs.declared.names.Names.{Names}
use Rattle.cd_typing.specs.declared.refusal.CheckRefusal.{CheckRefusal}
use Rattle.cd_typing.specs.declared.walk.Walk.{Walk}
use Rattle.cd_typing.specs.Spots.{Passes, Stops}
use Rattle.cd_typing.specs.StatementWalk.{BodyTypes, BodyAnswers, StatementAnswers}
use Rattle.cd_typing.specs.Walking.{spot, start, Moves, NextTypes}
use Rattle.cd_typing.proofs.Steps.{passes-append, passes-first, stops-memory, stops-here, stops-behind, stops-first, stops-later}

-- ---- the pipe of a statement

pub body-err : (s : ℕ) (f : Flow) (a : Part) (asked : PartTypeOf → Fails) (old new : Walk) (o : Result Flow CheckRefusal) (x : CheckRefusal) → IsErrAnd o (λ y. y ≡ x)
    → Stops (spot old) (pipe_moments s f a asked) x → BodyAnswers s f a asked old new o
body-err s f a asked old new (Ok t) x h k = absurd h
body-err s f a asked old new (Err y) x h k = subst (Stops (spot old) (pipe_moments s f a asked)) (sym h) k

module _ (s : ℕ) (f : Flow) (a : Part) (asked : PartTypeOf → Fails) (old : Walk) (e : old.parts.items ≡ []) where
  first : length old.parts.items + 1 ≡ 1
  first = ap (λ ps. length ps + 1) e

  pub body-inside : (x : CheckRefusal) → Stops (spot old) (a.moments s (length old.parts.items + 1) f) x → Stops (spot old) (pipe_moments s f a asked) x
  body-inside x h = stops-here (spot old) (a.moments s 1 f) _ x (subst (λ k. Stops (spot old) (a.moments s k f) x) first h)

  module _ (new : Walk) (number : ℕ) (t : PartType) (next : NextTypes a (start s (length old.parts.items + 1) f old) new number t) where
    passed : Passes (spot old) (a.moments s 1 f) (spot new)
    passed = subst (λ k. Passes (spot old) (a.moments s k f) (spot new)) first next.passed

    as_asked : (P : Moment → Type 0) → P (ask s number (asked (type_of t))) → P (ask s 1 (asked (a.type f)))
    as_asked P h =
        let i : P (ask s 1 (asked (type_of t))) = subst (λ k. P (ask s k (asked (type_of t)))) (next.numbered ∙ first) h in
        subst (λ u. P (ask s 1 (asked u))) next.typed i

    pub body-answers : (o : Result Flow CheckRefusal) → Moves (spot new) (ask s number (asked (type_of t)) ∷ []) (spot new) o → IfOk o (λ to. to ≡ t.to) → BodyAnswers s f a asked old new o
    body-answers (Ok to) h same = record {
      gives = same ∙ ap (λ u. u.to) next.typed;
      passed = passes-append (spot old) (spot new) (spot new) (a.moments s 1 f) _ passed (as_asked (λ m. Passes (spot new) (m ∷ []) (spot new)) h);
      types = next.types ∙ ap (λ ps. map type_of ps ++ a.types f) e;
    }
    body-answers (Err x) h same = stops-behind (spot old) (spot new) (a.moments s 1 f) _ x passed (as_asked (λ m. Stops (spot new) (m ∷ []) x) h)

-- ---- a statement

abbrev pub front : ℕ → List Statement → Statement → List Moment
front s before statement = ask s 0 (fails_where TooMany (nat_lt statement_limit s)) ∷ begin_part s 0 (statement_fails before statement) (statement_site statement) ∷ []

module _ (s : ℕ) (before : List Statement) (statement : Statement) (old : Walk) where
  pub statement-err : (new : Walk) (names : Names) (o : Result (Unit {0}) CheckRefusal) (x : CheckRefusal) → IsErrAnd o (λ y. y ≡ x) → Stops (spot old) (statement_moments s before statement) x
      → StatementAnswers s before statement old new names o
  statement-err new names (Ok u) x h k = absurd h
  statement-err new names (Err y) x h k = subst (Stops (spot old) (statement_moments s before statement)) (sym h) k

  pub statement-memory : (new : Walk) (names : Names) (o : Result (Unit {0}) CheckRefusal) → IsErrAnd o (λ y. y ≡ CheckRefusal.NoMemory) → StatementAnswers s before statement old new names o
  statement-memory new names o h = statement-err new names o CheckRefusal.NoMemory h (stops-memory _ _)

  -- where one of its first two moments refuses it
  pub front-stops : (x : CheckRefusal) → Stops (spot old) (front s before statement) x → Stops (spot old) (statement_moments s before statement) x
  front-stops x h = stops-here (spot old) (front s before statement) (body_moments s before statement) x h

  pub many-stops : (x : CheckRefusal) → Stops (spot old) (ask s 0 (fails_where TooMany (nat_lt statement_limit s)) ∷ []) x → Stops (spot old) (statement_moments s before statement) x
  many-stops x h = stops-first (spot old) (ask s 0 (fails_where TooMany (nat_lt statement_limit s))) _ x h

  module _ (begun : Walk) (p : Passes (spot old) (front s before statement) (spot begun)) where
    pub body-stops : (x : CheckRefusal) → Stops (spot begun) (body_moments s before statement) x → Stops (spot old) (statement_moments s before statement) x
    body-stops x h = stops-behind (spot old) (spot begun) (front s before statement) (body_moments s before statement) x p h

    pub statement-passes : (new : Walk) → Passes (spot begun) (body_moments s before statement) (spot new) → Passes (spot old) (statement_moments s before statement) (spot new)
    statement-passes new h = passes-append (spot old) (spot begun) (spot new) (front s before statement) (body_moments s before statement) p h

-- ---- a `hold`

module _ (s : ℕ) (before : List Statement) (name file : List ℕ) (old : Walk) (known : Bool) (e : known ≡ is_key before name)
    (p : Passes (spot old) (ask s 0 (fails_where TooMany (nat_lt statement_limit s)) ∷ []) (spot old)) where
  pub hold-stops : (x : CheckRefusal) → Stops (spot old) (begin_part s 0 (fails_where Key known) (Some (Marks file)) ∷ []) x → Stops (spot old) (statement_moments s before (Hold name file)) x
  hold-stops x h =
      stops-later (spot old) (spot old) (ask s 0 (fails_where TooMany (nat_lt statement_limit s))) _ x p (subst (λ b. Stops (spot old) (begin_part s 0 (fails_where Key b) (Some (Marks file)) ∷ []) x) e h)

  pub hold-passes : (new : Walk) → Passes (spot old) (begin_part s 0 (fails_where Key known) (Some (Marks file)) ∷ []) (spot new) → Passes (spot old) (statement_moments s before (Hold name file)) (spot new)
  hold-passes new h =
      passes-first (spot old) (spot old) (spot new) (ask s 0 (fails_where TooMany (nat_lt statement_limit s))) _ p
      (subst (λ b. Passes (spot old) (begin_part s 0 (fails_where Key b) (Some (Marks file)) ∷ []) (spot new)) e h)

-- a name that does not fail is one
pub stands : (is gone : Bool) → (not is || gone) ≡ false → is ≡ true
stands true gone e = refl
stands false gone e = let f : ⊥ = cc in absurd f

-- ---- the same for another input

pub fed-stops : (s : ℕ) (f g : Flow) → f ≡ g → (a : Part) (asked : PartTypeOf → Fails) (old : Walk) (x : CheckRefusal) → Stops (spot old) (pipe_moments s f a asked) x → Stops (spot old) (pipe_moments s g a asked) x
fed-stops s f g e a asked old x h = subst (λ i. Stops (spot old) (pipe_moments s i a asked) x) e h

pub fed-types : (s : ℕ) (f g : Flow) → f ≡ g → (a : Part) (asked : PartTypeOf → Fails) (old new : Walk) (to : Flow) → BodyTypes s f a asked old new to → BodyTypes s g a asked old new to
fed-types s f g e a asked old new to h = subst (λ i. BodyTypes s i a asked old new to) e h

-- Scripts, put together of what the walk over their statements answers.
use Rattle.std.proofs.Common.{◌≡◌, ℕ, suc, ◌+◌, ◌<◌, ◌≤◌, List, [], ◌∷◌, ◌++◌, length, map, take, drop, get_or, refl, ap, sym, ◌∙◌, subst, arith, drop-cons, add-one, append_assoc}
use Rattle.std.specs.Prelude.{Result, Ok, Err, IsErrAnd}
use Rattle.std.proofs.Math.Seq.{take-suc}
use Rattle.std.proofs.lemmas.List.{append-nil, drop_all, map-append, length-map, length-take-le, take_all}
use Rattle.cd_elem.specs.declared.script.Stmt.{Stmt}
use Rattle.cd_part_types.specs.Types.{type_of}
use Rattle.cd_typed.specs.declared.typed.Typed.{Typed}
use Rattle.cd_typed.specs.Knowing.{KnowsNames}
use Rattle.cd_typed.specs.Sites.{site_of}
use Rattle.cd_types.specs.declared.refusal.Refusal.{Refusal}
use Rattle.cd_types.specs.Numbering.{script_sites}
use Rattle.cd_types.specs.Statements.{Statement, statement_of, statement_moments, statement_types, moments_behind, types_behind, script_moments, script_types}
use Rattle.cd_types.specs.Moments.{Reached, reached_by}
use Rattle.cd_types.specs.Typing.{HasType, IsRefused, judged, Passed, Refused}
use Rattle.cd_typed.specs.TypedScripts.{IsTyped}
use Rattle.cd_part_types.specs.declared.part_type.PartType.{PartType}
use Rattle.cd_typing.specs.StatementWalk.{StatementTypes}
use Rattle.cd_typing.specs.declared.scripts.ScriptWalk.{ScriptWalk}
use Rattle.cd_typing.specs.declared.refusal.CheckRefusal.{CheckRefusal}
use Rattle.cd_typing.specs.declared.walk.Walk.{Walk}
use Rattle.cd_typing.specs.Checking.{Checks, Steps, StepAnswers, Walks}
use Rattle.cd_typing.specs.Spots.{nowhere, reached, Passes, Stops, Leads}
use Rattle.cd_typing.specs.Walking.{spot}
use Rattle.cd_typing.proofs.Steps.{leads-same, leads-on, leads-behind, leads-stops, leads-passes, stops-here, stops-memory}

abbrev before : List Stmt → ℕ → List Statement
before ss i = map statement_of (take i ss)

abbrev rest : List Stmt → ℕ → List Statement
rest ss i = map statement_of (drop i ss)

-- where the statements from the i-th on are still to be walked
pub record Reading (ss : List Stmt) (i : ℕ) (now : ScriptWalk) : Type 0 where
  pub leads : Leads nowhere (script_moments ss) (spot now.walk) (moments_behind (before ss i) (rest ss i))
  pub table : map (map type_of) now.parts ++ types_behind (before ss i) (rest ss i) ≡ script_types ss
  pub knows : KnowsNames (before ss i) now.names
  pub empty : now.walk.parts.items ≡ []

at_start : (walk : Walk) → walk.sites ≡ [] → walk.total ≡ 0 → spot walk ≡ nowhere
at_start walk e h = ap (λ xs. record { sites = map site_of xs; total = walk.total }) e ∙ ap (λ t. record { sites = []; total = t }) h

pub begun : (ss : List Stmt) (now : ScriptWalk) → now.walk.sites ≡ [] → now.walk.total ≡ 0 → now.walk.parts.items ≡ [] → KnowsNames [] now.names → now.parts ≡ [] → Reading ss 0 now
begun ss now sites total empty knows parts = record {
  leads = subst (λ r. Leads nowhere (script_moments ss) r (script_moments ss)) (sym (at_start now.walk sites total)) (leads-same _ _);
  table = ap (λ ps. map (map type_of) ps ++ script_types ss) parts;
  knows = knows;
  empty = empty;
}

module _ (ss : List Stmt) (i : ℕ) (s : Stmt) (h : i < length ss) (e : s ≡ get_or ss i s) where
  rest_more : rest ss i ≡ statement_of s ∷ rest ss (i + 1)
  rest_more = ap (map statement_of) (drop-cons ss i s h) ∙ ap (λ q. statement_of q ∷ map statement_of (drop (suc i) ss)) (sym e) ∙ ap (λ k. statement_of s ∷ rest ss k) (sym (add-one i))

  before_more : before ss (i + 1) ≡ before ss i ++ statement_of s ∷ []
  before_more = rw (add-one, take-suc ss i s, map-append, ← e) refl

  pub numbered : i + 1 ≡ length (before ss i) + 1
  numbered = ap (λ n. n + 1) (sym (length-map (take i ss) statement_of ∙ length-take-le i ss (omega arith)))

  module _ (now : ScriptWalk) (w : Reading ss i now) where
    abbrev here : List Statement
    here = before ss i

    opened : Leads nowhere (script_moments ss) (spot now.walk) (statement_moments (length here + 1) here (statement_of s) ++ moments_behind (here ++ statement_of s ∷ []) (rest ss (i + 1)))
    opened = subst (λ ms. Leads nowhere (script_moments ss) (spot now.walk) (moments_behind here ms)) rest_more w.leads

    pub read_on : (new : ScriptWalk) → Steps here (statement_of s) now new → Reading ss (i + 1) new
    read_on new k =
        let l = leads-on nowhere (spot now.walk) (spot new.walk) _ _ _ opened (leads-behind (spot now.walk) (spot new.walk) _ _ k.passed) in
        let later = types_behind (here ++ statement_of s ∷ []) (rest ss (i + 1)) in
        let t : map (map type_of) new.parts ++ later ≡ script_types ss =
        ap (λ ps. ps ++ later) k.types ∙ append_assoc (map (map type_of) now.parts) (statement_types here (statement_of s) ∷ []) later
        ∙ ap (λ ms. map (map type_of) now.parts ++ types_behind here ms) (sym rest_more) ∙ w.table
        in
        record {
          leads = subst (λ b. Leads nowhere (script_moments ss) (spot new.walk) (moments_behind b (rest ss (i + 1)))) (sym before_more) l;
          table = subst (λ b. map (map type_of) new.parts ++ types_behind b (rest ss (i + 1)) ≡ script_types ss) (sym before_more) t;
          knows = subst (λ b. KnowsNames b new.names) (sym before_more) k.knows;
          empty = k.empty;
        }

    pub refused_there : (x : CheckRefusal) → Stops (spot now.walk) (statement_moments (length here + 1) here (statement_of s)) x → Stops nowhere (script_moments ss) x
    refused_there x p = leads-stops nowhere (spot now.walk) _ _ x opened (stops-here (spot now.walk) _ _ x p)

passed_so : (ss : List Stmt) (walk : Walk) → Passes nowhere (script_moments ss) (spot walk) → (judged ss ≡ Passed (reached (spot walk))) × (map site_of walk.sites ≡ script_sites ss)
unfolding Passes
passed_so ss walk p = p

pub all_read : (ss : List Stmt) (i : ℕ) (now : ScriptWalk) → length ss ≤ i → Reading ss i now → Walks ss now
all_read ss i now h w =
    let none : rest ss i ≡ [] = ap (map statement_of) (drop_all i ss h) in
    let all : before ss i ≡ map statement_of ss = ap (map statement_of) (take_all i ss h) in
    let p = passed_so ss now.walk (leads-passes nowhere (spot now.walk) _ (subst (λ ms. Leads nowhere (script_moments ss) (spot now.walk) (moments_behind (before ss i) ms)) none w.leads)) in
    record {
      passed = p.0;
      sites = p.1;
      parts = sym (append-nil (map (map type_of) now.parts)) ∙ subst (λ ms. map (map type_of) now.parts ++ types_behind (before ss i) ms ≡ script_types ss) none w.table;
      knows = subst (λ b. KnowsNames b now.names) all w.knows;
    }

-- a refusal
pub refused_as : ((script : List Stmt) (x : Refusal) → judged script ≡ Refused x → IsRefused script x) → (ss : List Stmt) (x : CheckRefusal) → Stops nowhere (script_moments ss) x → Checks ss (Err x)
unfolding Stops
refused_as law ss (CheckRefusal.Refused x) p = law ss x p
refused_as law ss CheckRefusal.NoMemory p = tt

-- a script that has a type, by what the walk has found
pub typed_as : ((script : List Stmt) (r : Reached) → judged script ≡ Passed r → HasType script) → ((script : List Stmt) (r : Reached) → judged script ≡ Passed r → reached_by (script_moments script) ≡ r)
    → (ss : List Stmt) (walk : ScriptWalk) (typed : Typed) → Walks ss walk
    → (HasType ss → map site_of walk.walk.sites ≡ script_sites ss → map (map type_of) walk.parts ≡ script_types ss → walk.walk.total ≡ (reached_by (script_moments ss)).total
    → KnowsNames (map statement_of ss) walk.names → IsTyped ss typed)
    → IsTyped ss typed
typed_as law reaches ss walk typed w make =
    make (law ss _ w.passed) w.sites w.parts (ap (λ r. r.total) (sym (reaches ss _ w.passed))) w.knows

-- what is left of a statement that has no number
pub no_number : (before : List Statement) (statement : Statement) (old new : ScriptWalk) → StepAnswers before statement old new (Err CheckRefusal.NoMemory)
no_number before statement old new = stops-memory _ _

-- a statement, by what its walk answers
pub stepped : (before : List Statement) (statement : Statement) (old new : ScriptWalk) (number : ℕ) (walked : Walk) (list : List PartType) → number ≡ length before + 1
    → StatementTypes number before statement old.walk walked new.names → list ≡ walked.parts.items → spot new.walk ≡ spot walked → new.walk.parts.items ≡ [] → new.parts ≡ old.parts ++ list ∷ []
    → Steps before statement old new
stepped before statement old new number walked list e w l at empty put =
    let p : Passes (spot old.walk) (statement_moments (length before + 1) before statement) (spot walked) = subst (λ n. Passes (spot old.walk) (statement_moments n before statement) (spot walked)) e w.passed in
    record {
      passed = subst (λ r. Passes (spot old.walk) (statement_moments (length before + 1) before statement) r) (sym at) p;
      types = ap (map (map type_of)) put ∙ map-append (map type_of) old.parts (list ∷ []) ∙ ap (λ ts. map (map type_of) old.parts ++ ts ∷ []) (ap (map type_of) l ∙ w.types);
      knows = w.knows;
      empty = empty;
    }

pub refused_at_step : (before : List Statement) (statement : Statement) (old : ScriptWalk) (number : ℕ) (x : CheckRefusal) → number ≡ length before + 1 → Stops (spot old.walk) (statement_moments number before statement) x
    → Stops (spot old.walk) (statement_moments (length before + 1) before statement) x
refused_at_step before statement old number x e h = subst (λ n. Stops (spot old.walk) (statement_moments n before statement) x) e h

pub step_err : (before : List Statement) (statement : Statement) (old new : ScriptWalk) (o : Result (Unit {0}) CheckRefusal) (x : CheckRefusal) → IsErrAnd o (λ y. y ≡ x)
    → Stops (spot old.walk) (statement_moments (length before + 1) before statement) x → StepAnswers before statement old new o
step_err before statement old new (Ok u) x h k = absurd h
step_err before statement old new (Err y) x h k = subst (Stops (spot old.walk) (statement_moments (length before + 1) before statement)) (sym h) k

pub given_up : (ss ts : List Stmt) (x : CheckRefusal) → ss ≡ ts → Stops nowhere (script_moments ss) x → Stops nowhere (script_moments ts) x
given_up ss ts x e h = subst (λ us. Stops nowhere (script_moments us) x) e h

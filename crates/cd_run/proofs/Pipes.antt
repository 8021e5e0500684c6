-- A statement that runs a pipe: its node does what is meant, and opens no more files than its places have.
use Rattle.std.proofs.Common.{◌≡◌, ℕ, zero, suc, ◌+◌, ◌-◌, ◌<◌, ◌≤◌, ◌==◌, Bool, true, false, if◌then◌else◌, List, [], ◌∷◌, map, get_or, refl, ap, sym, ◌∙◌, subst, arith}
use Rattle.std.specs.Prelude.{None, Result, Some, slice_get}
use Rattle.cd_elem.specs.declared.script.Pipe.{Pipe}
use Rattle.cd_elem.specs.declared.script.Stmt.{Stmt}
use Rattle.cd_meaning.specs.LawfulTrees.{IsLawfulScript, IsLawfulTree, OfLawfulTree}
use Rattle.cd_meaning.specs.Opens.{files_in, openings_from, openings_in, opens_of}
use Rattle.cd_meaning.specs.Pipes.{pipe_meaning}
use Rattle.cd_meaning.specs.Places.{Place, WritesOutput, place_in}
use Rattle.cd_meaning.specs.Run.{Component, Run, acts_at, effects, start}
use Rattle.cd_meaning.specs.RunShapes.{Seen}
use Rattle.cd_meaning.specs.Scripts.{ScriptState, passed_sites, statement_meaning, value_puts}
use Rattle.cd_meaning.specs.Stream.{Effect, Ended}
use Rattle.cd_meaning.proofs.Lawful.Trees.{tree_is_lawful}
use Rattle.cd_meaning.proofs.Opens.Few.{few_openings}
use Rattle.cd_meaning.proofs.Opens.Trees.{tree_opens}
use Rattle.cd_types.specs.Numbering.{first_site, numbered}
use Rattle.cd_types.specs.Typing.{HasType}
use Rattle.cd_types.proofs.LawfulParts.{script_is_lawful}
use Rattle.cd_typed.specs.declared.site.SiteInfo.{SiteInfo}
use Rattle.cd_typed.specs.Sites.{place_of}
use Rattle.cd_step.specs.Parts.{Part}
use Rattle.cd_scope.specs.declared.table.Held.{Held}
use Rattle.cd_scope.specs.Calls.{did, over}
use Rattle.cd_scope.specs.Due.{Setting}
use Rattle.cd_node.specs.Nodes.{AreHeld, HasNoTicket}
use Rattle.cd_run.specs.declared.fault.RunFault.{RunFault}
use Rattle.cd_run.specs.Ends.{HasFault}
use Rattle.cd_run.specs.Going.{Going, Outside, places_of}
use Rattle.cd_run.specs.Statements.{IsSiteOf, OpensAtMost, behind, goes, left_run, within}

-- ---- the beginning

lawful_in : (script : List Stmt) (i : ℕ) (s : Stmt) → IsLawfulScript script → slice_get script i ≡ Some s → OfLawfulTree s
lawful_in [] i s lawful at = let no : ⊥ = cc in absurd no
lawful_in (x ∷ more) zero s lawful at = let same : x ≡ s = cc in subst OfLawfulTree same lawful.0
lawful_in (x ∷ more) (suc i) s lawful at = lawful_in more i s lawful.1 at

-- the pipes of a script that has a type are lawful
pub lawful_at : (script : List Stmt) (n : ℕ) (p : Pipe) → HasType script → numbered script n ≡ Some (Stmt.Run p) → IsLawfulTree p
lawful_at script zero p has_type at = let no : ⊥ = cc in absurd no
lawful_at script (suc i) p has_type at = lawful_in script i (Stmt.Run p) (script_is_lawful script has_type) at

-- a node that was built for the pipe of a statement begins it: none of its sites was read
pub begins : (g : Setting) (m : Seen → Run) (t : List Held) (left : List ℕ) (w0 w : Outside) (p : Pipe) (site : ℕ) (st : ScriptState) (q : Part) (next : Seen → ScriptState → Run)
    → ((z : Seen) → left_run q z ≡ (pipe_meaning p).run None site z [] Ended) → st.site ≡ site → IsLawfulTree p → ((s : ℕ) → IsSiteOf p site s → get_or left s 0 ≡ g.limit + 1)
    → Going g m t left (behind (λ all. statement_meaning (Stmt.Run p) all st (next all))) w0 w
    → Going g m t left (within (left_run q) (λ all v. acts_at start (value_puts v) (next all (passed_sites st (pipe_meaning p))))) w0 w
begins g m t left w0 w p site st q next means is lawful unread G = record {
  calls = G.calls;
  log = G.log;
  due = G.due;
  fits = G.fits;
  clean = G.clean;
  standing = G.standing;
  stands = λ z. G.stands z ∙ ap (λ r. did G.calls (goes r (λ v. acts_at start (value_puts v) (next (over G.calls z) (passed_sites st (pipe_meaning p)))))) (same z);
  once = G.once;
  counted = G.counted;
  filed = G.filed;
} where
  -- over all that is seen it is what it is over what is still to come
  same : (z : Seen) → (pipe_meaning p).run None st.site (over G.calls z) [] Ended ≡ left_run q z
  same z =
      ap (λ s. (pipe_meaning p).run None s (over G.calls z) [] Ended) is
      ∙ ap (λ (f : Component). f [] Ended) ((tree_is_lawful p lawful).local None site (over G.calls z) z (λ k low high. G.counted.unread k (unread k (low, high)) z))
      ∙ sym (means z)

pub no_tickets : (t : List Held) (p : Part) → HasNoTicket p → AreHeld t p
no_tickets t p none s d there = absurd (subst is_false (sym (none s d) ∙ there) tt) where
  is_false : Bool → Type 0
  is_false true = ⊥
  is_false false = Unit {0}

pub not_own : (p : Part) (pipe : Pipe) (site : ℕ) → ((s : ℕ) → p.sites s ≡ true → IsSiteOf pipe site s) → (s : ℕ) → (IsSiteOf pipe site s → ⊥) → p.sites s ≡ false
not_own p pipe site own s other = by (p.sites s) refl where
  by : (b : Bool) → p.sites s ≡ b → p.sites s ≡ false
  by true e = absurd (other (own s e))
  by false e = e

-- the places of a table of sites
pub placed_by : (sites table : List SiteInfo) (places : List Place) → sites ≡ table → map place_of table ≡ places → places_of sites ≡ place_in places
placed_by sites table places same are = ap (λ l. place_in (map place_of l)) same ∙ ap place_in are

-- ---- how many files are opened

-- places without a file in front of those
before : ℕ → List Place → List Place
before zero places = places
before (suc n) places = WritesOutput ∷ before n places

openings_before : (s i n : ℕ) (places : List Place) → openings_from s i (before n places) ≡ openings_from s (i + n) places
unfolding before
openings_before s i zero places = ap (λ k. openings_from s k places) (plus_none i) where
  plus_none : (i : ℕ) → i ≡ i + 0
  plus_none i = omega arith
openings_before s i (suc n) places =
    let none = never (i == s) in
    let more = openings_before s (suc i) n places in
    let all : openings_from s i (WritesOutput ∷ before n places) ≡ openings_from s (suc i + n) places = omega (arith, none, more) in
    all ∙ ap (λ k. openings_from s k places) (plus_one i n) where
      never : (b : Bool) → ◌≡◌ {A = ℕ} (if b then 0 else 0) 0
      never true = refl
      never false = refl

      plus_one : (i n : ℕ) → suc i + n ≡ i + suc n
      plus_one i n = omega arith

files_before : (n : ℕ) (places : List Place) → files_in (before n places) ≡ files_in places
unfolding before
files_before zero places = refl
files_before (suc n) places = let more = files_before n places in omega (arith, more)

few_behind : (es : List Effect) (places : List Place) (n : ℕ) → ((s : ℕ) → opens_of s es ≤ openings_from s (1 + n) places) → openings_in es ≤ files_in places
few_behind es places n h =
    let few = few_openings es (before n places) (λ s. let a = h s in let b = openings_before s 1 n places in omega (arith, a, b)) in
    let same = files_before n places in
    omega (arith, few, same)

-- sites count from 1
pub first_is_some : (script : List Stmt) (s : ℕ) → 0 < first_site script s
first_is_some script zero = omega arith
first_is_some script (suc n) = omega arith

-- a pipe opens no more files than its places have
few_of_pipe : (p : Pipe) → IsLawfulTree p → (first : ℕ) → 0 < first → (z : Seen) → openings_in (effects ((pipe_meaning p).run None first z [] Ended)) ≤ files_in (pipe_meaning p).places
few_of_pipe p lawful first some z =
    few_behind (effects ((pipe_meaning p).run None first z [] Ended)) (pipe_meaning p).places (first - 1)
    (λ s. subst (λ k. opens_of s (effects ((pipe_meaning p).run None first z [] Ended)) ≤ openings_from s k (pipe_meaning p).places) (back first some) (tree_opens p lawful None first z [] Ended s)) where
      back : (n : ℕ) → 0 < n → n ≡ 1 + (n - 1)
      back n some = omega (arith, some)

pub opens_few : (p : Pipe) → IsLawfulTree p → (first : ℕ) → 0 < first → (q : Part) → ((z : Seen) → left_run q z ≡ (pipe_meaning p).run None first z [] Ended) → OpensAtMost q (files_in (pipe_meaning p).places)
opens_few p lawful first some q means z = subst (λ r. openings_in (effects r) ≤ files_in (pipe_meaning p).places) (sym (means z)) (few_of_pipe p lawful first some z)

pub opens_within : (q : Part) (most room : ℕ) → OpensAtMost q most → most ≤ room → OpensAtMost q room
opens_within q most room few le z = let f = few z in omega (arith, f, le)

-- ---- the count of failed calls

-- of a call behind one that met no fault
pub after_ok : {T : Type 0} (result : Result T RunFault) (before middle now : ℕ) → middle ≡ before → HasFault middle now result → HasFault before now result
after_ok result before middle now same h = subst (λ n. HasFault n now result) same h

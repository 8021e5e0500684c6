-- The first site of a statement is behind the sites of the statements before it, and its places stand from there on.
use Rattle.std.proofs.Common.{◌≡◌, ℕ, zero, suc, ◌+◌, ◌-◌, ◌<◌, ◌≤◌, ◌⊎◌, inl, inr, nat_lt, Bool, cond, List, [], ◌∷◌, ◌++◌, length, map, take, slice_get, get_or, Some, refl, ap, sym, ◌∙◌, arith, append_assoc}
use Rattle.std.specs.List.{count_by}
use Rattle.std.proofs.lemmas.Bool.{lt-ltb, le-ltb, cases_lt}
use Rattle.std.proofs.lemmas.List.{get_or-append-add, length-append, length-map}
use Rattle.std.proofs.Math.Seq.{take-nil}
use Rattle.std.proofs.lemmas.List.Sums.{sum_by-append}
use Rattle.cd_elem.specs.declared.script.Stmt.{Stmt}
use Rattle.cd_meaning.specs.Places.{Place, WritesOutput, place_in}
use Rattle.cd_meaning.specs.Scripts.{statement_places, script_places}
use Rattle.cd_types.specs.Numbering.{ScriptSite, StandFrom, moment_sites, script_sites, first_site, is_before, numbered}
use Rattle.cd_types.specs.Statements.{Statement, statement_of, statement_moments, moments_behind}
use Rattle.cd_types.proofs.Numbered.{further_sites, their_places}
use Rattle.cd_types.proofs.ScriptFacts.{places_of_statement}
use Rattle.cd_types.proofs.SiteOrder.{AllAt, sites_at_statement}

one_counted : (s : ℕ) (x : ScriptSite) (xs : List ScriptSite) → count_by (is_before s) (x ∷ xs) ≡ cond (nat_lt x.statement s) 1 0 + count_by (is_before s) xs
one_counted s x xs = sum_by-append (λ y. cond (is_before s y) 1 0) (x ∷ []) xs ∙ ap (λ (n : ℕ). n + count_by (is_before s) xs) (from_none (cond (nat_lt x.statement s) 1 0)) where
  from_none : (n : ℕ) → 0 + n ≡ n
  from_none n = omega arith

all_counted : (k s : ℕ) (xs : List ScriptSite) → k < s → AllAt k xs → count_by (is_before s) xs ≡ length xs
all_counted k s [] l h = refl
all_counted k s (x ∷ xs) l h =
    one_counted s x xs
    ∙ ap (λ (n : ℕ). cond (nat_lt n s) 1 0 + count_by (is_before s) xs) h.0
    ∙ ap (λ (b : Bool). cond b 1 0 + count_by (is_before s) xs) (lt-ltb k s l)
    ∙ ap (λ (n : ℕ). 1 + n) (all_counted k s xs l h.1)
    ∙ plus_one (length xs)
  where
    plus_one : (n : ℕ) → 1 + n ≡ suc n
    plus_one n = omega arith

none_counted : (k s : ℕ) (xs : List ScriptSite) → s ≤ k → AllAt k xs → count_by (is_before s) xs ≡ 0
none_counted k s [] l h = refl
none_counted k s (x ∷ xs) l h =
    one_counted s x xs
    ∙ ap (λ (n : ℕ). cond (nat_lt n s) 1 0 + count_by (is_before s) xs) h.0
    ∙ ap (λ (b : Bool). cond b 1 0 + count_by (is_before s) xs) (le-ltb k s l)
    ∙ ap (λ (n : ℕ). 0 + n) (none_counted k s xs l h.1)

-- a statement has as many sites as places
own_count : (x : Stmt) (k : ℕ) (before : List Statement) → length (moment_sites (statement_moments k before (statement_of x))) ≡ length (statement_places x)
own_count x k before =
    let ms = statement_moments k before (statement_of x) in
    sym (length-map (moment_sites ms) (λ (site : ScriptSite). site.place)) ∙ ap length (their_places ms ∙ places_of_statement x k before)

one_more : (x : Stmt) (more : List Stmt) (k s own behind : ℕ) → (k < s → own ≡ length (statement_places x)) → (s ≤ k → own ≡ 0) → behind ≡ length (script_places (take (s - (k + 1)) more))
    → (k < s) ⊎ (s ≤ k) → own + behind ≡ length (script_places (take (s - k) (x ∷ more)))
one_more x more k s own behind f g e (inl l) =
    let next : s - k ≡ suc (s - (k + 1)) = omega arith in
    let all : own + behind ≡ length (statement_places x ++ script_places (take (s - (k + 1)) more)) =
    (let a = f l in let b = length-append (statement_places x) (script_places (take (s - (k + 1)) more)) in omega arith)
    in
    all ∙ ap (λ (n : ℕ). length (script_places (take n (x ∷ more)))) (sym next)
one_more x more k s own behind f g e (inr l) =
    let none : s - k ≡ 0 = omega arith in
    let no_more : s - (k + 1) ≡ 0 = omega arith in
    let rest : behind ≡ 0 = e ∙ ap (λ (n : ℕ). length (script_places (take n more))) no_more in
    let all : own + behind ≡ 0 = (let a = g l in omega arith) in
    all ∙ ap (λ (n : ℕ). length (script_places (take n (x ∷ more)))) (sym none)

-- of these statements, behind those
sites_before : (before : List Statement) (script : List Stmt) (s : ℕ)
    → count_by (is_before s) (moment_sites (moments_behind before (map statement_of script))) ≡ length (script_places (take (s - (length before + 1)) script))
sites_before before [] s = ap (λ (l : List Stmt). length (script_places l)) (sym (take-nil (s - (length before + 1))))
sites_before before (x ∷ more) s =
    let k = length before + 1 in
    let own = statement_moments k before (statement_of x) in
    let behind = moments_behind (before ++ statement_of x ∷ []) (map statement_of more) in
    let at = sites_at_statement x k before in
    ap (count_by (is_before s)) (further_sites own behind)
    ∙ sum_by-append (λ y. cond (is_before s y) 1 0) (moment_sites own) (moment_sites behind)
    ∙ one_more x more k s (count_by (is_before s) (moment_sites own)) (count_by (is_before s) (moment_sites behind))
    (λ l. all_counted k s (moment_sites own) l at ∙ own_count x k before) (λ l. none_counted k s (moment_sites own) l at)
    (sites_before (before ++ statement_of x ∷ []) more s
    ∙ ap (λ (n : ℕ). length (script_places (take (s - (n + 1)) more))) (length-append before (statement_of x ∷ []))) (cases_lt k s)

pub first_is_behind : (script : List Stmt) (s : ℕ) → count_by (is_before s) (script_sites script) + 1 ≡ first_site script s
first_is_behind script zero = ap (λ (n : ℕ). n + 1) (sites_before [] script 0)
first_is_behind script (suc n) = ap (λ (k : ℕ). k + 1) (sites_before [] script (suc n) ∙ ap (λ (k : ℕ). length (script_places (take k script))) (before n)) where
  before : (n : ℕ) → suc n - (0 + 1) ≡ n
  before n = omega arith

-- ---- places

stand_at : (places : List Place) (n : ℕ) (own behind : List Place) → ((i : ℕ) → get_or places (n + i) WritesOutput ≡ get_or (own ++ behind) i WritesOutput) → StandFrom (λ site. get_or places site WritesOutput) n own
stand_at places n [] behind h = tt
stand_at places n (p ∷ own) behind h = (
  ap (λ (k : ℕ). get_or places k WritesOutput) (plus_none n) ∙ h 0,
  stand_at places (n + 1) own behind (λ i. ap (λ (k : ℕ). get_or places k WritesOutput) (plus_one n i) ∙ h (suc i)),
) where
  plus_none : (n : ℕ) → n ≡ n + 0
  plus_none n = omega arith

  plus_one : (n i : ℕ) → n + 1 + i ≡ n + suc i
  plus_one n i = omega arith

split_places : (script : List Stmt) (i : ℕ) (x : Stmt) → slice_get script i ≡ Some x → (more : List Place) × (script_places script ≡ script_places (take i script) ++ (statement_places x ++ more))
split_places [] i x at = let no : ⊥ = cc in absurd no
split_places (y ∷ script) zero x at =
    let same : y ≡ x = cc in
    (script_places script, ap (λ (z : Stmt). statement_places z ++ script_places script) same)
split_places (y ∷ script) (suc i) x at =
    let rest = split_places script i x at in
    (rest.0, ap (λ l. statement_places y ++ l) rest.1 ∙ append_assoc_sym (statement_places y) (script_places (take i script)) (statement_places x ++ rest.0)) where
      append_assoc_sym : (a b c : List Place) → a ++ (b ++ c) ≡ (a ++ b) ++ c
      append_assoc_sym a b c = sym (append_assoc a b c)

pub places_stand : (script : List Stmt) (s : ℕ) (x : Stmt) → numbered script s ≡ Some x → StandFrom (place_in (script_places script)) (first_site script s) (statement_places x)
places_stand script zero x at = let no : ⊥ = cc in absurd no
places_stand script (suc i) x at =
    let rest = split_places script i x at in
    let before = script_places (take i script) in
    stand_at (WritesOutput ∷ script_places script) (length before + 1) (statement_places x) rest.0
    (λ j. ap (λ (n : ℕ). get_or (WritesOutput ∷ script_places script) n WritesOutput) (swapped (length before) j)
    ∙ ap (λ l. get_or l (length before + j) WritesOutput) rest.1
    ∙ get_or-append-add before (statement_places x ++ rest.0) j WritesOutput) where
      swapped : (n j : ℕ) → n + 1 + j ≡ suc (n + j)
      swapped n j = omega arith

pub within_sites : (script : List Stmt) (s : ℕ) (x : Stmt) → numbered script s ≡ Some x → first_site script s + length (statement_places x) ≤ length (script_places script) + 1
within_sites script zero x at = let no : ⊥ = cc in absurd no
within_sites script (suc i) x at =
    let rest = split_places script i x at in
    let before = script_places (take i script) in
    let a = ap length rest.1 in
    let b = length-append before (statement_places x ++ rest.0) in
    let c = length-append (statement_places x) rest.0 in
    omega arith

-- From statement to statement.
use Rattle.std.proofs.Common.{◌≡◌, ◌≢◌, ℕ, zero, suc, ◌+◌, ◌<◌, ◌≤◌, Bool, true, false, if◌then◌else◌, List, [], ◌∷◌, ◌++◌, length, map, take, drop, get_or, slice_get, slice_set, Some, refl, ap, sym, ◌∙◌, subst, arith}
use Rattle.std.specs.Prelude.{Contains, bytes_eq, position}
use Rattle.std.proofs.lemmas.List.{length-append}
use Rattle.std.proofs.lemmas.List.Elements.{Contains-append_left, Contains-append_right}
use Rattle.std.proofs.lemmas.List.Quantifiers.{position-Some}
use Rattle.std.proofs.lemmas.Slice.Eq.{bytes_eq-Decides}
use Rattle.cd_elem.specs.declared.script.Pipe.{Pipe}
use Rattle.cd_elem.specs.declared.script.Stmt.{Stmt}
use Rattle.cd_elem.specs.declared.site.Site.{Site}
use Rattle.cd_meaning.specs.Opens.{files_in}
use Rattle.cd_meaning.specs.Pipes.{pipe_meaning}
use Rattle.cd_meaning.specs.Places.{Place, Marks, place_in}
use Rattle.cd_meaning.specs.RunShapes.{Seen}
use Rattle.cd_meaning.specs.Scoped.{UsesStanding}
use Rattle.cd_meaning.specs.Scripts.{ScriptState, script_places, statement_meaning, statement_places, statements_from, with_name}
use Rattle.cd_types.specs.Numbering.{first_site, name_number, numbered}
use Rattle.cd_types.proofs.FirstSites.{places_stand, within_sites}
use Rattle.cd_types.specs.Statements.{key_names}
use Rattle.cd_world.specs.declared.event.Descriptor.{Descriptor}
use Rattle.cd_scope.specs.declared.table.Held.{Held}
use Rattle.cd_scope.specs.Calls.{held_at, site_at}
use Rattle.cd_scope.specs.Uses.{HasFile}
use Rattle.cd_run.specs.declared.options.Options.{Options}
use Rattle.cd_run.specs.declared.runner.Runner.{Runner}
use Rattle.cd_run.specs.Runners.{IsReady, MayRun, keys_of, left_of, limit_of, options_of, room_of, table_of}
use Rattle.cd_run.specs.Scripts.{HasRun, IsBuiltStatement, IsKept, IsNextStatement, after, held_after, rest_of}
use Rattle.cd_run.specs.Statements.{IsSiteOf}

-- ---- a statement in its script

pub drop_here : (script : List Stmt) (i : ℕ) (s : Stmt) → slice_get script i ≡ Some s → drop i script ≡ s ∷ drop (suc i) script
drop_here [] i s at = let no : ⊥ = cc in absurd no
drop_here (x ∷ more) zero s at = let same : x ≡ s = cc in ap (λ y. y ∷ more) same
drop_here (x ∷ more) (suc i) s at = drop_here more i s at

places_before : (script : List Stmt) (i : ℕ) (s : Stmt) → slice_get script i ≡ Some s → length (script_places (take (suc i) script)) ≡ length (script_places (take i script)) + length (statement_places s)
places_before [] i s at = let no : ⊥ = cc in absurd no
places_before (x ∷ more) zero s at =
    let same : x ≡ s = cc in
    let all = length-append (statement_places x) [] in
    let e : length (statement_places x) ≡ length (statement_places s) = ap (λ y. length (statement_places y)) same in
    omega (arith, all, e)
places_before (x ∷ more) (suc i) s at =
    let rest = places_before more i s at in
    let a = length-append (statement_places x) (script_places (take (suc i) more)) in
    let b = length-append (statement_places x) (script_places (take i more)) in
    omega (arith, rest, a, b)

-- the next statement begins behind the sites of this one
pub next_first : (script : List Stmt) (i : ℕ) (s : Stmt) → slice_get script i ≡ Some s → first_site script (suc (suc i)) ≡ first_site script (suc i) + length (statement_places s)
next_first script i s at = let e = places_before script i s at in omega (arith, e)

files_append : (a b : List Place) → files_in (a ++ b) ≡ files_in a + files_in b
files_append [] b = omega arith
files_append (p ∷ a) b = let e = files_append a b in omega (arith, e)

pub files_here : (script : List Stmt) (i : ℕ) (s : Stmt) → slice_get script i ≡ Some s → files_in (script_places (drop i script)) ≡ files_in (statement_places s) + files_in (script_places (drop (suc i) script))
files_here script i s at = ap (λ l. files_in (script_places l)) (drop_here script i s at) ∙ files_append (statement_places s) (script_places (drop (suc i) script))

pub uses_here : (script : List Stmt) (i : ℕ) (s : Stmt) (held : List ℕ → Bool) → slice_get script i ≡ Some s → UsesStanding (λ name. false) held (drop i script) → UsesStanding (λ name. false) held (s ∷ drop (suc i) script)
uses_here script i s held at uses = subst (λ l. UsesStanding (λ name. false) held l) (drop_here script i s at) uses

pub rest_here : (script : List Stmt) (i : ℕ) (s : Stmt) → slice_get script i ≡ Some s → (st : ScriptState) (all : Seen) → rest_of script i st all ≡ statement_meaning s all st (λ st'. rest_of script (suc i) st' all)
rest_here script i s at st all = ap (λ l. statements_from (map statement_meaning l) all st) (drop_here script i s at)

-- ---- names and their numbers

pub same_name : (a b : List ℕ) → bytes_eq a b ≡ true → a ≡ b
same_name a b e = (bytes_eq-Decides a b).0 e

-- two names with one number are one name
pub same_number : (names : List (List ℕ)) (a b : List ℕ) (n : ℕ) → position (bytes_eq a) names ≡ Some n → position (bytes_eq b) names ≡ Some n → a ≡ b
same_number names a b n x y =
    let p = position-Some (bytes_eq a) names n [] x in
    let q = position-Some (bytes_eq b) names n [] y in
    same_name a (get_or names n []) p.1 ∙ sym (same_name b (get_or names n []) q.1)

pub number_within : (names : List (List ℕ)) (a : List ℕ) (n : ℕ) → position (bytes_eq a) names ≡ Some n → n < length names
number_within names a n x = (position-Some (bytes_eq a) names n [] x).0

get_set_here : (l : List Site) (i : ℕ) (x : Site) → i < length l → slice_get (slice_set l i x) i ≡ Some x
get_set_here [] i x lt = absurd (omega (arith, lt))
get_set_here (y ∷ l) zero x lt = refl
get_set_here (y ∷ l) (suc i) x lt = get_set_here l i x (omega (arith, lt))

get_set_other : (l : List Site) (i j : ℕ) (x : Site) → j ≢ i → slice_get (slice_set l i x) j ≡ slice_get l j
get_set_other [] i j x e = refl
get_set_other (y ∷ l) zero zero x e = absurd (e refl)
get_set_other (y ∷ l) zero (suc j) x e = refl
get_set_other (y ∷ l) (suc i) zero x e = refl
get_set_other (y ∷ l) (suc i) (suc j) x e = get_set_other l i j x (λ (h : j ≡ i). e (ap suc h))

-- ---- behind a statement that runs a pipe

module _ (script : List Stmt) (i : ℕ) (st : ScriptState) (held : List ℕ → Bool) (r r' : Runner) (h : HasRun script i st held r) (ready : IsReady script r') (same_options : options_of r' ≡ options_of r) where
  pub run_next : (p : Pipe) → slice_get script i ≡ Some (Stmt.Run p) → keys_of r' ≡ keys_of r
      → ((x : Held) → (IsSiteOf p (first_site script (suc i)) x.site.0 → ⊥) → Contains (table_of r) x → Contains (table_of r') x)
      → ((s : ℕ) → (IsSiteOf p (first_site script (suc i)) s → ⊥) → get_or (left_of r') s 0 ≡ get_or (left_of r) s 0)
      → room_of r ≤ room_of r' + files_in (pipe_meaning p).places → HasRun script (suc i) (after (Stmt.Run p) st) (held_after (Stmt.Run p) held) r'
  run_next p at same_keys stays others spent = record {
    ready = ready;
    site = ap (λ n. n + length (pipe_meaning p).places) h.site ∙ sym (next_first script i (Stmt.Run p) at);
    uses = uses_here script i (Stmt.Run p) held at h.uses;
    kept = λ name is. kept_on name (h.kept name is);
    apart = h.apart;
    fresh = λ s le lt.
        others s (λ own. let e = h.site in let o = own.1 in omega (arith, le, e, o))
        ∙ h.fresh s (omega (arith, le)) (let a = ready.left in let b = h.ready.left in omega (arith, lt, a, b))
        ∙ ap (λ (o : Options). o.limit + 1) (sym same_options);
    room = let a = h.room in let b = files_here script i (Stmt.Run p) at in omega (arith, a, b, spent);
  } where
    kept_on : (name : List ℕ) → IsKept script st (keys_of r) (table_of r) name → IsKept script (after (Stmt.Run p) st) (keys_of r') (table_of r') name
    kept_on name k = record {
      number = k.number;
      named = k.named;
      site = ap (λ l. slice_get l k.number) same_keys ∙ k.site;
      earlier = let e = k.earlier in omega (arith, e);
      there = (k.there.0, stays (held_at (st.key name) k.there.0) (λ own. let e = k.earlier in let f = h.site in let o = own.0 in omega (arith, e, f, o)) k.there.1);
    }

  -- ---- behind a statement that holds a key

  pub hold_next : (name file : List ℕ) (key : ℕ) (d : Descriptor) → slice_get script i ≡ Some (Stmt.Hold name file) → name_number (key_names script) name ≡ Some key
      → keys_of r' ≡ slice_set (keys_of r) key (site_at st.site) → left_of r' ≡ left_of r → table_of r' ≡ table_of r ++ held_at st.site d ∷ [] → room_of r ≤ room_of r' + 1
      → HasRun script (suc i) (after (Stmt.Hold name file) st) (held_after (Stmt.Hold name file) held) r'
  hold_next name file key d at number new_keys same_left more spent = record {
    ready = ready;
    site = (let a = h.site in let b = next_first script i (Stmt.Hold name file) at in omega (arith, a, b));
    uses = uses_here script i (Stmt.Hold name file) held at h.uses;
    kept = λ other is. kept_by (bytes_eq other name) other refl is;
    apart = λ a b x y e. apart_by (bytes_eq a name) (bytes_eq b name) a b refl refl x y e;
    fresh = λ s le lt.
        ap (λ l. get_or l s 0) same_left
        ∙ h.fresh s (omega (arith, le)) (let a = ready.left in let b = h.ready.left in omega (arith, lt, a, b))
        ∙ ap (λ (o : Options). o.limit + 1) (sym same_options);
    room = let a = h.room in let b = files_here script i (Stmt.Hold name file) at in omega (arith, a, b, spent);
  } where
    key_behind : List ℕ → ℕ
    key_behind = with_name st.key name st.site

    new_site : (other : List ℕ) → bytes_eq other name ≡ true → key_behind other ≡ st.site
    new_site other e = ap (λ (c : Bool). if c then st.site else st.key other) e

    old_site : (other : List ℕ) → bytes_eq other name ≡ false → key_behind other ≡ st.key other
    old_site other e = ap (λ (c : Bool). if c then st.site else st.key other) e

    was_held : (other : List ℕ) → bytes_eq other name ≡ false → with_name held name true other ≡ true → held other ≡ true
    was_held other e is = sym (ap (λ (c : Bool). if c then true else held other) e) ∙ is

    kept_by : (c : Bool) (other : List ℕ) → bytes_eq other name ≡ c → with_name held name true other ≡ true → IsKept script (after (Stmt.Hold name file) st) (keys_of r') (table_of r') other
    kept_by true other e is = record {
      number = key;
      named = ap (name_number (key_names script)) (same_name other name e) ∙ number;
      site = ap (λ l. slice_get l key) new_keys
          ∙ get_set_here (keys_of r) key (site_at st.site) (let a = number_within (key_names script) name key number in let b = h.ready.keys in omega (arith, a, b))
          ∙ ap (λ n. Some (site_at n)) (sym (new_site other e));
      earlier = let n = new_site other e in omega (arith, n);
      there = (
        d,
        subst (λ l. Contains l (held_at (key_behind other) d)) (sym more)
            (subst (λ n. Contains (table_of r ++ held_at st.site d ∷ []) (held_at n d)) (sym (new_site other e)) (Contains-append_right (table_of r) (held_at st.site d ∷ []) (held_at st.site d) (0, omega arith, refl))),
      );
    }
    kept_by false other e is =
        let k = h.kept other (was_held other e is) in
        record {
          number = k.number;
          named = k.named;
          site = ap (λ l. slice_get l k.number) new_keys
              ∙ get_set_other (keys_of r) key k.number (site_at st.site) (λ (same : k.number ≡ key). differ other e (same_number (key_names script) other name key (k.named ∙ ap Some same) number))
              ∙ k.site
              ∙ ap (λ n. Some (site_at n)) (sym (old_site other e));
          earlier = let a = k.earlier in let n = old_site other e in omega (arith, a, n);
          there = (
            k.there.0,
            subst (λ l. Contains l (held_at (key_behind other) k.there.0)) (sym more)
                (Contains-append_left (table_of r) (held_at st.site d ∷ []) (held_at (key_behind other) k.there.0) (subst (λ n. Contains (table_of r) (held_at n k.there.0)) (sym (old_site other e)) k.there.1)),
          );
        }
      where
        differ : (other : List ℕ) → bytes_eq other name ≡ false → other ≡ name → ⊥
        differ other e same = let t = (bytes_eq-Decides other name).1 same in let no : true ≡ false = sym t ∙ e in cc

    apart_by : (c c' : Bool) (a b : List ℕ) → bytes_eq a name ≡ c → bytes_eq b name ≡ c' → with_name held name true a ≡ true → with_name held name true b ≡ true → key_behind a ≡ key_behind b → a ≡ b
    apart_by true true a b e f x y same = same_name a name e ∙ sym (same_name b name f)
    apart_by true false a b e f x y same = absurd (let k = (h.kept b (was_held b f y)).earlier in let m = new_site a e in let n = old_site b f in omega (arith, k, m, n, same))
    apart_by false true a b e f x y same = absurd (let k = (h.kept a (was_held a e x)).earlier in let m = old_site a e in let n = new_site b f in omega (arith, k, m, n, same))
    apart_by false false a b e f x y same = h.apart a b (was_held a e x) (was_held b f y) (sym (old_site a e) ∙ same ∙ old_site b f)

  -- ---- behind a statement that releases a key

  pub release_next : (name : List ℕ) → slice_get script i ≡ Some (Stmt.Release name) → keys_of r' ≡ keys_of r → left_of r' ≡ left_of r
      → ((x : Held) → x.site.0 ≢ st.key name → Contains (table_of r) x → Contains (table_of r') x) → room_of r' ≡ room_of r
      → HasRun script (suc i) (after (Stmt.Release name) st) (held_after (Stmt.Release name) held) r'
  release_next name at same_keys same_left others same_room = record {
    ready = ready;
    site = (let a = h.site in let b = next_first script i (Stmt.Release name) at in omega (arith, a, b));
    uses = (uses_here script i (Stmt.Release name) held at h.uses).1;
    kept = λ other is. kept_by (bytes_eq other name) other refl is;
    apart = λ a b x y. h.apart a b (was_held (bytes_eq a name) a refl x) (was_held (bytes_eq b name) b refl y);
    fresh = λ s le lt.
        ap (λ l. get_or l s 0) same_left
        ∙ h.fresh s le (let a = ready.left in let b = h.ready.left in omega (arith, lt, a, b))
        ∙ ap (λ (o : Options). o.limit + 1) (sym same_options);
    room = let a = h.room in let b = files_here script i (Stmt.Release name) at in omega (arith, a, b, same_room);
  } where
    never : {A : Type 0} → false ≡ true → A
    never e = let no : ⊥ = cc in absurd no

    was_held : (c : Bool) (a : List ℕ) → bytes_eq a name ≡ c → with_name held name false a ≡ true → held a ≡ true
    was_held true a e is = never (sym (ap (λ (c : Bool). if c then false else held a) e) ∙ is)
    was_held false a e is = sym (ap (λ (c : Bool). if c then false else held a) e) ∙ is

    kept_by : (c : Bool) (other : List ℕ) → bytes_eq other name ≡ c → with_name held name false other ≡ true → IsKept script st (keys_of r') (table_of r') other
    kept_by true other e is = never (sym (ap (λ (c : Bool). if c then false else held other) e) ∙ is)
    kept_by false other e is =
        let k = h.kept other (was_held false other e is) in
        record {
          number = k.number;
          named = k.named;
          site = ap (λ l. slice_get l k.number) same_keys ∙ k.site;
          earlier = k.earlier;
          there = (k.there.0, others (held_at (st.key other) k.there.0) (λ (same : st.key other ≡ st.key name). differ other e (h.apart other name (was_held false other e is) (uses_here script i (Stmt.Release name) held at h.uses).0 same)) k.there.1);
        }
      where
        differ : (other : List ℕ) → bytes_eq other name ≡ false → other ≡ name → ⊥
        differ other e same = let t = (bytes_eq-Decides other name).1 same in let no : true ≡ false = sym t ∙ e in cc

-- ---- the next statement

pub numbered_here : (script : List Stmt) (i number : ℕ) (s : Stmt) → IsNextStatement script i s number → numbered script number ≡ Some s
numbered_here script i number s next = ap (numbered script) next.number ∙ next.here

-- a runner runs one script
pub one_script : (script other : List Stmt) (r : Runner) → IsReady script r → IsReady other r → script ≡ other
one_script script other r a b = sym a.typed.same ∙ b.typed.same

pub one_place : {A : Type 0} (a b : A) → Some a ≡ Some b → a ≡ b
one_place a b e = cc

-- a pipe that comes next may run
pub may_run : (script : List Stmt) (i number : ℕ) (st : ScriptState) (held : List ℕ → Bool) (r : Runner) (s : Stmt) (p : Pipe) → HasRun script i st held r → IsNextStatement script i s number → s ≡ Stmt.Run p → MayRun r number
may_run script i number st held r s p h next is = record {
  script = script;
  pipe = p;
  ready = h.ready;
  runs = numbered_here script i number s next ∙ ap (λ x. Some x) is;
  is_built = subst IsBuiltStatement is next.built;
  sites = λ x own. left_some x own;
  files = (let a = h.room in let b = files_here script i (Stmt.Run p) (next.here ∙ ap (λ x. Some x) is) in omega (arith, a, b));
} where
  within : first_site script (suc i) + length (pipe_meaning p).places ≤ length (script_places script) + 1
  within = within_sites script (suc i) (Stmt.Run p) (next.here ∙ ap (λ x. Some x) is)

  left_some : (x : ℕ) → IsSiteOf p (first_site script number) x → 0 < get_or (left_of r) x 0
  left_some x own =
      let n : first_site script number ≡ first_site script (suc i) = ap (first_site script) next.number in
      let low = own.0 in
      let high = own.1 in
      let site = h.site in
      let all = h.ready.left in
      let w = within in
      let fresh = h.fresh x (omega (arith, low, n, site)) (omega (arith, high, n, all, w)) in
      omega (arith, fresh)

-- its sites are unread
pub run_unread : (script : List Stmt) (i number limit : ℕ) (st : ScriptState) (held : List ℕ → Bool) (r : Runner) (s : Stmt) (p : Pipe) → HasRun script i st held r → IsNextStatement script i s number → s ≡ Stmt.Run p → limit ≡ limit_of r
    → (x : ℕ) → IsSiteOf p (first_site script number) x → get_or (left_of r) x 0 ≡ limit + 1
run_unread script i number limit st held r s p h next is limited x own =
    let w = within_sites script (suc i) (Stmt.Run p) (next.here ∙ ap (λ x. Some x) is) in
    let n : first_site script number ≡ first_site script (suc i) = ap (first_site script) next.number in
    let low = own.0 in
    let high = own.1 in
    let site = h.site in
    let all = h.ready.left in
    h.fresh x (omega (arith, low, n, site)) (omega (arith, high, n, all, w)) ∙ ap (λ n. n + 1) (sym limited)

-- the place of a key that is held next
pub hold_place : (script : List Stmt) (i number : ℕ) (s : Stmt) (name file : List ℕ) → IsNextStatement script i s number → s ≡ Stmt.Hold name file → place_in (script_places script) (first_site script number) ≡ Marks file
hold_place script i number s name file next is =
    (places_stand script number (Stmt.Hold name file) (numbered_here script i number s next ∙ ap (λ x. Some x) is)).0

pub marks_file : (p : Place) (file : List ℕ) → p ≡ Marks file → HasFile p
marks_file p file is = subst HasFile (sym is) tt

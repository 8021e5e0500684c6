-- What the calls of a runner make of a script's run.
use Rattle.std.proofs.Common.{◌≡◌, ◌≢◌, ℕ, suc, ◌+◌, ◌≤◌, Bool, List, [], ◌∷◌, ◌++◌, Result, Ok, Err, get_or, slice_get, slice_set, Some, ap, sym, ◌∙◌, subst}
use Rattle.std.specs.Prelude.{Contains, IfOk, option_and_then}
use Rattle.cd_elem.specs.declared.script.Pipe.{Pipe}
use Rattle.cd_elem.specs.declared.script.Stmt.{Stmt}
use Rattle.cd_elem.specs.declared.site.Site.{Site}
use Rattle.cd_meaning.specs.Opens.{files_in}
use Rattle.cd_meaning.specs.Pipes.{pipe_meaning}
use Rattle.cd_meaning.specs.Run.{Run}
use Rattle.cd_meaning.specs.RunShapes.{Seen}
use Rattle.cd_meaning.specs.Scripts.{ScriptState, statement_meaning}
use Rattle.cd_meaning.specs.Stream.{Open, Close}
use Rattle.cd_types.specs.Numbering.{first_site, key_named, key_number, name_number}
use Rattle.cd_types.specs.Statements.{key_names}
use Rattle.cd_world.specs.declared.event.Descriptor.{Descriptor}
use Rattle.cd_scope.specs.declared.table.Held.{Held}
use Rattle.cd_scope.specs.Calls.{held_at, site_at}
use Rattle.cd_scope.specs.Due.{Setting}
use Rattle.cd_run.specs.declared.fault.RunFault.{RunFault}
use Rattle.cd_run.specs.declared.runner.Runner.{Runner}
use Rattle.cd_run.specs.Ends.{MovedOn, Moves}
use Rattle.cd_run.specs.Going.{Going, Outside}
use Rattle.cd_run.specs.Runners.{IsReady, keys_of, left_of, options_of, room_of, table_of}
use Rattle.cd_run.specs.Scripts.{HasRun, IsKept, IsNextStatement, after, held_after, rest_of}
use Rattle.cd_run.specs.Statements.{Holds, IsSiteOf, behind}
use Rattle.cd_run.proofs.ScriptSteps.{hold_next, numbered_here, release_next, rest_here, run_next, uses_here}
use Rattle.cd_run.proofs.Steps.{going_same}

module _ (script : List Stmt) (i number : ℕ) (s : Stmt) (next : IsNextStatement script i s number) (st : ScriptState) (held : List ℕ → Bool) (r r' : Runner) (h : HasRun script i st held r) where
  pub first_is : st.site ≡ first_site script number
  first_is = h.site ∙ sym (ap (first_site script) next.number)

  module _ (ready : IsReady script r') (same_options : options_of r' ≡ options_of r) where
    pub ran_next : (p : Pipe) → s ≡ Stmt.Run p → keys_of r' ≡ keys_of r
        → ((x : Held) → (IsSiteOf p (first_site script number) x.site.0 → ⊥) → Contains (table_of r) x → Contains (table_of r') x)
        → ((x : ℕ) → (IsSiteOf p (first_site script number) x → ⊥) → get_or (left_of r') x 0 ≡ get_or (left_of r) x 0)
        → room_of r ≤ room_of r' + files_in (pipe_meaning p).places → HasRun script (suc i) (after s st) (held_after s held) r'
    ran_next p is same_keys stays others spent =
        let n : first_site script number ≡ first_site script (suc i) = ap (first_site script) next.number in
        subst (λ t. HasRun script (suc i) (after t st) (held_after t held) r') (sym is)
        (run_next script i st held r r' h ready same_options p (next.here ∙ ap (λ x. Some x) is) same_keys (λ x other has. stays x (λ own. other (subst (λ f. IsSiteOf p f x.site.0) n own)) has)
        (λ x other. others x (λ own. other (subst (λ f. IsSiteOf p f x) n own))) spent)

    pub held_next : {T : Type 0} (name file : List ℕ) (key : ℕ) (site : Site) (result : Result T RunFault) → s ≡ Stmt.Hold name file → name_number (key_names script) name ≡ Some key → site.0 ≡ first_site script number
        → keys_of r' ≡ slice_set (keys_of r) key site → left_of r' ≡ left_of r → Holds site.0 result (table_of r) (table_of r') → room_of r ≤ room_of r' + 1
        → IfOk result (λ x. HasRun script (suc i) (after s st) (held_after s held) r')
    held_next name file key site (Ok x) is number first new_keys same_left more spent =
        let at : site.0 ≡ st.site = first ∙ sym first_is in
        subst (λ t. HasRun script (suc i) (after t st) (held_after t held) r') (sym is)
        (hold_next script i st held r r' h ready same_options name file key more.0 (next.here ∙ ap (λ x. Some x) is) number (new_keys ∙ ap (λ n. slice_set (keys_of r) key (site_at n)) at) same_left
        (more.1 ∙ ap (λ n. table_of r ++ held_at n more.0 ∷ []) at) spent)
    held_next name file key site (Err f) is number first new_keys same_left more spent = tt

    pub released_next : (name : List ℕ) → s ≡ Stmt.Release name → keys_of r' ≡ keys_of r → left_of r' ≡ left_of r → ((x : Held) → x.site.0 ≢ st.key name → Contains (table_of r) x → Contains (table_of r') x) → room_of r' ≡ room_of r
        → HasRun script (suc i) (after s st) (held_after s held) r'
    released_next name is same_keys same_left others same_room =
        subst (λ t. HasRun script (suc i) (after t st) (held_after t held) r') (sym is)
        (release_next script i st held r r' h ready same_options name (next.here ∙ ap (λ x. Some x) is) same_keys same_left others same_room)

  -- ---- keys

  pub key_at : (name : List ℕ) (t : Stmt) (key : ℕ) → s ≡ t → key_named t ≡ Some name → Some key ≡ key_number script number → name_number (key_names script) name ≡ Some key
  key_at name t key is named e =
      sym (e ∙ ap (λ o. option_and_then (name_number (key_names script)) (option_and_then key_named o)) (numbered_here script i number s next ∙ ap (λ x. Some x) is) ∙ ap (option_and_then (name_number (key_names script))) named)

  kept_here : (name : List ℕ) → s ≡ Stmt.Release name → IsKept script st (keys_of r) (table_of r) name
  kept_here name is = h.kept name (uses_here script i (Stmt.Release name) held (next.here ∙ ap (λ x. Some x) is) h.uses).0

  -- the key that is released has a site, whose file is open
  pub key_found : (name : List ℕ) (key : ℕ) → s ≡ Stmt.Release name → name_number (key_names script) name ≡ Some key → slice_get (keys_of r) key ≡ Some (site_at (st.key name))
  key_found name key is named =
      let k = kept_here name is in
      ap (slice_get (keys_of r)) (sym (some_is k.number key (sym k.named ∙ named))) ∙ k.site
    where
      some_is : (a b : ℕ) → Some a ≡ Some b → a ≡ b
      some_is a b e = cc

  pub key_open : (name : List ℕ) → s ≡ Stmt.Release name → (d : Descriptor) × Contains (table_of r) (held_at (st.key name) d)
  key_open name is = (kept_here name is).there

  -- ---- what is still to be done

  module _ (g : Setting) (m : Seen → Run) (w0 w w' : Outside) (G : Going g m (table_of r) (left_of r) (behind (rest_of script i st)) w0 w) where
    pub statement_goes : (t : Stmt) → s ≡ t → Going g m (table_of r) (left_of r) (behind (λ all. statement_meaning t all st (λ st'. rest_of script (suc i) st' all))) w0 w
    statement_goes t is =
        going_same g m (table_of r) (behind (rest_of script i st)) w0 w (behind (λ all. statement_meaning t all st (λ st'. rest_of script (suc i) st' all)))
        (λ all z. rest_here script i t (next.here ∙ ap (λ x. Some x) is) st all) G

    pub behind_statement : {T : Type 0} (result : Result T RunFault) (left' : List ℕ) (t : Stmt) → s ≡ t → MovedOn g m result (table_of r') left' (λ x. behind (rest_of script (suc i) (after t st))) w0 w'
        → MovedOn g m result (table_of r') left' (λ x. behind (rest_of script (suc i) (after s st))) w0 w'
    behind_statement result left' t is moved = subst (λ x. MovedOn g m result (table_of r') left' (λ y. behind (rest_of script (suc i) (after x st))) w0 w') (sym is) moved

    pub holds_on : {T : Type 0} (result : Result T RunFault) (name file : List ℕ) (site : Site) → s ≡ Stmt.Hold name file → site.0 ≡ first_site script number
        → Moves g (table_of r) (table_of r') result (Open site.0 ∷ []) w w' → MovedOn g m result (table_of r') (left_of r) (λ x. behind (rest_of script (suc i) (after s st))) w0 w'
    holds_on result name file site is first moves =
        let at : site.0 ≡ st.site = first ∙ sym first_is in
        behind_statement result (left_of r) (Stmt.Hold name file) is
        (subst (λ n. Moves g (table_of r) (table_of r') result (Open n ∷ []) w w') at moves m (left_of r) (behind (rest_of script (suc i) (after (Stmt.Hold name file) st))) w0 (statement_goes (Stmt.Hold name file) is))

    pub releases_on : {T : Type 0} (result : Result T RunFault) (name : List ℕ) → s ≡ Stmt.Release name → Moves g (table_of r) (table_of r') result (Close (st.key name) ∷ []) w w'
        → MovedOn g m result (table_of r') (left_of r) (λ x. behind (rest_of script (suc i) (after s st))) w0 w'
    releases_on result name is moves = behind_statement result (left_of r) (Stmt.Release name) is (moves m (left_of r) (behind (rest_of script (suc i) st)) w0 (statement_goes (Stmt.Release name) is))

pub if_ok : {T : Type 0} (result : Result T RunFault) (A : Type 0) → A → IfOk result (λ x. A)
if_ok (Ok x) A a = a
if_ok (Err f) A a = tt

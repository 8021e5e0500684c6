-- A run with one call more.
use Rattle.std.proofs.Common.{◌≡◌, ℕ, List, [], ◌∷◌, ◌++◌, refl, ap, sym, ◌∙◌}
use Rattle.std.specs.Prelude.{IsTrue}
use Rattle.cd_meaning.specs.Run.{Run}
use Rattle.cd_meaning.specs.RunShapes.{MayGoOn, Mark, Seen}
use Rattle.cd_scope.specs.Calls.{Call, over, did, does, effects_of, mark_by, mark_of, on}
use Rattle.cd_scope.proofs.Further.{did_snoc, over_snoc}
use Rattle.cd_scope.specs.declared.table.Held.{Held}
use Rattle.cd_scope.specs.Due.{Setting}
use Rattle.cd_run.specs.Going.{Going, Outside, Stands, files_seen, to_come}

-- a call tells something, and does what is due
pub stands_call : (m : Seen → Run) (todo : Seen → Seen → Run) (c : Call) (cs : List Call) → Stands m (λ all z. does (effects_of c) (todo all z)) cs → Stands m (λ all z. todo all (on c z)) (cs ++ c ∷ [])
stands_call m todo c cs st z =
    ap m (over_snoc cs c z)
    ∙ st (on c z)
    ∙ sym (did_snoc cs c _)
    ∙ ap (λ w. did (cs ++ c ∷ []) (todo w (on c z))) (sym (over_snoc cs c z))

-- a call that tells no mark leaves that of each site
pub mark_left : (x : ℕ) (cs : List Call) (c : Call) → ((m : Mark) → mark_by x c m ≡ m) → mark_of x (cs ++ c ∷ []) ≡ mark_of x cs
mark_left x [] c e = e MayGoOn
mark_left x (b ∷ cs) c e = ap (mark_by x b) (mark_left x cs c e)

-- over all that the files held, up to the limit, m does what the calls did, and then what is still to be done
pub over_files : (g : Setting) (m : Seen → Run) (t : List Held) (left : List ℕ) (todo : Seen → Seen → Run) (w0 w : Outside) (tells : IsTrue g.tells) (G : Going g m t left todo w0 w)
    → m (files_seen g w0) ≡ did G.calls (todo (files_seen g w0) (to_come g G.calls (G.filed tells).more))
over_files g m t left todo w0 w tells G =
    let old = G.filed tells in
    let z = to_come g G.calls old.more in
    let same : over G.calls z ≡ files_seen g w0 = λ i s. old.comes s i in
    ap m (sym same) ∙ G.stands z ∙ ap (λ y. did G.calls (todo y z)) same

-- The end of a run.
use Rattle.std.proofs.Common.{◌≡◌, inl, inr, ℕ, List, [], ◌∷◌, ◌++◌, map, reverse, Option, Some, None, Result, Ok, Err, refl, ap, sym, ◌∙◌, subst, append_assoc, arith}
use Rattle.std.proofs.lemmas.List.{map-append}
use Rattle.cd_elem.specs.declared.site.Site.{Site}
use Rattle.cd_meaning.specs.Run.{Run}
use Rattle.cd_meaning.specs.RunShapes.{Seen}
use Rattle.cd_world.specs.Causes.{Rose, risen}
use Rattle.cd_scope.specs.declared.journal.JournalLine.{JournalLine}
use Rattle.cd_scope.specs.declared.table.Held.{Held}
use Rattle.cd_scope.specs.Calls.{Call, Opening, Refusing, Giving, Passing, Ending, Breaking, Writing, Losing, Closing, Sticking, event}
use Rattle.cd_scope.specs.Due.{Setting}
use Rattle.cd_scope.specs.Table.{AreCloses, Closes, RoseIfSome, count_after, first_stuck}
use Rattle.cd_run.specs.declared.fault.RunFault.{RunFault}
use Rattle.cd_run.specs.declared.fault.RunFault.TheVariants.{CloseFault}
use Rattle.cd_run.specs.Ends.{Faulted, MovedOn}
use Rattle.cd_run.specs.Going.{Going, Outside}
use Rattle.cd_run.specs.Ran.{IsJoined, Ran, RoseAtEnd, done}
use Rattle.cd_run.specs.Statements.{behind}
use Rattle.cd_run.proofs.Running.{over_files}

module _ (g : Setting) (m : Seen → Run) (t : List Held) (left : List ℕ) (w0 w w' : Outside) (first : Option Site) (lines lines' : List JournalLine) (before now : ℕ) (closes : List Call) (c : Closes t first lines lines' before now closes) (ended : w'.log ≡ w.log ++ map (event g.place) closes) where
  all_log : (calls : List Call) → w.log ≡ w0.log ++ map (event g.place) calls → w'.log ≡ w0.log ++ map (event g.place) (calls ++ closes)
  all_log calls log = ended ∙ ap (λ l. l ++ map (event g.place) closes) log ∙ append_assoc w0.log _ _ ∙ ap (λ l. w0.log ++ l) (sym (map-append (event g.place) calls closes))

  pub closed_fault : {T : Type 0} (f : RunFault) (result : Result T RunFault) → result ≡ Err f → Faulted g m f t w0 w → Ran g m result w0 w'
  closed_fault f result is F = subst (λ r. Ran g m r w0 w') (sym is) (record {
    calls = F.calls;
    closes = closes;
    log = all_log F.calls F.log;
    due = F.due;
    fits = F.fits;
    closing = subst (λ l. AreCloses (reverse l) closes) (sym F.standing) c.are;
    outcome = inl (F.failed, F.ends);
    whole = F.whole;
  })

  pub closed_well : {T : Type 0} (x : T) (result : Result T RunFault) → first ≡ None → result ≡ Ok x → Going g m t left (behind (λ all. done)) w0 w → Ran g m result w0 w'
  closed_well x result none is G = subst (λ r. Ran g m r w0 w') (sym is) (record {
    calls = G.calls;
    closes = closes;
    log = all_log G.calls G.log;
    due = G.due;
    fits = G.fits;
    closing = subst (λ l. AreCloses (reverse l) closes) (sym G.standing) c.are;
    outcome = (G.stands, G.clean, sym c.first_is ∙ none);
    whole = λ tells. over_files g m t left (behind (λ all. done)) w0 w tells G;
  })

  pub closed_badly : {T : Type 0} (s : Site) (result : Result T RunFault) → first ≡ Some s → result ≡ Err (CloseFault s) → Going g m t left (behind (λ all. done)) w0 w → Ran g m result w0 w'
  closed_badly s result some is G = subst (λ r. Ran g m r w0 w') (sym is) (record {
    calls = G.calls;
    closes = closes;
    log = all_log G.calls G.log;
    due = G.due;
    fits = G.fits;
    closing = subst (λ l. AreCloses (reverse l) closes) (sym G.standing) c.are;
    outcome = inr (record { site = s; fault = refl; first = sym c.first_is ∙ some; clean = G.clean; is_done = G.stands });
    whole = λ tells. tt;
  })

pub joined : {T : Type 0} (g : Setting) (m : Seen → Run) (t : List Held) (left : List ℕ) (w0 w w' : Outside) (answer : Result T RunFault) (first : Option Site) (result : Result T RunFault) (lines lines' : List JournalLine) (before now : ℕ) (closes : List Call)
    → MovedOn g m answer t left (λ x. behind (λ all. done)) w0 w → Closes t first lines lines' before now closes → w'.log ≡ w.log ++ map (event g.place) closes → IsJoined answer first result → Ran g m result w0 w'
joined g m t left w0 w w' (Ok x) None result lines lines' before now closes G c e is = closed_well g m t left w0 w w' None lines lines' before now closes c e x result refl is G
joined g m t left w0 w w' (Ok x) (Some s) result lines lines' before now closes G c e is = closed_badly g m t left w0 w w' (Some s) lines lines' before now closes c e s result refl is G
joined g m t left w0 w w' (Err f) first result lines lines' before now closes F c e is = closed_fault g m t left w0 w w' first lines lines' before now closes c e f result is F

-- ---- the count of failed calls

none_stuck : (cs : List Call) (n : ℕ) → first_stuck cs ≡ None → count_after cs n ≡ n
none_stuck [] n none = refl
none_stuck (Sticking s d ∷ cs) n none = absurd cc
none_stuck (Closing s d ∷ cs) n none = none_stuck cs n none
none_stuck (Opening s d ∷ cs) n none = none_stuck cs n none
none_stuck (Refusing s ∷ cs) n none = none_stuck cs n none
none_stuck (Giving s d b ∷ cs) n none = none_stuck cs n none
none_stuck (Passing s d b ∷ cs) n none = none_stuck cs n none
none_stuck (Ending s d ∷ cs) n none = none_stuck cs n none
none_stuck (Breaking s d ∷ cs) n none = none_stuck cs n none
none_stuck (Writing s d b ∷ cs) n none = none_stuck cs n none
none_stuck (Losing s d ∷ cs) n none = none_stuck cs n none

stays_up : (cs : List Call) (n k : ℕ) → Rose n k → Rose n (count_after cs k)
stays_up [] n k up = up
stays_up (Sticking s d ∷ cs) n k up = stays_up cs n (risen k) (omega (arith, up))
stays_up (Closing s d ∷ cs) n k up = stays_up cs n k up
stays_up (Opening s d ∷ cs) n k up = stays_up cs n k up
stays_up (Refusing s ∷ cs) n k up = stays_up cs n k up
stays_up (Giving s d b ∷ cs) n k up = stays_up cs n k up
stays_up (Passing s d b ∷ cs) n k up = stays_up cs n k up
stays_up (Ending s d ∷ cs) n k up = stays_up cs n k up
stays_up (Breaking s d ∷ cs) n k up = stays_up cs n k up
stays_up (Writing s d b ∷ cs) n k up = stays_up cs n k up
stays_up (Losing s d ∷ cs) n k up = stays_up cs n k up

pub rose_joined : {T : Type 0} (t : List Held) (answer : Result T RunFault) (first : Option Site) (result : Result T RunFault) (lines lines' : List JournalLine) (before now : ℕ) (closes : List Call)
    → IsJoined answer first result → Closes t first lines lines' before now closes → RoseIfSome first before now → RoseAtEnd answer result before now
rose_joined t (Ok x) None result lines lines' before now closes is c h = subst (λ r. RoseAtEnd (Ok x) r before now) (sym is) (c.count ∙ none_stuck closes before (sym c.first_is))
rose_joined t (Ok x) (Some s) result lines lines' before now closes is c h = subst (λ r. RoseAtEnd (Ok x) r before now) (sym is) (h refl)
rose_joined t (Err f) first result lines lines' before now closes is c h = (is, λ n up. subst (λ k. Rose n k) (sym c.count) (stays_up closes n before up))

-- The closes at the end of a scope, one after the other.
use Rattle.std.proofs.Common.{◌≡◌, ◌≤◌, ℕ, ◌-◌, ◌^◌, Bool, true, false, List, [], ◌∷◌, ◌++◌, map, reverse, Option, None, Result, Ok, Err, refl, ap, sym, ◌∙◌, subst, arith, append_assoc}
use Rattle.std.specs.Prelude.{IsSome, IsTrue}
use Rattle.std.specs.Result.{is_err}
use Rattle.std.proofs.lemmas.List.{map-append, append-nil, reverse-append}
use Rattle.cd_elem.specs.declared.site.Site.{Site}
use Rattle.cd_meaning.specs.Places.{Place}
use Rattle.cd_world.specs.declared.event.Event.{Event}
use Rattle.cd_world.specs.declared.world.CloseFailed.{CloseFailed}
use Rattle.cd_world.specs.Causes.{IsCloseCounted, Rose, risen}
use Rattle.cd_world.specs.Events.{closed}
use Rattle.cd_scope.specs.declared.journal.JournalLine.{JournalLine}
use Rattle.cd_scope.specs.declared.journal.JournalLine.TheVariants.{ClosedAtEnd}
use Rattle.cd_scope.specs.declared.table.Held.{Held}
use Rattle.cd_scope.specs.Calls.{Call, Opening, Refusing, Giving, Passing, Ending, Breaking, Writing, Losing, Closing, Sticking, event}
use Rattle.cd_scope.specs.Journal.{end_line, end_lines}
use Rattle.cd_scope.specs.Table.{AreCloses, Closes, IsCloseOf, closing, count_after, failed_at, first_stuck, or_first}

-- ---- one close more

end_snoc : (cs : List Call) (c : Call) → end_lines (cs ++ c ∷ []) ≡ end_lines cs ++ end_line c
end_snoc [] c = append-nil (end_line c)
end_snoc (b ∷ cs) c = ap (λ l. end_line b ++ l) (end_snoc cs c) ∙ sym (append_assoc (end_line b) (end_lines cs) (end_line c))

stuck_snoc : (cs : List Call) (c : Call) → first_stuck (cs ++ c ∷ []) ≡ or_first (first_stuck cs) (first_stuck (c ∷ []))
stuck_snoc [] c = refl
stuck_snoc (Sticking s d ∷ cs) c = refl
stuck_snoc (Closing s d ∷ cs) c = stuck_snoc cs c
stuck_snoc (Opening s d ∷ cs) c = stuck_snoc cs c
stuck_snoc (Refusing s ∷ cs) c = stuck_snoc cs c
stuck_snoc (Giving s d b ∷ cs) c = stuck_snoc cs c
stuck_snoc (Passing s d b ∷ cs) c = stuck_snoc cs c
stuck_snoc (Ending s d ∷ cs) c = stuck_snoc cs c
stuck_snoc (Breaking s d ∷ cs) c = stuck_snoc cs c
stuck_snoc (Writing s d b ∷ cs) c = stuck_snoc cs c
stuck_snoc (Losing s d ∷ cs) c = stuck_snoc cs c

count_snoc : (cs : List Call) (c : Call) (n : ℕ) → count_after (cs ++ c ∷ []) n ≡ count_after (c ∷ []) (count_after cs n)
count_snoc [] c n = refl
count_snoc (Sticking s d ∷ cs) c n = count_snoc cs c (risen n)
count_snoc (Closing s d ∷ cs) c n = count_snoc cs c n
count_snoc (Opening s d ∷ cs) c n = count_snoc cs c n
count_snoc (Refusing s ∷ cs) c n = count_snoc cs c n
count_snoc (Giving s d b ∷ cs) c n = count_snoc cs c n
count_snoc (Passing s d b ∷ cs) c n = count_snoc cs c n
count_snoc (Ending s d ∷ cs) c n = count_snoc cs c n
count_snoc (Breaking s d ∷ cs) c n = count_snoc cs c n
count_snoc (Writing s d b ∷ cs) c n = count_snoc cs c n
count_snoc (Losing s d ∷ cs) c n = count_snoc cs c n

close_snoc : (hs : List Held) (cs : List Call) (h : Held) (c : Call) → AreCloses hs cs → IsCloseOf h c → AreCloses (hs ++ h ∷ []) (cs ++ c ∷ [])
close_snoc [] [] h c are is = (is, tt)
close_snoc [] (x ∷ cs) h c are is = absurd are
close_snoc (y ∷ hs) [] h c are is = absurd are
close_snoc (y ∷ hs) (x ∷ cs) h c are is = (are.0, close_snoc hs cs h c are.1 is)

-- the close of what was held last
abbrev pub close_of : {T : Type 0} → Held → Result T CloseFailed → Call
close_of h result = closing h.site.0 h.descriptor result

close_event : {T : Type 0} (place : ℕ → Place) (h : Held) (result : Result T CloseFailed) → closed h.descriptor result ≡ event place (close_of h result) ∷ []
close_event place h (Ok x) = refl
close_event place h (Err e) = refl

close_is : {T : Type 0} (h : Held) (result : Result T CloseFailed) → IsCloseOf h (close_of h result)
close_is h (Ok x) = (refl, refl)
close_is h (Err e) = (refl, refl)

stuck_is : {T : Type 0} (h : Held) (result : Result T CloseFailed) → first_stuck (close_of h result ∷ []) ≡ failed_at h.site result
stuck_is h (Ok x) = refl
stuck_is h (Err e) = refl

counted_is : {T : Type 0} (h : Held) (result : Result T CloseFailed) (before now : ℕ) → IsCloseCounted before now result → now ≡ count_after (close_of h result ∷ []) before
counted_is h (Ok x) before now c = c.calm
counted_is h (Err e) before now c = c.failed

-- its line in the journal
pub noted_as : {T : Type 0} (h : Held) (result : Result T CloseFailed) (failed : Bool) (lines lines' : List JournalLine) → failed ≡ is_err result → lines' ≡ lines ++ ClosedAtEnd h.site failed ∷ [] → lines' ≡ lines ++ end_line (close_of h result)
noted_as h (Ok x) failed lines lines' e is = is ∙ ap (λ (b : Bool). lines ++ ClosedAtEnd h.site b ∷ []) e
noted_as h (Err x) failed lines lines' e is = is ∙ ap (λ (b : Bool). lines ++ ClosedAtEnd h.site b ∷ []) e

abbrev pub Told : (Bool → List Event → List Event → List Call → Type 0)
Told tells log log' closes = IsTrue tells → (place : ℕ → Place) → log' ≡ log ++ map (event place) closes

-- these were closed so far
abbrev pub Gone : List Held → List Held → Option Site → List JournalLine → List JournalLine → ℕ → ℕ → Bool → List Event → List Event → Type 0
Gone first t failed lines lines' before now tells log log' =
    (gone : List Held) × (closes : List Call) × (first ≡ t ++ gone) × Closes gone failed lines lines' before now closes × Told tells log log' closes

pub none_gone : (first : List Held) (lines : List JournalLine) (before : ℕ) (tells : Bool) (log : List Event) → Gone first first None lines lines before before tells log log
none_gone first lines before tells log = (
  [],
  [],
  sym (append-nil first),
  record { are = tt; first_is = refl; journal = sym (append-nil lines); count = refl },
  λ told place. sym (append-nil log),
)

pub one_gone : {T : Type 0} (first t t' : List Held) (h : Held) (failed failed' : Option Site) (lines lines' lines'' : List JournalLine) (before now now' : ℕ) (tells : Bool) (log log' log'' : List Event) (result : Result T CloseFailed)
    → t ≡ t' ++ h ∷ [] → failed' ≡ or_first failed (failed_at h.site result) → lines'' ≡ lines' ++ end_line (close_of h result) → IsCloseCounted now now' result → (IsTrue tells → log'' ≡ log' ++ closed h.descriptor result)
    → Gone first t failed lines lines' before now tells log log' → Gone first t' failed' lines lines'' before now' tells log log''
one_gone first t t' h failed failed' lines lines' lines'' before now now' tells log log' log'' result is joined noted counts listed (gone, closes, all, so_far, told) = (
  h ∷ gone,
  closes ++ close_of h result ∷ [],
  all ∙ ap (λ x. x ++ gone) is ∙ append_assoc t' (h ∷ []) gone,
  record {
    are = subst (λ x. AreCloses x (closes ++ close_of h result ∷ [])) (sym (reverse-append (h ∷ []) gone)) (close_snoc (reverse gone) closes h (close_of h result) so_far.are (close_is h result));
    first_is = joined ∙ ap (λ f. or_first f (failed_at h.site result)) so_far.first_is ∙ ap (or_first (first_stuck closes)) (sym (stuck_is h result)) ∙ sym (stuck_snoc closes (close_of h result));
    journal = noted ∙ ap (λ l. l ++ end_line (close_of h result)) so_far.journal ∙ append_assoc lines (end_lines closes) (end_line (close_of h result)) ∙ ap (λ l. lines ++ l) (sym (end_snoc closes (close_of h result)));
    count = counted_is h result now now' counts ∙ ap (count_after (close_of h result ∷ [])) so_far.count ∙ sym (count_snoc closes (close_of h result) before);
  },
  λ tell place. listed tell ∙ ap (λ x. x ++ closed h.descriptor result) (told tell place) ∙ append_assoc log _ _ ∙ ap (λ x. log ++ (map (event place) closes ++ x)) (close_event place h result)
      ∙ ap (λ x. log ++ x) (sym (map-append (event place) closes (close_of h result ∷ []))),
)

-- all were closed
pub all_gone : (first t : List Held) (failed : Option Site) (lines lines' : List JournalLine) (before now : ℕ) (tells : Bool) (log log' : List Event) → t ≡ [] → Gone first t failed lines lines' before now tells log log'
    → (closes : List Call) × Closes first failed lines lines' before now closes × Told tells log log' closes
all_gone first t failed lines lines' before now tells log log' none (gone, closes, all, so_far, told) =
    (closes, subst (λ x. Closes x failed lines lines' before now closes) (sym (all ∙ ap (λ x. x ++ gone) none)) so_far, told)

-- ---- a failure and the count

keeps_up : (cs : List Call) (n : ℕ) → n ≤ 2 ^ 64 - 1 → n ≤ count_after cs n
keeps_up [] n le = omega arith
keeps_up (Sticking s d ∷ cs) n le = let up : risen n ≤ 2 ^ 64 - 1 = omega arith in let more = keeps_up cs (risen n) up in omega (arith, le, more)
keeps_up (Closing s d ∷ cs) n le = keeps_up cs n le
keeps_up (Opening s d ∷ cs) n le = keeps_up cs n le
keeps_up (Refusing s ∷ cs) n le = keeps_up cs n le
keeps_up (Giving s d b ∷ cs) n le = keeps_up cs n le
keeps_up (Passing s d b ∷ cs) n le = keeps_up cs n le
keeps_up (Ending s d ∷ cs) n le = keeps_up cs n le
keeps_up (Breaking s d ∷ cs) n le = keeps_up cs n le
keeps_up (Writing s d b ∷ cs) n le = keeps_up cs n le
keeps_up (Losing s d ∷ cs) n le = keeps_up cs n le

stuck_rose : (cs : List Call) (n : ℕ) → IsSome (first_stuck cs) → Rose n (count_after cs n)
stuck_rose [] n some = absurd (subst is_false some tt) where
  is_false : Bool → Type 0
  is_false true = ⊥
  is_false false = Unit {0}
stuck_rose (Sticking s d ∷ cs) n some = keeps_up cs (risen n) (omega arith)
stuck_rose (Closing s d ∷ cs) n some = stuck_rose cs n some
stuck_rose (Opening s d ∷ cs) n some = stuck_rose cs n some
stuck_rose (Refusing s ∷ cs) n some = stuck_rose cs n some
stuck_rose (Giving s d b ∷ cs) n some = stuck_rose cs n some
stuck_rose (Passing s d b ∷ cs) n some = stuck_rose cs n some
stuck_rose (Ending s d ∷ cs) n some = stuck_rose cs n some
stuck_rose (Breaking s d ∷ cs) n some = stuck_rose cs n some
stuck_rose (Writing s d b ∷ cs) n some = stuck_rose cs n some
stuck_rose (Losing s d ∷ cs) n some = stuck_rose cs n some

pub first_rose : (table : List Held) (first : Option Site) (lines lines' : List JournalLine) (before now : ℕ) (closes : List Call) → Closes table first lines lines' before now closes → IsSome first → Rose before now
first_rose table first lines lines' before now closes c some = subst (λ n. Rose before n) (sym c.count) (stuck_rose closes before (subst (λ (x : Option Site). IsSome x) c.first_is some))

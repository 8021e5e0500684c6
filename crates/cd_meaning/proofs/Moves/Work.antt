-- Work that is left: for the measure of a loop over the turns of a tree.
use Rattle.std.proofs.Common.{◌≡◌, ℕ, zero, suc, ◌+◌, List, [], ◌∷◌, length, refl, ap, sym, ◌∙◌, arith}
use Rattle.cd_meaning.specs.Stream.{More, Input, Ended, Halted, Done, Halts, Act}
use Rattle.cd_meaning.specs.Run.{Stamp, Run, Then, Ends, acts_at, restamp}
use Rattle.cd_meaning.specs.Rest.{Rest, Grade, view, Moves}
use Rattle.cd_meaning.proofs.Moves.Laws.{to_come, end_to_come}

abbrev pub count : Run → ℕ
count (Then s a r) = suc (count r)
count (Ends s e) = 0

abbrev pub work_at : ℕ → Rest → ℕ
work_at zero p = count (p.run [] (Halted (More Input)))
work_at (suc n) p = count (p.run [] Ended)

-- what a part does before it waits, or where it was told the end before it ends
abbrev pub work : Rest → ℕ
work p = work_at p.floor p

pub count_view : (g : Grade) (r : Run) → count (view g r) ≡ count r
count_view g (Then s a r) = ap suc (count_view g r)
count_view g (Ends s (Done v)) = refl
count_view g (Ends s (Halts h)) = refl

pub count_restamp : (f : Stamp → Stamp) (r : Run) → count (restamp f r) ≡ count r
count_restamp f (Then s a r) = ap suc (count_restamp f r)
count_restamp f (Ends s e) = refl

pub count_acts : (s : Stamp) (acts : List Act) (r : Run) → count (acts_at s acts r) ≡ length acts + count r
count_acts s [] r = omega arith
count_acts s (a ∷ acts) r = (let h = count_acts s acts r in omega arith)

same_count : (g : Grade) (r r' : Run) → view g r ≡ view g r' → count r ≡ count r'
same_count g r r' h = sym (count_view g r) ∙ ap count h ∙ count_view g r'

-- an act done is work done
pub moves_work : (g : Grade) (acts : List Act) (p q : Rest) (f : ℕ) → f ≡ p.floor → Moves g acts p q → work_at f p ≡ length acts + work_at f q
moves_work g acts p q zero z m =
    same_count g _ _ (m.run [] (Halted (More Input)) (to_come p.floor [] (Halted (More Input)) (sym z)))
    ∙ count_acts _ acts _
    ∙ ap (λ n. length acts + n) (count_restamp _ (q.run [] (Halted (More Input))))
moves_work g acts p q (suc f) z m =
    same_count g _ _ (m.run [] Ended (end_to_come p.floor))
    ∙ count_acts _ acts _
    ∙ ap (λ n. length acts + n) (count_restamp _ (q.run [] Ended))

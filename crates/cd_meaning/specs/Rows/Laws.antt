-- Which trees are lawful, and what goes wrong with one that is not.
use Rattle.std.specs.Prelude.{◌≡◌, refl, [], ◌∷◌, codes, true, false}
use Rattle.cd_meaning.specs.Stream.{Elem, Ended, Input, More, Out, Value}
use Rattle.cd_meaning.specs.Run.{Then, stamp}
use Rattle.cd_meaning.specs.Laws.{cut}
use Rattle.cd_meaning.specs.LawfulTrees.{judged, word_judged, chain_is_judged}
use Rattle.cd_meaning.specs.Rows.Trees.{Tree, pipe_of}
use Rattle.cd_meaning.specs.Rows.Short.{digit, filter_e, map_e, pass_e, peek_e, piped, piped_keep, take_e, xor}
use Rattle.cd_meaning.specs.Rows.Given.{rows, done_at, gives_elem, on_bytes, waiting, waits_past}

map_kept : (judged (pipe_of (piped_keep (map_e (xor 1) ∷ take_e 2 ∷ [])))).lawful ≡ true
map_kept = simp (word_judged, chain_is_judged)

maps_in_a_row : (judged (pipe_of (piped_keep (piped (map_e (xor 1) ∷ pass_e ∷ []) ∷ peek_e ∷ [])))).lawful ≡ true
maps_in_a_row = simp (word_judged, chain_is_judged)

filter_kept : (judged (pipe_of (piped_keep (filter_e digit ∷ pass_e ∷ [])))).lawful ≡ false
filter_kept = simp (word_judged, chain_is_judged)

filter_between : (judged (pipe_of (piped_keep (pass_e ∷ filter_e digit ∷ pass_e ∷ [])))).lawful ≡ false
filter_between = simp (word_judged, chain_is_judged)

filter_last : (judged (pipe_of (piped_keep (pass_e ∷ filter_e digit ∷ [])))).lawful ≡ true
filter_last = simp (word_judged, chain_is_judged)

-- `filterE digit |= passE` on `a`, and its run on `a1` cut behind `a`: the digit stands at (1, 1), though the `a` before it was asked for too
abbrev kept_digits : Tree
kept_digits = piped_keep (filter_e digit ∷ pass_e ∷ [])

unlawful_front : on_bytes kept_digits (codes "a") waiting ≡ waits_past 0
unlawful_front = simp rows

unlawful_whole : on_bytes kept_digits (codes "a1") Ended ≡ Then (stamp 1 1) (Out (Elem 49)) (done_at 2 1 Value.Unit)
unlawful_whole = simp rows

-- so the first is not the second, cut
unlawful_cut : cut 1 (More Input) (Then (stamp 1 1) (Out (Elem 49)) (done_at 2 1 Value.Unit)) ≡ gives_elem 1 49 (waits_past 1)
unlawful_cut = refl

-- One more byte of a gap.
use Rattle.std.proofs.Common.{◌≡◌, ℕ, ◌+◌, ◌≤◌, ◌<◌, Bool, true, false, List, length, drop, get_or, refl, ap, add-one}
use Rattle.std.proofs.Math.Seq.{drop-cons}
use Rattle.std.proofs.lemmas.List.{drop_all}
use Rattle.cd_grammar.specs.Lexemes.{gap_length, is_in_gap, comment_goes_on}

pub gap-more : (b : Bool) (cs : List ℕ) (i : ℕ) → i < length cs → is_in_gap b (get_or cs i 0) ≡ true → gap_length b (drop i cs) ≡ 1 + gap_length (comment_goes_on b (get_or cs i 0)) (drop (i + 1) cs)
gap-more b cs i h e = rw (drop-cons cs i 0, add-one, e) refl

pub gap-none : (b : Bool) (cs : List ℕ) (i : ℕ) → i < length cs → is_in_gap b (get_or cs i 0) ≡ false → gap_length b (drop i cs) ≡ 0
gap-none b cs i h e = rw (drop-cons cs i 0, e) refl

pub gap-end : (b : Bool) (cs : List ℕ) (i : ℕ) → length cs ≤ i → gap_length b (drop i cs) ≡ 0
gap-end b cs i h = ap (gap_length b) (drop_all i cs h)

pub ruleset gaps = (gap-more, gap-none, gap-end)

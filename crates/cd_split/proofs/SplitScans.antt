-- Each splitter's run is that of its scan.
use Rattle.std.proofs.Common.{◌≡◌, ℕ, suc, ◌+◌, ◌==◌, Bool, true, false, List, [], ◌∷◌, ◌++◌, length, map, refl, ap, sym, ◌∙◌, Some, None, if◌then◌else◌}
use Rattle.std.proofs.lemmas.List.{length-map}
use Rattle.cd_elem.specs.Ascii.{newline}
use Rattle.cd_elem.specs.declared.kind.Kind.{Kind}
use Rattle.cd_meaning.specs.Stream.{Item, Piece, Value, End, Ended, Halted, Done, Act, Out}
use Rattle.cd_meaning.specs.Run.{Run, stamp, acts_at}
use Rattle.cd_meaning.specs.RunShapes.{Seen, number, piece, elements, elements_out}
use Rattle.cd_meaning.specs.Scan.{Go, closed, replied, scan}
use Rattle.cd_meaning.specs.Splitters.{exact, chunks_of, flat, line_end, no_piece, split, unlines}
use Rattle.cd_meaning.specs.Splitters as meant
use Rattle.cd_meaning.proofs.Moves.Own.{scan_fresh}
use Rattle.cd_meaning.proofs.Runs.Scans.{carried, scan_by}
use Rattle.cd_meaning.proofs.Runs.Shapes.{each_scan}
use Rattle.cd_meaning.proofs.Runs.Splitters.{grouped_scan, split_scan, split_is_scan, exact_is_scan, chunks_of_is_scan, flat_is_scan, unlines_is_scan}
use Rattle.cd_step.specs.CutChunks.{elems}
use Rattle.cd_step.specs.Reading.{scan_rest}
use Rattle.cd_split.specs.declared.rule.CutRule.{CutRule}
use Rattle.cd_split.specs.Cutting.{Line, cut_reply, cut_scan, last_piece, short_piece}
use Rattle.cd_split.specs.Joining.{join_scan, seen_joiner}
use Rattle.cd_split.specs.Splitting.{IsFirstCut, seen_stage}
use Rattle.cd_split.specs.declared.joiner.Joiner.{Joiner}
use Rattle.cd_split.specs.declared.stage.SplitStage.{SplitStage}
use Rattle.cd_split.specs.declared.stage.SplitStage.TheVariants.{Cut, Join}

numbers_append : (l : List Item) (x : Item) → map number (l ++ x ∷ []) ≡ map number l ++ number x ∷ []
numbers_append [] x = refl
numbers_append (y ∷ l) x = ap (λ k. number y ∷ k) (numbers_append l x)

-- ---- lines

-- the elements of a line, by their numbers
abbrev line_of : Bool × List Item → Line
line_of s = (s.0, map number s.1)

last_is : (f : Bool) (l : List Item) → map Out (line_end f l) ≡ map Out (last_piece (f, map number l))
last_is true [] = refl
last_is false [] = refl
last_is f (x ∷ l) = refl

short_is : (l : List Item) → map Out (meant.short_piece l) ≡ map Out (short_piece true (map number l))
short_is [] = refl
short_is (x ∷ l) = refl

abbrev pub line_rule : ℕ → ℕ → CutRule
line_rule separator n = record { separator = Some separator; short = true; most = n }

line_step : (b c : Bool) (f : Bool) (l : List Item) (x : Item)
    → carried line_of (if b then Go (map Out (line_end f l)) (true, []) else (if c then Go (Out (piece (l ++ x ∷ [])) ∷ []) (false, []) else Go [] (f, l ++ x ∷ []))) ≡ cut_reply b c (f, map number l) (number x)
line_step true c f l x = ap (λ a. Go a (true, [])) (last_is f l)
line_step false true f l x = ap (λ k. Go (Out (Piece k) ∷ []) (false, [])) (numbers_append l x)
line_step false false f l x = ap (λ k. Go [] (f, k)) (numbers_append l x)

pub lines_run : (separator n : ℕ) (xs : List Item) (e : End) → (scan_rest (cut_scan (line_rule separator n)) false (true, []) []).run xs e ≡ split separator n xs e
lines_run separator n xs e =
    scan_fresh (cut_scan (line_rule separator n)) (true, []) xs e
    ∙ sym (split_is_scan separator n xs e
    ∙ scan_by (split_scan separator n) (cut_scan (line_rule separator n)) line_of (λ s. refl)
    (λ s x. line_step (number x == separator) (length s.1 + 1 == n) s.0 s.1 x ∙ ap (λ k. cut_reply (number x == separator) (k + 1 == n) (line_of s) (number x)) (sym (length-map s.1 number)))
    (λ s. short_is s.1) (λ s. refl) 0 (true, []) xs e)

-- ---- pieces without lines

abbrev pub group_rule : Bool → ℕ → CutRule
group_rule short n = record { separator = None; short = short; most = n }

module _ (given : List Item → List Item) (short : Bool) (n : ℕ) (h : (l : List Item) → map Out (given l) ≡ map Out (short_piece short (map number l))) where
  replied_is : (c d : Bool) (i : ℕ) (f : Bool) (l : List Item) (x : Item) (k : List Item → Run) (j : Line → Run) → d ≡ c → k [] ≡ j (false, []) → k (l ++ x ∷ []) ≡ j (f, map number l ++ number x ∷ [])
      → replied i (if c then Go (Out (piece (l ++ x ∷ [])) ∷ []) [] else Go [] (l ++ x ∷ [])) k ≡ replied i (cut_reply false d (f, map number l) (number x)) j
  replied_is true d i f l x k j e u v = rw e (ap (λ y. acts_at (stamp (suc i) (suc i)) (Out (Piece y) ∷ []) (k [])) (numbers_append l x) ∙ ap (acts_at (stamp (suc i) (suc i)) (Out (Piece (map number l ++ number x ∷ [])) ∷ [])) u)
  replied_is false d i f l x k j e u v = rw e v

  groups_is : (i : ℕ) (f : Bool) (l xs : List Item) (e : End) → scan (grouped_scan given n) i l xs e ≡ scan (cut_scan (group_rule short n)) i (f, map number l) xs e
  groups_is i f l [] e = ap (λ a. closed i a (Done Value.Unit) e) (h l)
  groups_is i f l (x ∷ xs) e =
      replied_is (length l + 1 == n) (length (map number l) + 1 == n) i f l x (λ t. scan (grouped_scan given n) (suc i) t xs e) (λ t. scan (cut_scan (group_rule short n)) (suc i) t xs e)
      (ap (λ k. k + 1 == n) (length-map l number)) (groups_is (suc i) false [] xs e)
      (groups_is (suc i) f (l ++ x ∷ []) xs e ∙ ap (λ y. scan (cut_scan (group_rule short n)) (suc i) (f, y) xs e) (numbers_append l x))

pub exact_run : (n : ℕ) (xs : List Item) (e : End) → (scan_rest (cut_scan (group_rule false n)) false (true, []) []).run xs e ≡ exact n xs e
exact_run n xs e = scan_fresh (cut_scan (group_rule false n)) (true, []) xs e ∙ sym (exact_is_scan n xs e ∙ groups_is no_piece false n (λ l. refl) 0 true [] xs e)

pub chunks_run : (n : ℕ) (xs : List Item) (e : End) → (scan_rest (cut_scan (group_rule true n)) false (true, []) []).run xs e ≡ chunks_of n xs e
chunks_run n xs e = scan_fresh (cut_scan (group_rule true n)) (true, []) xs e ∙ sym (chunks_of_is_scan n xs e ∙ groups_is meant.short_piece true n short_is 0 true [] xs e)

-- ---- back to elements

outs_are : (l : List ℕ) → elements_out l ≡ map Out (elems l)
outs_are [] = refl
outs_are (x ∷ l) = ap (λ a. Out (Rattle.cd_meaning.specs.Stream.Elem x) ∷ a) (outs_are l)

all_there : (l : List ℕ) → l ≡ l ++ []
all_there [] = refl
all_there (x ∷ l) = ap (λ k. x ∷ k) (all_there l)

pub flat_run : (xs : List Item) (e : End) → (scan_rest (join_scan false) false tt []).run xs e ≡ flat xs e
flat_run xs e =
    scan_fresh (join_scan false) tt xs e
    ∙ sym (flat_is_scan xs e
    ∙ scan_by (each_scan (λ x. elements_out (elements x))) (join_scan false) (λ s. s) (λ s. refl) (λ s x. ap (λ a. Go a tt) (outs_are (elements x) ∙ ap (λ l. map Out (elems l)) (all_there (elements x)))) (λ s. refl) (λ s. refl) 0 tt xs e)

pub unlines_run : (xs : List Item) (e : End) → (scan_rest (join_scan true) false tt []).run xs e ≡ unlines xs e
unlines_run xs e =
    scan_fresh (join_scan true) tt xs e
    ∙ sym (unlines_is_scan xs e
    ∙ scan_by (each_scan (λ x. elements_out (elements x ++ newline ∷ []))) (join_scan true) (λ s. s) (λ s. refl) (λ s x. ap (λ a. Go a tt) (outs_are (elements x ++ newline ∷ []))) (λ s. refl) (λ s. refl) 0 tt xs e)

-- ---- at first

pub first_cut : (r : CutRule) (k : Kind) (e : SplitStage) (z : Seen) (xs : List Item) (end : End) → IsFirstCut r k e → (seen_stage e).run z xs end ≡ (scan_rest (cut_scan r) false (true, []) []).run xs end
first_cut r k (Cut e) z xs end (f, s, t, u, l, o, p) = rw (t, u, l, p) refl
first_cut r k (Join e) z xs end f = absurd f

pub first_join : (e : Joiner) (lines : Bool) (z : Seen) (xs : List Item) (end : End) → e.told ≡ false → e.lines ≡ lines → e.keep ≡ None → (seen_joiner e).run z xs end ≡ (scan_rest (join_scan lines) false tt []).run xs end
first_join e lines z xs end t l p = rw (t, l, p) refl

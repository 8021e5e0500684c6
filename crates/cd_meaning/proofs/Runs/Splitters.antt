-- The words from elements to pieces, and back, are runs.
use Rattle.std.proofs.Common.{◌≡◌, ℕ, suc, ◌+◌, List, [], ◌∷◌, ◌++◌, length, map, refl, ap, ◌∙◌, Bool, true, false, ◌==◌, if◌then◌else◌}
use Rattle.cd_elem.specs.Ascii.{newline}
use Rattle.cd_meaning.specs.Stream.{Item, Value, End, Ended, Halted, Done, Out}
use Rattle.cd_meaning.specs.Run.{stamp, Run, Then, acts_at, outs_at}
use Rattle.cd_meaning.specs.RunShapes.{number, elements, piece, elements_out}
use Rattle.cd_meaning.specs.Splitters.{no_piece, short_piece, grouped, exact, chunks_of, line_end, lines_from, split, lines, flat, unlines}
use Rattle.cd_meaning.specs.Laws.{IsRun}
use Rattle.cd_meaning.specs.Scan.{Reply, Go, Scan, replied, scan}
use Rattle.cd_meaning.proofs.Runs.Shapes.{is_run_as, never, outs_acts, each_is_run, each_scan, each_is_scan}

-- ---- pieces of n elements

-- where held are the elements since the last piece
abbrev pub grouped_step : ℕ → List Item → Item → Reply (List Item)
grouped_step n held x = if length held + 1 == n then Go (Out (piece (held ++ x ∷ [])) ∷ []) [] else Go [] (held ++ x ∷ [])

abbrev pub grouped_scan : (List Item → List Item) → ℕ → Scan (List Item)
grouped_scan short n = record { ready = never; step = grouped_step n; close = λ held. map Out (short held); ending = λ held. Done Value.Unit }

grouped_choice : (i : ℕ) (b : Bool) (x : Item) (r1 r2 : Run) (p1 p2 : List Item) (k : List Item → Run) → r1 ≡ k p1 → r2 ≡ k p2
    → (if b then Then (stamp (suc i) (suc i)) (Out x) r1 else r2) ≡ replied i (if b then Go (Out x ∷ []) p1 else Go [] p2) k
grouped_choice i true x r1 r2 p1 p2 k h1 h2 = ap (Then (stamp (suc i) (suc i)) (Out x)) h1
grouped_choice i false x r1 r2 p1 p2 k h1 h2 = h2

grouped_is : (short : List Item → List Item) (n i : ℕ) (held xs : List Item) (e : End) → grouped short n i held xs e ≡ scan (grouped_scan short n) i held xs e
grouped_is short n i held [] Ended = outs_acts (stamp (suc i) i) (short held) _
grouped_is short n i held [] (Halted h) = refl
grouped_is short n i held (x ∷ xs) e =
    grouped_choice i (length held + 1 == n) (piece (held ++ x ∷ [])) _ _ [] (held ++ x ∷ []) _
    (grouped_is short n (suc i) [] xs e) (grouped_is short n (suc i) (held ++ x ∷ []) xs e)

pub grouped_is_scan : (short : List Item → List Item) (n : ℕ) (xs : List Item) (e : End) → grouped short n 0 [] xs e ≡ scan (grouped_scan short n) 0 [] xs e
grouped_is_scan short n xs e = grouped_is short n 0 [] xs e

pub grouped_is_run : (short : List Item → List Item) (n : ℕ) → IsRun (grouped short n 0 [])
grouped_is_run short n = is_run_as _ (grouped_scan short n) [] (grouped_is_scan short n)

pub exact_is_scan : (n : ℕ) (xs : List Item) (e : End) → exact n xs e ≡ scan (grouped_scan no_piece n) 0 [] xs e
exact_is_scan n = grouped_is_scan no_piece n

pub exact_is_run : (n : ℕ) → IsRun (exact n)
exact_is_run n = grouped_is_run no_piece n

pub chunks_of_is_scan : (n : ℕ) (xs : List Item) (e : End) → chunks_of n xs e ≡ scan (grouped_scan short_piece n) 0 [] xs e
chunks_of_is_scan n = grouped_is_scan short_piece n

pub chunks_of_is_run : (n : ℕ) → IsRun (chunks_of n)
chunks_of_is_run n = grouped_is_run short_piece n

-- ---- lines

-- where the line has given no piece yet, or has; and the elements since the last separator or piece
abbrev pub split_step : ℕ → ℕ → Bool × List Item → Item → Reply (Bool × List Item)
split_step separator n s x =
    if number x == separator then Go (map Out (line_end s.0 s.1)) (true, [])
    else (if length s.1 + 1 == n then Go (Out (piece (s.1 ++ x ∷ [])) ∷ []) (false, []) else Go [] (s.0, s.1 ++ x ∷ []))

abbrev pub split_scan : ℕ → ℕ → Scan (Bool × List Item)
split_scan separator n = record { ready = never; step = split_step separator n; close = λ s. map Out (short_piece s.1); ending = λ s. Done Value.Unit }

split_choice : (i : ℕ) (b c : Bool) (x : Item) (r1 r2 r3 : Run) (p1 p2 p3 : Bool × List Item) (acts : List Item) (k : Bool × List Item → Run)
    → r1 ≡ k p1 → r2 ≡ k p2 → r3 ≡ k p3
    → (if b then outs_at (stamp (suc i) (suc i)) acts r1 else (if c then Then (stamp (suc i) (suc i)) (Out x) r2 else r3))
    ≡ replied i (if b then Go (map Out acts) p1 else (if c then Go (Out x ∷ []) p2 else Go [] p3)) k
split_choice i true c x r1 r2 r3 p1 p2 p3 acts k h1 h2 h3 = outs_acts _ acts r1 ∙ ap (acts_at (stamp (suc i) (suc i)) (map Out acts)) h1
split_choice i false true x r1 r2 r3 p1 p2 p3 acts k h1 h2 h3 = ap (Then (stamp (suc i) (suc i)) (Out x)) h2
split_choice i false false x r1 r2 r3 p1 p2 p3 acts k h1 h2 h3 = h3

split_is : (separator n i : ℕ) (fresh : Bool) (held xs : List Item) (e : End) → lines_from separator n i fresh held xs e ≡ scan (split_scan separator n) i (fresh, held) xs e
split_is separator n i fresh held [] Ended = outs_acts (stamp (suc i) i) (short_piece held) _
split_is separator n i fresh held [] (Halted h) = refl
split_is separator n i fresh held (x ∷ xs) e =
    split_choice i (number x == separator) (length held + 1 == n) (piece (held ++ x ∷ [])) _ _ _ (true, []) (false, []) (fresh, held ++ x ∷ []) (line_end fresh held) _
    (split_is separator n (suc i) true [] xs e) (split_is separator n (suc i) false [] xs e) (split_is separator n (suc i) fresh (held ++ x ∷ []) xs e)

pub split_is_scan : (separator n : ℕ) (xs : List Item) (e : End) → split separator n xs e ≡ scan (split_scan separator n) 0 (true, []) xs e
split_is_scan separator n xs e = split_is separator n 0 true [] xs e

pub split_is_run : (separator n : ℕ) → IsRun (split separator n)
split_is_run separator n = is_run_as _ (split_scan separator n) (true, []) (split_is_scan separator n)

pub lines_is_scan : (n : ℕ) (xs : List Item) (e : End) → lines n xs e ≡ scan (split_scan newline n) 0 (true, []) xs e
lines_is_scan n = split_is_scan newline n

pub lines_is_run : (n : ℕ) → IsRun (lines n)
lines_is_run n = split_is_run newline n

-- ---- back to elements

pub flat_is_scan : (xs : List Item) (e : End) → flat xs e ≡ scan (each_scan (λ x. elements_out (elements x))) 0 tt xs e
flat_is_scan = each_is_scan (λ x. elements_out (elements x))

pub flat_is_run : IsRun flat
flat_is_run = each_is_run (λ x. elements_out (elements x))

pub unlines_is_scan : (xs : List Item) (e : End) → unlines xs e ≡ scan (each_scan (λ x. elements_out (elements x ++ newline ∷ []))) 0 tt xs e
unlines_is_scan = each_is_scan (λ x. elements_out (elements x ++ newline ∷ []))

pub unlines_is_run : IsRun unlines
unlines_is_run = each_is_run (λ x. elements_out (elements x ++ newline ∷ []))

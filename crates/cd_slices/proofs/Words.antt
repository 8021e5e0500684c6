-- Each word of a chain is its scan.
use Rattle.std.proofs.Common.{◌≡◌, ℕ, zero, suc, ◌+◌, ◌-◌, length, Bool, true, false, List, [], ◌∷◌, ◌++◌, map, refl, ap, sym, ◌∙◌, Some, if◌then◌else◌, arith, append_assoc}
use Rattle.std.proofs.lemmas.List.{append-nil}
use Rattle.cd_elem.specs.Ascii.{newline}
use Rattle.cd_elem.specs.declared.word.Word.{Word}
use Rattle.cd_elem.specs.declared.word.SplitWord.{SplitWord}
use Rattle.cd_meaning.specs.Stream.{Sort, Item, End, Out}
use Rattle.cd_meaning.specs.Run.{start, Component}
use Rattle.cd_meaning.specs.RunShapes.{Seen, elements, passes as gives_it}
use Rattle.cd_meaning.specs.Fusion.{fuse}
use Rattle.cd_meaning.specs.Classes.{passes_test, of_test}
use Rattle.cd_meaning.specs.ElementWords.{passed, kept}
use Rattle.cd_meaning.specs.Laws.{IsRun}
use Rattle.cd_meaning.specs.Meaning.{piped}
use Rattle.cd_meaning.specs.Pipes.{all_of}
use Rattle.cd_meaning.specs.WordMeanings.{word_meaning}
use Rattle.cd_meaning.specs.Scan.{Go, scan}
use Rattle.cd_meaning.proofs.Moves.Own.{scan_fresh}
use Rattle.cd_meaning.proofs.Runs.Scans.{carried, scan_by, scan_is_run}
use Rattle.cd_meaning.proofs.Runs.Shapes.{each_scan, while_scan, while_reply}
use Rattle.cd_meaning.proofs.Runs.Elements.{passed_is_scan, passed_is_run, filtered_is_scan, taken_while_is_scan, taken_is_scan, left_scan, counted_is_scan, counted_scan}
use Rattle.cd_meaning.proofs.Weaves.Laws.{fuse_assoc, fuse_is_run}
use Rattle.cd_meaning.proofs.Weaves.Through.{fuse_scan}
use Rattle.cd_split.specs.Cutting.{cut_scan}
use Rattle.cd_split.specs.Joining.{join_scan}
use Rattle.cd_split.proofs.SplitScans.{line_rule, lines_run, group_rule, exact_run, chunks_run, flat_run, unlines_run}
use Rattle.cd_slices.specs.declared.sieve.Sieve.{Sieve}
use Rattle.cd_slices.specs.declared.sieve.Sieve.TheVariants as sieve
use Rattle.cd_slices.specs.declared.tail.SliceEnd.{SliceEnd}
use Rattle.cd_slices.specs.declared.tail.SliceEnd.TheVariants as last
use Rattle.cd_slices.specs.declared.sieve.Verdict.TheVariants.{Keeps, Drops, Refuses}
use Rattle.cd_slices.specs.Slicing.{Sink, Pieces, Count, Join, sink_of, standing, slice_scan}
use Rattle.cd_slices.specs.Chains.{sieve_word, end_word, IsFirst, IsCutter, rule_of, chain_meaning}
use Rattle.cd_slices.proofs.Sifting.{sieve_scan, sieve_reply, sink_scan, run_at, sieve_behind, sink_behind, cut_alone}

-- ---- sieves

take_ready : (n : ℕ) → (left_scan gives_it).ready n ≡ sieve_scan.ready (sieve.Take n)
take_ready zero = refl
take_ready (suc n) = refl

take_step : (n : ℕ) (x : Item) → carried sieve.Take ((left_scan gives_it).step n x) ≡ sieve_scan.step (sieve.Take n) x
take_step zero x = refl
take_step (suc n) x = (let h : n ≡ suc n - 1 = omega arith in ap (λ m. Go (Out x ∷ []) (sieve.Take m)) h)

sieve_is_scan : (w : Sieve) (site : ℕ) (seen : Seen) (xs : List Item) (e : End) → (word_meaning (sieve_word w)).run (Some Sort.Block) site seen xs e ≡ scan sieve_scan 0 w xs e
sieve_is_scan sieve.Pass site seen xs e = passed_is_scan xs e ∙ scan_by (each_scan gives_it) sieve_scan (λ s. sieve.Pass) (λ s. refl) (λ s x. refl) (λ s. refl) (λ s. refl) 0 tt xs e
sieve_is_scan (sieve.Take n) site seen xs e = taken_is_scan n xs e ∙ scan_by (left_scan gives_it) sieve_scan sieve.Take take_ready take_step (λ s. refl) (λ s. refl) 0 n xs e
sieve_is_scan (sieve.TakeWhile t) site seen xs e =
    taken_while_is_scan (of_test t Sort.Block) xs e
    ∙ scan_by (while_scan (of_test t Sort.Block) gives_it) sieve_scan (λ s. sieve.TakeWhile t) (λ s. refl) (λ s x. by_test (passes_test t Sort.Block (elements x)) x) (λ s. refl) (λ s. refl) 0 tt xs e where
      by_test : (b : Bool) (x : Item) → carried (λ s. sieve.TakeWhile t) (while_reply b gives_it x) ≡ sieve_reply (if b then Keeps else Refuses) (sieve.TakeWhile t) x
      by_test true x = refl
      by_test false x = refl
sieve_is_scan (sieve.Filter t) site seen xs e =
    filtered_is_scan (of_test t Sort.Block) xs e
    ∙ scan_by (each_scan (kept (of_test t Sort.Block))) sieve_scan (λ s. sieve.Filter t) (λ s. refl) (λ s x. by_test (passes_test t Sort.Block (elements x)) x) (λ s. refl) (λ s. refl) 0 tt xs e where
      by_test : (b : Bool) (x : Item) → Go (if b then Out x ∷ [] else []) (sieve.Filter t) ≡ sieve_reply (if b then Keeps else Drops) (sieve.Filter t) x
      by_test true x = refl
      by_test false x = refl

sieve_gives : (w : Sieve) → (word_meaning (sieve_word w)).gives (Some Sort.Block) ≡ Some Sort.Block
sieve_gives sieve.Pass = refl
sieve_gives (sieve.Take n) = refl
sieve_gives (sieve.TakeWhile t) = refl
sieve_gives (sieve.Filter t) = refl

-- ---- what takes the pieces

end_is_scan : (k : SliceEnd) → IsFirst k → (site : ℕ) (seen : Seen) (xs : List Item) (e : End) → (word_meaning (end_word k)).run (Some Sort.Block) site seen xs e ≡ scan sink_scan 0 (sink_of k) xs e
end_is_scan (last.Count n) h site seen xs e = counted_is_scan xs e ∙ scan_by counted_scan sink_scan Count (λ s. refl) (λ s x. refl) (λ s. refl) (λ s. refl) 0 0 xs e ∙ ap (λ m. scan sink_scan 0 (Count m) xs e) (sym h)
end_is_scan (last.Join false) h site seen xs e = sym (flat_run xs e) ∙ scan_fresh (join_scan false) tt xs e ∙ scan_by (join_scan false) sink_scan (λ s. Join false) (λ s. refl) (λ s x. refl) (λ s. refl) (λ s. refl) 0 tt xs e
end_is_scan (last.Join true) h site seen xs e = sym (unlines_run xs e) ∙ scan_fresh (join_scan true) tt xs e ∙ scan_by (join_scan true) sink_scan (λ s. Join true) (λ s. refl) (λ s x. refl) (λ s. refl) (λ s. refl) 0 tt xs e

-- ---- the splitter

cutter_is_scan : (c : SplitWord) → IsCutter c → (site : ℕ) (seen : Seen) (xs : List Item) (e : End) → (word_meaning (Word.Split c)).run (Some Sort.Bytes) site seen xs e ≡ scan (cut_scan (rule_of c)) 0 (true, []) xs e
cutter_is_scan (SplitWord.Lines n) h site seen xs e = sym (lines_run newline n xs e) ∙ scan_fresh (cut_scan (line_rule newline n)) (true, []) xs e
cutter_is_scan (SplitWord.Split separator n) h site seen xs e = sym (lines_run separator n xs e) ∙ scan_fresh (cut_scan (line_rule separator n)) (true, []) xs e
cutter_is_scan (SplitWord.Exact n) h site seen xs e = sym (exact_run n xs e) ∙ scan_fresh (cut_scan (group_rule false n)) (true, []) xs e
cutter_is_scan (SplitWord.ChunksOf n) h site seen xs e = sym (chunks_run n xs e) ∙ scan_fresh (cut_scan (group_rule true n)) (true, []) xs e
cutter_is_scan SplitWord.Flat h site seen xs e = absurd h
cutter_is_scan SplitWord.Unlines h site seen xs e = absurd h

cutter_gives : (c : SplitWord) → IsCutter c → (word_meaning (Word.Split c)).gives (Some Sort.Bytes) ≡ Some Sort.Block
cutter_gives (SplitWord.Lines n) h = refl
cutter_gives (SplitWord.Split separator n) h = refl
cutter_gives (SplitWord.Exact n) h = refl
cutter_gives (SplitWord.ChunksOf n) h = refl
cutter_gives SplitWord.Flat h = absurd h
cutter_gives SplitWord.Unlines h = absurd h

-- ---- components in a row, grouped to the right and to the left

abbrev to_right : List Component → Component
to_right [] = passed
to_right (c ∷ []) = c
to_right (c ∷ d ∷ cs) = fuse c (to_right (d ∷ cs))

abbrev to_left : Component → List Component → Component
to_left a [] = a
to_left a (c ∷ cs) = to_left (fuse a c) cs

abbrev AreRuns : List Component → Type 0
AreRuns [] = Unit {0}
AreRuns (c ∷ cs) = IsRun c × AreRuns cs

right_is_run : (cs : List Component) → AreRuns cs → IsRun (to_right cs)
right_is_run [] k = passed_is_run
right_is_run (c ∷ []) k = k.0
right_is_run (c ∷ d ∷ cs) k = fuse_is_run c (to_right (d ∷ cs)) k.0 (right_is_run (d ∷ cs) k.1)

regrouped : (a : Component) (cs : List Component) → AreRuns cs → (xs : List Item) (e : End) → to_right (a ∷ cs) xs e ≡ to_left a cs xs e
regrouped a [] k xs e = refl
regrouped a (c ∷ []) k xs e = refl
regrouped a (c ∷ d ∷ cs) k xs e = sym (fuse_assoc a c (to_right (d ∷ cs)) k.0 (right_is_run (d ∷ cs) k.1) xs e) ∙ regrouped (fuse a c) (d ∷ cs) k.1 xs e

-- ---- the chain

same_runs : (f g : Component) → ((xs : List Item) (e : End) → f xs e ≡ g xs e) → f ≡ g
same_runs f g h i xs e = h xs e i

abbrev scans_of : List Sieve → SliceEnd → List Component
scans_of ws k = map (λ w. scan sieve_scan 0 w) ws ++ scan sink_scan 0 (sink_of k) ∷ []

scans_are_runs : (ws : List Sieve) (k : SliceEnd) → AreRuns (scans_of ws k)
scans_are_runs [] k = (scan_is_run sink_scan (sink_of k), tt)
scans_are_runs (w ∷ ws) k = (scan_is_run sieve_scan w, scans_are_runs ws k)

abbrev rest_words : List Sieve → SliceEnd → List Word
rest_words ws k = map sieve_word ws ++ end_word k ∷ []

rest_is : (ws : List Sieve) (k : SliceEnd) → IsFirst k → (site : ℕ) (seen : Seen) → (all_of piped (map word_meaning (rest_words ws k))).run (Some Sort.Block) site seen ≡ to_right (scans_of ws k)
rest_is [] k h site seen = same_runs _ _ (end_is_scan k h site seen)
rest_is (w ∷ []) k h site seen =
    let m = word_meaning (sieve_word w) in
    let n = word_meaning (end_word k) in
    let next = rest_is [] k h in
    ap (λ f. fuse (m.run (Some Sort.Block) site seen) (n.run f (site + length m.places) seen)) (sieve_gives w)
    ∙ ap (fuse (m.run (Some Sort.Block) site seen)) (next (site + length m.places) seen)
    ∙ ap (λ f. fuse f (to_right (scans_of [] k))) (same_runs _ _ (sieve_is_scan w site seen))
rest_is (w ∷ u ∷ ws) k h site seen =
    let m = word_meaning (sieve_word w) in
    let n = all_of piped (map word_meaning (rest_words (u ∷ ws) k)) in
    let next = rest_is (u ∷ ws) k h in
    ap (λ f. fuse (m.run (Some Sort.Block) site seen) (n.run f (site + length m.places) seen)) (sieve_gives w)
    ∙ ap (fuse (m.run (Some Sort.Block) site seen)) (next (site + length m.places) seen)
    ∙ ap (λ f. fuse f (to_right (scans_of (u ∷ ws) k))) (same_runs _ _ (sieve_is_scan w site seen))

-- behind the splitter
module _ (c : SplitWord) (z : IsCutter c) (k : SliceEnd) (h : IsFirst k) where
  chain_right : (ws : List Sieve) (site : ℕ) (seen : Seen) → (chain_meaning c ws k).run (Some Sort.Bytes) site seen ≡ to_right (scan (cut_scan (rule_of c)) 0 (true, []) ∷ scans_of ws k)
  chain_right [] site seen =
      let m = word_meaning (Word.Split c) in
      let n = all_of piped (map word_meaning (rest_words [] k)) in
      ap (λ f. fuse (m.run (Some Sort.Bytes) site seen) (n.run f (site + length m.places) seen)) (cutter_gives c z)
      ∙ ap (fuse (m.run (Some Sort.Bytes) site seen)) (rest_is [] k h (site + length m.places) seen)
      ∙ ap (λ f. fuse f (to_right (scans_of [] k))) (same_runs _ _ (cutter_is_scan c z site seen))
  chain_right (u ∷ ws) site seen =
      let m = word_meaning (Word.Split c) in
      let n = all_of piped (map word_meaning (rest_words (u ∷ ws) k)) in
      ap (λ f. fuse (m.run (Some Sort.Bytes) site seen) (n.run f (site + length m.places) seen)) (cutter_gives c z)
      ∙ ap (fuse (m.run (Some Sort.Bytes) site seen)) (rest_is (u ∷ ws) k h (site + length m.places) seen)
      ∙ ap (λ f. fuse f (to_right (scans_of (u ∷ ws) k))) (same_runs _ _ (cutter_is_scan c z site seen))

  abbrev sliced : List Sieve → Sink → Component
  sliced ws j = run_at (rule_of c) 0 (true, []) (standing ws false j)

  left_is : (vs ws : List Sieve) → to_left (sliced vs Pieces) (scans_of ws k) ≡ sliced (vs ++ ws) (sink_of k)
  left_is vs [] =
      same_runs _ _ (λ xs e. fuse_scan sink_scan start (sink_of k) (sliced vs Pieces xs e) ∙ sink_behind (rule_of c) 0 (true, []) xs e vs (sink_of k) start)
      ∙ ap (λ us. sliced us (sink_of k)) (sym (append-nil vs))
  left_is vs (w ∷ ws) =
      ap (λ a. to_left a (scans_of ws k)) (same_runs _ _ (λ xs e. fuse_scan sieve_scan start w (sliced vs Pieces xs e) ∙ sieve_behind (rule_of c) 0 (true, []) xs e vs w start (λ t. refl)))
      ∙ left_is (vs ++ w ∷ []) ws
      ∙ ap (λ us. sliced us (sink_of k)) (append_assoc vs (w ∷ []) ws)

  -- the chain's run is that of its scan
  pub chain_is_scan : (ws : List Sieve) (site : ℕ) (seen : Seen) (xs : List Item) (e : End)
      → (chain_meaning c ws k).run (Some Sort.Bytes) site seen xs e ≡ scan (slice_scan (rule_of c)) 0 ((true, []), standing ws false (sink_of k)) xs e
  chain_is_scan ws site seen xs e =
      ap (λ f. f xs e) (chain_right ws site seen)
      ∙ regrouped (scan (cut_scan (rule_of c)) 0 (true, [])) (scans_of ws k) (scans_are_runs ws k) xs e
      ∙ ap (λ a. to_left a (scans_of ws k) xs e) (same_runs _ _ (cut_alone (rule_of c) (true, [])))
      ∙ ap (λ f. f xs e) (left_is [] ws)

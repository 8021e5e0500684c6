-- Each turn of a zip of two sources is a step of the whole.
use Rattle.std.proofs.Common.{◌≡◌, ℕ, false, List, [], ◌∷◌, ◌++◌, length, map, Option, Some, None, refl, ap, sym, ◌∙◌}
use Rattle.cd_meaning.specs.Stream.{Item, Piece, Value, Halt, Ended, Done, Out, Do, Effect}
use Rattle.cd_meaning.specs.Run.{Stamp, stamp, start, Run, Then, Ends, acts_at, restamp}
use Rattle.cd_meaning.specs.RunShapes.{elements}
use Rattle.cd_meaning.specs.Zips.{paired, zip_runs}
use Rattle.cd_meaning.specs.Rest.{Rest, Grade, needs, net_if, view, past_by, Moves, GetsEnd, Finishes, Stuck, zip_at, zipped_sources}
use Rattle.cd_meaning.proofs.Restamp.{restamp_id}
use Rattle.cd_meaning.proofs.Moves.Laws.{end_to_come, past_by_0}
use Rattle.cd_meaning.proofs.Moves.Fused.{nets_view}

-- ---- no stamp is read

paired_rest : (separator : List ℕ) (x : Item) (k k' : Run → Run) (b : Run) → ((r : Run) → k r ≡ k' r) → paired separator x k b ≡ paired separator x k' b
paired_rest separator x k k' (Then s (Out y) b) h = ap (Then start (Out (Piece (elements x ++ separator ++ elements y)))) (h b)
paired_rest separator x k k' (Then s (Do e) b) h = ap (Then start (Do e)) (paired_rest separator x k k' b h)
paired_rest separator x k k' (Ends s e) h = refl

zip_first : (separator : List ℕ) (f : Stamp → Stamp) (a b : Run) → zip_runs separator (restamp f a) b ≡ zip_runs separator a b
zip_first separator f (Then s (Out x) a) b = paired_rest separator x (zip_runs separator (restamp f a)) (zip_runs separator a) b (λ r. zip_first separator f a r)
zip_first separator f (Then s (Do e) a) b = ap (Then start (Do e)) (zip_first separator f a b)
zip_first separator f (Ends s e) b = refl

paired_second : (separator : List ℕ) (x : Item) (f : Stamp → Stamp) (k k' : Run → Run) (b : Run) → ((r : Run) → k (restamp f r) ≡ k' r) → paired separator x k (restamp f b) ≡ paired separator x k' b
paired_second separator x f k k' (Then s (Out y) b) h = ap (Then start (Out (Piece (elements x ++ separator ++ elements y)))) (h b)
paired_second separator x f k k' (Then s (Do e) b) h = ap (Then start (Do e)) (paired_second separator x f k k' b h)
paired_second separator x f k k' (Ends s e) h = refl

zip_second : (separator : List ℕ) (f : Stamp → Stamp) (a b : Run) → zip_runs separator a (restamp f b) ≡ zip_runs separator a b
zip_second separator f (Then s (Out x) a) b = paired_second separator x f (zip_runs separator a) (zip_runs separator a) b (λ r. zip_second separator f a r)
zip_second separator f (Then s (Do e) a) b = ap (Then start (Do e)) (zip_second separator f a b)
zip_second separator f (Ends s e) b = refl

at_first : (separator : List ℕ) (given : Option Item) (f : Stamp → Stamp) (a b : Run) → zip_at separator given (restamp f a) b ≡ zip_at separator given a b
at_first separator None f a b = zip_first separator f a b
at_first separator (Some x) f a b = paired_rest separator x (zip_runs separator (restamp f a)) (zip_runs separator a) b (λ r. zip_first separator f a r)

at_second : (separator : List ℕ) (given : Option Item) (f : Stamp → Stamp) (a b : Run) → zip_at separator given a (restamp f b) ≡ zip_at separator given a b
at_second separator None f a b = zip_second separator f a b
at_second separator (Some x) f a b = paired_second separator x f (zip_runs separator a) (zip_runs separator a) b (λ r. zip_second separator f a r)

first_same : (separator : List ℕ) (given : Option Item) (a a' b : Run) → view needs a ≡ view needs a' → zip_at separator given a b ≡ zip_at separator given a' b
first_same separator given a a' b e =
    sym (at_first separator given (net_if false) a b)
    ∙ ap (λ r. zip_at separator given r b) (sym (nets_view false a) ∙ e ∙ nets_view false a')
    ∙ at_first separator given (net_if false) a' b

second_same : (separator : List ℕ) (given : Option Item) (a b b' : Run) → view needs b ≡ view needs b' → zip_at separator given a b ≡ zip_at separator given a b'
second_same separator given a b b' e =
    sym (at_second separator given (net_if false) a b)
    ∙ ap (zip_at separator given a) (sym (nets_view false b) ∙ e ∙ nets_view false b')
    ∙ at_second separator given (net_if false) a b'

-- ---- the first part is on its turn

first_effects : (separator : List ℕ) (s : Stamp) (es : List Effect) (a b : Run) → zip_runs separator (acts_at s (map Do es) a) b ≡ acts_at start (map Do es) (zip_runs separator a b)
first_effects separator s [] a b = refl
first_effects separator s (e ∷ es) a b = ap (Then start (Do e)) (first_effects separator s es a b)

second_effects : (separator : List ℕ) (x : Item) (k : Run → Run) (s : Stamp) (es : List Effect) (b : Run) → paired separator x k (acts_at s (map Do es) b) ≡ acts_at start (map Do es) (paired separator x k b)
second_effects separator x k s [] b = refl
second_effects separator x k s (e ∷ es) b = ap (Then start (Do e)) (second_effects separator x k s es b)

module _ (separator : List ℕ) (g : Grade) where
  -- its piece waits for the second part's
  pub first_gives : (x : Item) (a a' b : Rest) → Moves needs (Out x ∷ []) a a' → Moves g [] (zipped_sources separator None a b) (zipped_sources separator (Some x) a' b)
  first_gives x a a' b m = record {
    read = [];
    unread = refl;
    floor = refl;
    run = λ ys e i.
        let r = a.run [] Ended in
        let r' = a'.run [] Ended in
        let d = b.run [] Ended in
        let k = length m.read in
        let w = zip_at separator (Some x) r' d in
        ap (view g) (
        first_same separator None r (Then (stamp a.floor k) (Out x) (restamp (past_by k) r')) d (m.run [] Ended (end_to_come a.floor))
        ∙ at_first separator (Some x) (past_by k) r' d
        ∙ sym (restamp_id (past_by 0) w past_by_0));
  }

  pub first_does : (es : List Effect) (a a' b : Rest) → Moves needs (map Do es) a a' → Moves g (map Do es) (zipped_sources separator None a b) (zipped_sources separator None a' b)
  first_does es a a' b m = record {
    read = [];
    unread = refl;
    floor = refl;
    run = λ ys e i.
        let r = a.run [] Ended in
        let r' = a'.run [] Ended in
        let d = b.run [] Ended in
        let k = length m.read in
        let s = stamp a.floor k in
        let w = zip_runs separator r' d in
        ap (view g) (
        first_same separator None r (acts_at s (map Do es) (restamp (past_by k) r')) d (m.run [] Ended (end_to_come a.floor))
        ∙ first_effects separator s es (restamp (past_by k) r') d
        ∙ ap (acts_at start (map Do es)) (zip_first separator (past_by k) r' d ∙ sym (restamp_id (past_by 0) w past_by_0)));
  }

  pub first_told : (given : Option Item) (a a' b : Rest) → GetsEnd needs a a' → Moves g [] (zipped_sources separator given a b) (zipped_sources separator given a' b)
  first_told given a a' b m = record {
    read = [];
    unread = refl;
    floor = refl;
    run = λ ys e i.
        let w = zip_at separator given (a'.run [] Ended) (b.run [] Ended) in
        ap (view g) (first_same separator given (a.run [] Ended) (a'.run [] Ended) (b.run [] Ended) (sym m.run) ∙ sym (restamp_id (past_by 0) w past_by_0));
  }

  pub first_finishes : (v : Value) (rest : List Item) (a b : Rest) → Finishes needs v rest a → Finishes g Value.Unit [] (zipped_sources separator None a b)
  first_finishes v rest a b m = record {
    read = [];
    unread = refl;
    run = λ ys e i. ap (view g) (first_same separator None (a.run [] Ended) (Ends (stamp a.floor (length m.read)) (Done v)) (b.run [] Ended) (m.run [] Ended (end_to_come a.floor)));
  }

  -- ---- the second part is on its turn

  pub second_gives : (x y : Item) (a b b' : Rest) → Moves needs (Out y ∷ []) b b'
      → Moves g (Out (Piece (elements x ++ separator ++ elements y)) ∷ []) (zipped_sources separator (Some x) a b) (zipped_sources separator None a b')
  second_gives x y a b b' m = record {
    read = [];
    unread = refl;
    floor = refl;
    run = λ ys e i.
        let r = a.run [] Ended in
        let d = b.run [] Ended in
        let d' = b'.run [] Ended in
        let k = length m.read in
        let w = zip_runs separator r d' in
        ap (view g) (
        second_same separator (Some x) r d (Then (stamp b.floor k) (Out y) (restamp (past_by k) d')) (m.run [] Ended (end_to_come b.floor))
        ∙ ap (Then start (Out (Piece (elements x ++ separator ++ elements y)))) (zip_second separator (past_by k) r d' ∙ sym (restamp_id (past_by 0) w past_by_0)));
  }

  pub second_does : (x : Item) (es : List Effect) (a b b' : Rest) → Moves needs (map Do es) b b' → Moves g (map Do es) (zipped_sources separator (Some x) a b) (zipped_sources separator (Some x) a b')
  second_does x es a b b' m = record {
    read = [];
    unread = refl;
    floor = refl;
    run = λ ys e i.
        let r = a.run [] Ended in
        let d = b.run [] Ended in
        let d' = b'.run [] Ended in
        let k = length m.read in
        let s = stamp b.floor k in
        let w = zip_at separator (Some x) r d' in
        ap (view g) (
        second_same separator (Some x) r d (acts_at s (map Do es) (restamp (past_by k) d')) (m.run [] Ended (end_to_come b.floor))
        ∙ second_effects separator x (zip_runs separator r) s es (restamp (past_by k) d')
        ∙ ap (acts_at start (map Do es)) (at_second separator (Some x) (past_by k) r d' ∙ sym (restamp_id (past_by 0) w past_by_0)));
  }

  pub second_told : (given : Option Item) (a b b' : Rest) → GetsEnd needs b b' → Moves g [] (zipped_sources separator given a b) (zipped_sources separator given a b')
  second_told given a b b' m = record {
    read = [];
    unread = refl;
    floor = refl;
    run = λ ys e i.
        let w = zip_at separator given (a.run [] Ended) (b'.run [] Ended) in
        ap (view g) (second_same separator given (a.run [] Ended) (b.run [] Ended) (b'.run [] Ended) (sym m.run) ∙ sym (restamp_id (past_by 0) w past_by_0));
  }

  pub second_finishes : (x : Item) (v : Value) (rest : List Item) (a b : Rest) → Finishes needs v rest b → Finishes g Value.Unit [] (zipped_sources separator (Some x) a b)
  second_finishes x v rest a b m = record {
    read = [];
    unread = refl;
    run = λ ys e i. ap (view g) (second_same separator (Some x) (a.run [] Ended) (b.run [] Ended) (Ends (stamp b.floor (length m.read)) (Done v)) (m.run [] Ended (end_to_come b.floor)));
  }

  pub first_stuck : (h : Halt) (a b : Rest) → Stuck h a → Stuck h (zipped_sources separator None a b)
  first_stuck h a b m = record { run = λ ys e i. (0, ap (λ r. zip_runs separator r (b.run [] Ended)) (m.run [] Ended (end_to_come a.floor)).1) }

  pub second_stuck : (x : Item) (h : Halt) (a b : Rest) → Stuck h b → Stuck h (zipped_sources separator (Some x) a b)
  second_stuck x h a b m = record { run = λ ys e i. (0, ap (paired separator x (zip_runs separator (a.run [] Ended))) (m.run [] Ended (end_to_come b.floor)).1) }

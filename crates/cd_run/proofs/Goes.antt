-- How a node's moves change what its statement has still to do.
use Rattle.std.proofs.Common.{◌≡◌, List, [], ◌∷◌, length, map, refl, ap, sym, ◌∙◌}
use Rattle.cd_meaning.specs.Stream.{Item, Value, Halt, Ended, Halts, Done, Out, Do, Effect}
use Rattle.cd_meaning.specs.Run.{Stamp, stamp, start, Run, Then, Ends, acts_at, restamp}
use Rattle.cd_meaning.specs.Rest.{Grade, view, Finishes, Stuck}
use Rattle.cd_meaning.specs.RunShapes.{Seen}
use Rattle.cd_meaning.proofs.Moves.Laws.{end_to_come}
use Rattle.cd_step.specs.Parts.{Part, rest, Goes_on}
use Rattle.cd_scope.specs.Calls.{does}
use Rattle.cd_run.specs.Statements.{goes, left_run}

goes_restamp : (f : Stamp → Stamp) (r : Run) (k : Value → Run) → goes (restamp f r) k ≡ goes r k
goes_restamp f (Then s (Out x) r) k = goes_restamp f r k
goes_restamp f (Then s (Do e) r) k = ap (Then start (Do e)) (goes_restamp f r k)
goes_restamp f (Ends s (Done v)) k = refl
goes_restamp f (Ends s (Halts h)) k = refl

goes_view : (g : Grade) (r : Run) (k : Value → Run) → goes (view g r) k ≡ goes r k
goes_view g (Then s (Out x) r) k = goes_view g r k
goes_view g (Then s (Do e) r) k = ap (Then start (Do e)) (goes_view g r k)
goes_view g (Ends s (Done v)) k = refl
goes_view g (Ends s (Halts h)) k = refl

goes_same : (g : Grade) (r q : Run) (k : Value → Run) → view g r ≡ view g q → goes r k ≡ goes q k
goes_same g r q k e = sym (goes_view g r k) ∙ ap (λ t. goes t k) e ∙ goes_view g q k

goes_does : (s : Stamp) (es : List Effect) (r : Run) (k : Value → Run) → goes (acts_at s (map Do es) r) k ≡ does es (goes r k)
goes_does s [] r k = refl
goes_does s (e ∷ es) r k = ap (Then start (Do e)) (goes_does s es r k)

goes_outs : (s : Stamp) (xs : List Item) (r : Run) (k : Value → Run) → goes (acts_at s (map Out xs) r) k ≡ goes r k
goes_outs s [] r k = refl
goes_outs s (x ∷ xs) r k = goes_outs s xs r k

pub moves_does : (es : List Effect) (p q : Part) → Goes_on (map Do es) p q → (z : Seen) (k : Value → Run) → goes (left_run p z) k ≡ does es (goes (left_run q z) k)
moves_does es p q m z k =
    goes_same p.grade _ _ k ((m z).run [] Ended (end_to_come p.floor)) ∙ goes_does _ es _ k ∙ ap (does es) (goes_restamp _ (left_run q z) k)

pub moves_outs : (xs : List Item) (p q : Part) → Goes_on (map Out xs) p q → (z : Seen) (k : Value → Run) → goes (left_run p z) k ≡ goes (left_run q z) k
moves_outs xs p q m z k =
    goes_same p.grade _ _ k ((m z).run [] Ended (end_to_come p.floor)) ∙ goes_outs _ xs _ k ∙ goes_restamp _ (left_run q z) k

pub finishes : (v : Value) (back : List Item) (p : Part) (z : Seen) (k : Value → Run) → Finishes p.grade v back (rest p z) → goes (left_run p z) k ≡ k v
finishes v back p z k f = goes_same p.grade _ (Ends (stamp p.floor (length f.read)) (Done v)) k (f.run [] Ended (end_to_come p.floor))

pub stuck_goes : (h : Halt) (p : Part) (z : Seen) (k : Value → Run) → Stuck h (rest p z) → goes (left_run p z) k ≡ Ends start (Halts h)
stuck_goes h p z k s = ap (λ r. goes r k) (s.run [] Ended (end_to_come p.floor)).1

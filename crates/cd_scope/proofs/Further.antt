-- Calls with one call further: for a run that goes on.
use Rattle.std.proofs.Common.{◌≡◌, ℕ, List, [], ◌∷◌, ◌++◌, refl, ap, sym, ◌∙◌, append_assoc}
use Rattle.std.proofs.lemmas.List.{append-nil}
use Rattle.cd_meaning.specs.Run.{start, Run, Then}
use Rattle.cd_meaning.specs.RunShapes.{Seen}
use Rattle.cd_meaning.specs.Stream.{Effect, Do}
use Rattle.cd_scope.specs.declared.table.Held.{Held}
use Rattle.cd_scope.specs.Calls.{Call, on, over, effects_of, does, did, opens, open_from, left_open, given_by, given_of}
use Rattle.cd_scope.specs.Journal.{line_of, lines_of}

pub over_snoc : (cs : List Call) (c : Call) (z : Seen) → over (cs ++ c ∷ []) z ≡ over cs (on c z)
over_snoc [] c z = refl
over_snoc (b ∷ cs) c z = ap (on b) (over_snoc cs c z)

pub does_does : (a b : List Effect) (r : Run) → does (a ++ b) r ≡ does a (does b r)
does_does [] b r = refl
does_does (e ∷ a) b r = ap (Then start (Do e)) (does_does a b r)

pub did_snoc : (cs : List Call) (c : Call) (r : Run) → did (cs ++ c ∷ []) r ≡ did cs (does (effects_of c) r)
did_snoc [] c r = refl
did_snoc (b ∷ cs) c r = ap (does (effects_of b)) (did_snoc cs c r)

open_snoc_from : (t : List Held) (cs : List Call) (c : Call) → open_from t (cs ++ c ∷ []) ≡ opens c (open_from t cs)
open_snoc_from t [] c = refl
open_snoc_from t (b ∷ cs) c = open_snoc_from (opens b t) cs c

pub open_snoc : (cs : List Call) (c : Call) → left_open (cs ++ c ∷ []) ≡ opens c (left_open cs)
open_snoc cs c = open_snoc_from [] cs c

pub given_snoc : (x : ℕ) (cs : List Call) (c : Call) → given_of x (cs ++ c ∷ []) ≡ given_of x cs ++ given_by x c
given_snoc x [] c = append-nil (given_by x c)
given_snoc x (b ∷ cs) c = ap (λ l. given_by x b ++ l) (given_snoc x cs c) ∙ sym (append_assoc (given_by x b) (given_of x cs) (given_by x c))

pub lines_snoc : (cs : List Call) (c : Call) → lines_of (cs ++ c ∷ []) ≡ lines_of cs ++ line_of c
lines_snoc [] c = append-nil (line_of c)
lines_snoc (b ∷ cs) c = ap (λ l. line_of b ++ l) (lines_snoc cs c) ∙ sym (append_assoc (line_of b) (lines_of cs) (line_of c))

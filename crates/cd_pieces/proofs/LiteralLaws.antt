-- A literal source: each of its moves is the next step of its run.
use Rattle.std.proofs.Common.{◌≡◌, ℕ, ◌+◌, false, true, List, [], ◌∷◌, ◌++◌, map, refl, ap, sym, ◌∙◌, subst, Some, None, arith}
use Rattle.cd_elem.specs.declared.kind.Kind.{Kind}
use Rattle.cd_meaning.specs.Laws.{Rising}
use Rattle.cd_meaning.specs.Rest.{Moves, view, past_by, fresh}
use Rattle.cd_meaning.specs.Run.{start, Run, Then, Ends, acts_at, outs_at}
use Rattle.cd_meaning.specs.Sources.{given}
use Rattle.cd_meaning.specs.Stream.{Item, Value, End, Done, Out}
use Rattle.cd_meaning.proofs.Moves.Laws.{past_by_0}
use Rattle.cd_meaning.proofs.Restamp.{restamp_id}
use Rattle.cd_step.specs.declared.protocol.Move.TheVariants.{Emit}
use Rattle.cd_step.specs.declared.protocol.Stand.TheVariants.{Gave}
use Rattle.cd_step.specs.Parts.{At, Chunk, IsChunk, IsHeld, IsSound, Goes, chunk_at, items, part_at}
use Rattle.cd_step.specs.Parts as parts
use Rattle.cd_step.specs.Reading.{part_of}
use Rattle.cd_pieces.specs.LiteralStages.{GivesNext, literal_grade, remaining_items, seen_literal}
use Rattle.cd_pieces.specs.declared.literals.LiteralStage.{LiteralStage}

-- ---- runs

outs_append : (xs ys : List Item) (r : Run) → outs_at start (xs ++ ys) r ≡ acts_at start (map Out xs) (outs_at start ys r)
outs_append [] ys r = refl
outs_append (x ∷ xs) ys r = ap (Then start (Out x)) (outs_append xs ys r)

given_append : (xs ys us : List Item) (e : End) → given (xs ++ ys) us e ≡ acts_at start (map Out xs) (given ys us e)
given_append xs ys us e = outs_append xs ys (Ends start (Done Value.Unit))

given_moves : (xs ys zs : List Item) → zs ≡ xs ++ ys → Moves literal_grade (map Out xs) (fresh (given zs)) (fresh (given ys))
given_moves xs ys zs h = record {
  read = [];
  unread = refl;
  floor = refl;
  run = λ us e i.
      ap (view literal_grade) (ap (λ l. given l us e) h ∙ given_append xs ys us e ∙ ap (acts_at start (map Out xs)) (sym (restamp_id (past_by 0) (given ys us e) past_by_0)));
}

outs_rising : (xs : List Item) → Rising 0 (outs_at start xs (Ends start (Done Value.Unit)))
outs_rising [] = omega arith
outs_rising (x ∷ xs) = (omega arith, outs_rising xs)

-- ---- its moves

emits : (at : At) (k : Kind) (room : ℕ) (xs ys : List Item) (c : Chunk) → IsChunk k c → xs ≡ items c ++ ys
    → Goes (Emit c) (part_of at literal_grade (Some k) None room 0 (fresh (given xs))) (part_of parts.Gave literal_grade (Some k) None room 0 (fresh (given ys)))
emits at k room xs ys c i h = (i, record { is_at = refl; goes = λ z. given_moves (items c) ys xs h })

pub gave_stage : (e f : LiteralStage) (c : Chunk) → f.kind ≡ e.kind → GivesNext e (Some c) f → Goes (Emit c) (seen_literal e) (seen_literal (record f { stand = Gave }))
gave_stage e f c k h =
    subst (λ x. Goes (Emit c) (seen_literal e) (part_of parts.Gave literal_grade (Some x) None (0 + chunk_at x) 0 (fresh (given (remaining_items f.remaining))))) (sym k)
    (emits (part_at e.stand) e.kind (0 + chunk_at e.kind) (remaining_items e.remaining) (remaining_items f.remaining) c h.0 h.1)

-- ---- facts of every literal source

pub literal_sound : (e : LiteralStage) → IsSound (seen_literal e)
literal_sound e = record {
  local = λ s h w z. refl;
  rising = λ z ys t. outs_rising (remaining_items e.remaining);
  counts = omega arith;
  graded = refl;
  own = λ s d h. absurd (let f : false ≡ true = h in cc);
}

pub literal_held : (e : LiteralStage) → IsHeld (seen_literal e)
literal_held e = omega arith

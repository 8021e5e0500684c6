-- A part that does some acts before all else.
use Rattle.std.proofs.Common.{List, [], ◌∷◌, ◌++◌, length, refl, ap, sym, ◌∙◌}
use Rattle.cd_meaning.specs.Stream.{Act}
use Rattle.cd_meaning.specs.Run.{stamp, Then, acts_at, restamp}
use Rattle.cd_meaning.specs.Rest.{Rest, Grade, view, past_by, Moves}
use Rattle.cd_meaning.proofs.Restamp.{restamp_id, restamp_acts}
use Rattle.cd_meaning.proofs.Runs.Shapes.{acts_append}
use Rattle.cd_meaning.proofs.Moves.Laws.{past_by_0, past_start}
use Rattle.cd_pieces.specs.Stages.{ahead}

-- of the acts of a move some are still to come
pub moves_ahead : (g : Grade) (a b : List Act) (p q : Rest) → Moves g (a ++ b) p q → Moves g a p (ahead b q)
moves_ahead g a b p q m = record {
  read = m.read;
  unread = m.unread;
  floor = m.floor;
  run = λ ys e i.
      let k = length m.read in
      let s = stamp p.floor k in
      let r = q.run ys e in
      m.run ys e i
      ∙ ap (view g) (acts_append s a b (restamp (past_by k) r)
      ∙ ap (acts_at s a) (sym (restamp_acts (past_by k) (stamp q.floor 0) b r
      ∙ ap (λ t. acts_at t b (restamp (past_by k) r)) (past_start k q.floor ∙ ap (λ f. stamp f k) m.floor))));
}

-- the first of them is done
pub ahead_moves : (g : Grade) (a : Act) (b : List Act) (p : Rest) → Moves g (a ∷ []) (ahead (a ∷ b) p) (ahead b p)
ahead_moves g a b p = record {
  read = [];
  unread = refl;
  floor = refl;
  run = λ ys e i.
      let s = stamp p.floor 0 in
      let r = acts_at s b (p.run ys e) in
      ap (λ t. view g (Then s a t)) (sym (restamp_id (past_by 0) r past_by_0));
}

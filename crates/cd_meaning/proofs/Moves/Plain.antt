-- Each turn of plain fusion is a step of the weave.
use Rattle.std.proofs.Common.{◌≡◌, ℕ, zero, suc, ◌+◌, ◌≤◌, List, [], ◌++◌, length, map, refl, ap, sym, ◌∙◌, subst, Bool, false, arith, append_assoc, length-append}
use Rattle.cd_meaning.specs.Stream.{Item, Value, Ended, Done, Halts, Act, Out, Do, Effect}
use Rattle.cd_meaning.specs.Run.{Stamp, stamp, Run, Then, Ends, outs, end_of, restamp, follow}
use Rattle.cd_meaning.specs.Rest.{Rest, Grade, nets, needs, view, IsToCome, past_by, Moves, Gets, GetsEnd, Asks, Finishes, plain_finish, fused, fused_ended, ended_with}
use Rattle.cd_meaning.proofs.Moves.Laws.{to_come}
use Rattle.cd_meaning.proofs.Moves.Fused as by
use Rattle.cd_meaning.proofs.Moves.Results.{plain_is_finish, plain_finish_seen, ended_moves, ended_finishes}
use Rattle.cd_meaning.proofs.Moves.Scans.{past_same}

abbrev both_nets : (c : Bool) → by.IsGrade (nets c)
both_nets c = by.nets_is_grade c

pub down_moves : (c : Bool) (acts : List Act) (a b b' : Rest) → b.floor ≡ 0 → Moves needs acts b b' → Moves (nets c) acts (fused a b) (fused a b')
down_moves c = by.down_moves plain_finish plain_is_finish (nets c) (both_nets c) (plain_finish_seen c)

pub up_emits : (c : Bool) (d : List Item) (a a' b b' : Rest) → Asks b → Moves (nets c) (map Out d) a a' → Gets needs d b b' → Moves (nets c) [] (fused a b) (fused a' b')
up_emits c = by.up_emits plain_finish plain_is_finish (nets c) (both_nets c) (plain_finish_seen c)

pub up_does : (c : Bool) (es : List Effect) (a a' b : Rest) → Asks b → Moves (nets c) (map Do es) a a' → Moves (nets c) (map Do es) (fused a b) (fused a' b)
up_does c = by.up_does plain_finish plain_is_finish (nets c) (both_nets c) (plain_finish_seen c)

pub both_ask : (a b : Rest) → Asks a → Asks b → Asks (fused a b)
both_ask = by.both_ask plain_finish plain_is_finish needs (both_nets false) (plain_finish_seen false)

pub up_gets : (c : Bool) (d : List Item) (a a' b : Rest) → Gets (nets c) d a a' → Gets (nets c) d (fused a b) (fused a' b)
up_gets c = by.up_gets plain_finish plain_is_finish (nets c) (both_nets c) (plain_finish_seen c)

pub up_gets_end : (c : Bool) (a a' b : Rest) → Asks b → GetsEnd (nets c) a a' → GetsEnd (nets c) (fused a b) (fused a' b)
up_gets_end c = by.up_gets_end plain_finish plain_is_finish (nets c) (both_nets c) (plain_finish_seen c)

pub down_finishes : (c : Bool) (v : Value) (rest : List Item) (a b : Rest) → b.floor ≡ 0 → Finishes needs v rest b → Finishes (nets c) v a.unread (fused a b)
down_finishes c v rest a b h m = record {
  read = [];
  unread = refl;
  run = λ ys e i.
      let s = stamp a.floor 0 in
      let r = a.run ys e in
      by.by_view plain_finish plain_is_finish (nets c) (both_nets c) (plain_finish_seen c) s r r (b.run (outs r) (end_of r)) (Ends (stamp 0 (length m.read)) (Done v)) refl
      (m.run (outs r) (end_of r) (to_come b.floor (outs r) (end_of r) h) ∙ ap (λ f. view needs (Ends (stamp f (length m.read)) (Done v))) h);
}

follow_same_value : (r : Run) → follow r (λ s v. Ends s (Done v)) ≡ r
follow_same_value (Then s a r) = ap (Then s a) (follow_same_value r)
follow_same_value (Ends s (Done v)) = refl
follow_same_value (Ends s (Halts h)) = refl

pub up_finishes : (c : Bool) (v : Value) (rest : List Item) (a b b' : Rest) → Asks b → Finishes (nets c) v rest a → GetsEnd needs b b'
    → Moves (nets c) [] (fused a b) (fused_ended rest a.floor b')
up_finishes c v rest a b b' q m n =
    let w = by.up_finishes plain_finish plain_is_finish (nets c) (both_nets c) (plain_finish_seen c) v (λ u. u) rest a b b' (λ s t j u h. at_end s t j v u h) q m n in
    record {
      read = w.read;
      unread = w.unread;
      floor = w.floor;
      run = λ ys e i. w.run ys e i ∙ ap (λ t. view (nets c) (restamp (past_by (length w.read)) t)) (follow_same_value (restamp (λ s. stamp a.floor 0) (b'.run [] Ended)));
    } where
      at_end : (s t : Stamp) (j : ℕ) (v u : Value) → 1 ≤ j → plain_finish s (Ends t (Done v)) j u ≡ Ends t (Done u)
      at_end s t zero v u h = absurd (omega arith)
      at_end s t (suc j) v u h = refl

-- ---- what comes behind a silent move

pub finishes_after : (g : Grade) (v : Value) (rest : List Item) (p q : Rest) → Moves g [] p q → Finishes g v rest q → Finishes g v rest p
finishes_after g v rest p q m n = record {
  read = m.read ++ n.read;
  unread = m.unread ∙ ap (λ l. m.read ++ l) n.unread ∙ sym (append_assoc m.read n.read rest);
  run = λ ys e i.
      let j = length m.read in
      let k = length n.read in
      m.run ys e i
      ∙ past_same g j (q.run ys e) (Ends (stamp q.floor k) (Done v)) (n.run ys e (subst (λ f. IsToCome f ys e) (sym m.floor) i))
      ∙ ap (λ f. view g (Ends (stamp f (j + k)) (Done v))) m.floor
      ∙ ap (λ x. view g (Ends (stamp p.floor x) (Done v))) (sym (length-append m.read n.read));
}

-- ---- a has ended

pub no_pair : (back : List Item) (f : ℕ) (b : Rest) → ended_with (λ u. u) back f b ≡ fused_ended back f b
no_pair back f b i = record { unread = back; floor = f; run = λ ys e. follow_same_value (restamp (λ s. stamp f 0) (b.run [] Ended)) i }

pub ended_plain_moves : (c : Bool) (acts : List Act) (back : List Item) (f : ℕ) (b b' : Rest) → Moves needs acts b b' → Moves (nets c) acts (fused_ended back f b) (fused_ended back f b')
ended_plain_moves c acts back f b b' m =
    subst (λ p. Moves (nets c) acts p (fused_ended back f b')) (no_pair back f b)
    (subst (λ q. Moves (nets c) acts (ended_with (λ u. u) back f b) q) (no_pair back f b') (ended_moves (λ u. u) (nets c) acts back f b b' m))

pub ended_plain_finishes : (c : Bool) (v : Value) (rest back : List Item) (f : ℕ) (b : Rest) → Finishes needs v rest b → Finishes (nets c) v back (fused_ended back f b)
ended_plain_finishes c v rest back f b m = subst (λ p. Finishes (nets c) v back p) (no_pair back f b) (ended_finishes (λ u. u) (nets c) v rest back f b m)

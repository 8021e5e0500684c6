-- What a part does behind a map that can be undone is what it does.
use Rattle.std.proofs.Common.{◌≡◌, ℕ, zero, suc, List, [], ◌∷◌, ◌++◌, length, map, refl, ap, sym, ◌∙◌}
use Rattle.std.proofs.lemmas.List.{length-map, map-append}
use Rattle.cd_meaning.specs.Stream.{Item, Value, Halt, End, Done, Act}
use Rattle.cd_meaning.specs.Run.{stamp, Ends, acts_at, restamp}
use Rattle.cd_meaning.specs.Laws.{less_by}
use Rattle.cd_meaning.specs.Rest.{Rest, Grade, view, IsToCome, past_by, Moves, Gets, GetsEnd, Asks, Finishes, Stuck, behind_map}

mapped_to_come : (f : Item → Item) (n : ℕ) (ys : List Item) (e : End) → IsToCome n ys e → IsToCome n (map f ys) e
mapped_to_come f zero ys e i = tt
mapped_to_come f (suc n) ys e i = (ap (map f) i.0, i.1)

undone : (f g : Item → Item) → ((x : Item) → g (f x) ≡ x) → (l : List Item) → map g (map f l) ≡ l
undone f g h [] = refl
undone f g h (x ∷ l) = rw (h x, undone f g h l)

module _ (f g : Item → Item) (k : Grade) where
  pub map_moves : (acts : List Act) (p q : Rest) → Moves k acts p q → Moves k acts (behind_map f g p) (behind_map f g q)
  map_moves acts p q m = record {
    read = map g m.read;
    unread = ap (map g) m.unread ∙ map-append g m.read q.unread;
    floor = m.floor;
    run = λ ys e i.
        m.run (map f ys) e (mapped_to_come f p.floor ys e i)
        ∙ ap (λ n. view k (acts_at (stamp p.floor n) acts (restamp (past_by n) (q.run (map f ys) e)))) (sym (length-map m.read g));
  }

  -- a value that comes to the whole comes mapped
  pub map_gets : (c : List Item) (p q : Rest) → ((x : Item) → g (f x) ≡ x) → Gets k (map f c) p q → Gets k c (behind_map f g p) (behind_map f g q)
  map_gets c p q h m = record {
    unread = ap (map g) m.unread ∙ map-append g p.unread (map f c) ∙ ap (λ l. map g p.unread ++ l) (undone f g h c);
    not_told = m.not_told;
    floor = m.floor;
    run = λ ys e.
        m.run (map f ys) e
        ∙ ap (λ n. view k (restamp (less_by n) (p.run (map f c ++ map f ys) e))) (length-map c f)
        ∙ ap (λ l. view k (restamp (less_by (length c)) (p.run l e))) (sym (map-append f c ys));
  }

  pub map_gets_end : (p q : Rest) → GetsEnd k p q → GetsEnd k (behind_map f g p) (behind_map f g q)
  map_gets_end p q m = record { unread = ap (map g) m.unread; floor = m.floor; run = m.run }

  pub map_asks : (p : Rest) → Asks p → Asks (behind_map f g p)
  map_asks p q = record { not_told = q.not_told; first = λ ys e. q.first (map f ys) e; halted = q.halted }

  -- what it gives back is undone
  pub map_finishes : (v : Value) (rest : List Item) (p : Rest) → Finishes k v rest p → Finishes k v (map g rest) (behind_map f g p)
  map_finishes v rest p m = record {
    read = map g m.read;
    unread = ap (map g) m.unread ∙ map-append g m.read rest;
    run = λ ys e i. m.run (map f ys) e (mapped_to_come f p.floor ys e i) ∙ ap (λ n. view k (Ends (stamp p.floor n) (Done v))) (sym (length-map m.read g));
  }

  pub map_stuck : (h : Halt) (p : Rest) → Stuck h p → Stuck h (behind_map f g p)
  map_stuck h p m = record { run = λ ys e i. m.run (map f ys) e (mapped_to_come f p.floor ys e i) }

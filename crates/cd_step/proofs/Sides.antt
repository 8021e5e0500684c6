-- What every controller needs of its two parts.
use Rattle.std.proofs.Common.{◌≡◌, ℕ, ◌+◌, ◌*◌, ◌<◌, ◌≤◌, Bool, true, false, ◌||◌, List, [], length, refl, sym, ◌∙◌, subst, Option, Some, None, arith}
use Rattle.std.proofs.lemmas.List.{length-map}
use Rattle.cd_elem.specs.declared.kind.Kind.{Kind}
use Rattle.cd_elem.specs.declared.kind.Kind.TheVariants.{Bytes, Chars, Blocks, Texts}
use Rattle.cd_meaning.specs.Stream.{Act, Out}
use Rattle.cd_meaning.specs.Run.{stamp, Run, Then, Ends, restamp}
use Rattle.cd_meaning.specs.Rest.{Rest, Grade, needs, Moves, fresh}
use Rattle.cd_meaning.specs.Laws.{Rising}
use Rattle.cd_meaning.specs.RunShapes.{Seen}
use Rattle.cd_step.specs.declared.protocol.Stand.{Stand}
use Rattle.cd_step.specs.declared.protocol.Stand.TheVariants.{Over as StandOver}
use Rattle.cd_step.specs.declared.protocol.Move.TheVariants.{Need}
use Rattle.cd_meaning.specs.Known.{nothing_known}
use Rattle.cd_step.specs.Parts.{Chunk, At, Fresh, Wait, Gave, Over, Part, IsUnbegun, rest, items, sort_at, pieces_at, of_pieces, IsChunk, IsOf, IsGiven, Meets, Agree, larger, joined, Takes, Shares, shared, Goes, Goes_on, outs_of, IsOutAt, part_at, IsHeld, Kept, IsWaiting}
use Rattle.cd_step.specs.Flows.{Retired, Retires}
use Rattle.cd_step.proofs.Moving.{needs_seen, moves_by, moves_none}
use Rattle.cd_step.proofs.Working.{work, goes_work}

pub seen_down : (acts : List Act) (b q : Part) (z : Seen) → Goes_on acts b q → Moves needs acts (rest b z) (rest q z)
seen_down acts b q z m = moves_by b.grade needs (needs_seen b.grade) acts (rest b z) (rest q z) (m z)

pub waiting_floor : (b : Part) → IsWaiting b → b.floor ≡ 0
waiting_floor b w = (w.asks nothing_known).not_told

pub waits_now : (b q : Part) → Goes Need b q → Kept b q → IsHeld q → IsWaiting q
waits_now b q h k y = record { is_at = h.is_at; takes = rw k.3 h.takes; none_unread = h.none_unread; asks = h.asks; held = y }

pub goes_floor : (acts : List Act) (b q : Part) → Goes_on acts b q → q.floor ≡ b.floor
goes_floor acts b q m = (m nothing_known).floor

-- what is left of a part that has not begun
pub rest_fresh : (p : Part) (z : Seen) → IsUnbegun p → rest p z ≡ fresh (p.run z)
rest_fresh p z u = rw (u.floor, u.unread) refl

pub moves_same : (g : Grade) (p q : Rest) → p ≡ q → Moves g [] p q
moves_same g p q e = subst (λ x. Moves g [] p x) e (moves_none g p)

pub left_false : (x y : Bool) → (x || y) ≡ false → x ≡ false
left_false true y h = h
left_false false y h = refl

pub right_false : (x y : Bool) → (x || y) ≡ false → y ≡ false
right_false true y h = let k : true ≡ false = h in cc
right_false false y h = h

pub rising_const : (n m : ℕ) (r : Run) → m ≤ n → Rising m (restamp (λ s. stamp n 0) r)
rising_const n m (Then s a r) h = (h, rising_const n n r (omega arith))
rising_const n m (Ends s e) h = h

smaller : (m n k : ℕ) → m ≡ k + n → 0 < k → 2 * n + 2 < 2 * m + 1
smaller m n k e l = omega arith

-- ---- kinds

pub of_length : (g : Option Kind) (d : Chunk) → IsOf g d → 0 < length (items d)
of_length None d h = absurd h
of_length (Some k) d h = h.0

pub meets_chunk : (g k : Option Kind) (d : Chunk) → Meets g k → Takes k → IsOf g d → IsOf k d
meets_chunk None k d m t h = absurd h
meets_chunk (Some j) None d m t h = absurd t
meets_chunk (Some j) (Some k) d m t h = (h.0, h.1 ∙ m.0, let w = h.2 in let n = m.1 in omega (arith, w, n))

chunk_left : (j k : Kind) (d : Chunk) → IsChunk j d → IsChunk (larger j k) d
chunk_left Bytes k d h = h
chunk_left Chars k d h = h
chunk_left (Blocks m) k d h = (h.0, h.1, let w = h.2 in omega (arith, w))
chunk_left (Texts m) k d h = (h.0, h.1, let w = h.2 in omega (arith, w))

chunk_right : (j k : Kind) (d : Chunk) → sort_at j ≡ sort_at k → IsChunk k d → IsChunk (larger j k) d
chunk_right Bytes Bytes d e h = h
chunk_right Bytes Chars d e h = absurd (let f = e in cc)
chunk_right Bytes (Blocks n) d e h = absurd (let f = e in cc)
chunk_right Bytes (Texts n) d e h = absurd (let f = e in cc)
chunk_right Chars Bytes d e h = absurd (let f = e in cc)
chunk_right Chars Chars d e h = h
chunk_right Chars (Blocks n) d e h = absurd (let f = e in cc)
chunk_right Chars (Texts n) d e h = absurd (let f = e in cc)
chunk_right (Blocks m) Bytes d e h = absurd (let f = e in cc)
chunk_right (Blocks m) Chars d e h = absurd (let f = e in cc)
chunk_right (Blocks m) (Blocks n) d e h = (h.0, h.1, let w = h.2 in omega (arith, w))
chunk_right (Blocks m) (Texts n) d e h = absurd (let f = e in cc)
chunk_right (Texts m) Bytes d e h = absurd (let f = e in cc)
chunk_right (Texts m) Chars d e h = absurd (let f = e in cc)
chunk_right (Texts m) (Blocks n) d e h = absurd (let f = e in cc)
chunk_right (Texts m) (Texts n) d e h = (h.0, h.1, let w = h.2 in omega (arith, w))

pub of_left : (g h : Option Kind) (d : Chunk) → IsOf g d → IsOf (joined g h) d
of_left None h d x = absurd x
of_left (Some j) None d x = x
of_left (Some j) (Some k) d x = chunk_left j k d x

pub of_right : (g h : Option Kind) (d : Chunk) → Agree g h → IsOf h d → IsOf (joined g h) d
of_right None h d a x = x
of_right (Some j) None d a x = absurd x
of_right (Some j) (Some k) d a x = chunk_right j k d a x

-- ---- one input, read by two

pub takes_left : (g h : Option Kind) → Takes g → Takes (shared g h)
takes_left None h t = absurd t
takes_left (Some j) h t = tt

pub takes_right : (g h : Option Kind) → Takes h → Takes (shared g h)
takes_right None h t = t
takes_right (Some j) h t = tt

pub given_left : (g h : Option Kind) (r : Option Chunk) → IsGiven g r → IsGiven (shared g h) r
given_left g h None x = tt
given_left None h (Some d) x = absurd x
given_left (Some j) h (Some d) x = x

pub given_right : (g h : Option Kind) (r : Option Chunk) → Shares g h → IsGiven h r → IsGiven (shared g h) r
given_right g h None s x = tt
given_right None h (Some d) s x = x
given_right (Some j) None (Some d) s x = absurd x
given_right (Some j) (Some k) (Some d) s x = subst (λ y. IsOf (Some y) d) (sym s) x

pub taken_left : (g h : Option Kind) (d : Chunk) → Takes g → IsOf (shared g h) d → IsOf g d
taken_left None h d t x = absurd t
taken_left (Some j) h d t x = x

pub taken_right : (g h : Option Kind) (d : Chunk) → Shares g h → Takes h → IsOf (shared g h) d → IsOf h d
taken_right None h d s t x = x
taken_right (Some j) None d s t x = absurd t
taken_right (Some j) (Some k) d s t x = subst (λ y. IsOf (Some y) d) s x

pub shared_left : (g h : Option Kind) → Shares g h → of_pieces (shared g h) ≡ true → of_pieces g ≡ true
shared_left None h s e = refl
shared_left (Some j) h s e = e

pub shared_right : (g h : Option Kind) → Shares g h → of_pieces (shared g h) ≡ true → of_pieces h ≡ true
shared_right None h s e = e
shared_right (Some j) None s e = refl
shared_right (Some j) (Some k) s e = subst (λ y. pieces_at y ≡ true) s e

pub emit_smaller : (a q : Part) (d : Chunk) → IsOf a.gives d → Goes_on (outs_of d) a q → 2 * work q + 2 < 2 * work a + 1
emit_smaller a q d h m = smaller (work a) (work q) (length (outs_of d)) (goes_work (outs_of d) a q m) (subst (λ n. 0 < n) (sym (length-map (items d) Out)) (of_length a.gives d h))

-- ---- the end

pub retired_of : (p q : Part) (r : Option Chunk) → Retires p r q → Retired p q
retired_of p q r h = (h.0, h.1, let k = h.2 in omega (arith, k))

pub retires_less : (p q : Part) (r : Option Chunk) → Retires p r q → q.held ≤ p.held
retires_less p q r h = let k = h.2 in omega (arith, k)

pub out_not_over : (x : At) (k : ℕ → Bool) → IsOutAt x k → x ≡ Over → ⊥
out_not_over x k h e = rw e at h

pub fresh_not_over : (x : At) → x ≡ Fresh → x ≡ Over → ⊥
fresh_not_over x h e = let k : Fresh ≡ Over = sym h ∙ e in cc

pub wait_not_over : (x : At) → x ≡ Wait → x ≡ Over → ⊥
wait_not_over x h e = let k : Wait ≡ Over = sym h ∙ e in cc

pub gave_not_over : (x : At) → x ≡ Gave → x ≡ Over → ⊥
gave_not_over x h e = let k : Gave ≡ Over = sym h ∙ e in cc

pub stand_not_over : (s : Stand) → (part_at s ≡ Over → ⊥) → s ≡ StandOver → ⊥
stand_not_over s n e = n (rw e refl)

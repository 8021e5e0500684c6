-- A sequence over what is seen of its two parts. The upper one is the first.
use Rattle.std.specs.Prelude.{◌≡◌, ℕ, zero, suc, ◌+◌, ◌≤◌, Bool, true, false, List, [], Option, Some, None, ◌⊎◌, ◌++◌}
use Rattle.cd_meaning.specs.Stream.{Item}
use Rattle.cd_meaning.specs.RunShapes.{Seen}
use Rattle.cd_meaning.specs.Rest.{Rest, followed, pending}
use Rattle.cd_step.specs.declared.protocol.Input.{Input}
use Rattle.cd_step.specs.declared.protocol.Stand.{Stand}
use Rattle.cd_step.specs.declared.protocol.Stand.TheVariants.{Fresh as IsFresh, Wait as IsWait, Gave as HasGiven, Over as IsOver}
use Rattle.cd_step.specs.declared.control.Side.{Side}
use Rattle.cd_step.specs.declared.control.Side.TheVariants.{Upper, Lower}
use Rattle.cd_step.specs.declared.control.Turn.{Turn}
use Rattle.cd_step.specs.declared.control.Turn.TheVariants.{Up, Down}
use Rattle.cd_step.specs.Parts.{Chunk, At, Fresh, Wait, Gave, Part, IsUnbegun, rest, rest_items, of_pieces, IsGiven, IsHeld, weight_any, both_tickets, part_at, both_sites, AreApart, Agree, joined, Takes, Shares, shared}
use Rattle.cd_fuse.specs.declared.follow.Follow.{Follow}

abbrev pub turn_to : Side → Input → Turn
turn_to Upper i = Up i
turn_to Lower i = Down i

abbrev pub floor_of : Bool → ℕ
floor_of false = 0
floor_of true = 1

-- ---- the whole

-- the second part with what was given back in front; once it was told the end, itself
abbrev pub second_rest : ℕ → List Item → ℕ → Rest → Rest
second_rest zero back f b = pending back f b
second_rest (suc n) back f b = b

abbrev pub sequence_rest : Side → List Item → ℕ → Part → Part → Seen → Rest
sequence_rest Upper back f a b z = followed (rest a z) (b.run z)
sequence_rest Lower back f a b z = second_rest b.floor back f (rest b z)

abbrev pub second_unread : ℕ → List Item → List Item → List Item
second_unread zero back u = u ++ back
second_unread (suc n) back u = u

abbrev pub second_floor : ℕ → ℕ → ℕ
second_floor zero f = f
second_floor (suc n) f = suc n

abbrev pub sequence_unread : Side → List Item → Part → Part → List Item
sequence_unread Upper back a b = a.unread
sequence_unread Lower back a b = second_unread b.floor back b.unread

abbrev pub sequence_floor : Side → ℕ → Part → Part → ℕ
sequence_floor Upper f a b = a.floor
sequence_floor Lower f a b = second_floor b.floor f

-- The whole is exact where its second part is. Here back was given back, and counts n; f is 1 once the end was told.
abbrev pub sequence_at : At → Side → List Item → ℕ → ℕ → Part → Part → Part
sequence_at at side back n f a b = record {
  at = at;
  grade = record { pieces = of_pieces (shared a.takes b.takes); exact = b.grade.exact };
  sites = both_sites a.sites b.sites;
  gives = joined a.gives b.gives;
  takes = shared a.takes b.takes;
  room = a.room + b.room;
  held = a.held + b.held + n;
  tickets = both_tickets a.tickets b.tickets;
  unread = sequence_unread side back a b;
  floor = sequence_floor side f a b;
  run = λ z. (sequence_rest side back f a b z).run;
}

abbrev pub whole_follow : Follow → Part → Part → Part
whole_follow c a b = sequence_at (part_at c.stand) c.side (rest_items c.back) (weight_any c.back) (floor_of c.told) a b

abbrev pub follow_copying : Follow → Bool
follow_copying c = false

-- ---- where its parts stand

pub record AreInTurn (a b : Part) : Type 0 where
  pub apart : AreApart a.sites b.sites
  -- what the first part gives back is compared
  pub exact : a.grade.exact ≡ true
  pub first : a.grade.pieces ≡ of_pieces a.takes
  pub second : b.grade.pieces ≡ of_pieces b.takes
  pub gives : Agree a.gives b.gives
  pub takes : Shares a.takes b.takes

pub record IsFirstTurn (side : Side) (told : Bool) (back : Option Chunk) (a b : Part) : Type 0 where
  pub is_first : side ≡ Upper
  pub told_is : a.floor ≡ floor_of told
  pub told_empty : told ≡ true → a.unread ≡ []
  pub none : back ≡ None
  pub unbegun : IsUnbegun b
  pub held : IsHeld b
  pub in_turn : AreInTurn a b

pub record IsSecondTurn (side : Side) (told : Bool) (back : Option Chunk) (a b : Part) : Type 0 where
  pub is_second : side ≡ Lower
  pub told_is : b.floor ≤ floor_of told
  pub told_empty : told ≡ true → back ≡ None
  pub empty : (back ≡ None) ⊎ (b.unread ≡ [])
  pub given : IsGiven (shared a.takes b.takes) back
  -- what the first part gave back stood in its own room
  pub held : a.held + weight_any back ≤ a.room
  pub in_turn : AreInTurn a b

abbrev pub follow_fits : Side → Follow → Part → Part → Type 0
follow_fits Upper c a b = IsFirstTurn c.side c.told c.back a b
follow_fits Lower c a b = IsSecondTurn c.side c.told c.back a b

abbrev pub IsPartAt : Side → At → Follow → Part → Part → Type 0
IsPartAt Upper at c a b = follow_fits Upper c a b × (a.at ≡ at)
IsPartAt Lower at c a b = follow_fits Lower c a b × (b.at ≡ at)

abbrev pub IsPartWaiting : Side → Option Chunk → Part → Part → Type 0
IsPartWaiting Upper back a b = (a.unread ≡ []) × Takes a.takes
IsPartWaiting Lower back a b = (back ≡ None) × (b.floor ≡ 0) × Takes b.takes

abbrev pub IsFollowIn : Stand → Follow → Part → Part → Type 0
IsFollowIn IsFresh c a b = follow_fits Upper c a b × (a.at ≡ Fresh)
IsFollowIn IsWait c a b = IsPartAt c.side Wait c a b × (c.told ≡ false) × IsPartWaiting c.side c.back a b
IsFollowIn HasGiven c a b = IsPartAt c.side Gave c a b
IsFollowIn IsOver c a b = Unit {0}

abbrev pub follow_is_at : Follow → Part → Part → Type 0
follow_is_at c a b = IsFollowIn c.stand c a b

-- ---- turns that may still come

abbrev pub end_left : ℕ → ℕ
end_left zero = 1
end_left (suc n) = 0

abbrev pub some_left : Option Chunk → ℕ
some_left None = 0
some_left (Some c) = 1

abbrev pub follow_left : Side → Follow → Part → Part → ℕ
follow_left Upper c a b = 3
follow_left Lower c a b = end_left b.floor + some_left c.back

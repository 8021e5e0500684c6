-- A whole of two parts under any controller, and where they stand, also while one of them is out.
use Rattle.std.specs.Prelude.{ℕ, Bool, Option, Some, None}
use Rattle.cd_step.specs.declared.control.Side.{Side}
use Rattle.cd_step.specs.declared.control.Side.TheVariants.{Upper, Lower}
use Rattle.cd_step.specs.Parts.{At, Part, IsOutAt}
use Rattle.cd_fuse.specs.Fuses.{whole_fuse, fuse_is_at, fuse_fits, fuse_left, fuse_copying}
use Rattle.cd_fuse.specs.Follows.{whole_follow, follow_is_at, follow_fits, follow_left, follow_copying}
use Rattle.cd_node.specs.declared.control.PairControl.{PairControl}
use Rattle.cd_node.specs.declared.control.PairControl.TheVariants.{Fusion, Sequence}

abbrev pub whole_pair : PairControl → Part → Part → Part
whole_pair (Fusion c) a b = whole_fuse c a b
whole_pair (Sequence c) a b = whole_follow c a b

abbrev pub pair_is_at : PairControl → Part → Part → Type 0
pair_is_at (Fusion c) a b = fuse_is_at c a b
pair_is_at (Sequence c) a b = follow_is_at c a b

abbrev pub pair_fits : Side → PairControl → Part → Part → Type 0
pair_fits s (Fusion c) a b = fuse_fits s c a b
pair_fits s (Sequence c) a b = follow_fits s c a b

abbrev pub pair_left : Side → PairControl → Part → Part → ℕ
pair_left s (Fusion c) a b = fuse_left s c a b
pair_left s (Sequence c) a b = follow_left s c a b

abbrev pub pair_copying : PairControl → Bool
pair_copying (Fusion c) = fuse_copying c
pair_copying (Sequence c) = follow_copying c

-- ---- one of the two may be out: its own answer of a site is waited for

abbrev pub standing_at : At → Part → Part
standing_at t p = record {
  at = t;
  grade = p.grade;
  sites = p.sites;
  gives = p.gives;
  takes = p.takes;
  room = p.room;
  held = p.held;
  tickets = p.tickets;
  unread = p.unread;
  floor = p.floor;
  run = p.run;
}

-- the whole stands where the part that is out does
abbrev pub at_side : Option Side → Part → Part → Part → Part
at_side None p a b = p
at_side (Some Upper) p a b = standing_at a.at p
at_side (Some Lower) p a b = standing_at b.at p

abbrev pub seen_pair : PairControl → Option Side → Part → Part → Part
seen_pair c out a b = at_side out (whole_pair c a b) a b

abbrev pub IsPlaced : Option Side → PairControl → Part → Part → Type 0
IsPlaced None c a b = pair_is_at c a b
IsPlaced (Some Upper) c a b = pair_fits Upper c a b × IsOutAt a.at a.sites
IsPlaced (Some Lower) c a b = pair_fits Lower c a b × IsOutAt b.at b.sites

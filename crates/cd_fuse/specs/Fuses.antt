-- Plain fusion over what is seen of its two parts.
use Rattle.std.specs.Prelude.{◌≡◌, ℕ, ◌+◌, ◌*◌, ◌≤◌, Bool, true, false, List, Option, None}
use Rattle.cd_meaning.specs.Stream.{Item}
use Rattle.cd_meaning.specs.Run.{Component}
use Rattle.cd_meaning.specs.RunShapes.{Seen}
use Rattle.cd_meaning.specs.Rest.{nets, fused, fused_ended}
use Rattle.cd_meaning.proofs.Moves.Fused.{IsGrade}
use Rattle.cd_step.specs.declared.protocol.Stand.{Stand}
use Rattle.cd_step.specs.declared.protocol.Stand.TheVariants.{Fresh as IsFresh, Wait as IsWait, Gave as HasGiven, Over as IsOver}
use Rattle.cd_step.specs.declared.control.Side.{Side}
use Rattle.cd_step.specs.declared.control.Side.TheVariants.{Upper, Lower}
use Rattle.cd_step.specs.Parts.{Chunk, At, Fresh, Wait, Gave, Part, rest, rest_items, IsGiven, weight_any, both_tickets, part_at, both_sites, AreApart, Meets, IsWaiting}
use Rattle.cd_step.proofs.Working.{work}
use Rattle.cd_fuse.specs.declared.fuse.Upstream.{Upstream}
use Rattle.cd_fuse.specs.declared.fuse.Upstream.TheVariants.{Fresh as HasNotBegun, Begun, Ended}
use Rattle.cd_fuse.specs.declared.fuse.Fuse.{Fuse}

abbrev pub has_ended : Upstream → Bool
has_ended HasNotBegun = false
has_ended Begun = false
has_ended Ended = true

-- ---- the whole

-- the weave of the two, and once the upstream has ended the downstream alone
abbrev pub fusion_run : Bool → List Item → Part → Part → Seen → Component
fusion_run false back a b z = (fused (rest a z) (rest b z)).run
fusion_run true back a b z = (fused_ended back a.floor (rest b z)).run

abbrev pub fusion_unread : Bool → List Item → List Item → List Item
fusion_unread false back u = u
fusion_unread true back u = back

-- Nets are those of the upstream, so the whole is exact where all of them are compared: on pieces, and where the upstream
-- takes nothing. Here back was given back, and counts n.
abbrev pub fusion_at : At → Bool → List Item → ℕ → Part → Part → Part
fusion_at at ended back n a b = record {
  at = at;
  grade = nets a.grade.pieces;
  sites = both_sites a.sites b.sites;
  gives = b.gives;
  takes = a.takes;
  room = a.room + b.room;
  held = a.held + b.held + n;
  tickets = both_tickets a.tickets b.tickets;
  unread = fusion_unread ended back a.unread;
  floor = a.floor;
  run = fusion_run ended back a b;
}

abbrev pub whole_fuse : Fuse → Part → Part → Part
whole_fuse c a b = fusion_at (part_at c.stand) (has_ended c.upstream) (rest_items c.back) (weight_any c.back) a b

abbrev pub fuse_copying : Fuse → Bool
fuse_copying c = false

-- ---- where its parts stand

pub record AreBeside (a b : Part) : Type 0 where
  pub apart : AreApart a.sites b.sites
  pub graded : IsGrade a.grade
  pub meets : Meets a.gives b.takes

-- where the upstream stands, and what it gave back, while the downstream goes on
abbrev pub IsUpstream : Upstream → Option Chunk → Part → Part → Type 0
IsUpstream HasNotBegun back a b = (a.at ≡ Fresh) × (b.floor ≡ 0) × (back ≡ None)
IsUpstream Begun back a b = (a.at ≡ Gave) × (b.floor ≡ 0) × (back ≡ None)
IsUpstream Ended back a b = (b.floor ≡ 1) × IsGiven a.takes back

pub record IsUpTurn (upstream : Upstream) (back : Option Chunk) (a b : Part) : Type 0 where
  pub begun : upstream ≡ Begun
  pub none : back ≡ None
  pub waiting : IsWaiting b
  pub beside : AreBeside a b

pub record IsDownTurn (upstream : Upstream) (back : Option Chunk) (a b : Part) : Type 0 where
  pub stands : IsUpstream upstream back a b
  -- what the upstream gave back stood in its own room
  pub held : a.held + weight_any back ≤ a.room
  pub beside : AreBeside a b

abbrev pub fuse_fits : Side → Fuse → Part → Part → Type 0
fuse_fits Upper c a b = IsUpTurn c.upstream c.back a b
fuse_fits Lower c a b = IsDownTurn c.upstream c.back a b

-- between two steps the downstream is on its turn, but where the upstream waits for a value
abbrev pub IsFuseIn : Stand → Fuse → Part → Part → Type 0
IsFuseIn IsFresh c a b = fuse_fits Lower c a b × (b.at ≡ Fresh)
IsFuseIn IsWait c a b = fuse_fits Upper c a b × (a.at ≡ Wait) × (a.floor ≡ 0)
IsFuseIn HasGiven c a b = fuse_fits Lower c a b × (b.at ≡ Gave)
IsFuseIn IsOver c a b = Unit {0}

abbrev pub fuse_is_at : Fuse → Part → Part → Type 0
fuse_is_at c a b = IsFuseIn c.stand c a b

-- ---- turns that may still come

abbrev pub down_left : Bool → ℕ → ℕ
down_left false n = 2 * n + 2
down_left true n = 0

abbrev pub fuse_left : Side → Fuse → Part → Part → ℕ
fuse_left Upper c a b = 2 * work a + 1
fuse_left Lower c a b = down_left (has_ended c.upstream) (work a)

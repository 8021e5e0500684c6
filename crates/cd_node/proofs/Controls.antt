-- What one controller owes is what every controller owes.
use Rattle.std.proofs.Common.{◌≡◌, ℕ, ◌+◌, Bool, true, false, ◌||◌, List, map, refl, sym, ◌∙◌}
use Rattle.cd_meaning.specs.Stream.{Act, Do, Effect, Halt}
use Rattle.cd_meaning.specs.Rest.{Stuck}
use Rattle.cd_meaning.specs.RunShapes.{Told, Seen}
use Rattle.cd_step.specs.declared.protocol.Stand.{Stand}
use Rattle.cd_step.specs.declared.control.Side.TheVariants.{Upper, Lower}
use Rattle.cd_step.specs.declared.control.Turn.{Turn}
use Rattle.cd_step.specs.declared.control.Turn.TheVariants.{Up, Down}
use Rattle.cd_step.specs.declared.control.Flow.{Flow}
use Rattle.cd_step.specs.declared.control.Flow.TheVariants.{Again, Return, Finish, Glue}
use Rattle.cd_step.specs.Parts.{Part, rest, Goes_on, Kept, IsHeld, IsSound, AreApart, part_at}
use Rattle.cd_step.specs.Flows.{Same, TurnLaw, FlowLaw}
use Rattle.cd_step.specs.Sites.{told, got}
use Rattle.cd_step.proofs.Moving.{kept_none}
use Rattle.cd_step.proofs.Outs.{own_up, own_down}
use Rattle.cd_fuse.specs.declared.fuse.Fuse.{Fuse}
use Rattle.cd_fuse.specs.declared.follow.Follow.{Follow}
use Rattle.cd_fuse.specs.Fuses.{whole_fuse, fuse_is_at, fuse_fits, fuse_left}
use Rattle.cd_fuse.specs.Follows.{whole_follow, follow_is_at, follow_fits, follow_left}
use Rattle.cd_fuse.proofs.FuseMoves as fuses
use Rattle.cd_fuse.proofs.FuseTurns as fuse_turns
use Rattle.cd_fuse.proofs.FollowMoves as follows
use Rattle.cd_fuse.proofs.FollowTurns as follow_turns
use Rattle.cd_fuse.proofs.Sound.{fuse_sound, follow_sound}
use Rattle.cd_node.specs.declared.control.PairControl.{PairControl}
use Rattle.cd_node.specs.declared.control.PairControl.TheVariants.{Fusion, Sequence}
use Rattle.cd_node.specs.Controls.{whole_pair, pair_is_at, pair_fits, pair_left}
use Rattle.cd_node.specs.Nodes.{HasNoTicket}

pub fusion_turn : (p : Part) (t : Turn) (c : Fuse) (a b : Part) → TurnLaw whole_fuse fuse_fits p t c a b → TurnLaw whole_pair pair_fits p t (Fusion c) a b
fusion_turn p (Up i) c a b h = h
fusion_turn p (Down i) c a b h = h

pub fusion_flow : (p : Part) (n : ℕ) (c : Fuse) (f : Flow) (a b : Part) → FlowLaw whole_fuse fuse_is_at fuse_fits fuse_left p n c f a b → FlowLaw whole_pair pair_is_at pair_fits pair_left p n (Fusion c) f a b
fusion_flow p n c (Again (Up i)) a b h = h
fusion_flow p n c (Again (Down i)) a b h = h
fusion_flow p n c (Return m) a b h = h
fusion_flow p n c (Finish m f) a b h = h
fusion_flow p n c (Glue x y) a b h = h

pub sequence_turn : (p : Part) (t : Turn) (c : Follow) (a b : Part) → TurnLaw whole_follow follow_fits p t c a b → TurnLaw whole_pair pair_fits p t (Sequence c) a b
sequence_turn p (Up i) c a b h = h
sequence_turn p (Down i) c a b h = h

pub sequence_flow : (p : Part) (n : ℕ) (c : Follow) (f : Flow) (a b : Part) → FlowLaw whole_follow follow_is_at follow_fits follow_left p n c f a b → FlowLaw whole_pair pair_is_at pair_fits pair_left p n (Sequence c) f a b
sequence_flow p n c (Again (Up i)) a b h = h
sequence_flow p n c (Again (Down i)) a b h = h
sequence_flow p n c (Return m) a b h = h
sequence_flow p n c (Finish m f) a b h = h
sequence_flow p n c (Glue x y) a b h = h

-- ---- what holds after a refusal too

-- a part has stepped or was refused: the whole keeps what it is
pub pair_kept_up : (c : PairControl) (a q b : Part) → Kept a q → Kept (whole_pair c a b) (whole_pair c q b)
pair_kept_up (Fusion c) a q b k = fuses.kept_whole a q b b k (kept_none b)
pair_kept_up (Sequence c) a q b k = follows.kept_parts a q b b k (kept_none b)

pub pair_kept_down : (c : PairControl) (a b q : Part) → Kept b q → Kept (whole_pair c a b) (whole_pair c a q)
pair_kept_down (Fusion c) a b q k = fuses.kept_whole a a b q (kept_none a) k
pair_kept_down (Sequence c) a b q k = follows.kept_parts a a b q (kept_none a) k

-- and it holds what its room allows
pub pair_held_up : (c : PairControl) (a q b : Part) → pair_fits Upper c a b → Kept a q → IsHeld q → IsHeld (whole_pair c q b)
pair_held_up (Fusion c) a q b f k h = fuses.up_held c q b f.none f.waiting.held h
pair_held_up (Sequence c) a q b f k h = follows.first_held c q b f.none f.held h

pub pair_held_down : (c : PairControl) (a b q : Part) → pair_fits Lower c a b → IsHeld q → IsHeld (whole_pair c a q)
pair_held_down (Fusion c) a b q f h = fuses.down_held c a q f.held h
pair_held_down (Sequence c) a b q f h = follows.second_held c a q f.held h

pub pair_room : (c : PairControl) (a b : Part) → (whole_pair c a b).room ≡ a.room + b.room
pair_room (Fusion c) a b = refl
pair_room (Sequence c) a b = refl

pub pair_sound : (c : PairControl) (a b : Part) → IsSound a → IsSound b → IsSound (whole_pair c a b)
pair_sound (Fusion c) a b h k = fuse_sound c a b h k
pair_sound (Sequence c) a b h k = follow_sound c a b h k

-- ---- sites and tickets of a part are the whole's

pub pair_sites : (c : PairControl) (a b : Part) (s : ℕ) → (whole_pair c a b).sites s ≡ (a.sites s || b.sites s)
pair_sites (Fusion c) a b s = refl
pair_sites (Sequence c) a b s = refl

pub pair_tickets : (c : PairControl) (a b : Part) (s d : ℕ) → (whole_pair c a b).tickets s d ≡ (a.tickets s d || b.tickets s d)
pair_tickets (Fusion c) a b s d = refl
pair_tickets (Sequence c) a b s d = refl

pub pair_has_up : (c : PairControl) (a b : Part) (s d : ℕ) → a.tickets s d ≡ true → (whole_pair c a b).tickets s d ≡ true
pair_has_up c a b s d h = pair_tickets c a b s d ∙ own_up (a.tickets s d) (b.tickets s d) h

pub pair_has_down : (c : PairControl) (a b : Part) (s d : ℕ) → b.tickets s d ≡ true → (whole_pair c a b).tickets s d ≡ true
pair_has_down c a b s d h = pair_tickets c a b s d ∙ own_down (a.tickets s d) (b.tickets s d) h

not_true : (x y : Bool) → (x ≡ true → y ≡ true) → y ≡ false → x ≡ false
not_true false y h e = refl
not_true true y h e = absurd (let k : y ≡ true = h refl in let j : true ≡ false = sym k ∙ e in cc)

pub pair_none_up : (c : PairControl) (a b : Part) → HasNoTicket (whole_pair c a b) → HasNoTicket a
pair_none_up c a b h s d = not_true (a.tickets s d) ((whole_pair c a b).tickets s d) (pair_has_up c a b s d) (h s d)

pub pair_none_down : (c : PairControl) (a b : Part) → HasNoTicket (whole_pair c a b) → HasNoTicket b
pair_none_down c a b h s d = not_true (b.tickets s d) ((whole_pair c a b).tickets s d) (pair_has_down c a b s d) (h s d)

pub pair_apart_up : (c : PairControl) (a b : Part) → pair_fits Upper c a b → AreApart a.sites b.sites
pair_apart_up (Fusion c) a b f = f.beside.apart
pair_apart_up (Sequence c) a b f = f.in_turn.apart

pub pair_apart_down : (c : PairControl) (a b : Part) → pair_fits Lower c a b → AreApart a.sites b.sites
pair_apart_down (Fusion c) a b f = f.beside.apart
pair_apart_down (Sequence c) a b f = f.in_turn.apart

-- ---- effects, and what answers them, pass through

pub pair_pass_up : (c : PairControl) (a b q : Part) (es : List Effect) → pair_fits Upper c a b → Goes_on (map Do es) a q → Goes_on (map Do es) (whole_pair c a b) (whole_pair c q b)
pair_pass_up (Fusion c) a b q es f m = fuse_turns.pass_up c a b q es f m
pair_pass_up (Sequence c) a b q es f m = follow_turns.pass_first c a b q es f m

pub pair_pass_down : (c : PairControl) (a b q : Part) (es : List Effect) → pair_fits Lower c a b → Goes_on (map Do es) b q → Goes_on (map Do es) (whole_pair c a b) (whole_pair c a q)
pair_pass_down (Fusion c) a b q es f m = fuse_turns.pass_down c a b q es f m
pair_pass_down (Sequence c) a b q es f m = follow_turns.pass_second c a b q es f m

pub pair_fits_up : (c : PairControl) (a b q : Part) (acts : List Act) → Goes_on acts a q → Kept a q → pair_fits Upper c a b → pair_fits Upper c q b
pair_fits_up (Fusion c) a b q acts m k f = fuses.upper_by c a q b k f
pair_fits_up (Sequence c) a b q acts m k f = follows.first_by c.side c.told c.back acts a q b m k f

pub pair_fits_down : (c : PairControl) (a b q : Part) (acts : List Act) → Goes_on acts b q → Kept b q → pair_fits Lower c a b → pair_fits Lower c a q
pair_fits_down (Fusion c) a b q acts m k f = fuses.lower_by c acts a b q m k f
pair_fits_down (Sequence c) a b q acts m k f = follows.second_by c.side c.told c.back acts a b q m k f

pub pair_stuck_up : (c : PairControl) (a b : Part) (h : Halt) (z : Seen) → pair_fits Upper c a b → Stuck h (rest a z) → Stuck h (rest (whole_pair c a b) z)
pair_stuck_up (Fusion c) a b h z f s = fuse_turns.stuck_up c a b h z f s
pair_stuck_up (Sequence c) a b h z f s = follow_turns.stuck_first c a b h z f s

pub pair_stuck_down : (c : PairControl) (a b : Part) (h : Halt) (z : Seen) → pair_fits Lower c a b → Stuck h (rest b z) → Stuck h (rest (whole_pair c a b) z)
pair_stuck_down (Fusion c) a b h z f s = fuse_turns.stuck_down c a b h z f s
pair_stuck_down (Sequence c) a b h z f s = follow_turns.stuck_second c a b h z f s

pub pair_told_up : (c : PairControl) (a b : Part) (s : ℕ) (w : Seen → Told) → pair_fits Upper c a b → IsSound b → b.sites s ≡ false → pair_fits Upper c (told s w a) b × Same (told s w (whole_pair c a b)) (whole_pair c (told s w a) b)
pair_told_up (Fusion c) a b s w f l h = fuse_turns.told_up c a b s w f l h
pair_told_up (Sequence c) a b s w f l h = follow_turns.told_first c a b s w f l h

pub pair_told_down : (c : PairControl) (a b : Part) (s : ℕ) (w : Seen → Told) → pair_fits Lower c a b → IsSound a → a.sites s ≡ false → pair_fits Lower c a (told s w b) × Same (told s w (whole_pair c a b)) (whole_pair c a (told s w b))
pair_told_down (Fusion c) a b s w f l h = fuse_turns.told_down c a b s w f l h
pair_told_down (Sequence c) a b s w f l h = follow_turns.told_second c a b s w f

pub pair_got_up : (c : PairControl) (a b : Part) (t n : ℕ) → pair_fits Upper c a b → pair_fits Upper c (got t n a) b × Same (got t n (whole_pair c a b)) (whole_pair c (got t n a) b)
pair_got_up (Fusion c) a b t n f = fuse_turns.got_up c a b t n f
pair_got_up (Sequence c) a b t n f = follow_turns.got_first c a b t n f

pub pair_got_down : (c : PairControl) (a b : Part) (t n : ℕ) → pair_fits Lower c a b → pair_fits Lower c a (got t n b) × Same (got t n (whole_pair c a b)) (whole_pair c a (got t n b))
pair_got_down (Fusion c) a b t n f = fuse_turns.got_down c a b t n f
pair_got_down (Sequence c) a b t n f = follow_turns.got_second c a b t n f

-- ---- where no part is out, no answer of a site comes

pub stand_at : (c : PairControl) (a b : Part) → (s : Stand) × ((whole_pair c a b).at ≡ part_at s)
stand_at (Fusion c) a b = (c.stand, refl)
stand_at (Sequence c) a b = (c.stand, refl)

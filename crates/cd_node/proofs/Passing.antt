-- What a part asks of its site, and what the site answers, passes through the whole.
use Rattle.std.proofs.Common.{◌≡◌, ℕ, true, [], ◌∷◌, map, Some, ◌∙◌, subst}
use Rattle.cd_meaning.specs.Known.{before, no_more}
use Rattle.cd_meaning.specs.Places.{Place}
use Rattle.cd_meaning.specs.Stream.{Open, Put, Close}
use Rattle.cd_step.specs.declared.control.Side.TheVariants.{Upper, Lower}
use Rattle.cd_step.specs.Parts.{At, Part, Kept, IsSound, IsOutAt, site}
use Rattle.cd_step.specs.Flows.{Same}
use Rattle.cd_step.proofs.Moving.{after_acts, same_none, none_here, neither, apart_other}
use Rattle.cd_step.proofs.Outs.{site_own, own_up, own_down}
use Rattle.cd_node.specs.Controls.{whole_pair, pair_fits, standing_at, seen_pair, IsPlaced}
use Rattle.cd_node.specs.Nodes.{AnswersNode, GoesNode, fed_node}
use Rattle.cd_node.specs.PlainWords.{IsPlain, AsksSite}
use Rattle.cd_node.specs.Turns.{NodeTurnLaw}
use Rattle.cd_node.specs.declared.control.PairControl.{PairControl}
use Rattle.cd_node.specs.declared.protocol.NodeInput.{NodeInput}
use Rattle.cd_node.specs.declared.protocol.NodeInput.TheVariants.{Start, Chunk, End, Next, Acquired, Gave, GaveEnd, Wrote, Closed}
use Rattle.cd_node.specs.declared.protocol.NodeMove.{NodeMove}
use Rattle.cd_node.specs.declared.protocol.NodeMove.TheVariants.{Emit, Need, Acquire, Read, Write, Release, Done, Fault}
use Rattle.cd_node.specs.declared.turn.NodeTurn.TheVariants.{Up, Down}
use Rattle.cd_node.proofs.Tickets.{reads_by, writes_by}
use Rattle.cd_node.proofs.Controls.{pair_sites, pair_tickets, pair_has_up, pair_has_down, pair_apart_up, pair_apart_down, pair_pass_up, pair_pass_down, pair_fits_up, pair_fits_down, pair_stuck_up, pair_stuck_down, pair_told_up, pair_told_down, pair_got_up, pair_got_down}

-- ---- an answer to the part that is out

same_from : (t : At) (p q : Part) → Same p q → Same (standing_at t p) q
same_from t p q h = record { goes = h.goes; kept = h.kept }

pub site_up : (i : NodeInput) (c : PairControl) (a b : Part) → (IsPlain i → ⊥) → IsPlaced (Some Upper) c a b → IsSound b → AnswersNode (seen_pair c (Some Upper) a b) i
    → NodeTurnLaw (fed_node i (seen_pair c (Some Upper) a b)) (Up i) c a b
site_up Start c a b x f l n = absurd (x tt)
site_up (Chunk d) c a b x f l n = absurd (x tt)
site_up End c a b x f l n = absurd (x tt)
site_up Next c a b x f l n = absurd (x tt)
site_up (Acquired t) c a b x f l n = let g = pair_got_up c a b t.site.0 t.descriptor.0 f.0 in ((n, g.0), same_from a.at _ _ g.1)
site_up (Gave d) c a b x f l n =
    let g = pair_told_up c a b (site a.at) (λ z. before d.1 (z (site a.at))) f.0 l (pair_apart_up c a b f.0 (site a.at) (site_own a.at a.sites f.1 n.0)) in
    ((n, g.0), same_from a.at _ _ g.1)
site_up GaveEnd c a b x f l n =
    let g = pair_told_up c a b (site a.at) (λ z. no_more) f.0 l (pair_apart_up c a b f.0 (site a.at) (site_own a.at a.sites f.1 n)) in
    ((n, g.0), same_from a.at _ _ g.1)
site_up Wrote c a b x f l n = ((n, f.0), same_from a.at _ _ (same_none (whole_pair c a b)))
site_up Closed c a b x f l n = ((n, f.0), same_from a.at _ _ (same_none (whole_pair c a b)))

pub site_down : (i : NodeInput) (c : PairControl) (a b : Part) → (IsPlain i → ⊥) → IsPlaced (Some Lower) c a b → IsSound a → AnswersNode (seen_pair c (Some Lower) a b) i
    → NodeTurnLaw (fed_node i (seen_pair c (Some Lower) a b)) (Down i) c a b
site_down Start c a b x f l n = absurd (x tt)
site_down (Chunk d) c a b x f l n = absurd (x tt)
site_down End c a b x f l n = absurd (x tt)
site_down Next c a b x f l n = absurd (x tt)
site_down (Acquired t) c a b x f l n = let g = pair_got_down c a b t.site.0 t.descriptor.0 f.0 in ((n, g.0), same_from b.at _ _ g.1)
site_down (Gave d) c a b x f l n =
    let g = pair_told_down c a b (site b.at) (λ z. before d.1 (z (site b.at))) f.0 l (apart_other a.sites b.sites (pair_apart_down c a b f.0) (site b.at) (site_own b.at b.sites f.1 n.0)) in
    ((n, g.0), same_from b.at _ _ g.1)
site_down GaveEnd c a b x f l n =
    let g = pair_told_down c a b (site b.at) (λ z. no_more) f.0 l (apart_other a.sites b.sites (pair_apart_down c a b f.0) (site b.at) (site_own b.at b.sites f.1 n)) in
    ((n, g.0), same_from b.at _ _ g.1)
site_down Wrote c a b x f l n = ((n, f.0), same_from b.at _ _ (same_none (whole_pair c a b)))
site_down Closed c a b x f l n = ((n, f.0), same_from b.at _ _ (same_none (whole_pair c a b)))

-- ---- a part asks something of its site

own_of_up : (c : PairControl) (a b : Part) (s : ℕ) → a.sites s ≡ true → (whole_pair c a b).sites s ≡ true
own_of_up c a b s h = pair_sites c a b s ∙ own_up (a.sites s) (b.sites s) h

own_of_down : (c : PairControl) (a b : Part) (s : ℕ) → b.sites s ≡ true → (whole_pair c a b).sites s ≡ true
own_of_down c a b s h = pair_sites c a b s ∙ own_down (a.sites s) (b.sites s) h

-- it is out then
out_of : (place : ℕ → Place) (m : NodeMove) (p q : Part) → AsksSite m → GoesNode place m p q → IsOutAt q.at q.sites
out_of place (Emit d) p q x h = absurd x
out_of place Need p q x h = absurd x
out_of place (Acquire s) p q x h = rw h.acts.is_at h.own
out_of place (Read s d) p q x h = rw h.is_at h.own
out_of place (Write s d c) p q x h = rw h.acts.is_at tt
out_of place (Release t) p q x h = rw h.acts.is_at tt
out_of place (Done v r) p q x h = absurd x
out_of place (Fault f) p q x h = absurd x

pub does_up : (place : ℕ → Place) (m : NodeMove) (p : Part) (c : PairControl) (a q b : Part) → AsksSite m → pair_fits Upper c a b → IsSound b → Same p (whole_pair c a b) → GoesNode place m a q → Kept a q
    → GoesNode place m p (seen_pair c (Some Upper) q b) × IsPlaced (Some Upper) c q b
does_up place (Emit d) p c a q b x f l e h k = absurd x
does_up place Need p c a q b x f l e h k = absurd x
does_up place (Done v r) p c a q b x f l e h k = absurd x
does_up place (Fault y) p c a q b x f l e h k = absurd x
does_up place (Acquire s) p c a q b x f l e h k = (
  record {
    own = own_of_up c q b s.0 h.own;
    file = h.file;
    acts = record { is_at = h.acts.is_at; goes = after_acts _ p (whole_pair c a b) (whole_pair c q b) e (pair_pass_up c a b q (Open s.0 ∷ []) f h.acts.goes) };
  },
  (pair_fits_up c a b q _ h.acts.goes k f, out_of place (Acquire s) a q tt h),
)
does_up place (Read s d) p c a q b x f l e h k =
    let g = pair_fits_up c a b q _ h.goes k f in (
      record {
        is_at = h.is_at;
        own = own_of_up c q b s.0 h.own;
        readable = reads_by (place s.0) d.0 _ _ (pair_has_up c q b s.0 d.0) h.readable;
        goes = after_acts _ p (whole_pair c a b) (whole_pair c q b) e (pair_pass_up c a b q [] f h.goes);
        stops = λ z mark y e1 e2. pair_stuck_up c q b y z g (h.stops z mark y e1 e2);
      },
      (g, out_of place (Read s d) a q tt h),
    )
does_up place (Write s n d) p c a q b x f l e h k = (
  record {
    own = own_of_up c q b s.0 h.own;
    writable = writes_by (place s.0) n.0 _ _ (pair_has_up c q b s.0 n.0) h.writable;
    bytes = h.bytes;
    some = h.some;
    acts = record { is_at = h.acts.is_at; goes = after_acts _ p (whole_pair c a b) (whole_pair c q b) e (pair_pass_up c a b q (map (Put s.0) d.1) f h.acts.goes) };
  },
  (pair_fits_up c a b q _ h.acts.goes k f, out_of place (Write s n d) a q tt h),
)
does_up place (Release t) p c a q b x f l e h k = (
  record {
    own = own_of_up c q b t.site.0 h.own;
    live = e.kept.5 t.site.0 t.descriptor.0 (pair_has_up c a b t.site.0 t.descriptor.0 h.live);
    gone = λ d. pair_tickets c q b t.site.0 d ∙ neither (q.tickets t.site.0 d) (b.tickets t.site.0 d) (h.gone d) (none_here b t.site.0 l (pair_apart_up c a b f t.site.0 (subst (λ y. y t.site.0 ≡ true) k.1 h.own)) d);
    acts = record { is_at = h.acts.is_at; goes = after_acts _ p (whole_pair c a b) (whole_pair c q b) e (pair_pass_up c a b q (Close t.site.0 ∷ []) f h.acts.goes) };
  },
  (pair_fits_up c a b q _ h.acts.goes k f, out_of place (Release t) a q tt h),
)

pub does_down : (place : ℕ → Place) (m : NodeMove) (p : Part) (c : PairControl) (a b q : Part) → AsksSite m → pair_fits Lower c a b → IsSound a → Same p (whole_pair c a b) → GoesNode place m b q → Kept b q
    → GoesNode place m p (seen_pair c (Some Lower) a q) × IsPlaced (Some Lower) c a q
does_down place (Emit d) p c a b q x f l e h k = absurd x
does_down place Need p c a b q x f l e h k = absurd x
does_down place (Done v r) p c a b q x f l e h k = absurd x
does_down place (Fault y) p c a b q x f l e h k = absurd x
does_down place (Acquire s) p c a b q x f l e h k = (
  record {
    own = own_of_down c a q s.0 h.own;
    file = h.file;
    acts = record { is_at = h.acts.is_at; goes = after_acts _ p (whole_pair c a b) (whole_pair c a q) e (pair_pass_down c a b q (Open s.0 ∷ []) f h.acts.goes) };
  },
  (pair_fits_down c a b q _ h.acts.goes k f, out_of place (Acquire s) b q tt h),
)
does_down place (Read s d) p c a b q x f l e h k =
    let g = pair_fits_down c a b q _ h.goes k f in (
      record {
        is_at = h.is_at;
        own = own_of_down c a q s.0 h.own;
        readable = reads_by (place s.0) d.0 _ _ (pair_has_down c a q s.0 d.0) h.readable;
        goes = after_acts _ p (whole_pair c a b) (whole_pair c a q) e (pair_pass_down c a b q [] f h.goes);
        stops = λ z mark y e1 e2. pair_stuck_down c a q y z g (h.stops z mark y e1 e2);
      },
      (g, out_of place (Read s d) b q tt h),
    )
does_down place (Write s n d) p c a b q x f l e h k = (
  record {
    own = own_of_down c a q s.0 h.own;
    writable = writes_by (place s.0) n.0 _ _ (pair_has_down c a q s.0 n.0) h.writable;
    bytes = h.bytes;
    some = h.some;
    acts = record { is_at = h.acts.is_at; goes = after_acts _ p (whole_pair c a b) (whole_pair c a q) e (pair_pass_down c a b q (map (Put s.0) d.1) f h.acts.goes) };
  },
  (pair_fits_down c a b q _ h.acts.goes k f, out_of place (Write s n d) b q tt h),
)
does_down place (Release t) p c a b q x f l e h k = (
  record {
    own = own_of_down c a q t.site.0 h.own;
    live = e.kept.5 t.site.0 t.descriptor.0 (pair_has_down c a b t.site.0 t.descriptor.0 h.live);
    gone = λ d. pair_tickets c a q t.site.0 d ∙ neither (a.tickets t.site.0 d) (q.tickets t.site.0 d) (none_here a t.site.0 l (apart_other a.sites b.sites (pair_apart_down c a b f) t.site.0 (subst (λ y. y t.site.0 ≡ true) k.1 h.own)) d) (h.gone d);
    acts = record { is_at = h.acts.is_at; goes = after_acts _ p (whole_pair c a b) (whole_pair c a q) e (pair_pass_down c a b q (Close t.site.0 ∷ []) f h.acts.goes) };
  },
  (pair_fits_down c a b q _ h.acts.goes k f, out_of place (Release t) b q tt h),
)

-- One turn of the loop.
use Rattle.std.proofs.Common.{◌≡◌, ◌<◌, ℕ, Option, Some, None, refl, sym, subst}
use Rattle.cd_meaning.specs.Places.{Place}
use Rattle.cd_step.specs.declared.protocol.Input.{Input}
use Rattle.cd_step.specs.declared.protocol.Move.{Move}
use Rattle.cd_step.specs.declared.protocol.Move.TheVariants.{Emit, Need, Done, Fault as Faulted}
use Rattle.cd_step.specs.declared.control.Side.{Side}
use Rattle.cd_step.specs.declared.control.Side.TheVariants.{Upper, Lower}
use Rattle.cd_step.specs.declared.control.Turn.{Turn}
use Rattle.cd_step.specs.declared.control.Turn.TheVariants.{Up as PlainUp, Down as PlainDown}
use Rattle.cd_step.specs.declared.control.Flow.{Flow}
use Rattle.cd_step.specs.declared.control.Flow.TheVariants.{Again, Return, Finish, Glue}
use Rattle.cd_step.specs.Parts.{Part, Goes, Kept, IsHeld, IsSound, Answers, fed}
use Rattle.cd_step.specs.Flows.{Same, Says, TurnLaw, FlowLaw}
use Rattle.cd_step.proofs.Moving.{goes_after, same_after, kept_none, kept_after}
use Rattle.cd_step.proofs.Outs.{not_out}
use Rattle.cd_node.specs.Controls.{whole_pair, pair_is_at, pair_fits, pair_left, seen_pair, IsPlaced}
use Rattle.cd_node.specs.Nodes.{AnswersNode, fed_node}
use Rattle.cd_node.specs.PlainWords.{node_input, node_move, IsPlain, AsksSite}
use Rattle.cd_node.specs.Turns.{node_turn, turn_of, IsReady, turned, NodeTurnLaw, node_turns_left, StepsOn, Passed, TurnedLaw}
use Rattle.cd_node.specs.declared.control.PairControl.{PairControl}
use Rattle.cd_node.specs.declared.protocol.NodeInput.{NodeInput}
use Rattle.cd_node.specs.declared.protocol.NodeInput.TheVariants as given
use Rattle.cd_node.specs.declared.protocol.NodeMove.{NodeMove}
use Rattle.cd_node.specs.declared.turn.NodeTurn.{NodeTurn}
use Rattle.cd_node.specs.declared.turn.NodeTurn.TheVariants.{Up, Down}
use Rattle.cd_node.specs.declared.turn.Turned.{Turned}
use Rattle.cd_node.specs.declared.turn.Turned.TheVariants.{Went, Asks}
use Rattle.cd_node.proofs.Controls.{pair_kept_up, pair_kept_down, pair_held_up, pair_held_down, stand_at}
use Rattle.cd_node.proofs.PlainWords.{answers_plain, answers_node, fed_plain, goes_plain, stand_plain}
use Rattle.cd_node.proofs.Passing.{site_up, site_down, does_up, does_down}

says_after : (m : Move) (p q r : Part) → Same p q → Says m q r → Says m p r
says_after (Emit d) p q r s h = goes_after (Emit d) p q r s h
says_after Need p q r s h = goes_after Need p q r s h
says_after (Done v x) p q r s h = absurd h
says_after (Faulted x) p q r s h = goes_after (Faulted x) p q r s h

-- what is owed behind a silent move is owed before it
flow_after : (p q : Part) (n : ℕ) (c : PairControl) (f : Flow) (a b : Part) → Same p q → FlowLaw whole_pair pair_is_at pair_fits pair_left q n c f a b → FlowLaw whole_pair pair_is_at pair_fits pair_left p n c f a b
flow_after p q n c (Again (PlainUp i)) a b s h = ((h.0.0, h.0.1, same_after p q (whole_pair c (fed i a) b) s h.0.2), h.1)
flow_after p q n c (Again (PlainDown i)) a b s h = ((h.0.0, h.0.1, same_after p q (whole_pair c a (fed i b)) s h.0.2), h.1)
flow_after p q n c (Return m) a b s h = (says_after m p q (whole_pair c a b) s h.0, h.1, kept_after p q (whole_pair c a b) s.kept h.2, h.3)
flow_after p q n c (Finish m f) a b s h = (
  h.0,
  λ w r a' b' e l ra rb. let k = h.1 w r a' b' e l ra rb in (goes_after (Done w r) p q (whole_pair c a' b') s k.0, k.1, kept_after p q (whole_pair c a' b') s.kept k.2, k.3),
  kept_after p q (whole_pair c a b) s.kept h.2,
  h.3,
)
flow_after p q n c (Glue x y) a b s h = (h.0, h.1, λ d g. goes_after (Emit d) p q (whole_pair c a b) s (h.2 d g), h.3, kept_after p q (whole_pair c a b) s.kept h.4, h.5)

-- ---- a part has made a plain move, and the controller has heard of it

pub up_went : (p : Part) (t : NodeTurn) (i : NodeInput) (c c' : PairControl) (f : Flow) (stands : (ℕ → Place) → Type 0) (n : NodeMove) (m : Move) (a b q : Part)
    → t ≡ Up i → IsReady t c a b → Same p (turned t c a b) → StepsOn stands n (fed_node i a) q → n ≡ node_move m
    → (pair_fits Upper c (fed_node i a) b → Goes m (fed_node i a) q → FlowLaw whole_pair pair_is_at pair_fits pair_left (whole_pair c (fed_node i a) b) (pair_left Upper c (fed_node i a) b) c' f q b)
    → FlowLaw whole_pair pair_is_at pair_fits pair_left p (node_turns_left t c a b) c' f q b
up_went p t i c c' f stands n m a b q e r s h d k =
    let r1 = subst (λ x. IsReady x c a b) e r in
    let s1 = subst (λ x. Same p (turned x c a b)) e s in
    let g = goes_plain h.some.0 m (fed_node i a) q (let y = h.some.1 in rw d at y) in
    subst (λ x. FlowLaw whole_pair pair_is_at pair_fits pair_left p (node_turns_left x c a b) c' f q b) (sym e)
    (flow_after p (whole_pair c (fed_node i a) b) (pair_left Upper c (fed_node i a) b) c' f q b s1 (k r1.1 g))

pub down_went : (p : Part) (t : NodeTurn) (i : NodeInput) (c c' : PairControl) (f : Flow) (stands : (ℕ → Place) → Type 0) (n : NodeMove) (m : Move) (a b q : Part)
    → t ≡ Down i → IsReady t c a b → Same p (turned t c a b) → StepsOn stands n (fed_node i b) q → n ≡ node_move m
    → (pair_fits Lower c a (fed_node i b) → Goes m (fed_node i b) q → FlowLaw whole_pair pair_is_at pair_fits pair_left (whole_pair c a (fed_node i b)) (pair_left Lower c a (fed_node i b)) c' f a q)
    → FlowLaw whole_pair pair_is_at pair_fits pair_left p (node_turns_left t c a b) c' f a q
down_went p t i c c' f stands n m a b q e r s h d k =
    let r1 = subst (λ x. IsReady x c a b) e r in
    let s1 = subst (λ x. Same p (turned x c a b)) e s in
    let g = goes_plain h.some.0 m (fed_node i b) q (let y = h.some.1 in rw d at y) in
    subst (λ x. FlowLaw whole_pair pair_is_at pair_fits pair_left p (node_turns_left x c a b) c' f a q) (sym e)
    (flow_after p (whole_pair c a (fed_node i b)) (pair_left Lower c a (fed_node i b)) c' f a q s1 (k r1.1 g))

-- ---- a part was refused: the whole is what it was, holds what its room allows, and has no other ticket

pub up_lost : (t : NodeTurn) (i : NodeInput) (c : PairControl) (a b q : Part) → t ≡ Up i → IsReady t c a b → Kept (fed_node i a) q → IsHeld q → Kept (turned t c a b) (whole_pair c q b) × IsHeld (whole_pair c q b)
up_lost t i c a b q e r k y =
    let r1 = subst (λ x. IsReady x c a b) e r in
    (subst (λ x. Kept (turned x c a b) (whole_pair c q b)) (sym e) (pair_kept_up c (fed_node i a) q b k), pair_held_up c (fed_node i a) q b r1.1 k y)

pub down_lost : (t : NodeTurn) (i : NodeInput) (c : PairControl) (a b q : Part) → t ≡ Down i → IsReady t c a b → Kept (fed_node i b) q → IsHeld q → Kept (turned t c a b) (whole_pair c a q) × IsHeld (whole_pair c a q)
down_lost t i c a b q e r k y =
    let r1 = subst (λ x. IsReady x c a b) e r in
    (subst (λ x. Kept (turned x c a b) (whole_pair c a q)) (sym e) (pair_kept_down c a (fed_node i b) q k), pair_held_down c a (fed_node i b) q r1.1 y)

-- ---- a part asks something of its site

pub up_asks : (p : Part) (t : NodeTurn) (i : NodeInput) (c : PairControl) (stands stands' : (ℕ → Place) → Type 0) (n m : NodeMove) (a b q : Part)
    → t ≡ Up i → IsReady t c a b → Same p (turned t c a b) → StepsOn stands n (fed_node i a) q → m ≡ n → AsksSite n → ((place : ℕ → Place) → stands' place → stands place)
    → Kept (fed_node i a) q → IsHeld q → IsSound b → Passed stands' p m Upper c q b
up_asks p t i c stands stands' n m a b q e r s h d x w k y l =
    let r1 = subst (λ x. IsReady x c a b) e r in
    let s1 = subst (λ x. Same p (turned x c a b)) e s in
    let o = up_lost t i c a b q e r k y in
    let g = does_up h.some.0 n p c (fed_node i a) q b x r1.1 l s1 h.some.1 k in
    rw d (record {
      goes = record { some = (h.some.0, g.0); all = λ place z. (does_up place n p c (fed_node i a) q b x r1.1 l s1 (h.all place (w place z)) k).0 };
      placed = g.1;
      kept = kept_after p (turned t c a b) (whole_pair c q b) s.kept o.0;
      held = o.1;
    })

pub down_asks : (p : Part) (t : NodeTurn) (i : NodeInput) (c : PairControl) (stands stands' : (ℕ → Place) → Type 0) (n m : NodeMove) (a b q : Part)
    → t ≡ Down i → IsReady t c a b → Same p (turned t c a b) → StepsOn stands n (fed_node i b) q → m ≡ n → AsksSite n → ((place : ℕ → Place) → stands' place → stands place)
    → Kept (fed_node i b) q → IsHeld q → IsSound a → Passed stands' p m Lower c a q
down_asks p t i c stands stands' n m a b q e r s h d x w k y l =
    let r1 = subst (λ x. IsReady x c a b) e r in
    let s1 = subst (λ x. Same p (turned x c a b)) e s in
    let o = down_lost t i c a b q e r k y in
    let g = does_down h.some.0 n p c a (fed_node i b) q x r1.1 l s1 h.some.1 k in
    rw d (record {
      goes = record { some = (h.some.0, g.0); all = λ place z. (does_down place n p c a (fed_node i b) q x r1.1 l s1 (h.all place (w place z)) k).0 };
      placed = g.1;
      kept = kept_after p (turned t c a b) (whole_pair c a q) s.kept o.0;
      held = o.1;
    })

-- the same where the sites are looked at from further back
pub steps_by : (stands stands' : (ℕ → Place) → Type 0) (m : NodeMove) (p q : Part) → ((place : ℕ → Place) → stands' place → stands place) → StepsOn stands m p q → StepsOn stands' m p q
steps_by stands stands' m p q w h = record { some = h.some; all = λ place z. h.all place (w place z) }

-- ---- the first turn

pub none_plain : (i : NodeInput) (out : Option Side) (c : PairControl) (a b : Part) → AnswersNode (seen_pair c out a b) i → out ≡ None → IsPlain i
none_plain i out c a b h e = let s = stand_at c a b in stand_plain i (whole_pair c a b) s.0 s.1 (subst (λ o. AnswersNode (seen_pair c o a b) i) e h)

pub turn_law : (p : Part) (t : Turn) (c : PairControl) (a b : Part) → TurnLaw whole_pair pair_fits p t c a b → NodeTurnLaw p (node_turn t) c a b
turn_law p (PlainUp i) c a b h = rw (fed_plain i a) ((answers_node a i h.0, h.1), h.2)
turn_law p (PlainDown i) c a b h = rw (fed_plain i b) ((answers_node b i h.0, h.1), h.2)

pub again_law : (p : Part) (n : ℕ) (c : PairControl) (t : Turn) (a b : Part) → FlowLaw whole_pair pair_is_at pair_fits pair_left p n c (Again t) a b → NodeTurnLaw p (node_turn t) c a b × (node_turns_left (node_turn t) c a b < n)
again_law p n c (PlainUp i) a b h = (turn_law p (PlainUp i) c a b h.0, rw (fed_plain i a) h.1)
again_law p n c (PlainDown i) a b h = (turn_law p (PlainDown i) c a b h.0, rw (fed_plain i b) h.1)

not_out_plain : (i : Input) (out : Option Side) (c : PairControl) (a b : Part) → IsPlaced out c a b → Answers (seen_pair c out a b) i → out ≡ None
not_out_plain i None c a b f h = refl
not_out_plain i (Some Upper) c a b f h = absurd (not_out i a.at a.sites _ f.1 h)
not_out_plain i (Some Lower) c a b f h = absurd (not_out i b.at b.sites _ f.1 h)

-- the controller begins
pub first_plain : (j : NodeInput) (i : Input) (out : Option Side) (c c' : PairControl) (t : NodeTurn) (a b : Part) → j ≡ node_input i → IsPlaced out c a b → AnswersNode (seen_pair c out a b) j
    → (pair_is_at c a b → Answers (whole_pair c a b) i → NodeTurnLaw (fed i (whole_pair c a b)) t c' a b) → NodeTurnLaw (fed_node j (seen_pair c out a b)) t c' a b
first_plain j i out c c' t a b e f h g =
    let h1 = answers_plain (seen_pair c out a b) i (subst (AnswersNode (seen_pair c out a b)) e h) in
    let k = not_out_plain i out c a b f h1 in
    rw (e, fed_plain i (seen_pair c out a b)) (subst (λ x. NodeTurnLaw (fed i (seen_pair c x a b)) t c' a b) (sym k) (g (subst (λ x. IsPlaced x c a b) k f) (subst (λ x. Answers (seen_pair c x a b) i) k h1)))

-- the answer of a site goes to the part that is out
pub first_site : (j k : NodeInput) (side : Side) (out : Option Side) (t : NodeTurn) (c : PairControl) (a b : Part) → out ≡ Some side → t ≡ turn_of side k → k ≡ j → (IsPlain j → ⊥) → IsSound a → IsSound b → IsPlaced out c a b
    → AnswersNode (seen_pair c out a b) j → NodeTurnLaw (fed_node j (seen_pair c out a b)) t c a b
first_site j k side out t c a b e g d x la lb f n =
    rw (g, d) (subst (λ o. NodeTurnLaw (fed_node j (seen_pair c o a b)) (turn_of side j) c a b) (sym e) (by side (subst (λ o. IsPlaced o c a b) e f) (subst (λ o. AnswersNode (seen_pair c o a b) j) e n))) where
      by : (s : Side) → IsPlaced (Some s) c a b → AnswersNode (seen_pair c (Some s) a b) j → NodeTurnLaw (fed_node j (seen_pair c (Some s) a b)) (turn_of s j) c a b
      by Upper f n = site_up j c a b x f lb n
      by Lower f n = site_down j c a b x f la n

-- the first copy was refused: the controller is as it was
pub first_lost : (j : NodeInput) (out : Option Side) (c c' : PairControl) (a b : Part) → IsPlain j → c' ≡ c → IsHeld (seen_pair c out a b) → Kept (fed_node j (seen_pair c out a b)) (whole_pair c' a b) × IsHeld (whole_pair c' a b)
first_lost j out c c' a b n e h = rw e (kept_plain j out n, held_none out h) where
  none_kept : (o : Option Side) → Kept (seen_pair c o a b) (whole_pair c a b)
  none_kept None = kept_none (whole_pair c a b)
  none_kept (Some Upper) = kept_none (whole_pair c a b)
  none_kept (Some Lower) = kept_none (whole_pair c a b)

  kept_plain : (j : NodeInput) (o : Option Side) → IsPlain j → Kept (fed_node j (seen_pair c o a b)) (whole_pair c a b)
  kept_plain given.Start o n = none_kept o
  kept_plain (given.Chunk d) o n = none_kept o
  kept_plain given.End o n = none_kept o
  kept_plain given.Next o n = none_kept o
  kept_plain (given.Acquired t) o n = absurd n
  kept_plain (given.Gave d) o n = absurd n
  kept_plain given.GaveEnd o n = absurd n
  kept_plain given.Wrote o n = absurd n
  kept_plain given.Closed o n = absurd n

  held_none : (o : Option Side) → IsHeld (seen_pair c o a b) → IsHeld (whole_pair c a b)
  held_none None h = h
  held_none (Some Upper) h = h
  held_none (Some Lower) h = h

-- ---- what a turn came to

pub went_flow : (stands : (ℕ → Place) → Type 0) (p : Part) (n : ℕ) (c : PairControl) (t : Turned) (f g : Flow) (a b : Part) → t ≡ Went f → f ≡ g → TurnedLaw stands p n c t a b → FlowLaw whole_pair pair_is_at pair_fits pair_left p n c g a b
went_flow stands p n c t f g a b e h l = subst (λ x. FlowLaw whole_pair pair_is_at pair_fits pair_left p n c x a b) h (subst (λ x. TurnedLaw stands p n c x a b) e l)

pub went_again : (stands : (ℕ → Place) → Type 0) (p : Part) (n : ℕ) (c : PairControl) (t : Turned) (f : Flow) (next : Turn) (d : NodeTurn) (a b : Part) → t ≡ Went f → f ≡ Again next → d ≡ node_turn next → TurnedLaw stands p n c t a b
    → NodeTurnLaw p d c a b × (node_turns_left d c a b < n)
went_again stands p n c t f next d a b e h k l =
    subst (λ x. NodeTurnLaw p x c a b × (node_turns_left x c a b < n)) (sym k) (again_law p n c next a b (went_flow stands p n c t f (Again next) a b e h l))

pub turn_asks : (stands : (ℕ → Place) → Type 0) (p : Part) (n : ℕ) (c : PairControl) (t : Turned) (side : Side) (m : NodeMove) (a b : Part) → t ≡ Asks side m → TurnedLaw stands p n c t a b → Passed stands p m side c a b
turn_asks stands p n c t side m a b e l = subst (λ x. TurnedLaw stands p n c x a b) e l

pub begun : (p : Part) (t : Turn) (d : NodeTurn) (c : PairControl) (a b : Part) → d ≡ node_turn t → TurnLaw whole_pair pair_fits p t c a b → NodeTurnLaw p d c a b
begun p t d c a b e h = subst (λ x. NodeTurnLaw p x c a b) (sym e) (turn_law p t c a b h)

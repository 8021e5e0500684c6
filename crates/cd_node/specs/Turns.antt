-- A turn of a whole: one of its parts takes something in and moves.
use Rattle.std.specs.Prelude.{◌≡◌, ℕ, Option, Some}
use Rattle.cd_elem.specs.declared.value.Value.{Value as Result}
use Rattle.cd_meaning.specs.Places.{Place}
use Rattle.cd_meaning.specs.Values.{value_meaning}
use Rattle.cd_step.specs.declared.control.Side.{Side}
use Rattle.cd_step.specs.declared.control.Side.TheVariants.{Upper, Lower}
use Rattle.cd_step.specs.declared.control.Turn.{Turn}
use Rattle.cd_step.specs.declared.control.Turn.TheVariants.{Up as PlainUp, Down as PlainDown}
use Rattle.cd_step.specs.declared.control.Made.{Made}
use Rattle.cd_step.specs.declared.control.Found.{Found}
use Rattle.cd_step.specs.Parts.{Chunk, Part, Kept, IsHeld}
use Rattle.cd_step.specs.Flows.{Same, FlowLaw, Retires, made_of, picked}
use Rattle.cd_node.specs.Nodes.{AnswersNode, GoesNode, fed_node}
use Rattle.cd_node.specs.PlainWords.{node_input}
use Rattle.cd_node.specs.Controls.{whole_pair, pair_is_at, pair_fits, pair_left, seen_pair, IsPlaced}
use Rattle.cd_node.specs.declared.control.PairControl.{PairControl}
use Rattle.cd_node.specs.declared.protocol.NodeInput.{NodeInput}
use Rattle.cd_node.specs.declared.protocol.NodeMove.{NodeMove}
use Rattle.cd_node.specs.declared.protocol.NodeMove.TheVariants.{Done}
use Rattle.cd_node.specs.declared.turn.NodeTurn.{NodeTurn}
use Rattle.cd_node.specs.declared.turn.NodeTurn.TheVariants.{Up, Down}
use Rattle.cd_node.specs.declared.turn.Turned.{Turned}
use Rattle.cd_node.specs.declared.turn.Turned.TheVariants.{Went, Asks}

abbrev pub node_turn : Turn → NodeTurn
node_turn (PlainUp i) = Up (node_input i)
node_turn (PlainDown i) = Down (node_input i)

abbrev pub turn_of : Side → NodeInput → NodeTurn
turn_of Upper i = Up i
turn_of Lower i = Down i

-- the part takes its input in, and goes on for the whole
abbrev pub IsReady : NodeTurn → PairControl → Part → Part → Type 0
IsReady (Up i) c a b = AnswersNode a i × pair_fits Upper c (fed_node i a) b
IsReady (Down i) c a b = AnswersNode b i × pair_fits Lower c a (fed_node i b)

-- the whole once the part has taken it in
abbrev pub turned : NodeTurn → PairControl → Part → Part → Part
turned (Up i) c a b = whole_pair c (fed_node i a) b
turned (Down i) c a b = whole_pair c a (fed_node i b)

-- p goes on by this turn
abbrev pub NodeTurnLaw : Part → NodeTurn → PairControl → Part → Part → Type 0
NodeTurnLaw p t c a b = IsReady t c a b × Same p (turned t c a b)

abbrev pub node_turns_left : NodeTurn → PairControl → Part → Part → ℕ
node_turns_left (Up i) c a b = pair_left Upper c (fed_node i a) b
node_turns_left (Down i) c a b = pair_left Lower c a (fed_node i b)

-- ---- moves, wherever the sites stand

-- The move is the next step of p where the sites have places of these, and for some places in any case. Moves without
-- sites are the same for all.
pub record StepsOn (stands : (ℕ → Place) → Type 0) (m : NodeMove) (p q : Part) : Type 0 where
  pub some : (place : ℕ → Place) × GoesNode place m p q
  pub all : (place : ℕ → Place) → stands place → GoesNode place m p q

-- a part's move at a site is the whole's, and the part is out
pub record Passed (stands : (ℕ → Place) → Type 0) (p : Part) (m : NodeMove) (side : Side) (c : PairControl) (a b : Part) : Type 0 where
  pub goes : StepsOn stands m p (seen_pair c (Some side) a b)
  pub placed : IsPlaced (Some side) c a b
  pub kept : Kept p (seen_pair c (Some side) a b)
  pub held : IsHeld (seen_pair c (Some side) a b)

abbrev pub TurnedLaw : ((ℕ → Place) → Type 0) → Part → ℕ → PairControl → Turned → Part → Part → Type 0
TurnedLaw stands p n c (Went f) a b = FlowLaw whole_pair pair_is_at pair_fits pair_left p n c f a b
TurnedLaw stands p n c (Asks side m) a b = Passed stands p m side c a b

-- ---- the end of a whole

-- both parts are retired, and the move has the value and what is given back
pub record Ended (made : Made) (found : Found) (m : NodeMove) (a b a' b' : Part) : Type 0 where
  pub value : Result
  pub up : Option Chunk
  pub down : Option Chunk
  pub is : m ≡ Done value (picked found up down)
  pub means : value_meaning value ≡ made_of made
  pub upper : Retires a up a'
  pub lower : Retires b down b'

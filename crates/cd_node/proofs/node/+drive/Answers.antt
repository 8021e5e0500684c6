use Rattle.std.proofs.Common.{◌≡◌, refl, subst, Some, arith}
use Rattle.cd_step.proofs.Moving.{says_goes, kept_after}
use Rattle.cd_step.specs.declared.protocol.Move.TheVariants.{Emit}
use Rattle.cd_node.specs.Controls.{seen_pair, whole_pair}
use Rattle.cd_node.specs.Marks.{MarkTurnLaw, MarksPlace, OwnMoveLaw, whole_mark}
use Rattle.cd_node.specs.Nodes.{fed_node}
use Rattle.cd_node.specs.Trees.{BothStand, StandsAt, height, seen}
use Rattle.cd_node.specs.Turns.{IsReady, node_turns_left, turned}
use Rattle.cd_step.specs.declared.control.Flow.TheVariants.{Return, Finish, Glue}
use Rattle.cd_node.proofs.Ending.{finished}
use Rattle.cd_node.proofs.Marked.{body_steps, own_steps}
use Rattle.cd_node.proofs.PlainWords.{steps_plain}
use Rattle.cd_node.proofs.Trees.{node_sound, same_node, same_behind}
use Rattle.cd_node.proofs.Turning.{up_went, down_went, up_asks, down_asks, steps_by, first_lost, went_again, went_flow, turn_asks}
use Rattle.cd_node.proofs.WordStages.{word_same}
use Rattle.cd_node.proofs.Words.{word_law, source_law, sink_law}
use Rattle.cd_node.proofs.node.+drive.Goals as goal

pub Node::advance-returns-in_ok-made-in-Word-clause-law : goal.Node::advance-returns-in_ok-made-in-Word-clause-law
Node::advance-returns-in_ok-made-in-Word-clause-law t c =
    word_law c.args.self.now c.in-Word.stage c.step.new.self c.args.input c.plain.result c.in_ok-made-in-Word.made c.node_move.result c.in-Word.is c.plain.ensures c.node_move.ensures c.in_ok-made-in-Word.ensures.law

pub Node::advance-returns-in_ok-made-in-Word-clause-same : goal.Node::advance-returns-in_ok-made-in-Word-clause-same
Node::advance-returns-in_ok-made-in-Word-clause-same t c =
    word_same c.args.self.now c.in-Word.stage c.step.new.self c.plain.result c.in-Word.is c.in_ok-made-in-Word.ensures.kept

pub Node::advance-returns-in_err-made-in-Word-clause-same : goal.Node::advance-returns-in_err-made-in-Word-clause-same
Node::advance-returns-in_err-made-in-Word-clause-same t c =
    word_same c.args.self.now c.in-Word.stage c.step.new.self c.plain.result c.in-Word.is c.in_err-made-in-Word.ensures.kept

pub Node::advance-returns-in_ok-made-in-Source-clause-law : goal.Node::advance-returns-in_ok-made-in-Source-clause-law
Node::advance-returns-in_ok-made-in-Source-clause-law t c =
    source_law c.args.self.now c.in-Source.source c.step-in-Source.new.self c.args.input c.in_ok-made-in-Source.made c.in-Source.is (λ place h. c.in_ok-made-in-Source.ensures.law place h)

pub Node::advance-returns-in_ok-made-in-Sink-clause-law : goal.Node::advance-returns-in_ok-made-in-Sink-clause-law
Node::advance-returns-in_ok-made-in-Sink-clause-law t c =
    sink_law c.args.self.now c.in-Sink.sink c.step-in-Sink.new.self c.args.input c.in_ok-made-in-Sink.made c.in-Sink.is (λ place h. c.in_ok-made-in-Sink.ensures.law place h)

pub drive-returns-in_err-turn-clause-kept : goal.drive-returns-in_err-turn-clause-kept
drive-returns-in_err-turn-clause-kept t c =
    (first_lost c.args.input c.args.out.now c.args.control.now c.first.new.control (seen c.args.a.now) (seen c.args.b.now) c.in_err-turn.ensures.lost.1 c.in_err-turn.ensures.lost.0 c.requires.held).0

pub drive-turns-init : goal.drive-turns-init
drive-turns-init t c = record {
  well_a = c.requires.a;
  well_b = c.requires.b;
  same_a = same_node c.args.a.now;
  same_b = same_node c.args.b.now;
  turn_is = c.in_ok-turn.ensures.law (seen c.args.a.now) (seen c.args.b.now) (node_sound c.args.a.now c.requires.a) (node_sound c.args.b.now c.requires.b) c.requires.at c.requires.answers;
  out_is = refl;
}

pub drive-take_turn-requires : goal.drive-take_turn-requires
drive-take_turn-requires t c =
    let h : height c.turns.a ≡ height c.args.a.now = c.turns.invariant.same_a.height in
    let k : height c.turns.b ≡ height c.args.b.now = c.turns.invariant.same_b.height in
    let d = c.decreases in
    (omega (arith, h, k, d), (c.turns.invariant.well_a, (c.turns.invariant.well_b, c.turns.invariant.turn_is.0)))

pub drive-returns-in_err-flow-clause-kept : goal.drive-returns-in_err-flow-clause-kept
drive-returns-in_err-flow-clause-kept t c =
    rw c.turns.invariant.out_is (kept_after (fed_node c.args.input (seen_pair c.args.control.now c.args.out.now (seen c.args.a.now) (seen c.args.b.now))) (turned c.turns.turn c.turns.control (seen c.turns.a) (seen c.turns.b)) (whole_pair c.take_turn.new.control (seen c.take_turn.new.a) (seen c.take_turn.new.b)) c.turns.invariant.turn_is.1.kept c.in_err-flow.ensures.lost.0)

pub drive-returns-in_err-flow-clause-same_a : goal.drive-returns-in_err-flow-clause-same_a
drive-returns-in_err-flow-clause-same_a t c =
    same_behind c.args.a.now c.turns.a c.take_turn.new.a c.turns.invariant.same_a c.in_err-flow.ensures.same_a

pub drive-returns-in_err-flow-clause-same_b : goal.drive-returns-in_err-flow-clause-same_b
drive-returns-in_err-flow-clause-same_b t c =
    same_behind c.args.b.now c.turns.b c.take_turn.new.b c.turns.invariant.same_b c.in_err-flow.ensures.same_b

pub drive-returns-in-Asks-clause-law : goal.drive-returns-in-Asks-clause-law
drive-returns-in-Asks-clause-law t c =
    steps_by (BothStand c.turns.a c.turns.b) (BothStand c.args.a.now c.args.b.now) c.in-Asks.made (fed_node c.args.input (seen_pair c.args.control.now c.args.out.now (seen c.args.a.now) (seen c.args.b.now))) (seen_pair c.take_turn.new.control (Some c.in-Asks.side) (seen c.take_turn.new.a) (seen c.take_turn.new.b))
    (λ place h. (c.turns.invariant.same_a.places place h.0, c.turns.invariant.same_b.places place h.1)) (turn_asks (BothStand c.turns.a c.turns.b) (fed_node c.args.input (seen_pair c.args.control.now c.args.out.now (seen c.args.a.now) (seen c.args.b.now))) (node_turns_left c.turns.turn c.turns.control (seen c.turns.a) (seen c.turns.b)) c.take_turn.new.control c.in_ok-flow.field-0 c.in-Asks.side c.in-Asks.made (seen c.take_turn.new.a) (seen c.take_turn.new.b) c.in-Asks.is (c.in_ok-flow.ensures.law (fed_node c.args.input (seen_pair c.args.control.now c.args.out.now (seen c.args.a.now) (seen c.args.b.now))) c.turns.invariant.turn_is.1)).goes

pub drive-returns-in-Asks-clause-at : goal.drive-returns-in-Asks-clause-at
drive-returns-in-Asks-clause-at t c =
    (turn_asks (BothStand c.turns.a c.turns.b) (fed_node c.args.input (seen_pair c.args.control.now c.args.out.now (seen c.args.a.now) (seen c.args.b.now))) (node_turns_left c.turns.turn c.turns.control (seen c.turns.a) (seen c.turns.b)) c.take_turn.new.control c.in_ok-flow.field-0 c.in-Asks.side c.in-Asks.made (seen c.take_turn.new.a) (seen c.take_turn.new.b) c.in-Asks.is (c.in_ok-flow.ensures.law (fed_node c.args.input (seen_pair c.args.control.now c.args.out.now (seen c.args.a.now) (seen c.args.b.now))) c.turns.invariant.turn_is.1)).placed

pub drive-returns-in-Asks-clause-kept : goal.drive-returns-in-Asks-clause-kept
drive-returns-in-Asks-clause-kept t c =
    (turn_asks (BothStand c.turns.a c.turns.b) (fed_node c.args.input (seen_pair c.args.control.now c.args.out.now (seen c.args.a.now) (seen c.args.b.now))) (node_turns_left c.turns.turn c.turns.control (seen c.turns.a) (seen c.turns.b)) c.take_turn.new.control c.in_ok-flow.field-0 c.in-Asks.side c.in-Asks.made (seen c.take_turn.new.a) (seen c.take_turn.new.b) c.in-Asks.is (c.in_ok-flow.ensures.law (fed_node c.args.input (seen_pair c.args.control.now c.args.out.now (seen c.args.a.now) (seen c.args.b.now))) c.turns.invariant.turn_is.1)).kept

pub drive-returns-in-Asks-clause-held : goal.drive-returns-in-Asks-clause-held
drive-returns-in-Asks-clause-held t c =
    (turn_asks (BothStand c.turns.a c.turns.b) (fed_node c.args.input (seen_pair c.args.control.now c.args.out.now (seen c.args.a.now) (seen c.args.b.now))) (node_turns_left c.turns.turn c.turns.control (seen c.turns.a) (seen c.turns.b)) c.take_turn.new.control c.in_ok-flow.field-0 c.in-Asks.side c.in-Asks.made (seen c.take_turn.new.a) (seen c.take_turn.new.b) c.in-Asks.is (c.in_ok-flow.ensures.law (fed_node c.args.input (seen_pair c.args.control.now c.args.out.now (seen c.args.a.now) (seen c.args.b.now))) c.turns.invariant.turn_is.1)).held

pub drive-returns-in-Asks-clause-same_a : goal.drive-returns-in-Asks-clause-same_a
drive-returns-in-Asks-clause-same_a t c =
    same_behind c.args.a.now c.turns.a c.take_turn.new.a c.turns.invariant.same_a c.in_ok-flow.ensures.same_a

pub drive-returns-in-Asks-clause-same_b : goal.drive-returns-in-Asks-clause-same_b
drive-returns-in-Asks-clause-same_b t c =
    same_behind c.args.b.now c.turns.b c.take_turn.new.b c.turns.invariant.same_b c.in_ok-flow.ensures.same_b

pub drive-turns-smaller : goal.drive-turns-smaller
drive-turns-smaller t c =
    (went_again (BothStand c.turns.a c.turns.b) (fed_node c.args.input (seen_pair c.args.control.now c.args.out.now (seen c.args.a.now) (seen c.args.b.now))) (node_turns_left c.turns.turn c.turns.control (seen c.turns.a) (seen c.turns.b)) c.take_turn.new.control c.in_ok-flow.field-0 c.in-Went.flow c.in-Again.next c.node_turn-turn.result (seen c.take_turn.new.a) (seen c.take_turn.new.b) c.in-Went.is c.in-Again.is c.node_turn-turn.ensures (c.in_ok-flow.ensures.law (fed_node c.args.input (seen_pair c.args.control.now c.args.out.now (seen c.args.a.now) (seen c.args.b.now))) c.turns.invariant.turn_is.1)).1

pub drive-turns-preserved : goal.drive-turns-preserved
drive-turns-preserved t c =
    record {
      well_a = c.in_ok-flow.ensures.a;
      well_b = c.in_ok-flow.ensures.b;
      same_a = same_behind c.args.a.now c.turns.a c.take_turn.new.a c.turns.invariant.same_a c.in_ok-flow.ensures.same_a;
      same_b = same_behind c.args.b.now c.turns.b c.take_turn.new.b c.turns.invariant.same_b c.in_ok-flow.ensures.same_b;
      turn_is = (went_again (BothStand c.turns.a c.turns.b) (fed_node c.args.input (seen_pair c.args.control.now c.args.out.now (seen c.args.a.now) (seen c.args.b.now))) (node_turns_left c.turns.turn c.turns.control (seen c.turns.a) (seen c.turns.b)) c.take_turn.new.control c.in_ok-flow.field-0 c.in-Went.flow c.in-Again.next c.node_turn-turn.result (seen c.take_turn.new.a) (seen c.take_turn.new.b) c.in-Went.is c.in-Again.is c.node_turn-turn.ensures (c.in_ok-flow.ensures.law (fed_node c.args.input (seen_pair c.args.control.now c.args.out.now (seen c.args.a.now) (seen c.args.b.now))) c.turns.invariant.turn_is.1)).0;
      out_is = c.turns.invariant.out_is;
    }

pub drive-returns-in-Return-clause-law : goal.drive-returns-in-Return-clause-law
drive-returns-in-Return-clause-law t c =
    rw (c.turns.invariant.out_is, c.node_move.ensures) (steps_plain (BothStand c.args.a.now c.args.b.now) c.in-Return.made (fed_node c.args.input (seen_pair c.args.control.now c.args.out.now (seen c.args.a.now) (seen c.args.b.now))) (whole_pair c.take_turn.new.control (seen c.take_turn.new.a) (seen c.take_turn.new.b)) (says_goes c.in-Return.made (fed_node c.args.input (seen_pair c.args.control.now c.args.out.now (seen c.args.a.now) (seen c.args.b.now))) (whole_pair c.take_turn.new.control (seen c.take_turn.new.a) (seen c.take_turn.new.b)) (went_flow (BothStand c.turns.a c.turns.b) (fed_node c.args.input (seen_pair c.args.control.now c.args.out.now (seen c.args.a.now) (seen c.args.b.now))) (node_turns_left c.turns.turn c.turns.control (seen c.turns.a) (seen c.turns.b)) c.take_turn.new.control c.in_ok-flow.field-0 c.in-Went.flow (Return c.in-Return.made) (seen c.take_turn.new.a) (seen c.take_turn.new.b) c.in-Went.is c.in-Return.is (c.in_ok-flow.ensures.law (fed_node c.args.input (seen_pair c.args.control.now c.args.out.now (seen c.args.a.now) (seen c.args.b.now))) c.turns.invariant.turn_is.1)).0))

pub drive-returns-in-Return-clause-at : goal.drive-returns-in-Return-clause-at
drive-returns-in-Return-clause-at t c =
    rw c.turns.invariant.out_is ((went_flow (BothStand c.turns.a c.turns.b) (fed_node c.args.input (seen_pair c.args.control.now c.args.out.now (seen c.args.a.now) (seen c.args.b.now))) (node_turns_left c.turns.turn c.turns.control (seen c.turns.a) (seen c.turns.b)) c.take_turn.new.control c.in_ok-flow.field-0 c.in-Went.flow (Return c.in-Return.made) (seen c.take_turn.new.a) (seen c.take_turn.new.b) c.in-Went.is c.in-Return.is (c.in_ok-flow.ensures.law (fed_node c.args.input (seen_pair c.args.control.now c.args.out.now (seen c.args.a.now) (seen c.args.b.now))) c.turns.invariant.turn_is.1)).1)

pub drive-returns-in-Return-clause-kept : goal.drive-returns-in-Return-clause-kept
drive-returns-in-Return-clause-kept t c =
    rw c.turns.invariant.out_is ((went_flow (BothStand c.turns.a c.turns.b) (fed_node c.args.input (seen_pair c.args.control.now c.args.out.now (seen c.args.a.now) (seen c.args.b.now))) (node_turns_left c.turns.turn c.turns.control (seen c.turns.a) (seen c.turns.b)) c.take_turn.new.control c.in_ok-flow.field-0 c.in-Went.flow (Return c.in-Return.made) (seen c.take_turn.new.a) (seen c.take_turn.new.b) c.in-Went.is c.in-Return.is (c.in_ok-flow.ensures.law (fed_node c.args.input (seen_pair c.args.control.now c.args.out.now (seen c.args.a.now) (seen c.args.b.now))) c.turns.invariant.turn_is.1)).2)

pub drive-returns-in-Return-clause-held : goal.drive-returns-in-Return-clause-held
drive-returns-in-Return-clause-held t c =
    rw c.turns.invariant.out_is ((went_flow (BothStand c.turns.a c.turns.b) (fed_node c.args.input (seen_pair c.args.control.now c.args.out.now (seen c.args.a.now) (seen c.args.b.now))) (node_turns_left c.turns.turn c.turns.control (seen c.turns.a) (seen c.turns.b)) c.take_turn.new.control c.in_ok-flow.field-0 c.in-Went.flow (Return c.in-Return.made) (seen c.take_turn.new.a) (seen c.take_turn.new.b) c.in-Went.is c.in-Return.is (c.in_ok-flow.ensures.law (fed_node c.args.input (seen_pair c.args.control.now c.args.out.now (seen c.args.a.now) (seen c.args.b.now))) c.turns.invariant.turn_is.1)).3)

pub drive-returns-in-Return-clause-same_a : goal.drive-returns-in-Return-clause-same_a
drive-returns-in-Return-clause-same_a t c =
    same_behind c.args.a.now c.turns.a c.take_turn.new.a c.turns.invariant.same_a c.in_ok-flow.ensures.same_a

pub drive-returns-in-Return-clause-same_b : goal.drive-returns-in-Return-clause-same_b
drive-returns-in-Return-clause-same_b t c =
    same_behind c.args.b.now c.turns.b c.take_turn.new.b c.turns.invariant.same_b c.in_ok-flow.ensures.same_b

pub drive-glued-requires-clause-sort : goal.drive-glued-requires-clause-sort
drive-glued-requires-clause-sort t c =
    (went_flow (BothStand c.turns.a c.turns.b) (fed_node c.args.input (seen_pair c.args.control.now c.args.out.now (seen c.args.a.now) (seen c.args.b.now))) (node_turns_left c.turns.turn c.turns.control (seen c.turns.a) (seen c.turns.b)) c.take_turn.new.control c.in_ok-flow.field-0 c.in-Went.flow (Glue c.in-Glue.first c.in-Glue.second) (seen c.take_turn.new.a) (seen c.take_turn.new.b) c.in-Went.is c.in-Glue.is (c.in_ok-flow.ensures.law (fed_node c.args.input (seen_pair c.args.control.now c.args.out.now (seen c.args.a.now) (seen c.args.b.now))) c.turns.invariant.turn_is.1)).0

pub drive-glued-requires-clause-size : goal.drive-glued-requires-clause-size
drive-glued-requires-clause-size t c =
    (went_flow (BothStand c.turns.a c.turns.b) (fed_node c.args.input (seen_pair c.args.control.now c.args.out.now (seen c.args.a.now) (seen c.args.b.now))) (node_turns_left c.turns.turn c.turns.control (seen c.turns.a) (seen c.turns.b)) c.take_turn.new.control c.in_ok-flow.field-0 c.in-Went.flow (Glue c.in-Glue.first c.in-Glue.second) (seen c.take_turn.new.a) (seen c.take_turn.new.b) c.in-Went.is c.in-Glue.is (c.in_ok-flow.ensures.law (fed_node c.args.input (seen_pair c.args.control.now c.args.out.now (seen c.args.a.now) (seen c.args.b.now))) c.turns.invariant.turn_is.1)).1

pub drive-returns-in_err-chunk-in-Glue-clause-kept : goal.drive-returns-in_err-chunk-in-Glue-clause-kept
drive-returns-in_err-chunk-in-Glue-clause-kept t c =
    rw c.turns.invariant.out_is ((went_flow (BothStand c.turns.a c.turns.b) (fed_node c.args.input (seen_pair c.args.control.now c.args.out.now (seen c.args.a.now) (seen c.args.b.now))) (node_turns_left c.turns.turn c.turns.control (seen c.turns.a) (seen c.turns.b)) c.take_turn.new.control c.in_ok-flow.field-0 c.in-Went.flow (Glue c.in-Glue.first c.in-Glue.second) (seen c.take_turn.new.a) (seen c.take_turn.new.b) c.in-Went.is c.in-Glue.is (c.in_ok-flow.ensures.law (fed_node c.args.input (seen_pair c.args.control.now c.args.out.now (seen c.args.a.now) (seen c.args.b.now))) c.turns.invariant.turn_is.1)).4)

pub drive-returns-in_err-chunk-in-Glue-clause-held : goal.drive-returns-in_err-chunk-in-Glue-clause-held
drive-returns-in_err-chunk-in-Glue-clause-held t c =
    rw c.turns.invariant.out_is ((went_flow (BothStand c.turns.a c.turns.b) (fed_node c.args.input (seen_pair c.args.control.now c.args.out.now (seen c.args.a.now) (seen c.args.b.now))) (node_turns_left c.turns.turn c.turns.control (seen c.turns.a) (seen c.turns.b)) c.take_turn.new.control c.in_ok-flow.field-0 c.in-Went.flow (Glue c.in-Glue.first c.in-Glue.second) (seen c.take_turn.new.a) (seen c.take_turn.new.b) c.in-Went.is c.in-Glue.is (c.in_ok-flow.ensures.law (fed_node c.args.input (seen_pair c.args.control.now c.args.out.now (seen c.args.a.now) (seen c.args.b.now))) c.turns.invariant.turn_is.1)).5)

pub drive-returns-in_err-chunk-in-Glue-clause-same_a : goal.drive-returns-in_err-chunk-in-Glue-clause-same_a
drive-returns-in_err-chunk-in-Glue-clause-same_a t c =
    same_behind c.args.a.now c.turns.a c.take_turn.new.a c.turns.invariant.same_a c.in_ok-flow.ensures.same_a

pub drive-returns-in_err-chunk-in-Glue-clause-same_b : goal.drive-returns-in_err-chunk-in-Glue-clause-same_b
drive-returns-in_err-chunk-in-Glue-clause-same_b t c =
    same_behind c.args.b.now c.turns.b c.take_turn.new.b c.turns.invariant.same_b c.in_ok-flow.ensures.same_b

pub drive-returns-in-Glue-clause-law : goal.drive-returns-in-Glue-clause-law
drive-returns-in-Glue-clause-law t c =
    rw c.turns.invariant.out_is (steps_plain (BothStand c.args.a.now c.args.b.now) (Emit c.in_ok-chunk-in-Glue.chunk) (fed_node c.args.input (seen_pair c.args.control.now c.args.out.now (seen c.args.a.now) (seen c.args.b.now))) (whole_pair c.take_turn.new.control (seen c.take_turn.new.a) (seen c.take_turn.new.b)) ((went_flow (BothStand c.turns.a c.turns.b) (fed_node c.args.input (seen_pair c.args.control.now c.args.out.now (seen c.args.a.now) (seen c.args.b.now))) (node_turns_left c.turns.turn c.turns.control (seen c.turns.a) (seen c.turns.b)) c.take_turn.new.control c.in_ok-flow.field-0 c.in-Went.flow (Glue c.in-Glue.first c.in-Glue.second) (seen c.take_turn.new.a) (seen c.take_turn.new.b) c.in-Went.is c.in-Glue.is (c.in_ok-flow.ensures.law (fed_node c.args.input (seen_pair c.args.control.now c.args.out.now (seen c.args.a.now) (seen c.args.b.now))) c.turns.invariant.turn_is.1)).2 c.in_ok-chunk-in-Glue.chunk c.in_ok-chunk-in-Glue.ensures))

pub drive-returns-in-Glue-clause-at : goal.drive-returns-in-Glue-clause-at
drive-returns-in-Glue-clause-at t c =
    rw c.turns.invariant.out_is ((went_flow (BothStand c.turns.a c.turns.b) (fed_node c.args.input (seen_pair c.args.control.now c.args.out.now (seen c.args.a.now) (seen c.args.b.now))) (node_turns_left c.turns.turn c.turns.control (seen c.turns.a) (seen c.turns.b)) c.take_turn.new.control c.in_ok-flow.field-0 c.in-Went.flow (Glue c.in-Glue.first c.in-Glue.second) (seen c.take_turn.new.a) (seen c.take_turn.new.b) c.in-Went.is c.in-Glue.is (c.in_ok-flow.ensures.law (fed_node c.args.input (seen_pair c.args.control.now c.args.out.now (seen c.args.a.now) (seen c.args.b.now))) c.turns.invariant.turn_is.1)).3)

pub drive-returns-in-Glue-clause-kept : goal.drive-returns-in-Glue-clause-kept
drive-returns-in-Glue-clause-kept t c =
    rw c.turns.invariant.out_is ((went_flow (BothStand c.turns.a c.turns.b) (fed_node c.args.input (seen_pair c.args.control.now c.args.out.now (seen c.args.a.now) (seen c.args.b.now))) (node_turns_left c.turns.turn c.turns.control (seen c.turns.a) (seen c.turns.b)) c.take_turn.new.control c.in_ok-flow.field-0 c.in-Went.flow (Glue c.in-Glue.first c.in-Glue.second) (seen c.take_turn.new.a) (seen c.take_turn.new.b) c.in-Went.is c.in-Glue.is (c.in_ok-flow.ensures.law (fed_node c.args.input (seen_pair c.args.control.now c.args.out.now (seen c.args.a.now) (seen c.args.b.now))) c.turns.invariant.turn_is.1)).4)

pub drive-returns-in-Glue-clause-held : goal.drive-returns-in-Glue-clause-held
drive-returns-in-Glue-clause-held t c =
    rw c.turns.invariant.out_is ((went_flow (BothStand c.turns.a c.turns.b) (fed_node c.args.input (seen_pair c.args.control.now c.args.out.now (seen c.args.a.now) (seen c.args.b.now))) (node_turns_left c.turns.turn c.turns.control (seen c.turns.a) (seen c.turns.b)) c.take_turn.new.control c.in_ok-flow.field-0 c.in-Went.flow (Glue c.in-Glue.first c.in-Glue.second) (seen c.take_turn.new.a) (seen c.take_turn.new.b) c.in-Went.is c.in-Glue.is (c.in_ok-flow.ensures.law (fed_node c.args.input (seen_pair c.args.control.now c.args.out.now (seen c.args.a.now) (seen c.args.b.now))) c.turns.invariant.turn_is.1)).5)

pub drive-returns-in-Glue-clause-same_a : goal.drive-returns-in-Glue-clause-same_a
drive-returns-in-Glue-clause-same_a t c =
    same_behind c.args.a.now c.turns.a c.take_turn.new.a c.turns.invariant.same_a c.in_ok-flow.ensures.same_a

pub drive-returns-in-Glue-clause-same_b : goal.drive-returns-in-Glue-clause-same_b
drive-returns-in-Glue-clause-same_b t c =
    same_behind c.args.b.now c.turns.b c.take_turn.new.b c.turns.invariant.same_b c.in_ok-flow.ensures.same_b

pub drive-returns-in_err-ended-in-Finish-clause-kept : goal.drive-returns-in_err-ended-in-Finish-clause-kept
drive-returns-in_err-ended-in-Finish-clause-kept t c =
    rw (c.turns.invariant.out_is, c.in_err-ended-in-Finish.ensures.lost.0, c.in_err-ended-in-Finish.ensures.lost.1) ((went_flow (BothStand c.turns.a c.turns.b) (fed_node c.args.input (seen_pair c.args.control.now c.args.out.now (seen c.args.a.now) (seen c.args.b.now))) (node_turns_left c.turns.turn c.turns.control (seen c.turns.a) (seen c.turns.b)) c.take_turn.new.control c.in_ok-flow.field-0 c.in-Went.flow (Finish c.in-Finish.made c.in-Finish.found) (seen c.take_turn.new.a) (seen c.take_turn.new.b) c.in-Went.is c.in-Finish.is (c.in_ok-flow.ensures.law (fed_node c.args.input (seen_pair c.args.control.now c.args.out.now (seen c.args.a.now) (seen c.args.b.now))) c.turns.invariant.turn_is.1)).2)

pub drive-returns-in_err-ended-in-Finish-clause-held : goal.drive-returns-in_err-ended-in-Finish-clause-held
drive-returns-in_err-ended-in-Finish-clause-held t c =
    rw (c.turns.invariant.out_is, c.in_err-ended-in-Finish.ensures.lost.0, c.in_err-ended-in-Finish.ensures.lost.1) ((went_flow (BothStand c.turns.a c.turns.b) (fed_node c.args.input (seen_pair c.args.control.now c.args.out.now (seen c.args.a.now) (seen c.args.b.now))) (node_turns_left c.turns.turn c.turns.control (seen c.turns.a) (seen c.turns.b)) c.take_turn.new.control c.in_ok-flow.field-0 c.in-Went.flow (Finish c.in-Finish.made c.in-Finish.found) (seen c.take_turn.new.a) (seen c.take_turn.new.b) c.in-Went.is c.in-Finish.is (c.in_ok-flow.ensures.law (fed_node c.args.input (seen_pair c.args.control.now c.args.out.now (seen c.args.a.now) (seen c.args.b.now))) c.turns.invariant.turn_is.1)).3)

pub drive-returns-in_err-ended-in-Finish-clause-same_a : goal.drive-returns-in_err-ended-in-Finish-clause-same_a
drive-returns-in_err-ended-in-Finish-clause-same_a t c =
    same_behind c.args.a.now c.take_turn.new.a c.finish.new.a (same_behind c.args.a.now c.turns.a c.take_turn.new.a c.turns.invariant.same_a c.in_ok-flow.ensures.same_a) c.in_err-ended-in-Finish.ensures.same_a

pub drive-returns-in_err-ended-in-Finish-clause-same_b : goal.drive-returns-in_err-ended-in-Finish-clause-same_b
drive-returns-in_err-ended-in-Finish-clause-same_b t c =
    same_behind c.args.b.now c.take_turn.new.b c.finish.new.b (same_behind c.args.b.now c.turns.b c.take_turn.new.b c.turns.invariant.same_b c.in_ok-flow.ensures.same_b) c.in_err-ended-in-Finish.ensures.same_b

pub drive-returns-in-Finish-clause-law : goal.drive-returns-in-Finish-clause-law
drive-returns-in-Finish-clause-law t c =
    rw c.turns.invariant.out_is ((finished (BothStand c.args.a.now c.args.b.now) (fed_node c.args.input (seen_pair c.args.control.now c.args.out.now (seen c.args.a.now) (seen c.args.b.now))) (node_turns_left c.turns.turn c.turns.control (seen c.turns.a) (seen c.turns.b)) c.in-Finish.made c.in-Finish.found c.in_ok-ended-in-Finish.ended c.take_turn.new.control (seen c.take_turn.new.a) (seen c.take_turn.new.b) (seen c.finish.new.a) (seen c.finish.new.b) (went_flow (BothStand c.turns.a c.turns.b) (fed_node c.args.input (seen_pair c.args.control.now c.args.out.now (seen c.args.a.now) (seen c.args.b.now))) (node_turns_left c.turns.turn c.turns.control (seen c.turns.a) (seen c.turns.b)) c.take_turn.new.control c.in_ok-flow.field-0 c.in-Went.flow (Finish c.in-Finish.made c.in-Finish.found) (seen c.take_turn.new.a) (seen c.take_turn.new.b) c.in-Went.is c.in-Finish.is (c.in_ok-flow.ensures.law (fed_node c.args.input (seen_pair c.args.control.now c.args.out.now (seen c.args.a.now) (seen c.args.b.now))) c.turns.invariant.turn_is.1)) c.in_ok-ended-in-Finish.ensures.law).goes)

pub drive-returns-in-Finish-clause-at : goal.drive-returns-in-Finish-clause-at
drive-returns-in-Finish-clause-at t c =
    rw c.turns.invariant.out_is ((finished (BothStand c.args.a.now c.args.b.now) (fed_node c.args.input (seen_pair c.args.control.now c.args.out.now (seen c.args.a.now) (seen c.args.b.now))) (node_turns_left c.turns.turn c.turns.control (seen c.turns.a) (seen c.turns.b)) c.in-Finish.made c.in-Finish.found c.in_ok-ended-in-Finish.ended c.take_turn.new.control (seen c.take_turn.new.a) (seen c.take_turn.new.b) (seen c.finish.new.a) (seen c.finish.new.b) (went_flow (BothStand c.turns.a c.turns.b) (fed_node c.args.input (seen_pair c.args.control.now c.args.out.now (seen c.args.a.now) (seen c.args.b.now))) (node_turns_left c.turns.turn c.turns.control (seen c.turns.a) (seen c.turns.b)) c.take_turn.new.control c.in_ok-flow.field-0 c.in-Went.flow (Finish c.in-Finish.made c.in-Finish.found) (seen c.take_turn.new.a) (seen c.take_turn.new.b) c.in-Went.is c.in-Finish.is (c.in_ok-flow.ensures.law (fed_node c.args.input (seen_pair c.args.control.now c.args.out.now (seen c.args.a.now) (seen c.args.b.now))) c.turns.invariant.turn_is.1)) c.in_ok-ended-in-Finish.ensures.law).placed)

pub drive-returns-in-Finish-clause-kept : goal.drive-returns-in-Finish-clause-kept
drive-returns-in-Finish-clause-kept t c =
    rw c.turns.invariant.out_is ((finished (BothStand c.args.a.now c.args.b.now) (fed_node c.args.input (seen_pair c.args.control.now c.args.out.now (seen c.args.a.now) (seen c.args.b.now))) (node_turns_left c.turns.turn c.turns.control (seen c.turns.a) (seen c.turns.b)) c.in-Finish.made c.in-Finish.found c.in_ok-ended-in-Finish.ended c.take_turn.new.control (seen c.take_turn.new.a) (seen c.take_turn.new.b) (seen c.finish.new.a) (seen c.finish.new.b) (went_flow (BothStand c.turns.a c.turns.b) (fed_node c.args.input (seen_pair c.args.control.now c.args.out.now (seen c.args.a.now) (seen c.args.b.now))) (node_turns_left c.turns.turn c.turns.control (seen c.turns.a) (seen c.turns.b)) c.take_turn.new.control c.in_ok-flow.field-0 c.in-Went.flow (Finish c.in-Finish.made c.in-Finish.found) (seen c.take_turn.new.a) (seen c.take_turn.new.b) c.in-Went.is c.in-Finish.is (c.in_ok-flow.ensures.law (fed_node c.args.input (seen_pair c.args.control.now c.args.out.now (seen c.args.a.now) (seen c.args.b.now))) c.turns.invariant.turn_is.1)) c.in_ok-ended-in-Finish.ensures.law).kept)

pub drive-returns-in-Finish-clause-held : goal.drive-returns-in-Finish-clause-held
drive-returns-in-Finish-clause-held t c =
    rw c.turns.invariant.out_is ((finished (BothStand c.args.a.now c.args.b.now) (fed_node c.args.input (seen_pair c.args.control.now c.args.out.now (seen c.args.a.now) (seen c.args.b.now))) (node_turns_left c.turns.turn c.turns.control (seen c.turns.a) (seen c.turns.b)) c.in-Finish.made c.in-Finish.found c.in_ok-ended-in-Finish.ended c.take_turn.new.control (seen c.take_turn.new.a) (seen c.take_turn.new.b) (seen c.finish.new.a) (seen c.finish.new.b) (went_flow (BothStand c.turns.a c.turns.b) (fed_node c.args.input (seen_pair c.args.control.now c.args.out.now (seen c.args.a.now) (seen c.args.b.now))) (node_turns_left c.turns.turn c.turns.control (seen c.turns.a) (seen c.turns.b)) c.take_turn.new.control c.in_ok-flow.field-0 c.in-Went.flow (Finish c.in-Finish.made c.in-Finish.found) (seen c.take_turn.new.a) (seen c.take_turn.new.b) c.in-Went.is c.in-Finish.is (c.in_ok-flow.ensures.law (fed_node c.args.input (seen_pair c.args.control.now c.args.out.now (seen c.args.a.now) (seen c.args.b.now))) c.turns.invariant.turn_is.1)) c.in_ok-ended-in-Finish.ensures.law).held)

pub drive-returns-in-Finish-clause-same_a : goal.drive-returns-in-Finish-clause-same_a
drive-returns-in-Finish-clause-same_a t c =
    same_behind c.args.a.now c.take_turn.new.a c.finish.new.a (same_behind c.args.a.now c.turns.a c.take_turn.new.a c.turns.invariant.same_a c.in_ok-flow.ensures.same_a) c.in_ok-ended-in-Finish.ensures.same_a

pub drive-returns-in-Finish-clause-same_b : goal.drive-returns-in-Finish-clause-same_b
drive-returns-in-Finish-clause-same_b t c =
    same_behind c.args.b.now c.take_turn.new.b c.finish.new.b (same_behind c.args.b.now c.turns.b c.take_turn.new.b c.turns.invariant.same_b c.in_ok-flow.ensures.same_b) c.in_ok-ended-in-Finish.ensures.same_b

pub take_turn-advance-requires-in-Down : goal.take_turn-advance-requires-in-Down
take_turn-advance-requires-in-Down t c =
    let d = c.decreases in
    (omega (arith, d), (c.requires.b, (subst (λ x. IsReady x c.args.control.now (seen c.args.a.now) (seen c.args.b.now)) c.in-Down.is c.requires.ready).0))

pub take_turn-returns-in-Plain-clause-law : goal.take_turn-returns-in-Plain-clause-law
take_turn-returns-in-Plain-clause-law t c =
    λ p s. up_went p c.args.turn c.in-Up.input c.args.control.now c.up.new.self c.up.result (StandsAt c.args.a.now) c.in_ok-made-in-Up.made c.in-Plain.plain (seen c.args.a.now) (seen c.args.b.now) (seen c.advance.new.self)
    c.in-Up.is c.requires.ready s c.in_ok-made-in-Up.ensures.law c.in-Plain.ensures (λ f g. c.up.ensures _ _ _ (node_sound c.args.b.now c.requires.b) f g c.in_ok-made-in-Up.ensures.kept c.in_ok-made-in-Up.ensures.held)

pub take_turn-returns-in-Site-clause-law : goal.take_turn-returns-in-Site-clause-law
take_turn-returns-in-Site-clause-law t c =
    λ p s. up_asks p c.args.turn c.in-Up.input c.args.control.now (StandsAt c.args.a.now) (BothStand c.args.a.now c.args.b.now) c.in_ok-made-in-Up.made c.in-Site.asked (seen c.args.a.now) (seen c.args.b.now) (seen c.advance.new.self)
    c.in-Up.is c.requires.ready s c.in_ok-made-in-Up.ensures.law c.in-Site.ensures.0 c.in-Site.ensures.1 (λ place h. h.0) c.in_ok-made-in-Up.ensures.kept c.in_ok-made-in-Up.ensures.held (node_sound c.args.b.now c.requires.b)

pub take_turn-returns-in-Plain-say-clause-law : goal.take_turn-returns-in-Plain-say-clause-law
take_turn-returns-in-Plain-say-clause-law t c =
    λ p s. down_went p c.args.turn c.in-Down.input c.args.control.now c.down.new.self c.down.result (StandsAt c.args.b.now) c.in_ok-made-in-Down.made c.in-Plain-say.plain (seen c.args.a.now) (seen c.args.b.now) (seen c.advance-in-Down.new.self)
    c.in-Down.is c.requires.ready s c.in_ok-made-in-Down.ensures.law c.in-Plain-say.ensures (λ f g. c.down.ensures _ _ _ (node_sound c.args.a.now c.requires.a) f g c.in_ok-made-in-Down.ensures.kept c.in_ok-made-in-Down.ensures.held)

pub take_turn-returns-in-Site-say-clause-law : goal.take_turn-returns-in-Site-say-clause-law
take_turn-returns-in-Site-say-clause-law t c =
    λ p s. down_asks p c.args.turn c.in-Down.input c.args.control.now (StandsAt c.args.b.now) (BothStand c.args.a.now c.args.b.now) c.in_ok-made-in-Down.made c.in-Site-say.asked (seen c.args.a.now) (seen c.args.b.now) (seen c.advance-in-Down.new.self)
    c.in-Down.is c.requires.ready s c.in_ok-made-in-Down.ensures.law c.in-Site-say.ensures.0 c.in-Site-say.ensures.1 (λ place h. h.1) c.in_ok-made-in-Down.ensures.kept c.in_ok-made-in-Down.ensures.held (node_sound c.args.a.now c.requires.a)

pub step_marked-returns-in-Own-clause-law : goal.step_marked-returns-in-Own-clause-law
step_marked-returns-in-Own-clause-law t c =
    let m = c.args.mark.now in
    let b = seen c.args.body.now in
    own_steps (StandsAt c.args.body.now) m c.in-Own.made (fed_node c.args.input (whole_mark m b)) (whole_mark c.begin.new.self b)
    (λ place h. subst (λ x. OwnMoveLaw place (fed_node c.args.input (whole_mark m b)) x c.begin.new.self b) c.in-Own.is (c.begin.ensures.own place b h c.requires.fits c.requires.answers))

pub step_marked-returns-in_ok-made-in-Inner-clause-law : goal.step_marked-returns-in_ok-made-in-Inner-clause-law
step_marked-returns-in_ok-made-in-Inner-clause-law t c =
    let m = c.args.mark.now in
    let b = seen c.args.body.now in
    let w = fed_node c.args.input (whole_mark m b) in
    let p = fed_node c.in-Inner.given b in
    let q = seen c.advance.new.self in
    let n = c.begin.new.self in
    let u = subst (λ x. MarkTurnLaw w x n b) c.in-Inner.is (c.begin.ensures.turn b c.requires.fits c.requires.answers) in
    body_steps (StandsAt c.args.body.now) (MarksPlace m) c.in_ok-made-in-Inner.made c.follow.result w p q (whole_mark n p) (whole_mark c.follow.new.self q) c.in_ok-made-in-Inner.ensures.law u.2
    (λ place g. c.follow.ensures.law place p q (node_sound c.advance.new.self c.in_ok-made-in-Inner.ensures.well) u.1 g c.in_ok-made-in-Inner.ensures.kept)

pub step_marked-returns-in_ok-made-in-Inner-clause-site : goal.step_marked-returns-in_ok-made-in-Inner-clause-site
step_marked-returns-in_ok-made-in-Inner-clause-site t c = λ place h. let k = c.begin.ensures.places place h in (k.0, rw c.follow.ensures.site k.1)

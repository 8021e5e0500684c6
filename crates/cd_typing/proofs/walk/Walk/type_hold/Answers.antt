use Rattle.std.proofs.Common.{map, ap, sym, ◌∙◌}
use Rattle.cd_types.specs.Statements.{Hold}
use Rattle.cd_part_types.specs.Types.{type_of}
use Rattle.cd_typing.specs.Walking.{spot}
use Rattle.cd_typing.proofs.StatementSteps.{statement-err, statement-memory, many-stops, hold-stops, hold-passes}
use Rattle.cd_typing.proofs.walk.Walk.type_hold.Goals as goal

pub returns-in_err-ask : goal.returns-in_err-ask
returns-in_err-ask c = λ before k.
    let s = Hold c.args.name.now c.args.file.now in
    statement-err c.args.number before s c.args.self.now _ _ c.from_residual.result c.in_err-ask.field-0.0 c.from_residual.ensures.1
    (many-stops c.args.number before s c.args.self.now _ (c.in_err-ask.ensures.moves _ (spot c.args.self.now) c.refused_as_too_many.ensures))

pub returns-in_err-begin_mark : goal.returns-in_err-begin_mark
returns-in_err-begin_mark c = λ before k.
    let s = Hold c.args.name.now c.args.file.now in
    statement-err c.args.number before s c.args.self.now _ _ c.from_residual-in_err-begin_mark.result c.in_err-begin_mark.field-0.0 c.from_residual-in_err-begin_mark.ensures.1
    (hold-stops c.args.number before c.args.name.now c.args.file.now c.args.self.now _ (c.is_key.ensures before k) (c.in_ok-ask.ensures.moves _ (spot c.args.self.now) c.refused_as_too_many.ensures) _ c.in_err-begin_mark.ensures.moves)

pub returns-in_err-hold : goal.returns-in_err-hold
returns-in_err-hold c = λ before k.
    statement-memory c.args.number before (Hold c.args.name.now c.args.file.now) c.args.self.now _ _ c.from_residual-in_err-hold.result c.from_residual-in_err-hold.ensures.1

pub returns : goal.returns
returns c = λ before k.
    record {
      passed = hold-passes c.args.number before c.args.name.now c.args.file.now c.args.self.now _ (c.is_key.ensures before k) (c.in_ok-ask.ensures.moves _ (spot c.args.self.now) c.refused_as_too_many.ensures) c.begin_mark.new.self c.in_ok-begin_mark.ensures.moves;
      types = ap (λ ps. map type_of ps.items) c.begin_mark.ensures.parts ∙ ap (map type_of) c.requires;
      knows = c.in_ok-hold.ensures.known before c.args.file.now k (sym (c.is_key.ensures before k) ∙ c.in_ok-begin_mark.ensures.known);
    }

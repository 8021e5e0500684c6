use Rattle.std.proofs.Common.{◌∙◌}
use Rattle.cd_types.specs.Statements.{statement_of}
use Rattle.cd_typing.proofs.ScriptSteps.{no_number, stepped, refused_at_step, step_err}
use Rattle.cd_typing.proofs.scripts.ScriptWalk.step.Goals as goal

pub returns-in_default : goal.returns-in_default
returns-in_default c = λ before e k. no_number before (statement_of c.args.statement.now) c.args.self.now c.args.self.now

pub returns-in_err-type_statement : goal.returns-in_err-type_statement
returns-in_err-type_statement c = λ before e k.
    step_err before (statement_of c.args.statement.now) c.args.self.now _ c.from_residual.result c.in_err-type_statement.field-0.0 c.from_residual.ensures.1
    (refused_at_step before (statement_of c.args.statement.now) c.args.self.now c.in-Ok.number _ (c.in-Ok.ensures.1 ∙ e) (c.in_err-type_statement.ensures before k))

pub returns-in-Err : goal.returns-in-Err
returns-in-Err c = λ before e k. no_number before (statement_of c.args.statement.now) c.args.self.now c.args.self.now

pub returns-in-Ok-push : goal.returns-in-Ok-push
returns-in-Ok-push c = λ before e k.
    stepped before (statement_of c.args.statement.now) c.args.self.now (record { walk = c.take_parts-parts.new.self; names = c.type_statement.new.names; parts = c.push.new.self }) c.in-Ok.number
    c.type_statement.new.self c.take_parts-parts.result (c.in-Ok.ensures.1 ∙ e) (c.in_ok-type_statement.ensures before k) c.take_parts-parts.ensures.taken c.take_parts-parts.ensures.spot
    c.take_parts-parts.ensures.empty c.in-Ok-push.ensures.ok

use Rattle.cd_types.specs.Trees.{part}
use Rattle.cd_typing.specs.StatementWalk.{ending_fails}
use Rattle.cd_typing.specs.Walking.{spot}
use Rattle.cd_typing.proofs.StatementSteps.{body-err, body-inside, body-answers}
use Rattle.cd_typing.proofs.walk.Walk.type_body.Goals as goal

pub returns-in_err-part : goal.returns-in_err-part
returns-in_err-part c =
    body-err c.args.number c.args.flow (part c.args.pipe.now) (ending_fails c.args.ending) c.args.self.now _ c.from_residual.result c.in_err-part.field-0.0 c.from_residual.ensures.1
    (body-inside c.args.number c.args.flow (part c.args.pipe.now) (ending_fails c.args.ending) c.args.self.now c.requires _ c.in_err-part.ensures)

pub returns : goal.returns
returns c =
    body-answers c.args.number c.args.flow (part c.args.pipe.now) (ending_fails c.args.ending) c.args.self.now c.requires c.type_next.new.self c.in_ok-part.part c.in_ok-part.typed c.in_ok-part.ensures
    c.ask_behind.result (c.ask_behind.ensures.moves (spot c.type_next.new.self)) c.ask_behind.ensures.gives

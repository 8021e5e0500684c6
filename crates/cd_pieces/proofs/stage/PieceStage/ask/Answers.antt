use Rattle.std.proofs.Common.{sym, ◌∙◌}
use Rattle.cd_pieces.proofs.StageLaws.{ask_stage, final_stage}
use Rattle.cd_pieces.proofs.stage.PieceStage.ask.Goals as goal

pub returns-then-asks-clause-law : goal.returns-then-asks-clause-law
returns-then-asks-clause-law c = ask_stage c.args.self.now c.requires.told c.requires.due (sym c.asks.ensures ∙ c.if-asks.true)

pub returns-clause-law : goal.returns-clause-law
returns-clause-law c =
    final_stage c.args.self.now c.in_ok-made.made c.finish.new.self c.requires.told c.requires.due (sym c.asks.ensures ∙ c.if-asks.false) c.in_ok-made.ensures.law c.in_ok-made.ensures.stand c.in_ok-made.ensures.told c.in_ok-made.ensures.well

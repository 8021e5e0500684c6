use Rattle.std.proofs.Common.{◌∙◌}
use Rattle.cd_pieces.proofs.WordLaws.{present_is}
use Rattle.cd_pieces.proofs.piece.present_of.Goals as goal

pub returns-in-Ok : goal.returns-in-Ok
returns-in-Ok c = present_is c.in-Ok.boxed c.args.piece c.requires (c.in-Ok.ensures.ok ∙ c.value_of.ensures)

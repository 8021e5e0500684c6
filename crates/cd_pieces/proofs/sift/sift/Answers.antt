use Rattle.cd_pieces.proofs.WordLaws.{pass_reply, take_reply}
use Rattle.cd_pieces.proofs.sift.sift.Goals as goal

pub returns-in-Pass : goal.returns-in-Pass
returns-in-Pass c k i = rw c.in-Pass.is (pass_reply k c.args.piece i)

pub returns-in-Take : goal.returns-in-Take
returns-in-Take c k i = rw c.in-Take.is (take_reply k c.args.piece c.in-Take.left (rw c.in-Take.is at c.requires.asks) i)

use Rattle.cd_typing.proofs.Tables.{put_unknown}
use Rattle.cd_typing.proofs.walk.Walk.next_part.Goals as goal

pub returns-clause-types : goal.returns-clause-types
returns-clause-types c = put_unknown c.args.self.now.parts.items c.push.new.self.items c.in_ok-push.ensures.items

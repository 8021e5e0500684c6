use Rattle.std.proofs.Common.{arith}
use Rattle.cd_node.proofs.Trees.{room_is}
use Rattle.cd_node.proofs.node.Node.held.Goals as goal

pub count-requires : goal.count-requires
count-requires c = let e = room_is c.args.self.now in let h = c.requires.held in let k = c.requires.few in omega (arith, e, h, k)

pub returns-clause-most : goal.returns-clause-most
returns-clause-most c = let e = room_is c.args.self.now in let h = c.requires.held in let k = c.count.ensures in omega (arith, e, h, k)

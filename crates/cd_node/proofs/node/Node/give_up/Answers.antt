use Rattle.cd_node.proofs.Trees.{none_in_words}
use Rattle.cd_node.proofs.node.Node.give_up.Goals as goal

pub end-requires : goal.end-requires
end-requires c = none_in_words c.args.self c.requires

use Rattle.cd_node.proofs.mark.Mark.new.Goals as goal

pub returns-clause-places : goal.returns-clause-places
returns-clause-places c = λ place name e. (name, rw c.new.ensures.site e)

use Rattle.cd_pieces.proofs.read.final_value.Goals as goal

pub returns-in-Keep-clause-same : goal.returns-in-Keep-clause-same
returns-in-Keep-clause-same c k = rw c.in-Keep.is (c.kept_value.ensures.same k)

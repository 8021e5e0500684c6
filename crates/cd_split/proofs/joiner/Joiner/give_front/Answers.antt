use Rattle.std.proofs.Common.{◌≡◌, IfOk, subst, take, ap, ◌∙◌, arith}
use Rattle.cd_elem.specs.Limits.{chunk_limit}
use Rattle.cd_meaning.specs.Sorts.{elements_of}
use Rattle.cd_split.proofs.JoinerLaws.{joiner_cuts, not_cut, rest_is}
use Rattle.cd_split.proofs.joiner.Joiner.give_front.Goals as goal

pub skip-requires-clause-some : goal.skip-requires-clause-some
skip-requires-clause-some c t = absurd (not_cut c.args.self.now.takes c.args.piece c.requires.takes c.requires.piece t)

pub returns-in-Ok-clause-law : goal.returns-in-Ok-clause-law
returns-in-Ok-clause-law c =
    let e = c.args.self.now in
    let p = c.args.piece in
    let f = subst (λ r. IfOk r (λ front. front ≡ (elements_of p.0, take chunk_limit p.1))) c.in-Ok.is c.front_of.ensures in
    joiner_cuts e p c.in-Ok.front c.skip.new.self chunk_limit c.requires.told (f ∙ ap (λ s. (elements_of s, take chunk_limit p.1)) c.requires.piece.1) c.skip.ensures (omega arith) c.requires.long (omega arith)

pub returns-in-Ok-clause-fit : goal.returns-in-Ok-clause-fit
returns-in-Ok-clause-fit c = (c.requires.told, c.requires.takes, rest_is c.args.self.now.takes c.args.piece c.skip.new.self chunk_limit c.requires.takes c.requires.piece c.skip.ensures)

pub returns-in-Ok-clause-given : goal.returns-in-Ok-clause-given
returns-in-Ok-clause-given c = rest_is c.args.self.now.takes c.args.piece c.skip.new.self chunk_limit c.requires.takes c.requires.piece c.skip.ensures

use Rattle.std.proofs.Common.{◌≡◌, ◌++◌, IfOk, OnOk, [], subst, take}
use Rattle.cd_meaning.specs.Sorts.{pieces_of}
use Rattle.cd_split.proofs.CutterLaws.{cutter_gives, piece_length}
use Rattle.cd_split.specs.Cutting.{numbers, sort_of}
use Rattle.cd_split.proofs.cutter.Cutter.give.Goals as goal

pub returns-in-Ok-clause-law : goal.returns-in-Ok-clause-law
returns-in-Ok-clause-law c =
    let e = c.args.self.now in
    let ended = c.end_with.ensures in
    let value = subst (λ r. IfOk r (λ piece. piece ≡ (pieces_of (sort_of e.piece), numbers e.piece ++ take c.args.count c.args.chunk.1))) c.in-Ok.is ended.value in
    let after = subst (λ r. OnOk r (numbers c.end_with.new.self ≡ [])) c.in-Ok.is ended.after in
    cutter_gives e c.args.chunk c.in-Ok.piece c.args.count c.args.end c.args.fresh c.end_with.new.self c.behind.result c.requires.told c.requires.chunk value
    (piece_length (numbers e.piece) c.args.chunk.1 c.args.count e.rule.most c.requires.within c.requires.most) c.requires.read after ended.sort c.behind.ensures

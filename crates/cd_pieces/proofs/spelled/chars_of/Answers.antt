use Rattle.std.proofs.Common.{◌≡◌, ◌∙◌, subst, IfOk}
use Rattle.std.specs.Str.{chars}
use Rattle.std.proofs.lemmas.Iterator.{items_from_collect, YieldsList-from_chars}
use Rattle.cd_pieces.proofs.spelled.chars_of.Goals as goal

pub returns : goal.returns
returns c =
    c.from_vec.ensures
    ∙ subst (λ r. IfOk r (λ v. v.items ≡ chars c.args.text.now)) c.in_ok-list.was
    (items_from_collect c.collect.result c.collect.ensures.ran (YieldsList-from_chars c.args.text.now c.utf8.text c.chars.ensures.rest))

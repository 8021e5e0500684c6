use Rattle.std.proofs.Common.{rules, ap, ◌∙◌, filter}
use Rattle.std.proofs.lemmas.Fn.{filter_same}
use Rattle.cd_meaning.specs.Classes.{is_in_class}
use Rattle.cd_elemwise.proofs.slice.passing.Goals as goal

pub returns : goal.returns
returns g c =
    let test = λ (x : g.row.T.Denot). is_in_class c.args.table.now (g.T.Element.number x) in
    c.from_vec.ensures ∙ filter_same _ test _ (λ x b f' k. search rules) _ _ c.retain.ensures.filtered ∙ ap (filter test) c.into_vec-list.ensures

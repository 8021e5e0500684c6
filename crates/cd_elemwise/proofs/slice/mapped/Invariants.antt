use Rattle.std.proofs.Common.{◌≡◌, ◌++◌, take, drop, map}
use Rattle.cd_meaning.specs.Classes.{element_mapped}
use Rattle.cd_elemwise.proofs.slice.mapped.Given as goal

abbrev pub invariant-loop-item : goal.invariant-loop-item
invariant-loop-item g l = map g.T.Element.number l.item-items
    ≡ map (λ x. element_mapped l.fn.by (g.T.Element.number x)) (take l.item-index l.fn.list) ++ map g.T.Element.number (drop l.item-index l.fn.list)

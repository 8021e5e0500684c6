use Rattle.std.proofs.Common.{◌≡◌, ◌+◌, drop}
use Rattle.std.specs.List.{prefix_len}
use Rattle.cd_meaning.specs.Classes.{is_in_class}
use Rattle.cd_elemwise.proofs.slice.front.Given as goal

abbrev pub invariant-loop-place : goal.invariant-loop-place
invariant-loop-place g l = l.place + prefix_len (λ x. is_in_class l.fn.table (g.T.Element.number x)) (drop l.place l.items) ≡ prefix_len (λ x. is_in_class l.fn.table (g.T.Element.number x)) l.items

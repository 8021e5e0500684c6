use Rattle.std.proofs.Common.{◌≡◌, ◌+◌, ◌<◌, arith, ap, subst, sym, ◌∙◌}
use Rattle.cd_node.specs.Trees.{seen}
use Rattle.cd_node.proofs.node.Node.+count.Goals as goal

pub returns-in-Marked : goal.returns-in-Marked
returns-in-Marked t c =
    let b = c.in-Marked.body.value in
    let kept = c.held-kept-in-Marked.result in
    subst (λ n. c.count-in-Marked.result + kept ≡ (seen n).held) (sym c.in-Marked.is)
    (ap (λ x. x + kept) (c.count-in-Marked.ensures ∙ ap (λ n. (seen n).held) c.deref-in-Marked.ensures) ∙ sym (c.held-kept-in-Marked.ensures (seen b)))

pub overflow_add-result-in-Marked : goal.overflow_add-result-in-Marked
overflow_add-result-in-Marked t c =
    let b = c.in-Marked.body.value in
    let kept = c.held-kept-in-Marked.result in
    let n = (seen c.args.self.now).held in
    let h : n < 18446744073709551616 = c.requires in
    let e : c.count-in-Marked.result + kept ≡ n = subst (λ x. c.count-in-Marked.result + kept ≡ (seen x).held) (sym c.in-Marked.is)
    (ap (λ x. x + kept) (c.count-in-Marked.ensures ∙ ap (λ x. (seen x).held) c.deref-in-Marked.ensures) ∙ sym (c.held-kept-in-Marked.ensures (seen b))) in
    omega (arith, h, e)

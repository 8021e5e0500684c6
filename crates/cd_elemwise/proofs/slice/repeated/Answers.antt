use Rattle.std.proofs.Common.{◌≡◌, IfOk, subst, arith}
use Rattle.cd_elemwise.proofs.Repeats.{repeats_one}
use Rattle.cd_elemwise.proofs.slice.repeated.Goals as goal

pub returns-then-times-eq1 : goal.returns-then-times-eq1
returns-then-times-eq1 g c =
    let one : c.args.times ≡ 1 = omega (arith, c.if-times-eq1.true) in
    subst (λ l. IfOk c.from_slice.result (λ list. list ≡ l)) (repeats_one c.args.times c.args.items.now one) c.from_slice.ensures

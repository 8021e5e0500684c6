use Rattle.std.proofs.Common.{Some, List, ℕ, ◌∙◌, sym, ap}
use Rattle.cd_world.specs.declared.store.Member.{Member}
use Rattle.cd_world.proofs.StoreSteps.{held-at, held-none}
use Rattle.cd_world.proofs.store.Store.find.Goals as goal

pub returns-in_err-place : goal.returns-in_err-place
returns-in_err-place c = rw c.from_residual.ensures (held-none c.args.self.now.members.items c.args.name.now c.in_err-place.ensures.none)

pub returns-in_err-bytes : goal.returns-in_err-bytes
returns-in_err-bytes c = rw c.from_residual-in_err-bytes.ensures
    (held-at c.args.self.now.members.items c.args.name.now c.in_ok-place.place c.index.result.now c.in_ok-place.ensures.found
    ∙ ap (λ (m : Member). m.bytes) (sym c.index.ensures) ∙ sym c.in_err-bytes.ensures.value)

pub returns : goal.returns
returns c = held-at c.args.self.now.members.items c.args.name.now c.in_ok-place.place c.index.result.now c.in_ok-place.ensures.found
    ∙ ap (λ (m : Member). m.bytes) (sym c.index.ensures) ∙ sym c.in_ok-bytes.ensures.value ∙ ap (λ (b : List ℕ). Some b) (sym c.as_slice.ensures)

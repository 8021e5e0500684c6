use Rattle.std.proofs.Common.{Some, List, ℕ, ◌++◌, Option, ap, ◌∙◌, sym}
use Rattle.std.proofs.lemmas.Result.{on_ok_weaker}
use Rattle.cd_world.specs.declared.store.Member.{Member}
use Rattle.cd_world.specs.Store.{held, bytes_in, with_file}
use Rattle.cd_world.proofs.StoreSteps.{held-set, plan-set-bytes, held-at, held-none}
use Rattle.cd_world.proofs.store.Store.append.Goals as goal

pub returns-in-Some-clause-ok : goal.returns-in-Some-clause-ok
returns-in-Some-clause-ok c =
    let members = c.args.self.now.members.items in
    let name = c.args.name.now in
    let place = c.in-Some.place in
    let old = c.index_mut.result.now in
    let here = ap (λ (m : Member). m.bytes) c.index_mut.ensures.value ∙ sym (held-at members name place old c.in-Some.ensures.found) in
    on_ok_weaker c.extend.result (λ longer. held-set members name place old c.in-Some.ensures.found c.index_mut.ensures.value c.extend.new.file
    ∙ ap (λ (f : Option (List ℕ)). with_file name f (held members)) (longer ∙ ap (λ (f : Option (List ℕ)). Some (bytes_in f ++ c.args.more.now)) here)) c.extend.ensures.ok

pub returns-in-Some-clause-plans : goal.returns-in-Some-clause-plans
returns-in-Some-clause-plans c = plan-set-bytes c.args.self.now.members.items c.args.name.now c.in-Some.place c.index_mut.result.now c.in-Some.ensures.found c.index_mut.ensures.value c.extend.new.file

pub returns-in_ok-from_slice-in-None-clause-ok : goal.returns-in_ok-from_slice-in-None-clause-ok
returns-in_ok-from_slice-in-None-clause-ok c =
    let members = c.args.self.now.members.items in
    let name = c.args.name.now in
    on_ok_weaker c.add.result (λ added. added
    ∙ ap (λ (b : List ℕ). with_file name (Some b) (held members)) c.in_ok-from_slice-in-None.ensures
    ∙ ap (λ (f : Option (List ℕ)). with_file name (Some (bytes_in f ++ c.args.more.now)) (held members)) (sym (held-none members name c.in-None.ensures.none))) c.add.ensures.ok

use Rattle.std.proofs.Common.{List, IsTrue, subst, sym, ap, ◌∙◌, arith}
use Rattle.cd_world.specs.declared.table.OpenFile.{OpenFile}
use Rattle.cd_world.specs.Live.{rises}
use Rattle.cd_world.specs.Table.{live_of}
use Rattle.cd_world.proofs.TableSteps.{live-rises-remove, live-remove}
use Rattle.cd_world.proofs.table.OpenTable.remove.Goals as goal

pub invariant_of-self : goal.invariant_of-self
invariant_of-self c = record {
  rising = subst (λ (l : List OpenFile). IsTrue (rises 2 (live_of l) c.args.self.now.last)) (sym c.remove-open.ensures.items)
      (live-rises-remove c.args.self.now.files.items c.args.self.now.last c.place_of-place.result c.args.self.now.rising);
}

pub returns-clause-live : goal.returns-clause-live
returns-clause-live c = λ front o back split is. ap live_of c.remove-open.ensures.items
    ∙ live-remove c.args.self.now.files.items c.args.self.now.last c.place_of-place.result c.remove-open.result c.args.self.now.rising (omega (arith, c.args.self.now.files.ok.0)) front o back split
    (is ∙ sym (c.place_of-place.ensures.found c.remove-open.result))

pub returns-clause-descriptor : goal.returns-clause-descriptor
returns-clause-descriptor c = ap (λ (e : OpenFile). e.descriptor) c.remove-open.ensures.value ∙ c.place_of-place.ensures.found c.remove-open.result

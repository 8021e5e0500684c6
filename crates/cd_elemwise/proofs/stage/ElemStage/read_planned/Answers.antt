use Rattle.std.proofs.Common.{◌≡◌, refl, subst, sym, ◌∙◌, arith, filter, map, IsTrue}
use Rattle.cd_elem.specs.Chunks.{is_cut}
use Rattle.cd_meaning.specs.Classes.{is_in_class, element_mapped}
use Rattle.cd_elemwise.specs.declared.state.WordState.TheVariants as state
use Rattle.cd_elemwise.specs.Carried.{Doing, IsChunkOf, MapFits, gathered, kind_of, list_sort}
use Rattle.cd_elemwise.specs.Plans.{IsPlan}
use Rattle.cd_elemwise.specs.Stages.{StateFits, carried}
use Rattle.cd_step.specs.Parts.{IsGiven}
use Rattle.std.proofs.Common.{Some}
use Rattle.cd_elemwise.proofs.PlanLaws.{filter_none, filter_plan, map_cut, map_plan, plain_cut}
use Rattle.cd_elemwise.proofs.StageLaws.{made_stage, none_stage, plain_state, read_from, sink_stage}
use Rattle.cd_step.proofs.CutChunks.{sort_of_kind}
use Rattle.cd_elemwise.proofs.stage.ElemStage.read_planned.Goals as goal

pub act-requires-in_default : goal.act-requires-in_default
act-requires-in_default c =
    let e = c.args.self.now in
    let made = c.in_ok-plan-in_default in
    let same = made.ensures.same in
    let sort = c.requires.within.1.1 ∙ sort_of_kind e.sort in
    record {
      told = c.requires.told;
      keep = c.requires.keep;
      listed = same.2 e.sort (list_sort e.list) c.requires.listed;
      within = (let h = c.requires.within.0 in let m = same.1 in omega (arith, h, m), subst (IsGiven (Some (kind_of e.sort))) (sym c.requires.keep) tt);
      cut = plain_cut e.state e.sort (list_sort e.list) (plain_state e.state c.in_default.not-Filter c.in_default.not-Map c.in_default.not-Collect c.in_default.not-SinkNull) c.requires.listed;
      sort = sort;
      planned = (carried e, subst (λ k. IsPlan k (carried e) c.args.chunk.1 made.plan (Doing c.planned.new.state (gathered e.list))) sort (made.ensures.law (gathered e.list)));
    }

pub returns-in-SinkNull-clause-law : goal.returns-in-SinkNull-clause-law
returns-in-SinkNull-clause-law c = sink_stage c.args.self.now c.args.chunk c.requires.told c.requires.keep c.in-SinkNull.is

pub passing_of-requires : goal.passing_of-requires
passing_of-requires c =
    let e = c.args.self.now in
    subst (λ k. IsTrue (is_cut k)) (sym (c.requires.within.1.1 ∙ sort_of_kind e.sort)) (subst (λ s. StateFits s e.sort (list_sort e.list)) c.in-Filter.is c.requires.listed)

pub mapped_of-made-requires : goal.mapped_of-made-requires
mapped_of-made-requires c =
    let e = c.args.self.now in
    subst (MapFits c.in-Map.by) (sym (c.requires.within.1.1 ∙ sort_of_kind e.sort)) (subst (λ s. StateFits s e.sort (list_sort e.list)) c.in-Map.is c.requires.listed)

pub returns-in-Some-clause-law : goal.returns-in-Some-clause-law
returns-in-Some-clause-law c =
    let e = c.args.self.now in
    let sort = c.requires.within.1.1 ∙ sort_of_kind e.sort in
    let cut = subst (λ s. StateFits s e.sort (list_sort e.list)) c.in-Filter.is c.requires.listed in
    let len = c.len-len in
    let some = len.ensures.size.some (subst (λ k. IsTrue (is_cut k)) (sym sort) cut) in
    let class = c.in-Filter.table in
    let made = c.in-Some.made in
    made_stage e (state.Filter class) c.args.chunk made len.result cut c.requires.told c.requires.keep sort len.ensures.value c.in-Filter.is
    (filter_plan e.sort class (gathered e.list) c.args.chunk.1 made len.result len.ensures.value some
    (subst (λ k. IsChunkOf k (filter (is_in_class class) c.args.chunk.1) (Some made)) sort (subst (IsChunkOf c.args.chunk.0 (filter (is_in_class class) c.args.chunk.1)) c.in-Some.is c.passing_of.ensures)))

pub returns-in-None-clause-law : goal.returns-in-None-clause-law
returns-in-None-clause-law c =
    let e = c.args.self.now in
    let sort = c.requires.within.1.1 ∙ sort_of_kind e.sort in
    let cut = subst (λ s. StateFits s e.sort (list_sort e.list)) c.in-Filter.is c.requires.listed in
    let class = c.in-Filter.table in
    none_stage e (state.Filter class) c.args.chunk cut c.requires.told c.requires.keep sort c.in-Filter.is
    (filter_none e.sort class (gathered e.list) c.args.chunk.1 (subst (IsChunkOf c.args.chunk.0 (filter (is_in_class class) c.args.chunk.1)) c.in-None.is c.passing_of.ensures))

pub returns-in-Map-clause-law : goal.returns-in-Map-clause-law
returns-in-Map-clause-law c =
    let e = c.args.self.now in
    let sort = c.requires.within.1.1 ∙ sort_of_kind e.sort in
    let by = c.in-Map.by in
    let cut = map_cut by e.sort (subst (λ s. StateFits s e.sort (list_sort e.list)) c.in-Map.is c.requires.listed) in
    let size = c.len-len-in-Map.ensures.size in
    let len = c.len-len-in-Map.result in
    let is_cut_chunk = subst (λ k. IsTrue (is_cut k)) (sym sort) cut in
    let made = c.mapped_of-made.result in
    made_stage e (state.Map by) c.args.chunk made len cut c.requires.told c.requires.keep sort c.len-len-in-Map.ensures.value c.in-Map.is
    (map_plan e.sort by (gathered e.list) c.args.chunk.1 made len c.len-len-in-Map.ensures.value (size.some is_cut_chunk) (size.cut is_cut_chunk)
    (subst (λ k. made ≡ (k, map (element_mapped by) c.args.chunk.1)) sort c.mapped_of-made.ensures))

pub returns-in_ok-made-in-Collect-clause-law : goal.returns-in_ok-made-in-Collect-clause-law
returns-in_ok-made-in-Collect-clause-law c =
    let e = c.args.self.now in
    let made = c.in_ok-rest-in-Collect in
    let sort = c.requires.within.1.1 ∙ sort_of_kind e.sort in
    read_from e (state.Collect made.rest) c.collect.new.list c.args.chunk c.in_ok-made-in-Collect.made c.act.new.self c.requires.told (rw c.in-Collect.is refl)
    (c.in_ok-made-in-Collect.ensures.law (carried e)
    (subst (λ k. IsPlan k (carried e) c.args.chunk.1 made.plan (Doing (state.Collect made.rest) (gathered c.collect.new.list))) sort
    (subst (λ s. IsPlan c.args.chunk.0 (Doing s (gathered e.list)) c.args.chunk.1 made.plan (Doing (state.Collect made.rest) (gathered c.collect.new.list))) (sym c.in-Collect.is) made.ensures.law)))

pub returns-in_ok-made-in_default : goal.returns-in_ok-made-in_default
returns-in_ok-made-in_default c =
    let e = c.args.self.now in
    let made = c.in_ok-plan-in_default in
    let acted = c.in_ok-made-in_default in
    let sort = c.requires.within.1.1 ∙ sort_of_kind e.sort in
    record {
      law = read_from e c.planned.new.state e.list c.args.chunk acted.made c.act-in_default.new.self c.requires.told (made.ensures.same.0 e.sort)
          (acted.ensures.law (carried e) (subst (λ k. IsPlan k (carried e) c.args.chunk.1 made.plan (Doing c.planned.new.state (gathered e.list))) sort (made.ensures.law (gathered e.list))));
      fit = acted.ensures.fit;
      same = (acted.ensures.same.0, acted.ensures.same.1, acted.ensures.same.2 ∙ made.ensures.same.0 e.sort);
      within = acted.ensures.within;
      err = tt;
    }

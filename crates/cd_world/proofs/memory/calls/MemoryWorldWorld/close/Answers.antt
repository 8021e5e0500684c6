use Rattle.std.proofs.Common.{sym, ◌∙◌, ap}
use Rattle.cd_world.specs.declared.plan.Call.TheVariants.{Closing}
use Rattle.cd_world.specs.declared.store.Store.{Store}
use Rattle.cd_world.specs.Files.{without_mark}
use Rattle.cd_world.specs.Law.{without_marked}
use Rattle.cd_world.specs.Live.{Open}
use Rattle.cd_world.specs.Plan.{counted, fails_next}
use Rattle.cd_world.specs.Store.{held, plan_of, member_name}
use Rattle.cd_world.proofs.CloseSteps.{closes-done, closes-failed}
use Rattle.cd_world.proofs.FilesSteps.{same-files}
use Rattle.cd_world.proofs.memory.calls.MemoryWorldWorld.close.Goals as goal

pub returns-then-is_failing-clause-files : goal.returns-then-is_failing-clause-files
returns-then-is_failing-clause-files c = λ o has is. closes-failed o c.args.which _ _ is _ (c.fail.ensures.files ∙ same-files _ _ _ _ c.count.ensures.held ∙ c.dismiss-open.ensures.files)

pub returns-clause-files : goal.returns-clause-files
returns-clause-files c = λ o has is.
    let entry = c.dismiss-open.ensures.entry o has is in
    let use_is = ap (λ (x : Open). x.use_of) (sym entry) in
    let name_is = ap (λ (x : Open). x.name) (sym entry) in
    closes-done o c.args.which _ _ is (c.remove_mark.ensures.files ∙ (λ i. without_mark (use_is i) (name_is i) ((same-files _ _ _ _ c.count.ensures.held ∙ c.dismiss-open.ensures.files) i)))

pub returns-then-is_failing-clause-fails : goal.returns-then-is_failing-clause-fails
returns-then-is_failing-clause-fails c = λ o has is.
    let entry = c.dismiss-open.ensures.entry o has is in
    let key = c.as_str.ensures ∙ c.dismiss-open.ensures.member ∙ ap (λ (x : Open). member_name x.name) (sym entry) in
    sym (c.is_failing-is_failing.ensures ∙ (λ i. fails_next Closing (plan_of (c.dismiss-open.ensures.store i).members.items (key i)))) ∙ c.if-is_failing.true

pub returns-then-is_failing-clause-plans : goal.returns-then-is_failing-clause-plans
returns-then-is_failing-clause-plans c = λ o has is.
    let entry = c.dismiss-open.ensures.entry o has is in
    let key = c.as_str-2.ensures ∙ c.dismiss-open.ensures.member ∙ ap (λ (x : Open). member_name x.name) (sym entry) in
    ap (λ (s : Store). plan_of s.members.items) c.fail.ensures.store ∙ c.count.ensures.plans ∙ (λ i. counted Closing (key i) (plan_of (c.dismiss-open.ensures.store i).members.items))

pub returns-clause-fails : goal.returns-clause-fails
returns-clause-fails c = λ o has is.
    let entry = c.dismiss-open.ensures.entry o has is in
    let key = c.as_str.ensures ∙ c.dismiss-open.ensures.member ∙ ap (λ (x : Open). member_name x.name) (sym entry) in
    sym (c.is_failing-is_failing.ensures ∙ (λ i. fails_next Closing (plan_of (c.dismiss-open.ensures.store i).members.items (key i)))) ∙ c.if-is_failing.false

pub returns-clause-held : goal.returns-clause-held
returns-clause-held c = λ o has is.
    let entry = c.dismiss-open.ensures.entry o has is in
    let key = c.as_str-3.ensures ∙ c.dismiss-open.ensures.member ∙ ap (λ (x : Open). member_name x.name) (sym entry) in
    let use_is = ap (λ (x : Open). x.use_of) (sym entry) in
    c.remove_mark.ensures.held ∙ (λ i. without_marked (use_is i) (key i) ((c.count.ensures.held ∙ ap (λ (s : Store). held s.members.items) c.dismiss-open.ensures.store) i))

pub returns-clause-plans : goal.returns-clause-plans
returns-clause-plans c = λ o has is.
    let entry = c.dismiss-open.ensures.entry o has is in
    let key = c.as_str-2.ensures ∙ c.dismiss-open.ensures.member ∙ ap (λ (x : Open). member_name x.name) (sym entry) in
    c.remove_mark.ensures.plans ∙ c.count.ensures.plans ∙ (λ i. counted Closing (key i) (plan_of (c.dismiss-open.ensures.store i).members.items))

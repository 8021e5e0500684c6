use Rattle.std.proofs.Common.{map, take}
use Rattle.cd_types.specs.Statements.{statement_of}
use Rattle.cd_typing.proofs.ScriptSteps.{begun, read_on, refused_there, all_read, numbered}
use Rattle.cd_typing.proofs.scripts.walk_over.Goals as goal

pub loop-place-init : goal.loop-place-init
loop-place-init c = begun c.args.statements.now c.new-walk.result c.new-walk.ensures.sites c.new-walk.ensures.total c.new-walk.ensures.empty c.new-walk.ensures.names c.new-walk.ensures.parts

pub returns-in-Err : goal.returns-in-Err
returns-in-Err c =
    let ss = c.args.statements.now in
    let i = c.loop-place.place in
    let s = c.index-statements-place.result in
    refused_there ss i s c.loop-place-test.true c.index-statements-place.is c.loop-place.walk c.loop-place.invariant _
    (c.in-Err.ensures (map statement_of (take i ss)) (numbered ss i s c.loop-place-test.true c.index-statements-place.is) c.loop-place.invariant.knows)

pub loop-place-preserved : goal.loop-place-preserved
loop-place-preserved c =
    let ss = c.args.statements.now in
    let i = c.loop-place.place in
    let s = c.index-statements-place.result in
    read_on ss i s c.loop-place-test.true c.index-statements-place.is c.loop-place.walk c.loop-place.invariant c.step.new.self
    (c.in_default.ensures (map statement_of (take i ss)) (numbered ss i s c.loop-place-test.true c.index-statements-place.is) c.loop-place.invariant.knows)

pub returns : goal.returns
returns c = all_read c.args.statements.now c.loop-place.place c.loop-place.walk c.loop-place-test.false c.loop-place.invariant

use Rattle.std.proofs.Common.{true, false, sym, ◌∙◌, refl}
use Rattle.cd_typing.specs.Walking.{spot}
use Rattle.cd_typing.proofs.MarkSteps.{mark-twice, mark-many, mark-known, mark-passes, named}
use Rattle.cd_typing.proofs.Steps.{moves-memory}
use Rattle.cd_typing.proofs.walk.Walk.begin_mark.Goals as goal

pub returns-then-clashes_earlier-clause-moves : goal.returns-then-clashes_earlier-clause-moves
returns-then-clashes_earlier-clause-moves c =
    mark-twice (spot c.args.self.now) c.args.statement c.args.part c.args.name.now c.args.is_known _ c.refused.ensures
    (named (spot c.args.self.now) c.as_str.result.now c.args.name.now _ true c.as_str.ensures c.clashes_earlier.ensures c.if-clashes_earlier.true)

pub returns-then-has_most_sites-clause-moves : goal.returns-then-has_most_sites-clause-moves
returns-then-has_most_sites-clause-moves c =
    mark-many (spot c.args.self.now) c.args.statement c.args.part c.args.name.now c.args.is_known
    (named (spot c.args.self.now) c.as_str.result.now c.args.name.now _ false c.as_str.ensures c.clashes_earlier.ensures c.if-clashes_earlier.false)
    _ c.refused-then-has_most_sites.ensures (sym c.has_most_sites.ensures ∙ c.if-has_most_sites.true)

pub returns-then-is_known-clause-moves : goal.returns-then-is_known-clause-moves
returns-then-is_known-clause-moves c =
    mark-known (spot c.args.self.now) c.args.statement c.args.part c.args.name.now c.args.is_known
    (named (spot c.args.self.now) c.as_str.result.now c.args.name.now _ false c.as_str.ensures c.clashes_earlier.ensures c.if-clashes_earlier.false)
    (sym c.has_most_sites.ensures ∙ c.if-has_most_sites.false) _ c.refused-then-is_known.ensures c.if-is_known.true

pub returns-in_err-add_site-clause-moves : goal.returns-in_err-add_site-clause-moves
returns-in_err-add_site-clause-moves c = moves-memory _ _ _ c.from_residual.result c.from_residual.ensures.1

pub returns-clause-moves : goal.returns-clause-moves
returns-clause-moves c =
    mark-passes (spot c.args.self.now) c.args.statement c.args.part c.args.name.now c.args.is_known
    (named (spot c.args.self.now) c.as_str.result.now c.args.name.now _ false c.as_str.ensures c.clashes_earlier.ensures c.if-clashes_earlier.false)
    (sym c.has_most_sites.ensures ∙ c.if-has_most_sites.false) _ c.if-is_known.false (c.in_ok-add_site.ensures ∙ (rw c.as_str-2.ensures refl)) refl

use Rattle.std.proofs.Common.{sym, ◌∙◌}
use Rattle.cd_typing.specs.Walking.{spot}
use Rattle.cd_typing.proofs.Steps.{moves-memory}
use Rattle.cd_typing.proofs.WordSteps.{word-early, word-large, word-late, word-passes}
use Rattle.cd_typing.proofs.walk.Walk.begin_word.Goals as goal

pub returns-in-Some-clause-moves : goal.returns-in-Some-clause-moves
returns-in-Some-clause-moves c =
    word-early (spot c.args.self.now) c.args.statement c.args.part c.args.word.now c.args.flow c.in-Some.kind _ c.refused.ensures (sym c.refused_early.ensures ∙ c.in-Some.is)

pub returns-in_default-gives-clause-moves : goal.returns-in_default-gives-clause-moves
returns-in_default-gives-clause-moves c =
    word-large (spot c.args.self.now) c.args.statement c.args.part c.args.word.now c.args.flow (sym c.refused_early.ensures ∙ c.in_default.is) _ c.refused-in_default-gives.ensures c.in_default-gives.ensures

pub returns-in-Some-refused_late-clause-moves : goal.returns-in-Some-refused_late-clause-moves
returns-in-Some-refused_late-clause-moves c =
    word-late (spot c.args.self.now) c.args.statement c.args.part c.args.word.now c.args.flow (sym c.refused_early.ensures ∙ c.in_default.is) c.in-Some-gives.ensures.bound
    c.in-Some-refused_late.kind _ c.refused-in-Some-refused_late.ensures (sym c.refused_late.ensures ∙ c.in-Some-refused_late.is)

pub returns-in_err-add_word_site-clause-moves : goal.returns-in_err-add_word_site-clause-moves
returns-in_err-add_word_site-clause-moves c = moves-memory _ _ _ c.from_residual.result c.from_residual.ensures.1

pub returns-clause-moves : goal.returns-clause-moves
returns-clause-moves c =
    word-passes (spot c.args.self.now) c.args.statement c.args.part c.args.word.now c.args.flow (sym c.refused_early.ensures ∙ c.in_default.is) c.in-Some-gives.ensures.bound
    (spot c.add_word_site.new.self) (sym c.refused_late.ensures ∙ c.in_default-refused_late.is) c.in_ok-add_word_site.ensures.added c.add_word_site.ensures.total

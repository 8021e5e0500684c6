use Rattle.std.proofs.Common.{refl}
use Rattle.cd_types.specs.Parts.{word_part}
use Rattle.cd_typing.specs.Walking.{spot, start}
use Rattle.cd_typing.proofs.PartSteps.{answers-err, answers-memory, word-begins, word-ends, word-typed}
use Rattle.cd_typing.proofs.walk.Walk.type_word.Goals as goal

pub returns-in_err-to : goal.returns-in_err-to
returns-in_err-to c =
    let p = start c.args.statement c.args.part c.args.flow c.args.self.now in
    answers-err (word_part c.args.word.now) p _ c.from_residual.result c.in_err-to.field-0.0 c.from_residual.ensures.1 (word-begins c.args.word.now p _ c.in_err-to.ensures.moves)

pub returns-in_err-bound : goal.returns-in_err-bound
returns-in_err-bound c =
    let p = start c.args.statement c.args.part c.args.flow c.args.self.now in
    answers-err (word_part c.args.word.now) p _ c.from_residual-in_err-bound.result c.in_err-bound.field-0.0 c.from_residual-in_err-bound.ensures.1
    (word-ends c.args.word.now p (spot c.begin_word.new.self) c.bound_of_word.result _ c.bound_of_word.ensures c.in_ok-to.ensures.moves c.in_err-bound.ensures.moves)

pub returns-in_err-word_type : goal.returns-in_err-word_type
returns-in_err-word_type c = answers-memory (word_part c.args.word.now) _ _ c.from_residual-in_err-word_type.result c.from_residual-in_err-word_type.ensures.1

pub returns : goal.returns
returns c =
    let p = start c.args.statement c.args.part c.args.flow c.args.self.now in
    word-typed c.args.word.now p c.args.self.now c.begin_word.new.self c.finish.new.self c.bound_of_word.result c.in_ok-word_type.field-0 c.bound_of_word.ensures c.in_ok-to.ensures.moves
    c.in_ok-bound.ensures.moves c.begin_word.ensures.parts c.finish.ensures.parts c.in_ok-word_type.ensures c.requires refl

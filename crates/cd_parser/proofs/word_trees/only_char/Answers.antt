use Rattle.cd_parser.proofs.OnlyChar.{single, several}
use Rattle.cd_parser.proofs.word_trees.only_char.Goals as goal

pub returns-in-None : goal.returns-in-None
returns-in-None c =
    single c.args.text.now c.chars-chars.result.rest.now c.next.new.self.rest.now c.in_ok-first.first c.utf8.text c.chars-chars.ensures.rest
    c.in_ok-first.ensures.steps.0 c.next-2.result c.in-None.is c.next-2.ensures.steps.2

pub returns-in-Some : goal.returns-in-Some
returns-in-Some c =
    several c.args.text.now c.chars-chars.result.rest.now c.next.new.self.rest.now c.in_ok-first.first c.utf8.text c.chars-chars.ensures.rest
    c.in_ok-first.ensures.steps.0 c.next-2.result c.in-Some.field-0 c.in-Some.is c.next-2.ensures.steps.2

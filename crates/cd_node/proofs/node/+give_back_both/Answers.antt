use Rattle.std.proofs.Common.{None, subst, sym}
use Rattle.cd_step.specs.Flows.{Retires}
use Rattle.cd_node.specs.Marks.{whole_mark}
use Rattle.cd_node.specs.Controls.{seen_pair}
use Rattle.cd_node.specs.Trees.{IsWell, seen}
use Rattle.cd_node.proofs.Ending.{retired, retired_held}
use Rattle.cd_node.proofs.WordStages.{word_kept}
use Rattle.cd_node.proofs.node.+give_back_both.Goals as goal

pub give_back_both-returns-clause-law : goal.give_back_both-returns-clause-law
give_back_both-returns-clause-law t c =
    (retired c.args.out.now c.args.control.now c.retire-found.new.self c.retire-found.result c.pick.result (seen c.args.a.now) (seen c.args.b.now) (seen c.give_back-up.new.self) (seen c.give_back-down.new.self) c.give_back-up.result c.give_back-down.result
    c.requires.at c.pick.ensures c.give_back-up.ensures.law c.give_back-down.ensures.law (c.retire-found.ensures _ _)).0

pub give_back_both-returns-clause-at : goal.give_back_both-returns-clause-at
give_back_both-returns-clause-at t c =
    (retired c.args.out.now c.args.control.now c.retire-found.new.self c.retire-found.result c.pick.result (seen c.args.a.now) (seen c.args.b.now) (seen c.give_back-up.new.self) (seen c.give_back-down.new.self) c.give_back-up.result c.give_back-down.result
    c.requires.at c.pick.ensures c.give_back-up.ensures.law c.give_back-down.ensures.law (c.retire-found.ensures _ _)).1

pub give_back_both-returns-clause-held : goal.give_back_both-returns-clause-held
give_back_both-returns-clause-held t c =
    retired_held (seen_pair c.args.control.now c.args.out.now (seen c.args.a.now) (seen c.args.b.now)) (seen_pair c.retire-found.new.self None (seen c.give_back-up.new.self) (seen c.give_back-down.new.self)) c.pick.result (retired c.args.out.now c.args.control.now c.retire-found.new.self c.retire-found.result c.pick.result (seen c.args.a.now) (seen c.args.b.now) (seen c.give_back-up.new.self) (seen c.give_back-down.new.self) c.give_back-up.result c.give_back-down.result
    c.requires.at c.pick.ensures c.give_back-up.ensures.law c.give_back-down.ensures.law (c.retire-found.ensures _ _)).0 c.requires.held

pub Node::give_back-returns-in-Word-clause-same : goal.Node::give_back-returns-in-Word-clause-same
Node::give_back-returns-in-Word-clause-same t c = word_kept c.args.self.now c.in-Word.stage c.retire.new.self c.in-Word.is c.retire.ensures.law.1

pub Node::give_back-returns-in-Marked-clause-law : goal.Node::give_back-returns-in-Marked-clause-law
Node::give_back-returns-in-Marked-clause-law t c =
    let m = c.in-Marked.mark in
    let b = c.in-Marked.body.value in
    subst (λ n. Retires (seen n) c.give_back-in-Marked.result (whole_mark c.give_back-in-Marked.new.self (seen c.give_back-rest.new.self))) (sym c.in-Marked.is)
    (c.give_back-in-Marked.ensures.law (seen b) (seen c.give_back-rest.new.self) (subst IsWell c.in-Marked.is c.requires.well).2
    (subst (λ n. Retires (seen n) c.give_back-rest.result (seen c.give_back-rest.new.self)) c.deref_mut-in-Marked.ensures.value c.give_back-rest.ensures.law))

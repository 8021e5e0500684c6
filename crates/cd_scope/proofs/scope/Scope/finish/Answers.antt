use Rattle.std.proofs.Common.{◌≡◌, ◌++◌, ◌∷◌, [], arith}
use Rattle.cd_scope.specs.declared.journal.JournalLine.TheVariants.{ClosedAtEnd}
use Rattle.cd_scope.specs.Uses.{use_at, name_at}
use Rattle.cd_scope.proofs.EndSteps.{all_gone, first_rose, none_gone, noted_as, one_gone}
use Rattle.cd_scope.proofs.TableSteps.{held_live, last_closed, last_there}
use Rattle.cd_scope.proofs.scope.Scope.finish.Goals as goal

pub loop-last-init : goal.loop-last-init
loop-last-init g c = record {
  «open» = λ place base o. o;
  room = let lines = c.args.self.lines in omega (arith, lines);
  gone = none_gone c.args.self.held.items c.args.self.journal.0 (g.W.World.faults c.args.world.now) g.W.World.tells_log (g.W.World.log c.args.world.now);
}

pub close-closed-requires : goal.close-closed-requires
close-closed-requires g c = record {
  «open» = (
    use_at (c.requires.open.0 c.in-Some.last.site.0),
    (
      name_at (c.requires.open.0 c.in-Some.last.site.0),
      held_live c.requires.open.0 c.requires.open.1 (g.W.World.live c.loop-last.world) c.loop-last.held.items (c.loop-last.invariant.open c.requires.open.0 c.requires.open.1 c.requires.open.2) c.in-Some.last
          (last_there c.requires.open.0 c.loop-last.held.items c.take_last.new.table.items c.in-Some.last c.in-Some.ensures.list),
    ),
  );
}

pub loop-last-preserved : goal.loop-last-preserved
loop-last-preserved g c =
    let line : c.push.new.self.0 ≡ c.loop-last.journal.0 ++ ClosedAtEnd c.in-Some.last.site c.is_err.result ∷ [] = grind (arith, c.push.ensures.ok, c.unwrap.ensures) in
    record {
      «open» = λ place base o. last_closed place c.loop-last.held.items c.take_last.new.table.items c.in-Some.last c.in-Some.ensures.list base _ _ (c.loop-last.invariant.open place base o) c.close-closed.ensures.live;
      room = let fewer = c.in-Some.ensures.fewer in let fits = c.loop-last.invariant.room in let spare = c.push.ensures.spare in omega (arith, fewer, fits, spare);
      gone =
          one_gone c.args.self.held.items c.loop-last.held.items c.take_last.new.table.items c.in-Some.last c.loop-last.first_fault c.first_failed-first_fault.result c.args.self.journal.0 c.loop-last.journal.0 c.push.new.self.0
          (g.W.World.faults c.args.world.now) (g.W.World.faults c.loop-last.world) (g.W.World.faults c.close-closed.new.self) g.W.World.tells_log (g.W.World.log c.args.world.now) (g.W.World.log c.loop-last.world) (g.W.World.log c.close-closed.new.self)
          c.close-closed.result c.in-Some.ensures.list c.first_failed-first_fault.ensures (noted_as c.in-Some.last c.close-closed.result c.is_err.result c.loop-last.journal.0 c.push.new.self.0 c.is_err.ensures.value line) c.close-closed.ensures.count c.close-closed.ensures.log
          c.loop-last.invariant.gone;
    }

pub returns-clause-rose : goal.returns-clause-rose
returns-clause-rose g c = λ some. let gone = c.loop-last.invariant.gone in first_rose gone.0 c.loop-last.first_fault c.args.self.journal.0 c.loop-last.journal.0 (g.W.World.faults c.args.world.now) (g.W.World.faults c.loop-last.world) gone.1 gone.3 some

pub returns-clause-closes : goal.returns-clause-closes
returns-clause-closes g c =
    all_gone c.args.self.held.items c.loop-last.held.items c.loop-last.first_fault c.args.self.journal.0 c.loop-last.journal.0 (g.W.World.faults c.args.world.now) (g.W.World.faults c.loop-last.world) g.W.World.tells_log (g.W.World.log c.args.world.now) (g.W.World.log c.loop-last.world)
    c.in_default.ensures.list.0 c.loop-last.invariant.gone

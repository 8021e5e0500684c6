use Rattle.std.proofs.Common.{ℕ, List, [], length, map, refl, ap, subst, arith}
use Rattle.cd_meaning.specs.Stream.{Put}
use Rattle.std.proofs.lemmas.Bool.Decides.{nat_tests}
use Rattle.cd_run.specs.Gathers.{MovesTo}
use Rattle.cd_run.specs.Going.{outside}
use Rattle.cd_run.proofs.Gathering.{all_done}
use Rattle.cd_run.proofs.gathered.Gathered.write_out.Goals as goal

pub returns-clause-told : goal.returns-clause-told
returns-clause-told g c = λ tells s base t same o is_for.
    subst (λ (l : List ℕ). MovesTo s t c.write_all-answer.result (map (Put c.args.self.now.site.0) l) [] (outside (g.W.World.log c.args.world.now) (g.W.World.files c.args.world.now)) (outside (g.W.World.log c.write_all-answer.new.world) (g.W.World.files c.write_all-answer.new.world))) c.as_slice.ensures.value
    (all_done s t (outside (g.W.World.log c.args.world.now) (g.W.World.files c.args.world.now)) (outside (g.W.World.log c.write_all-answer.new.world) (g.W.World.files c.write_all-answer.new.world)) c.write_all-answer.result (map (Put c.args.self.now.site.0) c.as_slice.result.now) [] refl
    (c.write_all-answer.ensures.told tells s base t same o (is_for (let value = ap length c.as_slice.ensures.value in grind (arith, nat_tests, value, c.as_slice.ensures.len, c.is_empty.ensures, c.if-is_empty.false)))))

use Rattle.std.proofs.Common.{ℕ, List, refl, sym, ◌∙◌, ap, map}
use Rattle.cd_meaning.specs.Run.{start, acts_at}
use Rattle.cd_meaning.specs.Scripts.{value_puts}
use Rattle.cd_meaning.specs.Stream.{Put}
use Rattle.cd_meaning.specs.Values.{value_meaning}
use Rattle.cd_scope.specs.Calls.{does}
use Rattle.cd_run.specs.Going.{outside}
use Rattle.cd_run.specs.Statements.{behind}
use Rattle.cd_run.proofs.Chain.{puts_line, results_at}
use Rattle.cd_run.proofs.Steps.{refused, going_same}
use Rattle.cd_run.proofs.print.print_value.Goals as goal

pub returns-in_default-clause-told : goal.returns-in_default-clause-told
returns-in_default-clause-told g c = λ tells s base t placed same o m left next w0 go.
    refused s m t (behind (λ all. acts_at start (value_puts (value_meaning c.args.value.now)) (next all))) w0 (outside (g.W.World.log c.args.world.now) (g.W.World.files c.args.world.now)) (outside (g.W.World.log c.args.world.now) (g.W.World.files c.args.world.now)) go refl

pub returns-clause-told : goal.returns-clause-told
returns-clause-told g c = λ tells s base t placed same o m left next w0 go.
    c.write_all.ensures.told tells s base t same o (results_at (s.place 0) placed _) m left (behind next) w0
    (going_same s m t (behind (λ all. acts_at start (value_puts (value_meaning c.args.value.now)) (next all))) w0 (outside (g.W.World.log c.args.world.now) (g.W.World.files c.args.world.now)) (λ all z. does (map (Put 0) c.as_bytes.result.now) (behind next all z))
    (λ all z. puts_line (value_meaning c.args.value.now) (next all) ∙ ap (λ (l : List ℕ). does (map (Put 0) l) (next all)) (sym (c.as_bytes.ensures.value ∙ c.in-Ok.ensures))) go)

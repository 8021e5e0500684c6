use Rattle.std.proofs.Common.{◌≡◌, ◌+◌, suc, List, length, map, refl, sym, ◌∙◌, ap, subst, arith}
use Rattle.std.proofs.lemmas.List.{drop_all}
use Rattle.std.proofs.lemmas.Option.{slice_get_read}
use Rattle.cd_elem.specs.declared.script.Stmt.{Stmt}
use Rattle.cd_meaning.specs.Scripts.{statement_meaning, statements_from}
use Rattle.cd_run.specs.declared.options.Options.{Options}
use Rattle.cd_run.specs.Going.{Going, outside}
use Rattle.cd_run.specs.Ran.{done}
use Rattle.cd_run.specs.Runners.{left_of, table_of}
use Rattle.cd_run.specs.Scripts.{HasRun, after, held_after, rest_of}
use Rattle.cd_run.specs.Statements.{behind}
use Rattle.cd_run.proofs.Steps.{going_same}
use Rattle.cd_run.proofs.script.run_statements.Goals as goal

pub returns-in-Err-clause-told : goal.returns-in-Err-clause-told
returns-in-Err-clause-told g c = λ tells s base placed same size limit o m w0 go. c.in-Err.ensures.told c.args.statements.now c.loop-place.place c.loop-place.invariant.at.0 c.loop-place.invariant.at.1 c.loop-place.invariant.at.2 (record { here = slice_get_read c.args.statements.now (length c.args.statements.now) c.loop-place.place c.index-statements-place.result refl c.loop-place-test.true c.index-statements-place.is; number = (let few = c.typed_laws.ensures.statements c.args.statements.now c.args.typed.now c.requires.typed in let lt = c.loop-place-test.true in omega (arith, few, lt)); built = c.requires.built c.loop-place.place c.index-statements-place.result (slice_get_read c.args.statements.now (length c.args.statements.now) c.loop-place.place c.index-statements-place.result refl c.loop-place-test.true c.index-statements-place.is) }) tells s base placed same (size ∙ ap (λ (o : Options). o.chunk) (sym c.loop-place.invariant.options)) (limit ∙ ap (λ (o : Options). o.limit) (sym c.loop-place.invariant.options)) (c.loop-place.invariant.open base o) m w0 (c.loop-place.invariant.at.3 tells s base placed same size limit o m w0 go)

pub loop-place-preserved : goal.loop-place-preserved
loop-place-preserved g c =
    let e : suc c.loop-place.place ≡ c.loop-place.place + 1 = omega arith in
    record {
      options = c.run_statement.ensures.options ∙ c.loop-place.invariant.options;
      calm = c.in-Ok.ensures.cause ∙ c.loop-place.invariant.calm;
      «open» = λ base o. c.run_statement.ensures.open c.args.statements.now c.loop-place.invariant.at.2.ready base (c.loop-place.invariant.open base o);
      at = (
        after c.index-statements-place.result c.loop-place.invariant.at.0,
        held_after c.index-statements-place.result c.loop-place.invariant.at.1,
        subst (λ n. HasRun c.args.statements.now n (after c.index-statements-place.result c.loop-place.invariant.at.0) (held_after c.index-statements-place.result c.loop-place.invariant.at.1) c.run_statement.new.runner) e (c.in-Ok.ensures.next c.args.statements.now c.loop-place.place c.loop-place.invariant.at.0 c.loop-place.invariant.at.1 c.loop-place.invariant.at.2 (record { here = slice_get_read c.args.statements.now (length c.args.statements.now) c.loop-place.place c.index-statements-place.result refl c.loop-place-test.true c.index-statements-place.is; number = (let few = c.typed_laws.ensures.statements c.args.statements.now c.args.typed.now c.requires.typed in let lt = c.loop-place-test.true in omega (arith, few, lt)); built = c.requires.built c.loop-place.place c.index-statements-place.result (slice_get_read c.args.statements.now (length c.args.statements.now) c.loop-place.place c.index-statements-place.result refl c.loop-place-test.true c.index-statements-place.is) })),
        λ tells s base placed same size limit o m w0 go.
            subst (λ n. Going s m (table_of c.run_statement.new.runner) (left_of c.run_statement.new.runner) (behind (rest_of c.args.statements.now n (after c.index-statements-place.result c.loop-place.invariant.at.0))) w0 (outside (g.W.World.log c.run_statement.new.world) (g.W.World.files c.run_statement.new.world))) e
            (c.in-Ok.ensures.told c.args.statements.now c.loop-place.place c.loop-place.invariant.at.0 c.loop-place.invariant.at.1 c.loop-place.invariant.at.2 (record { here = slice_get_read c.args.statements.now (length c.args.statements.now) c.loop-place.place c.index-statements-place.result refl c.loop-place-test.true c.index-statements-place.is; number = (let few = c.typed_laws.ensures.statements c.args.statements.now c.args.typed.now c.requires.typed in let lt = c.loop-place-test.true in omega (arith, few, lt)); built = c.requires.built c.loop-place.place c.index-statements-place.result (slice_get_read c.args.statements.now (length c.args.statements.now) c.loop-place.place c.index-statements-place.result refl c.loop-place-test.true c.index-statements-place.is) }) tells s base placed same (size ∙ ap (λ (o : Options). o.chunk) (sym c.loop-place.invariant.options)) (limit ∙ ap (λ (o : Options). o.limit) (sym c.loop-place.invariant.options)) (c.loop-place.invariant.open base o) m w0 (c.loop-place.invariant.at.3 tells s base placed same size limit o m w0 go)),
      );
    }

pub returns-clause-told : goal.returns-clause-told
returns-clause-told g c = λ tells s base placed same size limit o m w0 go.
    going_same s m (table_of c.loop-place.runner) (behind (rest_of c.args.statements.now c.loop-place.place c.loop-place.invariant.at.0)) w0 (outside (g.W.World.log c.loop-place.world) (g.W.World.files c.loop-place.world)) (behind (λ all. done)) (λ all z. ap (λ (l : List Stmt). statements_from (map statement_meaning l) all c.loop-place.invariant.at.0) (drop_all c.loop-place.place c.args.statements.now c.loop-place-test.false))
    (c.loop-place.invariant.at.3 tells s base placed same size limit o m w0 go)

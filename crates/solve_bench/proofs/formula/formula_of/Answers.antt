use Rattle.std.proofs.Common.{map, get_or, w32, SFits, pos, subst, arith, rules}
use Rattle.std.proofs.lemmas.Int.{to_z-of_z}
use Rattle.std.proofs.lemmas.Result.{err_from_is_err_and}
use Rattle.solve_bench.specs.Causes.{IsCauseAt}
use Rattle.solve_bench.specs.Spelling.{spelled_with}
use Rattle.solve_bench.proofs.Causes.{cause_from}
use Rattle.solve_bench.proofs.Spelling.{take_one_more}
use Rattle.solve_bench.proofs.formula.formula_of.Goals as goal

pub loop-number-preserved : goal.loop-number-preserved
loop-number-preserved c =
    let before = c.loop-number.invariant in
    let taken = c.in_ok-take_number.ensures in
    let number = get_or c.args.numbers.now c.loop-number.number-index (pos 0) in
    let fits : SFits w32 number = search rules in
    record {
      within = taken.within;
      open_within = taken.open_within;
      few = omega (arith, taken.few, before.few);
      spelled = take_one_more c.args.numbers.now
          (spelled_with (map (λ clause. clause.items) c.loop-number.clauses.items) c.loop-number.open_clause.items)
          (spelled_with (map (λ clause. clause.items) c.take_number.new.clauses.items) c.take_number.new.open_clause.items)
          c.loop-number.number-index _ c.loop-number-test.true (to_z-of_z w32 number fits) before.spelled taken.spelled;
    }

pub returns-in_err-take_number-clause-causes : goal.returns-in_err-take_number-clause-causes
returns-in_err-take_number-clause-causes c =
    let numbers = c.args.numbers.now in
    let k = c.loop-number.number-index in
    let number = get_or numbers k (pos 0) in
    let fits : SFits w32 number = search rules in
    let error = c.in_err-take_number.field-0.0 in
    let at : IsCauseAt c.args.vars number error = subst (λ n. IsCauseAt c.args.vars n error) (to_z-of_z w32 number fits) c.in_err-take_number.ensures.causes in
    let p = err_from_is_err_and c.from_residual.result c.from_residual.ensures.1 in
    rw (p.1, p.2) (cause_from c.args.vars numbers k c.loop-number-test.true error at)

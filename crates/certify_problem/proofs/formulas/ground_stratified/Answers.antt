use Rattle.form_formula.specs.Nodes.{formula_of}
use Rattle.certify_problem.proofs.Lists.{ok_too}
use Rattle.certify_problem.proofs.formulas.ground_stratified.Goals as goal

pub returns-in-Err : goal.returns-in-Err
returns-in-Err c = ok_too c.refused.result _ _ (λ grounded h f same. h c.args.signature.now f (formula_of c.args.arena.now c.args.id) c.requires.stratified c.in-Err.ensures.refused) c.refused.ensures

use Rattle.form_formula.specs.Nodes.{formula_of}
use Rattle.ground_terms.specs.TermLists.{terms_in}
use Rattle.certify_problem.proofs.Lists.{ok_too}
use Rattle.certify_problem.proofs.problems.clauses_over.Goals as goal

pub returns : goal.returns
returns c = ok_too c.made_for.result _ _ (λ made h. h (formula_of c.args.arena.now c.args.id) (terms_in c.args.terms) c.args.closed c.in_ok-spoken.ensures.spoken) c.made_for.ensures

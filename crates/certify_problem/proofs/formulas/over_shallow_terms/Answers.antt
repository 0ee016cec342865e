use Rattle.std.proofs.Common.{inr}
use Rattle.form_formula.specs.Nodes.{formula_of}
use Rattle.form_tables.proofs.TermsFormed.{terms_within}
use Rattle.ground_terms.specs.TermLists.{terms_in}
use Rattle.certify_clauses.specs.InMemory.{problem_in}
use Rattle.certify_problem.proofs.FormulaLaws.{problem_for}
use Rattle.certify_problem.proofs.Lists.{ok_too}
use Rattle.certify_problem.proofs.formulas.over_shallow_terms.Goals as goal

pub clauses_over-requires-clause-formed : goal.clauses_over-requires-clause-formed
clauses_over-requires-clause-formed c = terms_within c.args.signature.now (formula_of c.args.arena.now c.args.id) c.requires.over (terms_in c.args.terms) 2 c.requires.listed

pub returns : goal.returns
returns c =
    ok_too c.clauses_over.result _ _
    (λ made h f same.
    problem_for c.args.signature.now f (formula_of c.args.arena.now c.args.id) (terms_in c.args.terms) (problem_in made) c.requires.over c.requires.normal same
    (inr (c.requires.cyclic, c.requires.within, c.requires.listed)) h)
    c.clauses_over.ensures

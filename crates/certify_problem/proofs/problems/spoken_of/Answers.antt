use Rattle.form_formula.specs.Nodes.{formula_of}
use Rattle.std.proofs.Common.{◌∙◌, ap, map}
use Rattle.ground_terms.specs.Variables.{variable_at}
use Rattle.ground_terms.specs.TermLists.{terms_in}
use Rattle.certify_problem.proofs.Lists.{ok_too}
use Rattle.certify_problem.proofs.problems.spoken_of.Goals as goal

pub returns-clause-spoken : goal.returns-clause-spoken
returns-clause-spoken c =
    ok_too c.vocabulary_of.result _ _
    (λ spoken h.
    h (formula_of c.args.arena.now c.args.id) (terms_in c.args.terms) c.requires.over c.requires.formed
    (ap (map variable_at) c.as_slice.ensures.value ∙ c.in_ok-variables.ensures c.args.signature.now) c.in_ok-made.ensures)
    c.vocabulary_of.ensures.spoken

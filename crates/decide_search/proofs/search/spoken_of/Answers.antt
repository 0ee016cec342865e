use Rattle.form_formula.specs.Nodes.{formula_of}
use Rattle.std.proofs.Common.{◌∙◌, ap, map}
use Rattle.ground_terms.specs.Variables.{variable_at}
use Rattle.ground_terms.specs.TermLists.{terms_in}
use Rattle.decide_search.proofs.Solved.{ok_too}
use Rattle.decide_search.proofs.search.spoken_of.Goals as goal

pub vocabulary_of-requires : goal.vocabulary_of-requires
vocabulary_of-requires c = c.in_ok-made.ensures.stand

pub returns-clause-spoken : goal.returns-clause-spoken
returns-clause-spoken c =
    ok_too c.vocabulary_of.result _ _
    (λ spoken h.
    h (formula_of c.args.arena.now c.args.id) (terms_in c.args.terms) c.requires.over c.requires.formed
    (ap (map variable_at) c.as_slice.ensures.value ∙ c.in_ok-variables.ensures c.args.signature.now) c.in_ok-made.ensures)
    c.vocabulary_of.ensures.spoken

use Rattle.std.proofs.Common.{List, ap}
use Rattle.form_formula.specs.Nodes.{term_of}
use Rattle.form_terms.specs.GroundTerms.{GroundTerm}
use Rattle.ground_terms.specs.Standing.{terms_at}
use Rattle.ground_terms.proofs.Standing.{ones_kept, terms_kept}
use Rattle.ground_instances.specs.GroundAtoms.{ground_value}
use Rattle.ground_instances.proofs.ValueLaws.{both_values, value_same}
use Rattle.ground_instances.proofs.atoms.values_of.Goals as goal

pub value_of-requires-2-clause-env : goal.value_of-requires-2-clause-env
value_of-requires-2-clause-env c = ones_kept c.args.terms.now _ c.args.env.now c.in_ok-left.ensures.kept c.requires.env

pub returns : goal.returns
returns c =
    let nodes = c.args.arena.now in
    let same = terms_kept c.args.terms.now _ c.args.env.now c.in_ok-left.ensures.kept c.requires.env in
    both_values nodes c.args.terms.now _ _ (ground_value (terms_at c.args.terms.now c.args.env.now) (term_of nodes c.args.s)) (ground_value (terms_at c.args.terms.now c.args.env.now) (term_of nodes c.args.t)) _ _ c.in_ok-left.ensures
    (value_same nodes _ _ _ (ground_value (terms_at c.args.terms.now c.args.env.now) (term_of nodes c.args.t)) _ (ap (λ (ts : List GroundTerm). ground_value ts (term_of nodes c.args.t)) same) c.in_ok-right.ensures)

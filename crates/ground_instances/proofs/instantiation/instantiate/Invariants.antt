use Rattle.form_formula.specs.Nodes.{formula_of}
use Rattle.ground_terms.specs.TermLists.{terms_in}
use Rattle.ground_instances.specs.Made.{IsWorkFor}
use Rattle.ground_instances.proofs.instantiation.instantiate.Given as goal

abbrev pub invariant-steps : goal.invariant-steps
invariant-steps l = IsWorkFor l.signature l.arena l.source.shapes.now l.source.listed.now (terms_in l.fn.terms) (formula_of l.arena l.id) l.root l.work

use Rattle.std.proofs.Common.{List, subst, sym, ◌∙◌}
use Rattle.ground_instances.specs.declared.input.Input.{Input}
use Rattle.ground_problem.specs.Inputs.{RelateTerms}
use Rattle.ground_problem.proofs.GroundLaws.{all_ground, inputs_below, variables_below}
use Rattle.ground_problem.proofs.ground.ground_clauses.Goals as goal

pub all_variables-requires-clause-terms : goal.all_variables-requires-clause-terms
all_variables-requires-clause-terms c = let P : List Input → Type 0 = λ is. RelateTerms is in subst P (sym c.as_slice-inputs.ensures) c.requires.terms

pub encode-requires-clause-below : goal.encode-requires-clause-below
encode-requires-clause-below c =
    inputs_below c.args.arena.now c.args.spoken.now.made.terms c.all_variables.new.numbering.facts.keys c.in_ok-variables.variables.items c.as_slice.result.now c.as_slice-inputs.result.now
    c.args.spoken.now.made.inputs c.args.spoken.now.made.gates c.as_slice.ensures.value c.as_slice-inputs.ensures c.in_ok-variables.ensures.are c.requires.below

pub encode-requires-clause-variables : goal.encode-requires-clause-variables
encode-requires-clause-variables c =
    variables_below c.args.arena.now c.args.spoken.now.made.terms c.all_variables.new.numbering.facts.keys c.in_ok-variables.variables.items c.as_slice.result.now c.as_slice-inputs.result.now
    c.in_ok-base.base c.as_slice.ensures.value c.in_ok-base.ensures c.in_ok-variables.ensures.are

pub returns : goal.returns
returns c =
    all_ground c.args.spoken.now.made c.args.arena.now c.clauses.new.self c.all_variables.new.numbering c.args.facts.now c.in_ok-clauses.clauses.items c.as_slice-inputs.result.now
    c.in_ok-variables.variables.items c.as_slice.result.now c.in_ok-facts.facts.items c.in_ok-base.base c.in_ok-gates.field-0.end _ c.in_ok-variables.ensures.kept c.in_ok-clauses.ensures.are
    c.as_slice-inputs.ensures c.in_ok-variables.ensures.are (c.in_ok-facts.ensures.items ∙ c.as_slice-2.ensures.keys) c.in_ok-base.ensures c.as_slice.ensures.value c.in_ok-gates.ensures

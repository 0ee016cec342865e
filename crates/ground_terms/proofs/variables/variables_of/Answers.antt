use Rattle.std.proofs.Common.{◌∙◌, ap, sym}
use Rattle.std.specs.List.{flat_map}
use Rattle.form_formula.specs.Nodes.{formula_of}
use Rattle.form_terms.specs.Parts.{parts_of}
use Rattle.ground_terms.specs.Codes.{code_variables}
use Rattle.ground_terms.proofs.Thinned.{variables_thinned}
use Rattle.ground_terms.proofs.variables.variables_of.Goals as goal

pub returns : goal.returns
returns c = λ g.
    let nodes = c.args.arena.now in
    c.in_ok-variables.ensures g nodes
    ∙ (ap (flat_map (code_variables g nodes)) c.as_slice.ensures.value
    ∙ sym (variables_thinned g nodes (parts_of (formula_of nodes c.args.id)) c.in_ok-parts.parts.items c.in_ok-parts.ensures))

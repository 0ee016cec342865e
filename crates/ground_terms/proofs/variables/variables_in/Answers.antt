use Rattle.std.proofs.Common.{◌∙◌, ap, sym, ◌++◌, take}
use Rattle.std.specs.List.{flat_map}
use Rattle.std.proofs.lemmas.List.{take_all}
use Rattle.ground_terms.specs.declared.part.Part.{Part}
use Rattle.ground_terms.specs.Codes.{code_variables}
use Rattle.ground_terms.proofs.Standing.{flat_next}
use Rattle.ground_terms.proofs.variables.variables_in.Goals as goal

pub loop-part-preserved : goal.loop-part-preserved
loop-part-preserved c = λ g nodes.
    let h = code_variables g nodes in
    let xs = c.args.parts.now in
    let k = c.loop-part.part-index in
    let part : Part = c.part-item.result in
    c.in_ok-push_variable.ensures g nodes
    ∙ (ap (λ vs. vs ++ h part) (c.loop-part.invariant g nodes) ∙ (ap (λ p. flat_map h (take k xs) ++ h p) c.part-item.is ∙ sym (flat_next h xs k part c.loop-part-test.true)))

pub returns : goal.returns
returns c = λ g nodes. c.loop-part.invariant g nodes ∙ ap (flat_map (code_variables g nodes)) (take_all c.loop-part.part-index c.args.parts.now c.loop-part-test.false)

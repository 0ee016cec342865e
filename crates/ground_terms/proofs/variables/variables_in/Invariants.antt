use Rattle.std.proofs.Common.{◌≡◌, List, take, map}
use Rattle.std.specs.List.{flat_map}
use Rattle.form_formula.specs.declared.node.Node.{Node}
use Rattle.form_formula.specs.declared.structure.Signature.{Signature}
use Rattle.ground_terms.specs.Codes.{code_variables}
use Rattle.ground_terms.specs.Variables.{variable_at}
use Rattle.ground_terms.proofs.variables.variables_in.Given as goal

abbrev pub invariant-loop-part : goal.invariant-loop-part
invariant-loop-part l = (g : Signature) (nodes : List Node) → map variable_at l.variables.items ≡ flat_map (code_variables g nodes) (take l.part-index l.parts)

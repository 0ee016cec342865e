use Rattle.std.specs.Prelude.{List, vec_len}
use Rattle.form_formula.specs.declared.node.Node.{Node}
use Rattle.ground_instances.specs.Inputs.{value_at}
use Rattle.ground_instances.specs.Values.{IsReached, apply_all}
use Rattle.ground_instances.proofs.values.apply_all.Given as goal

abbrev pub invariant-up : goal.invariant-up
invariant-up l =
    (nodes : List Node)
    → IsReached nodes l.fn.terms l.terms (apply_all l.initial.functions.items (value_at nodes l.fn.terms l.initial.value)) l.functions.items l.value

abbrev pub decreases-up : goal.decreases-up
decreases-up l = vec_len l.functions

use Rattle.std.proofs.Common.{◌≡◌, ◌++◌, ◌∷◌, [], map, take}
use Rattle.type_schema.specs.Views as view
use Rattle.data_meaning.specs.Values as stored
use Rattle.data_meaning.specs.Meaning as meaning
use Rattle.data_members.specs.Variables.{env_data}
use Rattle.data_members.proofs.gathering.images.Given as goal

abbrev pub invariant-loop-id : goal.invariant-loop-id
invariant-loop-id l =
    l.ys.items ≡ map (λ y. meaning.id_of (meaning.value_of l.database (env_data l.env ++ stored.Id y ∷ []) (view.expr_of l.e))) (take l.id-index l.ids)

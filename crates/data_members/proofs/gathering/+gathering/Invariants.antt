use Rattle.std.proofs.Common.{◌≡◌, ◌++◌, ◌∷◌, [], ◌||◌, drop}
use Rattle.std.specs.List.{list_any}
use Rattle.type_schema.specs.Views as view
use Rattle.data_meaning.specs.Values as stored
use Rattle.data_meaning.specs.declared.principals.Principal.{Principal}
use Rattle.data_meaning.specs.Meaning as meaning
use Rattle.data_members.specs.Has.{has}
use Rattle.data_members.specs.Variables.{env_data}
use Rattle.data_members.proofs.gathering.+gathering.Given as goal

-- who is gathered, or in the set at an id that is left, is in the set at one of all
abbrev pub invariant-gather_at_each-loop-id : goal.invariant-gather_at_each-loop-id
invariant-gather_at_each-loop-id l = (q : Principal)
    → (has l.all q || list_any (λ y. meaning.member l.database (env_data l.env ++ stored.Id y ∷ []) (view.set_of l.set) q) (drop l.id-index l.ids))
    ≡ list_any (λ y. meaning.member l.database (env_data l.env ++ stored.Id y ∷ []) (view.set_of l.set) q) l.ids

use Rattle.std.proofs.Common.{◌≡◌, ◌||◌, map, drop}
use Rattle.type_schema.specs.Views as view
use Rattle.data_meaning.specs.declared.principals.Principal.{Principal}
use Rattle.data_meaning.specs.Meaning as meaning
use Rattle.data_members.specs.Sets.{is_one_of}
use Rattle.data_members.specs.Variables.{env_data}
use Rattle.data_members.proofs.gathering.listed.Given as goal

-- who is in the list, or among those that are left, is one of all
abbrev pub invariant-loop-item : goal.invariant-loop-item
invariant-loop-item l = (q : Principal)
    → (is_one_of l.ps.items q || meaning.is_listed l.database (env_data l.env) (view.items_of (map view.item_of (drop l.item-index l.items))) q)
    ≡ meaning.is_listed l.database (env_data l.env) (view.items_of (map view.item_of l.items)) q

use Rattle.std.proofs.Common.{◌≡◌, map}
use Rattle.type_schema.specs.SchemaViews.{script_of}
use Rattle.data_records.specs.Views.{value_data}
use Rattle.online_meaning.specs.Known as known
use Rattle.online_ground.specs.Grounds.{adds_before, rises}
use Rattle.online_ground.proofs.values.added_values.Given as goal

abbrev pub invariant-loop-k : goal.invariant-loop-k
invariant-loop-k l =
    (map value_data l.values.items ≡ known.added_values (script_of l.t) l.d l.r l.k)
    × (l.evaluations ≡ rises (adds_before (script_of l.t) l.r.model l.k) l.initial.evaluations)

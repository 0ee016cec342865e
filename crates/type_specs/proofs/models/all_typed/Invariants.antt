use Rattle.std.proofs.Common.{◌≡◌, drop}
use Rattle.type_typing.specs.Names.{plain_of}
use Rattle.type_specs.specs.InTurn.{in_turn}
use Rattle.type_specs.specs.Models.{with_typed}
use Rattle.type_specs.proofs.models.all_typed.Given as goal

abbrev pub invariant-loop-d : goal.invariant-loop-d
invariant-loop-d l =
    in_turn (with_typed l.stage (plain_of l.over)) (plain_of l.schema) l.defs
    ≡ in_turn (with_typed l.stage (plain_of l.over)) (plain_of l.typed) (drop l.d-index l.defs)

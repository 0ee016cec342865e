use Rattle.std.proofs.Common.{◌≡◌, drop}
use Rattle.type_typing.specs.Names.{plain_of}
use Rattle.type_specs.specs.InTurn.{in_turn}
use Rattle.type_specs.specs.Specs.{empty_schema, with_static}
use Rattle.type_specs.proofs.specs.all_statics.Given as goal

abbrev pub invariant-loop-x : goal.invariant-loop-x
invariant-loop-x l = in_turn with_static empty_schema l.names ≡ in_turn with_static (plain_of l.schema) (drop l.x-index l.names)

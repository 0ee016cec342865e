use Rattle.std.proofs.Common.{List, map, subst, arith}
use Rattle.std.specs.List.{AllByRecursion}
use Rattle.type_schema.specs.declared.commands.TCommand.{TCommand}
use Rattle.type_schema.specs.Schema.{Schema}
use Rattle.type_schema.specs.SchemaViews.{command_of, script_of}
use Rattle.type_schema.specs.Script.{count}
use Rattle.type_proper.specs.Literals.{CommandHasLiterals}
use Rattle.type_scripts.specs.Counted.{counted}
use Rattle.type_anew.specs.Room.{IsWithinNumbers, IsWithinSizes}
use Rattle.type_anew.specs.Told.{IsTold}
use Rattle.store_apply.proofs.SettledSchemas.{of-last}
use Rattle.store_apply.proofs.laws.script_settles.Goals as goal

pub returns : goal.returns
returns c = λ s script settled typed is.
    let t = script_of c.args.t.now in
    let literals : AllByRecursion CommandHasLiterals t.commands
    = subst (λ (cs : List TCommand). AllByRecursion CommandHasLiterals (map command_of cs)) c.as_slice.ensures c.commands_have_literals.ensures in
    let room = of-last (λ (u : Schema). IsWithinNumbers u × IsWithinSizes u) t is
    (c.scripts_keep_room.ensures s script t settled.steady settled.numbers settled.sizes literals typed) in
    record {
      proper = is.proper (count t) (omega arith);
      told = of-last IsTold t is (c.scripts_are_told.ensures counted s script t settled.told typed);
      numbers = room.0;
      sizes = room.1;
    }

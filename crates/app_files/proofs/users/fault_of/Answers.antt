use Rattle.std.proofs.Common.{◌≡◌, ◌-◌, List, length, take, sym, subst, arith}
use Rattle.std.specs.Prelude.{Ok}
use Rattle.std.proofs.lemmas.List.{length-take-le}
use Rattle.text_tree.specs.declared.commands.Command.{Command}
use Rattle.type_typing.specs.Names.{plain_of}
use Rattle.type_specs.specs.InTurn.{in_turn}
use Rattle.app_files.specs.Typed.{after_command, schema_before}
use Rattle.app_files.proofs.Before.{IsReached, bad-reached}
use Rattle.app_files.proofs.users.fault_of.Goals as goal

pub slice_bounds-before-count : goal.slice_bounds-before-count
slice_bounds-before-count c = (bad-reached (plain_of c.args.schema.now) c.args.script.now c.args.command c.args.err c.requires).counted_from

pub slice_bounds-before-length : goal.slice_bounds-before-length
slice_bounds-before-length c =
    let at = bad-reached (plain_of c.args.schema.now) c.args.script.now c.args.command c.args.err c.requires in
    rw c.as_slice-commands.ensures (sym (length-take-le (c.args.command - 1) c.args.script.now.commands (omega (arith, at.within))))

pub returns : goal.returns
unfolding schema_before
returns c =
    let at = bad-reached (plain_of c.args.schema.now) c.args.script.now c.args.command c.args.err c.requires in
    record {
      refused = c.requires;
      before = at.before;
      before_is = at.before_is;
      user =
          c.in-Ok.ensures at.before
          (subst (λ (cs : List Command). in_turn after_command (plain_of c.args.schema.now) (take (c.args.command - 1) cs) ≡ Ok at.before)
          (sym c.as_slice-commands.ensures) at.before_is);
    }

use Rattle.std.proofs.Common.{◌≡◌, List, get_or, sym, ◌∙◌, ap, subst}
use Rattle.std.proofs.lemmas.List.{take_rest}
use Rattle.std.specs.Prelude.{Ok}
use Rattle.text_tree.specs.declared.commands.Command.{Command}
use Rattle.type_schema.specs.Schema.{Schema}
use Rattle.type_specs.specs.InTurn.{in_turn, GivesSeen}
use Rattle.type_typing.specs.Names.{plain_of}
use Rattle.app_files.specs.Typed.{after_command}
use Rattle.app_files.proofs.Turns.{in_turn-none, in_turn-first}
use Rattle.app_files.proofs.users.+schema_after.Goals as goal

pub returns-in_default : goal.returns-in_default
unfolding plain_of
returns-in_default t c =
    in_turn-none after_command (plain_of c.args.schema.now) c.args.commands.now c.in_default.len_below
    ∙ ap (λ (s : Schema). Ok s) (sym c.in_ok-copy.ensures)

pub returns : goal.returns
returns t c =
    let one : after_command (plain_of c.args.schema.now) (get_or c.args.commands.now 0 c.command-item.result) ≡ Ok (plain_of c.in_ok-after.after) =
    subst (λ (command : Command). after_command (plain_of c.args.schema.now) command ≡ Ok (plain_of c.in_ok-after.after)) c.command-item.is c.in_ok-after.ensures in
    in_turn-first after_command (plain_of c.args.schema.now) (plain_of c.in_ok-after.after) c.args.commands.now c.command-item.result plain_of c.schema_after.result
    c.in-len1-up.len_at_least one
    (subst (λ (rest : List Command). GivesSeen plain_of (in_turn after_command (plain_of c.in_ok-after.after) rest) c.schema_after.result)
    (take_rest c.args.commands.now 1) c.schema_after.ensures)

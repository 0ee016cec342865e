use Rattle.std.proofs.Common.{List, subst}
use Rattle.std.specs.List.{AllByRecursion}
use Rattle.text_tree.specs.declared.commands.Command.{Command}
use Rattle.app_files.specs.Typed.{HasText}
use Rattle.app_files.proofs.Written.{few_commands, written}
use Rattle.app_files.proofs.types.typed_script.Goals as goal

pub type_script-requires-clause-few : goal.type_script-requires-clause-few
type_script-requires-clause-few c = few_commands c.requires.spelled.0 c.args.script.now c.requires.spelled.1

pub type_script-requires-clause-written : goal.type_script-requires-clause-written
type_script-requires-clause-written c =
    written c.requires.spelled.0 c.args.script.now c.requires.spelled.1
    (subst (λ (commands : List Command). AllByRecursion HasText commands) c.as_slice.ensures c.have_texts.ensures)

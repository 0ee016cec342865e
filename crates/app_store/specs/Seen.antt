-- What contracts see of the code's commands.
use Rattle.std.specs.Prelude.{option_copied}
use Rattle.app_store.specs.declared.words.StoreCommand.{StoreCommand}
use Rattle.app_store.specs.declared.words.StoreCommand.TheVariants as v
use Rattle.app_store.specs.Words.{Command, Init, Check, Apply, Show}

abbrev pub command_seen : StoreCommand → Command
command_seen (v.Init spec base) = Init spec.now (option_copied base)
command_seen (v.Check script) = Check script.now
command_seen (v.Apply script) = Apply script.now
command_seen v.Show = Show

-- What a keeper tells of what it holds.
use Rattle.std.specs.Prelude.{Option, Some}
use Rattle.std.specs.Option.{option_map}
use Rattle.store_keeper.specs.Stored.{Stored}

-- None where it tells nothing; else what it holds, which is nothing until the first write
abbrev pub Content : Type 0
Content = Option (Option Stored)

-- this is held now, where the keeper tells what it holds
abbrev pub replaced : Stored → Content → Content
replaced s content = option_map (λ held. Some s) content

-- what is held was changed, where the keeper tells what it holds
abbrev pub changed : (Stored → Stored) → Content → Content
changed change content = option_map (option_map change) content

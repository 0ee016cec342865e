-- What a keeper tells that tells nothing.
use Rattle.std.specs.Prelude.{None}
use Rattle.store_keeper.specs.Content.{Content}

-- nothing is told
abbrev pub untold : Content
untold = None

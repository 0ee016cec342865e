use Rattle.std.proofs.Common.{refl}
use Rattle.impact_shrink.proofs.Still.{any-taken-as}
use Rattle.impact_shrink.proofs.judging.changes_within.Goals as goal

pub returns : goal.returns
returns c =
    any-taken-as c.any_changes.result c.args.k c.args.k c.as_slice-commands.result.now c.args.t.now.commands refl c.as_slice-commands.ensures c.any_changes.ensures

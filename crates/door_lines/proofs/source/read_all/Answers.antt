use Rattle.std.proofs.Common.{◌++◌}
use Rattle.door_lines.proofs.RestLemmas.{consumes_then}
use Rattle.door_lines.proofs.source.read_all.Goals as goal

pub returns-in_err-take_more-clause-read_on : goal.returns-in_err-take_more-clause-read_on
returns-in_err-take_more-clause-read_on g c =
    let more = c.take_more.ensures.read_on in
    (c.loop-src.bytes.items ++ more.0, consumes_then _ _ _ _ _ c.loop-src.invariant.came more.1)

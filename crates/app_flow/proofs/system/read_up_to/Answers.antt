use Rattle.std.proofs.Common.{arith, ◌≤◌, ◌<◌, length, ◌∙◌}
use Rattle.app_flow.proofs.ReadsLemmas.{read_whole}
use Rattle.app_flow.proofs.system.read_up_to.Goals as goal

pub returns-in-Ok-2-clause-found : goal.returns-in-Ok-2-clause-found
returns-in-Ok-2-clause-found g c =
    let read = simp c.new-bytes.ensures.items at c.in-Ok-2.ensures.bytes in
    let buf = c.read_to_end.new.buf in
    let within : length buf.items ≤ c.args.limit = omega (arith, c.in-Ok.ensures.ok, c.new-bytes.ensures.len, buf.ok.0) in
    let small : length buf.items < 9223372036854775808 = omega (arith, buf.ok, buf.small) in
    rw (← c.take.ensures.inner) (read_whole _ c.args.limit _ _ (c.take.ensures.limit ∙ c.saturating_add.ensures) within small read)

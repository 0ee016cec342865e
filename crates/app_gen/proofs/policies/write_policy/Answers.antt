use Rattle.std.proofs.Common.{append_assoc}
use Rattle.app_gen.proofs.policies.write_policy.Goals as goal

pub returns : goal.returns
returns c =
    simp (c.in_ok-put-3.ensures, c.in_ok-write_filters.ensures, c.in_ok-put-2.ensures, c.in_ok-put.ensures, append_assoc)

use Rattle.std.proofs.Common.{refl}
use Rattle.ground_instances.proofs.MakeLaws.{one_made}
use Rattle.ground_instances.proofs.make.make_constant.Goals as goal

pub returns : goal.returns
returns c = λ g nodes shapes listed ready.
    one_made g nodes shapes listed c.args.work.now _ (λ is_there holds. c.args.value) c.in_ok-gate.gate ready c.in_ok-gate.ensures.grows refl refl (c.in_ok-gate.ensures.means nodes)

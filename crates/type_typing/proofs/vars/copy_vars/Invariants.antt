use Rattle.std.proofs.Common.{◌≡◌, take}
use Rattle.type_typing.proofs.vars.copy_vars.Given as goal

abbrev pub invariant-loop-v : goal.invariant-loop-v
invariant-loop-v l = l.copies.items ≡ take l.v-index l.vars

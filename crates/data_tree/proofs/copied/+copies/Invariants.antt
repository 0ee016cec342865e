use Rattle.std.proofs.Common.{◌≡◌, take}
use Rattle.data_tree.proofs.copied.+copies.Given as goal

abbrev pub invariant-copy_lits-loop-lit : goal.invariant-copy_lits-loop-lit
invariant-copy_lits-loop-lit l = l.copies.items ≡ take l.lit-index l.lits

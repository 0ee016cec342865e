use Rattle.std.proofs.Common.{◌≡◌, take}
use Rattle.std.specs.Prelude.{filter}
use Rattle.data_meaning.specs.Meaning as meaning
use Rattle.data_members.specs.Sets.{is_one_of}
use Rattle.data_members.proofs.gathering.chosen.Given as goal

abbrev pub invariant-loop-p : goal.invariant-loop-p
invariant-loop-p l = l.all.items ≡ filter (λ p. meaning.same_truth l.wanted (is_one_of l.qs p)) (take l.p-index l.ps)

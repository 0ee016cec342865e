use Rattle.std.proofs.Common.{◌≡◌, length}
use Rattle.data_back.specs.Reading.{number_from}
use Rattle.data_back.proofs.scanner.Scanner.number.Given as goal

abbrev pub invariant-loop-self : goal.invariant-loop-self
invariant-loop-self l = number_from l.number l.self-inside.rest.now ≡ number_from 0 l.fn.self

abbrev pub decreases-loop-self : goal.decreases-loop-self
decreases-loop-self l = length l.self-inside.rest.now

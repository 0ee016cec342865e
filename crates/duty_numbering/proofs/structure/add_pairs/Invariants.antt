use Rattle.std.proofs.Common.{◌≡◌, ◌++◌, take}
use Rattle.duty_numbering.specs.Elements.{pairs_from}
use Rattle.duty_numbering.proofs.structure.add_pairs.Given as goal

abbrev pub invariant-loop-other : goal.invariant-loop-other
invariant-loop-other l =
    l.pairs.items ≡ l.initial.pairs.items ++ pairs_from l.link.database.now l.link.source l.link.target l.id (take l.other-index l.others)

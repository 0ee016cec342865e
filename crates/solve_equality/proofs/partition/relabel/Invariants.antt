use Rattle.std.proofs.Common.{take}
use Rattle.solve_equality.specs.Partition.{IsRelabelled}
use Rattle.solve_equality.proofs.partition.relabel.Given as goal

-- the terms visited so far are relabelled
abbrev pub invariant-loop-place : goal.invariant-loop-place
invariant-loop-place l = IsRelabelled l.initial.classes (take l.place l.members.visits) l.class l.classes

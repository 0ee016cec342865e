use Rattle.std.proofs.Common.{◌≡◌, map, take}
use Rattle.std.specs.List.{enumerate_from}
use Rattle.decide_models.specs.Columns.{row_by}
use Rattle.decide_models.proofs.rows.rows.Given as goal

abbrev pub invariant-loop-place : goal.invariant-loop-place
invariant-loop-place l =
    l.rows ≡ map (row_by l.terms l.source.found.now l.told l.source.all.now l.source.defaults.now) (enumerate_from 0 (take l.place l.signature.funs))

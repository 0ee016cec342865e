use Rattle.std.proofs.Common.{◌<◌, ℕ, [], get_or}
use Rattle.form_formula.specs.declared.structure.FunSig.{FunSig}
use Rattle.decide_smaller.specs.Fitting.{IsTableOf}
use Rattle.decide_smaller.proofs.fitting.are_tables.Given as goal

abbrev pub invariant-loop-place : goal.invariant-loop-place
invariant-loop-place l = (h : ℕ) (d : FunSig) → h < l.place → IsTableOf l.structure (get_or l.signature.funs h d) (get_or l.structure.funs h [])

use Rattle.std.proofs.Common.{◌<◌, ℕ, [], get_or}
use Rattle.form_formula.specs.declared.structure.SetSig.{SetSig}
use Rattle.decide_smaller.specs.Fitting.{IsRelationOf}
use Rattle.decide_smaller.proofs.fitting.are_relations.Given as goal

abbrev pub invariant-loop-place : goal.invariant-loop-place
invariant-loop-place l = (r : ℕ) (d : SetSig) → r < l.place → IsRelationOf l.structure (get_or l.signature.sets r d) (get_or l.structure.sets r [])

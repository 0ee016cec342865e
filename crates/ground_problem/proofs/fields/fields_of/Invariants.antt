use Rattle.std.proofs.Common.{take}
use Rattle.ground_problem.specs.Inputs.{AddsFields}
use Rattle.ground_problem.proofs.fields.fields_of.Given as goal

abbrev pub invariant-loop-input : goal.invariant-loop-input
invariant-loop-input l = AddsFields l.initial.terms l.terms (take l.input-index l.inputs) l.fields.items

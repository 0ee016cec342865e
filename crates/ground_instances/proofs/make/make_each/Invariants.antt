use Rattle.std.proofs.Common.{take}
use Rattle.form_formula.specs.Nodes.{formula_of}
use Rattle.ground_instances.specs.Instances.{IsGate, each_test}
use Rattle.ground_instances.proofs.make.make_each.Given as goal

abbrev pub invariant-loop-t : goal.invariant-loop-t
invariant-loop-t l =
    IsGate l.source.signature.now l.source.arena.now l.source.shapes.now l.source.listed.now l.fn.work l.work
    (each_test l.source.signature.now l.fn.work.board.terms l.source.listed.now l.above.number l.above.variables.now l.above.arguments.now (formula_of l.source.arena.now l.a) (take l.t-index l.choices)) l.whole

use Rattle.certify_atoms.specs.Texts.{KeepsOnce}
use Rattle.certify_atoms.proofs.texts.add_facts.Given as goal

abbrev pub invariant-loop-fact : goal.invariant-loop-fact
invariant-loop-fact l = KeepsOnce l.initial.texts.items l.texts.items

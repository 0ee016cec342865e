use Rattle.std.proofs.Common.{◌+◌, length, take}
use Rattle.certify_clauses.specs.Listed.{AreTaken}
use Rattle.certify_atoms.specs.Atoms.{AreAtomsOf}
use Rattle.certify_atoms.proofs.atoms.atoms_of.Given as goal

abbrev pub invariant-loop-fact : goal.invariant-loop-fact
invariant-loop-fact l =
    let r = l.reader in
    record {
      are : AreAtomsOf r.signature.now r.arena.now r.terms.now r.words.now r.texts.now (take l.fact-index l.facts) l.atoms.items;
      taken : AreTaken (length r.terms.now + length r.texts.now) (length r.terms.now + 1) l.atoms.items;
    }

use Rattle.std.proofs.Common.{◌≤◌, ◌+◌, ℕ, List, arith, length, subst, sym}
use Rattle.ground_problem.specs.declared.facts.FactNode.{FactNode}
use Rattle.certify_clauses.specs.Listed.{AreTaken}
use Rattle.certify_atoms.specs.Atoms.{AreAtomsOf}
use Rattle.certify_problem.proofs.Padding.{atoms_long, padded_taken}
use Rattle.certify_problem.proofs.problems.listed_by.Goals as goal

pub pad-requires : goal.pad-requires
pad-requires c =
    let r = c.args.reader in
    let atoms = c.in_ok-atoms.atoms.items in
    let facts = c.args.ground.now.facts.items in
    let own = subst (λ (ps : List FactNode). AreAtomsOf r.signature.now r.arena.now r.terms.now r.words.now r.texts.now ps atoms) c.as_slice.ensures.value c.in_ok-atoms.ensures.are in
    let long = atoms_long r.signature.now r.arena.now r.terms.now r.words.now r.texts.now facts atoms own in
    let few : length facts ≤ c.args.ground.now.end = c.requires in
    omega (arith, long, few)

pub listed-requires-clause-taken : goal.listed-requires-clause-taken
listed-requires-clause-taken c =
    let r = c.args.reader in
    let terms = length r.terms.now in
    let texts = length r.texts.now in
    subst (λ (n : ℕ). AreTaken (n + texts) (n + 1) c.pad.new.atoms.items) (sym c.len.ensures.len)
    (padded_taken (terms + texts) (terms + 1) c.args.ground.now.end c.in_ok-atoms.atoms.items c.pad.new.atoms.items c.in_ok-pad.ensures c.in_ok-atoms.ensures.taken)

use Rattle.std.proofs.Common.{◌+◌, length}
use Rattle.certify_clauses.specs.Listed.{is_taken}
use Rattle.certify_atoms.proofs.SideLaws.{all_push, atoms_more}
use Rattle.certify_atoms.proofs.atoms.atoms_of.Goals as goal

pub loop-fact-preserved : goal.loop-fact-preserved
loop-fact-preserved c =
    let r = c.args.reader in
    record {
      are = atoms_more r.signature.now r.arena.now r.terms.now r.words.now r.texts.now c.args.facts.now c.loop-fact.fact-index _ c.atom_of-atom.result c.loop-fact.atoms.items _
          c.loop-fact-test.true c.loop-fact.invariant.are c.atom_of-atom.ensures.of c.in_ok-push.ensures.items;
      taken = all_push (is_taken (length r.terms.now + length r.texts.now) (length r.terms.now + 1)) c.loop-fact.atoms.items _ c.atom_of-atom.result c.loop-fact.invariant.taken
          c.atom_of-atom.ensures.taken c.in_ok-push.ensures.items;
    }

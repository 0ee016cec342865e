use Rattle.std.proofs.Common.{length, arith}
use Rattle.decide_search.proofs.Halved.{atoms_whole}
use Rattle.decide_search.proofs.Taken.{none_taken}
use Rattle.decide_search.proofs.atoms.atoms_for.Goals as goal

pub returns-clause-are : goal.returns-clause-are
returns-clause-are c =
    atoms_whole c.args.reader.signature.now c.args.reader.arena.now c.args.reader.terms.now c.args.reader.words.now c.args.reader.texts.now c.args.vars _
    c.args.facts.now c.args.halves.now _ _ _ _ c.new-atoms.ensures c.in_ok-push_atoms.ensures.adds c.in_ok-push_plain.ensures.adds c.in_ok-push_atoms-2.ensures.adds (omega (arith, c.requires))

pub returns-clause-taken : goal.returns-clause-taken
returns-clause-taken c =
    c.in_ok-push_atoms-2.ensures.taken (c.in_ok-push_plain.ensures.taken (length c.args.reader.terms.now) (length c.args.reader.texts.now)
    (c.in_ok-push_atoms.ensures.taken (none_taken (length c.args.reader.terms.now) (length c.args.reader.texts.now) _ c.new-atoms.ensures)))

use Rattle.std.proofs.Common.{length}
use Rattle.certify_atoms.proofs.Items.{some_too}
use Rattle.certify_atoms.proofs.SideLaws.{below_sides, side_within}
use Rattle.certify_atoms.proofs.atoms.atom_of_below.Goals as goal

pub returns-clause-of : goal.returns-clause-of
returns-clause-of c =
    let r = c.args.reader in
    some_too c.below_atom.result _ _
    (λ both k. below_sides r.signature.now r.arena.now r.terms.now r.words.now r.texts.now c.args.v c.args.u c.in_ok-left.left c.in_ok-right.right both c.in_ok-left.ensures c.in_ok-right.ensures k)
    c.below_atom.ensures.of

pub returns-clause-taken : goal.returns-clause-taken
returns-clause-taken c =
    let r = c.args.reader in
    c.below_atom.ensures.taken (length r.terms.now) (length r.texts.now)
    (side_within r.signature.now r.arena.now r.terms.now r.words.now r.texts.now c.args.v c.in_ok-left.left c.in_ok-left.ensures)
    (side_within r.signature.now r.arena.now r.terms.now r.words.now r.texts.now c.args.u c.in_ok-right.right c.in_ok-right.ensures)

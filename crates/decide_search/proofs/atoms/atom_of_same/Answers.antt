use Rattle.std.proofs.Common.{length}
use Rattle.decide_search.specs.Sides.{IsTakenBy}
use Rattle.decide_search.proofs.Halved.{same_sides}
use Rattle.decide_search.proofs.Solved.{ok_too, some_too}
use Rattle.decide_search.proofs.Taken.{side_within}
use Rattle.decide_search.proofs.atoms.atom_of_same.Goals as goal

pub returns-clause-of : goal.returns-clause-of
returns-clause-of c =
    ok_too c.same_atom.result _ _
    (λ atom h. some_too atom _ _
    (λ pair k.
    same_sides c.args.reader.signature.now c.args.reader.arena.now c.args.reader.terms.now c.args.reader.words.now c.args.reader.texts.now c.args.v c.args.u c.in_ok-left.left
    c.in_ok-right.right pair c.in_ok-left.ensures c.in_ok-right.ensures k) h)
    c.same_atom.ensures.of

pub returns-clause-taken : goal.returns-clause-taken
returns-clause-taken c =
    ok_too c.same_atom.result _ (IsTakenBy (length c.args.reader.terms.now) (length c.args.reader.texts.now))
    (λ atom h. h (length c.args.reader.terms.now) (length c.args.reader.texts.now)
    (side_within c.args.reader.signature.now c.args.reader.arena.now c.args.reader.terms.now c.args.reader.words.now c.args.reader.texts.now c.args.v c.in_ok-left.left c.in_ok-left.ensures)
    (side_within c.args.reader.signature.now c.args.reader.arena.now c.args.reader.terms.now c.args.reader.words.now c.args.reader.texts.now c.args.u c.in_ok-right.right c.in_ok-right.ensures))
    c.same_atom.ensures.taken

use Rattle.std.proofs.Common.{length}
use Rattle.decide_search.specs.Sides.{IsTakenBy}
use Rattle.decide_search.proofs.Halved.{atoms_more, no_atoms_more}
use Rattle.decide_search.proofs.Taken.{all_push}
use Rattle.decide_search.proofs.atoms.push_atoms.Goals as goal

pub loop-fact-init : goal.loop-fact-init
loop-fact-init c =
    (no_atoms_more c.args.reader.signature.now c.args.reader.arena.now c.args.reader.terms.now c.args.reader.words.now c.args.reader.texts.now c.args.atoms.now, λ h. h)

pub loop-fact-preserved : goal.loop-fact-preserved
loop-fact-preserved c = (
  atoms_more c.args.reader.signature.now c.args.reader.arena.now c.args.reader.terms.now c.args.reader.words.now c.args.reader.texts.now c.args.facts.now c.loop-fact.fact-index _
      c.in_ok-atom.atom _ _ _ c.loop-fact-test.true c.loop-fact.invariant.0 c.in_ok-atom.ensures.of c.in_ok-push.ensures.ok,
  λ h. all_push (IsTakenBy (length c.args.reader.terms.now) (length c.args.reader.texts.now)) _ _ c.in_ok-atom.atom c.in_ok-push.ensures.ok (c.loop-fact.invariant.1 h) c.in_ok-atom.ensures.taken,
)

use Rattle.std.proofs.Common.{ℕ, arith}
use Rattle.indexmap.specs.IndexMap.{get}
use Rattle.ground_problem.specs.declared.words.PairNode.{PairNode}
use Rattle.decide_reading.specs.Settled.{HasPairSettled, IsPairSettled}
use Rattle.decide_reading.specs.contracts.keys.PairKeyPartialEq.TheImpl as key_eq
use Rattle.decide_reading.proofs.DemandSteps.{so_within}
use Rattle.decide_reading.proofs.SettledLaws.{empty_more, pair_settled, pair_settled_still}
use Rattle.decide_reading.proofs.broken_pairs.pair_rivals_among.Goals as goal

pub loop-place-preserved : goal.loop-place-preserved
loop-place-preserved c =
    let terms = c.args.source.terms.now in
    let found = c.args.source.found.now in
    let old = get (key_eq.ghosts).eq c.loop-place.firsts.places in
    let new = get (key_eq.ghosts).eq c.note_rival.new.firsts.places in
    let P : ℕ → PairNode → Type 0 = λ j pair. HasPairSettled terms found old j pair in
    let Q : ℕ → PairNode → Type 0 = λ j pair. HasPairSettled terms found new j pair in (
      c.in_ok-note_rival.ensures.below,
      c.in_ok-note_rival.ensures.within c.loop-place.invariant.1,
      empty_more P Q c.args.pairs.now c.loop-place.place c.loop-place.rivals.items c.note_rival.new.rivals.items
          (λ j pair h. pair_settled_still terms found old new j pair c.in_ok-note_rival.ensures.kept h) c.in_ok-note_rival.ensures.before c.in_ok-note_rival.ensures.settled
          c.loop-place.invariant.2,
    )

pub returns-clause-none : goal.returns-clause-none
returns-clause-none c = λ none.
    let terms = c.args.source.terms.now in
    let found = c.args.source.found.now in
    let places = get (key_eq.ghosts).eq c.loop-place.firsts.places in
    let P : ℕ → PairNode → Type 0 = λ j pair. IsPairSettled terms found places j pair in (
      places,
      so_within P c.args.pairs.now c.loop-place.place (omega arith) (λ j pair less e. pair_settled terms found places j pair (c.loop-place.invariant.2 j pair less e none)),
    )

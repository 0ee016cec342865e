use Rattle.std.proofs.Common.{ℕ, arith}
use Rattle.indexmap.specs.IndexMap.{get}
use Rattle.decide_reading.specs.Settled.{HasSettled, IsSettled}
use Rattle.decide_reading.specs.contracts.keys.KeyPartialEq.TheImpl as key_eq
use Rattle.decide_reading.proofs.Functional.{functional_by}
use Rattle.decide_reading.proofs.DemandSteps.{so_within}
use Rattle.decide_reading.proofs.SettledLaws.{empty_more, settled, settled_still}
use Rattle.decide_reading.proofs.broken_terms.rivals_among.Goals as goal

pub loop-place-preserved : goal.loop-place-preserved
loop-place-preserved c =
    let terms = c.args.source.terms.now in
    let found = c.args.source.found.now in
    let old = get (key_eq.ghosts).eq c.loop-place.firsts.places in
    let new = get (key_eq.ghosts).eq c.note_rival.new.firsts.places in
    let P : ℕ → ℕ → Type 0 = λ j id. HasSettled terms found c.args.ids.now old id in
    let Q : ℕ → ℕ → Type 0 = λ j id. HasSettled terms found c.args.ids.now new id in (
      c.in_ok-note_rival.ensures.below,
      c.in_ok-note_rival.ensures.within c.loop-place.invariant.1,
      empty_more P Q c.args.ids.now c.loop-place.place c.loop-place.rivals.items c.note_rival.new.rivals.items
          (λ j id h. settled_still terms found c.args.ids.now old new id c.in_ok-note_rival.ensures.kept h) c.in_ok-note_rival.ensures.before c.in_ok-note_rival.ensures.settled
          c.loop-place.invariant.2,
    )

pub returns-clause-none : goal.returns-clause-none
returns-clause-none c = λ none values have.
    let terms = c.args.source.terms.now in
    let found = c.args.source.found.now in
    let places = get (key_eq.ghosts).eq c.loop-place.firsts.places in
    let P : ℕ → ℕ → Type 0 = λ j id. IsSettled terms found c.args.ids.now places id in
    functional_by terms found c.args.ids.now places values have
    (so_within P c.args.ids.now c.loop-place.place (omega arith) (λ j id less e. settled terms found c.args.ids.now places id (c.loop-place.invariant.2 j id less e none)))

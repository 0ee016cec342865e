use Rattle.std.proofs.Common.{ap, arith, ◌∷◌, [], length, length-append}
use Rattle.ground_terms.specs.Standing.{terms_at}
use Rattle.ground_terms.proofs.Placement.{kind_within}
use Rattle.ground_problem.specs.Telling.{IsListedElement}
use Rattle.ground_problem.proofs.TellingLaws.{listed_more, telling_more}
use Rattle.ground_problem.proofs.telling.tell.Goals as goal

pub loop-id-preserved : goal.loop-id-preserved
loop-id-preserved c =
    let s = c.args.source in (
      telling_more s.signature.now s.variables.now (terms_at s.terms.now s.listed.now) s.closed s.terms.now c.loop-id.telling c.note.new.self c.standing_of-standing.result c.loop-id.id c.loop-id.invariant.1
          c.standing_of-standing.ensures.stands c.in_ok-note.ensures.standings c.in_ok-note.ensures.named c.in_ok-note.ensures.others c.loop-id.invariant.0,
      omega (arith, ap length c.in_ok-note.ensures.standings, length-append c.loop-id.telling.standings.items (c.standing_of-standing.result ∷ []), c.loop-id.invariant.1),
      listed_more (IsListedElement s.signature.now s.terms.now s.marks.now) c.loop-id.telling.standings.items c.note.new.self.standings.items c.standing_of-standing.result c.loop-id.id c.loop-id.invariant.1
          c.in_ok-note.ensures.standings c.loop-id.invariant.2 c.standing_of-standing.ensures.listed,
    )

pub returns-clause-listed : goal.returns-clause-listed
returns-clause-listed c = λ id listed.
    let within = kind_within c.args.source.terms.now id _ listed.one in
    c.loop-id.invariant.2 id (omega arith) listed

use Rattle.std.proofs.Common.{List, Vec, Global, map, subst}
use Rattle.ground_problem.specs.Facts.{clauses_at}
use Rattle.ground_problem.specs.declared.facts.FactLiteral.{FactLiteral}
use Rattle.decide_search.specs.Tabled.{AreNewCongruences}
use Rattle.decide_search.proofs.Glue.{more_listed}
use Rattle.decide_search.proofs.Rounds.{fewer_lacking}
use Rattle.decide_search.proofs.Solved.{broken_round}
use Rattle.decide_search.proofs.search.table_for.Goals as goal

pub returns-in-None-clause-none : goal.returns-in-None-clause-none
returns-in-None-clause-none c = λ same. c.in_ok-round_by.ensures.none c.in-None.is

pub rounds-preserved : goal.rounds-preserved
rounds-preserved c =
    let new =
    broken_round c.in_ok-round_by.field-0 _
    (AreNewCongruences c.args.signature.now c.args.arena.now c.args.spoken.now.made.terms c.args.spoken.now.words
    (clauses_at c.args.arena.now c.args.spoken.now.made.terms (map (λ c. c.items) c.as_slice.result.now))) c.in-Some-Broken.field-0 c.in-Some-Broken.more c.in-Some-Broken.is
    c.in-Some-Broken.field-0-is c.in_ok-round_by.ensures.some in
    more_listed c.args.signature.now c.args.arena.now c.args.spoken.now.made.terms c.args.spoken.now.words (map (λ c. c.items) c.rounds.facts.items)
    (map (λ c. c.items) c.in-Some-Broken.more.items) (map (λ c. c.items) c.add_congruences.new.clauses.items) c.in_ok-add_congruences-in-Some-Broken.ensures new.congruences
    c.rounds.invariant

pub rounds-smaller : goal.rounds-smaller
rounds-smaller c =
    let P : List (Vec FactLiteral Global) → Type 0 = λ vs.
    AreNewCongruences c.args.signature.now c.args.arena.now c.args.spoken.now.made.terms c.args.spoken.now.words (clauses_at c.args.arena.now c.args.spoken.now.made.terms (map (λ c. c.items) vs))
    (map (λ c. c.items) c.in-Some-Broken.more.items) in
    let new =
    broken_round c.in_ok-round_by.field-0 _
    (AreNewCongruences c.args.signature.now c.args.arena.now c.args.spoken.now.made.terms c.args.spoken.now.words
    (clauses_at c.args.arena.now c.args.spoken.now.made.terms (map (λ c. c.items) c.as_slice.result.now))) c.in-Some-Broken.field-0 c.in-Some-Broken.more c.in-Some-Broken.is
    c.in-Some-Broken.field-0-is c.in_ok-round_by.ensures.some in
    fewer_lacking c.args.signature.now c.args.arena.now c.args.spoken.now.made.terms c.args.spoken.now.words (map (λ c. c.items) c.rounds.facts.items)
    (map (λ c. c.items) c.in-Some-Broken.more.items) (map (λ c. c.items) c.add_congruences.new.clauses.items) c.in_ok-add_congruences-in-Some-Broken.ensures
    (subst P c.as_slice.ensures.value new)

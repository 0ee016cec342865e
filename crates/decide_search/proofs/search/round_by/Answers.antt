use Rattle.std.proofs.Common.{map}
use Rattle.decide_search.specs.Tabled.{AreNewCongruences, IsGroundFor}
use Rattle.decide_search.proofs.Glue.{ground_for}
use Rattle.decide_search.proofs.Solved.{ok_too, some_too, round_too}
use Rattle.ground_problem.specs.Facts.{clauses_at}
use Rattle.ground_problem.specs.Facts.{fact_at}
use Rattle.decide_search.proofs.Taken.{ground_below}
use Rattle.decide_search.proofs.search.round_by.Goals as goal

pub found_for-requires-clause-below : goal.found_for-requires-clause-below
found_for-requires-clause-below c =
    let ground = c.in_ok-clauses.clauses in
    let s = c.args.spoken.now in
    let (facts, own, others) = ground_below (λ c. c.items) (fact_at c.args.arena.now s.made.terms) ground.facts.items s.made c.args.arena.now _ ground.end ground.clauses.items ground.gates.items c.in_ok-clauses.ensures in
    record { facts = facts; clauses = own; gates = others }

pub returns-clause-none : goal.returns-clause-none
returns-clause-none c =
    ok_too c.found_for.result _ _
    (λ found h none f ts closed over normal is sat.
    h none f ts closed over normal is (ground_for c.args.signature.now c.args.arena.now c.args.spoken.now c.in_ok-clauses.clauses _ c.in_ok-clauses.ensures c.requires.listed) sat)
    c.found_for.ensures.none

pub returns-clause-some : goal.returns-clause-some
returns-clause-some c =
    let s = c.args.spoken.now in
    let g = c.args.signature.now in
    let nodes = c.args.arena.now in
    let cs = clauses_at nodes s.made.terms (map (λ c. c.items) c.args.facts.now) in
    let said : IsGroundFor g nodes s c.in_ok-clauses.clauses = record { cs = cs; listed = c.requires.listed; clauses = c.in_ok-clauses.ensures } in
    ok_too c.found_for.result _ _
    (λ found h. some_too found _ _
    (λ x k. round_too x _ _ (λ more. (is : IsGroundFor g nodes s c.in_ok-clauses.clauses) → AreNewCongruences g nodes s.made.terms s.words is.cs more)
    (AreNewCongruences g nodes s.made.terms s.words cs) (λ found k f ts closed over normal is. k f ts closed over normal is said) (λ more k. k said) k) h)
    c.found_for.ensures.some

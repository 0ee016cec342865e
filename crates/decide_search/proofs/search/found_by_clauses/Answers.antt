use Rattle.std.proofs.Common.{◌++◌, List, Option, map, subst}
use Rattle.std.specs.Prelude.{IfSome}
use Rattle.decide_search.specs.declared.mixture.Mixture.{Mixture}
use Rattle.ground_problem.specs.declared.facts.FactLiteral.{FactLiteral}
use Rattle.decide_search.specs.Problem.{AreSolved}
use Rattle.decide_search.specs.Tabled.{AreBrokenBy}
use Rattle.decide_search.proofs.Solved.{round_too}
use Rattle.decide_search.proofs.search.found_by_clauses.Goals as goal

pub returns-in_ok-round-in-Some-clause-some : goal.returns-in_ok-round-in-Some-clause-some
returns-in_ok-round-in-Some-clause-some c =
    let r = c.args.reader in
    let ground = c.args.ground in
    let all = map (λ c. c.items) c.args.clauses.items ++ map (λ c. c.items) c.args.gates.items in
    let P : Option Mixture → Type 0 = λ o. IfSome o (AreSolved all) in
    let Q : Mixture → List (List FactLiteral) → Type 0 = λ m more.
    AreBrokenBy r.signature.now r.arena.now r.terms.now r.words.now ground.facts.now m.values.items more in
    let solved = subst P c.in-Some.is c.in_ok-solve.ensures.some in
    round_too c.in_ok-round-in-Some.round _ _ (Q c.in-Some.mixture) (λ more. (m : Mixture) × AreSolved all m × Q m more) (λ found k. (c.in-Some.mixture, solved, k))
    (λ more k. (c.in-Some.mixture, solved, k)) c.in_ok-round-in-Some.ensures

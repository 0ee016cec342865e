use Rattle.std.proofs.Common.{refl, ◌∙◌, subst}
use Rattle.solve_theory.specs.Models.{IsModelOf}
use Rattle.decide_search.proofs.Places.{found_values, found_lawful, found_model}
use Rattle.decide_search.proofs.mixture.answer.Goals as goal

pub returns-in_ok-model-in-Sat-clause-some : goal.returns-in_ok-model-in-Sat-clause-some
returns-in_ok-model-in-Sat-clause-some g c =
    let s = c.search.new.self in
    found_values _ _ c.args.vars s.vars s.clauses c.args.solver.now.clauses s.atoms s.assignment c.in_ok-values-in-Sat.values.items (c.in-Sat.ensures.sat.1 refl) c.in-Sat.ensures.lawful
    c.in_ok-values-in-Sat.ensures (c.in-Sat.ensures.kept.vars ∙ c.requires) c.in-Sat.ensures.clauses

pub returns-in_ok-model-in-Sat-clause-lawful : goal.returns-in_ok-model-in-Sat-clause-lawful
returns-in_ok-model-in-Sat-clause-lawful g c =
    let s = c.search.new.self in
    let old = c.args.solver.now in
    found_lawful _ _ _ c.args.vars s.vars old.vars s.clauses old.clauses s.atoms old.atoms s.assignment c.in_ok-values-in-Sat.values.items (c.in-Sat.ensures.sat.1 refl) c.in-Sat.ensures.lawful
    c.in_ok-values-in-Sat.ensures c.in-Sat.ensures.kept.models_is c.in-Sat.ensures.kept.vars c.requires c.in-Sat.ensures.clauses c.in-Sat.ensures.kept.atoms

pub returns-in_ok-model-in-Sat-clause-modelled : goal.returns-in_ok-model-in-Sat-clause-modelled
returns-in_ok-model-in-Sat-clause-modelled g c =
    let s = c.search.new.self in
    let old = c.args.solver.now in
    let P : _ → Type 0 = λ theory. IsModelOf (g.T.Theory.models theory) g.T.Theory.meets (g.T.Theory.literals theory) c.in_ok-model-in-Sat.model in
    found_model _ _ _ c.args.vars s.vars old.vars s.clauses s.atoms old.atoms s.assignment c.in_ok-values-in-Sat.values.items _ c.in_ok-model-in-Sat.model (c.in-Sat.ensures.sat.1 refl) c.in-Sat.ensures.lawful
    c.in_ok-values-in-Sat.ensures c.in-Sat.ensures.shown c.in-Sat.ensures.kept.models_is c.in-Sat.ensures.kept.vars c.requires c.in-Sat.ensures.kept.atoms
    (subst P c.theory.ensures c.in_ok-model-in-Sat.ensures)

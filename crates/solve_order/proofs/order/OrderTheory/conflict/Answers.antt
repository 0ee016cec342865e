use Rattle.std.proofs.Common.{◌≤◌, length, sym, subst, arith}
use Rattle.solve_theory.specs.Models.{HasModel, IsCore}
use Rattle.solve_order.specs.Difference.{Constraints, is_assignment, meets}
use Rattle.solve_order.proofs.ModelLemmas.{IsCore-conflict}
use Rattle.solve_order.proofs.ConflictLemmas.{length-le_from_positions}
use Rattle.solve_order.proofs.StateLemmas.{is_refuted}
use Rattle.solve_order.proofs.order.OrderTheory.conflict.Goals as goal

pub copy-requires : goal.copy-requires
copy-requires c =
    let s = c.self.inside in
    let none = subst (λ (e : Constraints). ¬ HasModel (is_assignment e.variables) meets e.literals) (sym c.self.view_is) c.requires.no_model in
    let why = c.self.invariant.conflict (is_refuted s.edges s.values.items s.frontier s.core s.refuted c.self.invariant none) in
    let few = length-le_from_positions (length s.edges.literals) s.core.items why.within why.once in
    let room = subst (λ (e : Constraints). length e.literals ≤ c.args.out.now.capacity) (sym c.self.view_is) c.requires.room in
    omega arith

pub returns-clause-core : goal.returns-clause-core
returns-clause-core c =
    let s = c.self.inside in
    let none = subst (λ (e : Constraints). ¬ HasModel (is_assignment e.variables) meets e.literals) (sym c.self.view_is) c.requires.no_model in
    let why = c.self.invariant.conflict (is_refuted s.edges s.values.items s.frontier s.core s.refuted c.self.invariant none) in
    rw c.copy.ensures.items (subst (λ (e : Constraints). IsCore (is_assignment e.variables) meets e.literals s.core.items) c.self.view_is (IsCore-conflict s.edges.literals s.edges.variables s.core.items why))

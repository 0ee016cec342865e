-- The clauses so far spell the numbers so far.
use Rattle.std.proofs.Common.{◌≡◌, ◌≤◌, map, take, vec_len, All}
use Rattle.solve_solver.specs.Clauses.{IsWithin}
use Rattle.solve_bench.specs.Spelling.{spelled_with}
use Rattle.solve_bench.proofs.formula.formula_of.Given as goal

abbrev pub invariant-loop-number : goal.invariant-loop-number
invariant-loop-number l = record {
  within : All (λ clause. IsWithin l.vars clause.items) l.clauses.items;
  open_within : IsWithin l.vars l.open_clause.items;
  few : vec_len l.clauses ≤ l.number-index;
  spelled : spelled_with (map (λ clause. clause.items) l.clauses.items) l.open_clause.items ≡ take l.number-index l.numbers;
}

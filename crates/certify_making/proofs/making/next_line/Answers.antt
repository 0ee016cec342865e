use Rattle.std.proofs.Common.{ℕ, ◌<◌, List, Option, subst, sym}
use Rattle.std.proofs.lemmas.Bool.{OnFalse_at}
use Rattle.std.specs.Prelude.{MatchOption}
use Rattle.solve_theory.specs.Models.{HasModel}
use Rattle.certify_clauses.specs.Problem.{all_said, are_columns, meets_said}
use Rattle.certify_clauses.specs.Trees.{IsFalseClause}
use Rattle.certify_clauses.specs.declared.literal.Literal.{Literal}
use Rattle.certify_clauses.specs.InMemory.{problem_in}
use Rattle.certify_making.proofs.making.next_line.Goals as goal

pub returns-in-None-clause-next : goal.returns-in-None-clause-next
returns-in-None-clause-next g c =
    let p = problem_in c.args.c.now in
    let path = c.args.path.now.literals in
    record {
      full = λ v there none. c.in-None.ensures v (subst (λ n. v < n) (sym c.vars-vars.ensures) there) none;
      no_clause = subst (λ (o : Option ℕ). MatchOption o ((n : ℕ) → IsFalseClause p path n → ⊥) (λ n. (n < 2000000000) × IsFalseClause p path n)) c.in_default.is c.in_ok-number.ensures;
      has_model = subst (λ (ls : List Literal). HasModel (are_columns p) meets_said (all_said p ls)) c.literals.ensures.literals
          (OnFalse_at c.if-has_no_model.false c.has_no_model.ensures.has_model);
    }

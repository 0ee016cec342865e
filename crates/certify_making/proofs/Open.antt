-- A path that no line can close gives a lawful assignment.
use Rattle.std.proofs.Common.{◌≡◌, ℕ, ◌<◌, Bool, true, false, not, cond, List, [], ◌∷◌, Option, None, Some, IfSome, IsTrue, refl, sym, ◌∙◌, ap, subst}
use Rattle.std.specs.Prelude.{All, IsSomeAnd, unwrap_or, ◌==◌, ◌||◌}
use Rattle.std.specs.List.{cons_option, list_any}
use Rattle.std.proofs.lemmas.Bool.{cases_eq, cond-true, cond-false, eq-eqb, ne_eqb}
use Rattle.std.proofs.lemmas.List.Elements.{All-cons, All-head, All-nil, All-tail}
use Rattle.std.proofs.Math.Logic.{⊎_elim}
use Rattle.certify_clauses.specs.Paths.{IsFalseOn, value_on}
use Rattle.solve_theory.specs.Models.{HasModel}
use Rattle.certify_clauses.specs.Problem.{IsLawfulAssignment, Problem, Said, all_said, are_columns, is_true_in, meets_said, said_by}
use Rattle.certify_clauses.specs.declared.literal.Literal.{Literal}
use Rattle.certify_making.specs.Open.{HasAssignment, HasVarsBelow, IsOpen}

module _ (c : Problem) (path : List Literal) (h : IsOpen c path) where
  abbrev pub value : ℕ → Bool
  value v = unwrap_or (value_on path v) false

  abbrev a : ℕ → Bool
  a = value

  -- a variable that is there has its value on the path
  on : (v : ℕ) → v < c.vars → value_on path v ≡ Some (a v)
  on v there = by (value_on path v) refl
    where
      by : (o : Option Bool) → value_on path v ≡ o → o ≡ Some (unwrap_or o false)
      by None e = absurd (h.full v there e)
      by (Some b) e = refl

  -- a literal that is not true is false on the path
  false_on : (l : Literal) → l.var < c.vars → is_true_in a l ≡ false → IsFalseOn path l
  false_on l there e = on l.var there ∙ ap (λ b. Some b) (by l.plus (a l.var) e)
    where
      by : (plus b : Bool) → cond plus b (not b) ≡ false → b ≡ not plus
      by true b e = e
      by false true e = refl
      by false false e = cc

  all_false : (ls : List Literal) → All (λ l. l.var < c.vars) ls → list_any (is_true_in a) ls ≡ false → All (IsFalseOn path) ls
  all_false [] below e = All-nil (IsFalseOn path)
  all_false (l ∷ ls) below e =
      let P : Literal → Type 0 = λ l. l.var < c.vars in
      let both = none_of (is_true_in a l) (list_any (is_true_in a) ls) e in
      All-cons (IsFalseOn path) l ls (false_on l (All-head P l ls below) both.0) (all_false ls (All-tail P l ls below) both.1)
    where
      none_of : (p q : Bool) → (p || q) ≡ false → (p ≡ false) × (q ≡ false)
      none_of true q e = cc
      none_of false q e = (refl, e)

  clause_met : (o : Option (List Literal)) → IfSome o (All (λ l. l.var < c.vars)) → (IsSomeAnd o (All (IsFalseOn path)) → ⊥) → IfSome o (λ ls. IsTrue (list_any (is_true_in a) ls))
  clause_met None below never = tt
  clause_met (Some ls) below never = by (list_any (is_true_in a) ls) refl
    where
      by : (b : Bool) → list_any (is_true_in a) ls ≡ b → b ≡ true
      by true e = refl
      by false e = absurd (never (all_false ls below e))

  -- what the literal of a variable on the path says is among what the path says
  said_there : (P : Said → Type 0) (ls : List Literal) (v : ℕ) (b : Bool) → value_on ls v ≡ Some b → All P (all_said c ls) → IfSome (said_by c (record { var = v; plus = b })) P
  said_there P [] v b e all = cc
  said_there P (l ∷ ls) v b e all =
      ⊎_elim
      (λ same.
      let found : Some l.plus ≡ Some b = sym (cond-true (l.var == v) (Some l.plus) (value_on ls v) (eq-eqb l.var v same)) ∙ e in
      let plus : l.plus ≡ b = cc in
      subst (λ (k : Literal). IfSome (said_by c k) P) (same_literal l v b same plus) (first (said_by c l) all))
      (λ apart. said_there P ls v b (sym (cond-false (l.var == v) (Some l.plus) (value_on ls v) (ne_eqb l.var v apart)) ∙ e) (others (said_by c l) (all_said c ls) all))
      (cases_eq l.var v)
    where
      same_literal : (l : Literal) (v : ℕ) (b : Bool) → l.var ≡ v → l.plus ≡ b → l ≡ record { var = v; plus = b }
      same_literal l v b p q = subst (λ k. l ≡ record { var = k; plus = b }) p (subst (λ k. l ≡ record { var = l.var; plus = k }) q refl)

      first : (o : Option Said) → All P (cons_option o (all_said c ls)) → IfSome o P
      first None all = tt
      first (Some s) all = All-head P s (all_said c ls) all

      others : (o : Option Said) (rest : List Said) → All P (cons_option o rest) → All P rest
      others None rest all = all
      others (Some s) rest all = All-tail P s rest all

  lawful : HasVarsBelow c → IsLawfulAssignment c a
  lawful below =
      let model = h.has_model in
      let columns = model.model in
      record {
        meets_each = λ n. clause_met (c.clause n) (below n) (h.no_clause n);
        columns = columns;
        are_models = model.fits.is_model;
        meet_atoms = λ v there. said_there (λ s. IsTrue (meets_said columns s)) path v (a v) (on v there) model.fits.meets_each;
      }

  pub assigned : HasVarsBelow c → HasAssignment c
  assigned below = (a, lawful below)

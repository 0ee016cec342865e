-- A lawful tree refutes each assignment: by what the variables of its splits are, one goes down to a clause that is not met, or to
-- a path without a model.
use Rattle.std.proofs.Common.{◌≡◌, ℕ, ◌<◌, Bool, true, false, not, cond, List, [], ◌∷◌, ◌++◌, Option, None, Some, IsTrue, sym, ◌∙◌, ap, subst}
use Rattle.std.specs.Prelude.{All, IfSome, IsSomeAnd}
use Rattle.std.specs.List.{list_any, cons_option}
use Rattle.std.proofs.Math.Logic.{⊎_elim}
use Rattle.std.proofs.lemmas.Bool.{cases_Bool, cases_eq, cond-true, cond-false, eq-eqb, ne_eqb, both_ways}
use Rattle.std.proofs.lemmas.List.Elements.{All-nil, All-cons, All-head, All-tail, All-push}
use Rattle.std.proofs.lemmas.List.Folds.{Any-from_list_any}
use Rattle.std.proofs.lemmas.Option.{none-some, same_Some}
use Rattle.certify_clauses.specs.declared.literal.Literal.{Literal}
use Rattle.certify_clauses.specs.Paths.{positive, negative, value_on, IsFalseOn}
use Rattle.certify_clauses.specs.Problem.{Problem, Said, IsLawfulAssignment, is_true_in, said_by, all_said, meets_said}
use Rattle.certify_clauses.specs.Trees.{Tree, split, clause, theory, IsLawful, TreesRefute}

module _ (c : Problem) (a : ℕ → Bool) where
  -- each literal of a path is on a variable that there is, and true
  abbrev Agrees : List Literal → Type 0
  Agrees path = All (λ l. (l.var < c.vars) × (a l.var ≡ l.plus)) path

  value_agrees : (path : List Literal) (v : ℕ) (b : Bool) → Agrees path → value_on path v ≡ Some b → a v ≡ b
  value_agrees [] v b agrees e = absurd (none-some b e)
  value_agrees (l ∷ ls) v b agrees e =
      let P : Literal → Type 0 = λ l. (l.var < c.vars) × (a l.var ≡ l.plus) in
      ⊎_elim
      (λ same.
      let found = sym (cond-true _ (Some l.plus) (value_on ls v) (eq-eqb l.var v same)) ∙ e in
      ap a (sym same) ∙ (All-head P l ls agrees).1 ∙ same_Some l.plus b found)
      (λ apart. value_agrees ls v b (All-tail P l ls agrees) (sym (cond-false _ (Some l.plus) (value_on ls v) (ne_eqb l.var v apart)) ∙ e))
      (cases_eq l.var v)

  -- a literal that is false on the path is not true
  true_by : (plus value : Bool) → value ≡ not plus → cond plus value (not value) ≡ true → ⊥
  true_by true value e t = both_ways value e t
  true_by false value e t = both_ways (not value) (ap not e) t

  clause_false : (path : List Literal) → Agrees path → (o : Option (List Literal)) → IfSome o (λ ls. IsTrue (list_any (is_true_in a) ls)) → IsSomeAnd o (All (IsFalseOn path)) → ⊥
  clause_false path agrees None met false_there = false_there
  clause_false path agrees (Some ls) met false_there =
      let found = Any-from_list_any (is_true_in a) ls met in
      let l = found.1 in
      true_by l.plus (a l.var) (value_agrees path l.var (not l.plus) agrees (subst (IsFalseOn path) found.3 (false_there found.0 l found.2))) found.4

  module _ (h : IsLawfulAssignment c a) where
    abbrev IsMet : Said → Type 0
    IsMet s = IsTrue (meets_said h.columns s)

    -- what the path says is met
    all_met_by : (o : Option Said) (rest : List Said) → IfSome o IsMet → All IsMet rest → All IsMet (cons_option o rest)
    all_met_by None rest met others = others
    all_met_by (Some s) rest met others = All-cons IsMet s rest met others

    all_met : (path : List Literal) → Agrees path → All IsMet (all_said c path)
    all_met [] agrees = All-nil IsMet
    all_met (l ∷ ls) agrees =
        let P : Literal → Type 0 = λ l. (l.var < c.vars) × (a l.var ≡ l.plus) in
        let here = All-head P l ls agrees in
        let Q : Bool → Type 0 = λ b. IfSome (said_by c (record { var = l.var; plus = b })) IsMet in
        all_met_by (said_by c l) (all_said c ls) (subst Q here.1 (h.meet_atoms l.var here.0)) (all_met ls (All-tail P l ls agrees))

    refuted : (t : Tree) (path : List Literal) → Agrees path → IsLawful c path t → ⊥
    refuted (split v t u) path agrees lawful =
        let P : Literal → Type 0 = λ l. (l.var < c.vars) × (a l.var ≡ l.plus) in
        ⊎_elim
        (λ yes. refuted t (path ++ positive v ∷ []) (All-push P path (positive v) agrees (lawful.0.there, yes)) lawful.1)
        (λ no. refuted u (path ++ negative v ∷ []) (All-push P path (negative v) agrees (lawful.0.there, no)) lawful.2)
        (cases_Bool (a v))
    refuted (clause n) path agrees lawful = clause_false path agrees (c.clause n) (h.meets_each n) lawful
    refuted theory path agrees lawful = lawful (record {
      model = h.columns;
      fits = record { is_model = h.are_models; meets_each = all_met path agrees };
    })

pub trees_refute : TreesRefute
trees_refute c t lawful a h = refuted c a h t [] (All-nil (λ l. (l.var < c.vars) × (a l.var ≡ l.plus))) lawful

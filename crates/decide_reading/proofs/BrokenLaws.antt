-- No assignment that has what was found meets a clause that what was found breaks.
use Rattle.std.proofs.Common.{◌≡◌, ◌∙◌, ℕ, Bool, true, false, cond, not, refl, sym, ap, List, [], ◌∷◌, Some, None, slice_get}
use Rattle.std.specs.Prelude.{int_lt, is_some}
use Rattle.std.proofs.lemmas.List.Elements.{All-head, All-tail}
use Rattle.form_formula.specs.declared.node.Node.{Node}
use Rattle.form_formula.specs.declared.structure.Signature.{Signature}
use Rattle.form_formula.specs.declared.structure.SVal.{SVal}
use Rattle.form_formula.specs.Truth.{are_equal, both_pass, is_raised, number_of}
use Rattle.ground_terms.specs.declared.node.TermNode.{TermNode}
use Rattle.ground_terms.specs.Nodes.{term_of}
use Rattle.form_tables.specs.Facts.{Assignment, is_fact, is_literal, is_met, noun_value, table_for}
use Rattle.ground_instances.specs.declared.input.Value.{Value}
use Rattle.ground_instances.specs.declared.input.Value.TheVariants.{Term, Literal}
use Rattle.ground_problem.specs.declared.words.PairNode.{PairNode}
use Rattle.ground_problem.specs.Facts.{clause_at, fact_at, literal_at, noun_at}
use Rattle.ground_problem.specs.declared.facts.FactNode.{FactNode}
use Rattle.ground_problem.specs.declared.facts.FactNode.TheVariants.{There, Same, Below, Raised, Related, Empty}
use Rattle.ground_problem.specs.declared.facts.FactLiteral.{FactLiteral}
use Rattle.decide_models.specs.declared.found.Found.{Found}
use Rattle.decide_models.specs.Found.{IsFound}
use Rattle.decide_reading.specs.Broken.{IsBroken, IsFalse, IsFoundAs, IsTold}

there_if : (b : Bool) (x : SVal) → is_some (cond b (Some x) None) ≡ b
there_if true x = refl
there_if false x = refl

value_if : (b : Bool) (y x : SVal) → cond b (Some y) None ≡ Some x → y ≡ x
value_if true y x e = let same : y ≡ x = cc in same
value_if false y x e = cc

module _ (g : Signature) (nodes : List Node) (terms : List TermNode) (pairs : List PairNode) (found : Found) (a : Assignment) (is : IsFound g terms pairs found (table_for a))
    (sorts : (sort : ℕ) (so : Bool) → slice_get found.empty sort ≡ Some so → a.is_empty sort ≡ so) where
  value_told : (v : Value) (x : SVal) → IsFoundAs terms found v x → noun_value a (noun_at nodes terms v) ≡ x
  value_told (Term id) x (one, e) = value_if (a.there (term_of terms id)) (a.value (term_of terms id)) x (is.values id one ∙ e)
  value_told (Literal id) x h = absurd h

  -- a fact is so in the assignment where what was found tells it
  fact_told : (p : FactNode) (so : Bool) → IsTold terms found pairs p so → is_fact a (fact_at nodes terms p) ≡ so
  fact_told (There id) so (one, e) = sym (there_if (a.there (term_of terms id)) (a.value (term_of terms id))) ∙ (ap is_some (is.values id one) ∙ e)
  fact_told (Same v w) so (x, y, left, right, e) =
      ap (λ z. are_equal z (noun_value a (noun_at nodes terms w))) (value_told v x left) ∙ (ap (are_equal x) (value_told w y right) ∙ e)
  fact_told (Below v w) so (x, y, left, right, e) =
      ap (λ z. both_pass int_lt (number_of z) (number_of (noun_value a (noun_at nodes terms w)))) (value_told v x left)
      ∙ (ap (λ z. both_pass int_lt (number_of x) (number_of z)) (value_told w y right) ∙ e)
  fact_told (Raised id) so (x, has, e) = ap is_raised (value_told (Term id) x has) ∙ e
  fact_told (Related p) so (k, at, e) = is.related k p at ∙ e
  fact_told (Empty sort) so e = sorts sort so e

  literal_told : (l : FactLiteral) → IsFalse terms found pairs l → is_literal a (literal_at nodes terms l) ≡ false
  literal_told l h = by l.plus (is_fact a (fact_at nodes terms l.fact)) (fact_told l.fact (not l.plus) h)
    where
      by : (plus value : Bool) → value ≡ not plus → cond plus value (not value) ≡ false
      by true value e = e
      by false value e = ap not e

  pub broken_unmet : (clause : List FactLiteral) → IsBroken terms found pairs clause → is_met a (clause_at nodes terms clause) ≡ false
  broken_unmet [] h = refl
  broken_unmet (l ∷ ls) h =
      let P : FactLiteral → Type 0 = λ l. IsFalse terms found pairs l in
      let here = literal_told l (All-head P l ls h) in let later = broken_unmet ls (All-tail P l ls h) in cc

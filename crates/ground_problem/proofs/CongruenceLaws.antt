-- Clauses of congruence on two terms.
use Rattle.std.proofs.Common.{◌≡◌, ℕ, ◌∙◌, sym, refl, ap, subst, true, false, List, [], ◌∷◌, ◌++◌, map, append_assoc, append-nil}
use Rattle.form_formula.specs.declared.node.Node.{Node}
use Rattle.form_terms.specs.GroundTerms.{GroundTerms, no_terms, term_and}
use Rattle.ground_terms.specs.declared.node.TermNode.{TermNode}
use Rattle.ground_terms.specs.declared.node.TermNode.TheVariants.{Cons}
use Rattle.ground_terms.specs.Nodes.{IsList, IsPlaced, list_of, list_part, term_of, tree_of, tree_from, trees_of}
use Rattle.ground_terms.proofs.Standing.{map-append}
use Rattle.form_tables.specs.Clauses.{all_same, one_and_same}
use Rattle.form_tables.specs.Facts.{Fact, Literal, implied, not_so, same, so, term, there}
use Rattle.ground_instances.specs.declared.input.Value.TheVariants.{Term}
use Rattle.ground_problem.specs.declared.facts.FactNode.{FactNode}
use Rattle.ground_problem.specs.declared.facts.FactNode.TheVariants.{There, Same}
use Rattle.ground_problem.specs.declared.facts.FactLiteral.{FactLiteral}
use Rattle.ground_problem.specs.Congruence.{AddsPremises, apart_literals}
use Rattle.ground_problem.specs.Facts.{AreAdded, clause_at, literal_at}
use Rattle.ground_problem.proofs.Adding.{added_both, added_one}

implied_is : (ps : List Fact) (l : Literal) → implied ps l ≡ map not_so ps ++ l ∷ []
implied_is [] l = refl
implied_is (p ∷ ps) l = ap (λ c. not_so p ∷ c) (implied_is ps l)

-- premises put at the end
module _ (nodes : List Node) (terms : List TermNode) where
  pub premises_none : (old : List FactLiteral) → AddsPremises nodes terms old old []
  premises_none old = record { more = []; whole = sym (append-nil old); are = refl }

  -- what is left of two lists, and what was put so far
  pub record IsDownBoth (ts us left right : ℕ) (old new : List FactLiteral) : Type 0 where
    pub first : IsList terms left
    pub second : IsList terms right
    pub done : List Fact
    pub added : AddsPremises nodes terms old new done
    pub rest : done ++ all_same (list_of terms left) (list_of terms right) ≡ all_same (list_of terms ts) (list_of terms us)

  pub both_begun : (ts us : ℕ) (old : List FactLiteral) → IsList terms ts → IsList terms us → IsDownBoth ts us ts us old old
  both_begun ts us old p q = record { first = p; second = q; done = []; added = premises_none old; rest = refl }

  pub both_on : (ts us left right t rest u others : ℕ) (old mid new : List FactLiteral) → IsPlaced terms (Cons t rest) → tree_of terms left ≡ tree_from (trees_of terms) (Cons t rest) → IsPlaced terms (Cons u others)
      → tree_of terms right ≡ tree_from (trees_of terms) (Cons u others) → new ≡ mid ++ apart_literals t u → IsDownBoth ts us left right old mid → IsDownBoth ts us rest others old new
  both_on ts us left right t rest u others old mid new p d q e w h =
      let T = term_of terms t in
      let U = term_of terms u in
      let here : list_of terms left ≡ term_and T (list_of terms rest) = ap list_part d in
      let along : list_of terms right ≡ term_and U (list_of terms others) = ap list_part e in
      let whole : all_same (list_of terms left) (list_of terms right) ≡ one_and_same T U ++ all_same (list_of terms rest) (list_of terms others) =
      ap (λ l. all_same l (list_of terms right)) here ∙ ap (all_same (term_and T (list_of terms rest))) along in
      record {
        first = p.1;
        second = q.1;
        done = h.done ++ one_and_same T U;
        added = record {
          more = h.added.more ++ apart_literals t u;
          whole = w ∙ (ap (λ ls. ls ++ apart_literals t u) h.added.whole ∙ append_assoc old h.added.more (apart_literals t u));
          are = map-append (literal_at nodes terms) h.added.more (apart_literals t u) ∙ (ap (λ c. c ++ clause_at nodes terms (apart_literals t u)) h.added.are ∙ sym (map-append not_so h.done (one_and_same T U)));
        };
        rest = append_assoc h.done (one_and_same T U) (all_same (list_of terms rest) (list_of terms others)) ∙ (ap (λ fs. h.done ++ fs) (sym whole) ∙ h.rest);
      }

  pub both_done : (ts us left right : ℕ) (old new : List FactLiteral) → all_same (list_of terms left) (list_of terms right) ≡ [] → IsDownBoth ts us left right old new
      → AddsPremises nodes terms old new (all_same (list_of terms ts) (list_of terms us))
  both_done ts us left right old new none h =
      let P : List Fact → Type 0 = λ fs. AddsPremises nodes terms old new fs in
      subst P (sym (append-nil h.done) ∙ (ap (λ fs. h.done ++ fs) (sym none) ∙ h.rest)) h.added

  pub all_same_end : (ts us : GroundTerms) → ts ≡ no_terms → all_same ts us ≡ []
  all_same_end ts us e = ap (λ ts. all_same ts us) e

  pub all_same_short : (ts us : GroundTerms) → us ≡ no_terms → all_same ts us ≡ []
  all_same_short no_terms us e = refl
  all_same_short (term_and t ts) us e = ap (all_same (term_and t ts)) e

  -- the clause with these premises and a conclusion
  pub premises_clause : (whole : FactLiteral) (old new : List FactLiteral) (facts : List Fact) (p : Fact) → clause_at nodes terms old ≡ not_so p ∷ [] → AddsPremises nodes terms old new facts
      → clause_at nodes terms (new ++ whole ∷ []) ≡ implied (p ∷ facts) (literal_at nodes terms whole)
  premises_clause whole old new facts p first h =
      map-append (literal_at nodes terms) new (whole ∷ [])
      ∙ (ap (λ c. c ++ literal_at nodes terms whole ∷ []) (ap (clause_at nodes terms) h.whole ∙ (map-append (literal_at nodes terms) old h.more ∙ (ap (λ c. c ++ clause_at nodes terms h.more) first ∙ ap (λ c. not_so p ∷ c) h.are)))
      ∙ sym (implied_is (p ∷ facts) (literal_at nodes terms whole)))

  pub two_added : (x y : ℕ) (old lits s1 s2 : List FactLiteral) (first : FactLiteral) (facts : List Fact) (p : FactNode) (a b c : List (List FactLiteral)) → old ≡ first ∷ [] → first ≡ record { fact = There x; plus = false }
      → AddsPremises nodes terms old lits facts → s1 ≡ lits → s2 ≡ lits → p ≡ Same (Term x) (Term y) → b ≡ a ++ (s1 ++ record { fact = There y; plus = true } ∷ []) ∷ [] → c ≡ b ++ (s2 ++ record { fact = p; plus = true } ∷ []) ∷ []
      → AreAdded nodes terms a c (implied (there (term_of terms x) ∷ facts) (so (there (term_of terms y))) ∷ implied (there (term_of terms x) ∷ facts) (so (same (term (term_of terms x)) (term (term_of terms y)))) ∷ [])
  two_added x y old lits s1 s2 first facts p a b c o f h e1 e2 is first_added second_added =
      let X = there (term_of terms x) in
      let start : clause_at nodes terms old ≡ not_so X ∷ [] = ap (clause_at nodes terms) (o ∙ ap (λ l. l ∷ []) f) in
      let l1 : FactLiteral = record { fact = There y; plus = true } in
      let l2 : FactLiteral = record { fact = p; plus = true } in
      let one : clause_at nodes terms (s1 ++ l1 ∷ []) ≡ implied (X ∷ facts) (so (there (term_of terms y))) =
      ap (λ s. clause_at nodes terms (s ++ l1 ∷ [])) e1 ∙ premises_clause l1 old lits facts X start h in
      let two : clause_at nodes terms (s2 ++ l2 ∷ []) ≡ implied (X ∷ facts) (so (same (term (term_of terms x)) (term (term_of terms y)))) =
      ap (λ s. clause_at nodes terms (s ++ l2 ∷ [])) e2 ∙ (premises_clause l2 old lits facts X start h ∙ ap (λ p. implied (X ∷ facts) (literal_at nodes terms (record { fact = p; plus = true }))) is) in
      added_both nodes terms a b c (implied (X ∷ facts) (so (there (term_of terms y))) ∷ []) (implied (X ∷ facts) (so (same (term (term_of terms x)) (term (term_of terms y)))) ∷ [])
      (added_one nodes terms a b (s1 ++ l1 ∷ []) (implied (X ∷ facts) (so (there (term_of terms y)))) first_added one)
      (added_one nodes terms b c (s2 ++ l2 ∷ []) (implied (X ∷ facts) (so (same (term (term_of terms x)) (term (term_of terms y))))) second_added two)

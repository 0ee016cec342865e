-- The clauses of a table on one term.
use Rattle.std.proofs.Common.{◌≡◌, ℕ, ◌∙◌, sym, refl, ap, true, false, List, [], ◌∷◌, ◌++◌, map, Some, append_assoc, append-nil}
use Rattle.std.specs.Prelude.{slice_get}
use Rattle.std.specs.Option.{option_map}
use Rattle.form_formula.specs.declared.node.Node.{Node}
use Rattle.form_terms.specs.GroundTerms.{GroundTerm, list_of, no_terms}
use Rattle.ground_terms.specs.declared.node.TermNode.{TermNode}
use Rattle.ground_terms.specs.declared.node.TermNode.TheVariants.{Constant, Skolem, Field, Empty, Cons}
use Rattle.ground_terms.specs.Nodes.{IsList, IsPlaced, is_one, list_of as list_at, list_part, term_of, tree_of, tree_from, trees_of}
use Rattle.ground_terms.proofs.Standing.{map-append}
use Rattle.form_tables.specs.Facts.{Clause, implied, so, there}
use Rattle.ground_problem.specs.declared.facts.FactLiteral.{FactLiteral}
use Rattle.ground_problem.specs.Facts.{AreAdded}
use Rattle.ground_problem.proofs.Adding.{added_as, added_both, added_none}

-- that a term follows from another
abbrev pub follows : GroundTerm → GroundTerm → Clause
follows t u = implied (there t ∷ []) (so (there u))

-- the clauses of the arguments so far
pub record IsDown (nodes : List Node) (terms : List TermNode) (t : GroundTerm) (list at : ℕ) (old new : List (List FactLiteral)) : Type 0 where
  pub fits : IsList terms at
  pub done : List GroundTerm
  pub added : AreAdded nodes terms old new (map (follows t) done)
  pub rest : done ++ list_of (list_at terms at) ≡ list_of (list_at terms list)

module _ (nodes : List Node) (terms : List TermNode) (t : GroundTerm) (list : ℕ) where
  pub down_begun : (old : List (List FactLiteral)) → IsList terms list → IsDown nodes terms t list list old old
  down_begun old h = record { fits = h; done = []; added = added_none nodes terms old; rest = refl }

  pub down_on : (at u us : ℕ) (a b c : List (List FactLiteral)) → IsPlaced terms (Cons u us) → tree_of terms at ≡ tree_from (trees_of terms) (Cons u us)
      → AreAdded nodes terms b c (follows t (term_of terms u) ∷ []) → IsDown nodes terms t list at a b → IsDown nodes terms t list us a c
  down_on at u us a b c placed means one h =
      let here : list_of (list_at terms at) ≡ term_of terms u ∷ list_of (list_at terms us) = ap (λ tree. list_of (list_part tree)) means in
      record {
        fits = placed.1;
        done = h.done ++ term_of terms u ∷ [];
        added =
            added_as nodes terms a c (map (follows t) h.done ++ follows t (term_of terms u) ∷ []) (map (follows t) (h.done ++ term_of terms u ∷ [])) (sym (map-append (follows t) h.done (term_of terms u ∷ [])))
            (added_both nodes terms a b c (map (follows t) h.done) (follows t (term_of terms u) ∷ []) h.added one);
        rest = append_assoc h.done (term_of terms u ∷ []) (list_of (list_at terms us)) ∙ (ap (λ us. h.done ++ us) (sym here) ∙ h.rest);
      }

  pub down_done : (at : ℕ) (a b : List (List FactLiteral)) → list_of (list_at terms at) ≡ [] → IsDown nodes terms t list at a b → AreAdded nodes terms a b (map (follows t) (list_of (list_at terms list)))
  down_done at a b none h =
      added_as nodes terms a b (map (follows t) h.done) (map (follows t) (list_of (list_at terms list)))
      (ap (map (follows t)) (sym (append-nil h.done) ∙ (ap (λ us. h.done ++ us) (sym none) ∙ h.rest))) h.added

-- a list that is no longer is at its end
pub list_end : (terms : List TermNode) (at : ℕ) (n : TermNode) → IsList terms at → slice_get terms at ≡ Some n → tree_of terms at ≡ tree_from (trees_of terms) n → ((t ts : ℕ) → n ≡ Cons t ts → ⊥) → list_at terms at ≡ no_terms
list_end terms at n fits e means other = by n e means other
  where
    no_term : (n : TermNode) → slice_get terms at ≡ Some n → is_one n ≡ true → ⊥
    no_term n e one = let kind : option_map is_one (Some n) ≡ Some false = ap (λ o. option_map is_one o) (sym e) ∙ fits in cc

    by : (n : TermNode) → slice_get terms at ≡ Some n → tree_of terms at ≡ tree_from (trees_of terms) n → ((t ts : ℕ) → n ≡ Cons t ts → ⊥) → list_at terms at ≡ no_terms
    by (Constant sort) e means other = absurd (no_term (Constant sort) e refl)
    by (Skolem number sort ts) e means other = absurd (no_term (Skolem number sort ts) e refl)
    by (Field h t) e means other = absurd (no_term (Field h t) e refl)
    by Empty e means other = ap list_part means
    by (Cons t ts) e means other = absurd (other t ts refl)

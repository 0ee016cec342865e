-- Keys, as they are made.
use Rattle.std.proofs.Common.{◌≡◌, ℕ, sym, ◌∙◌, List, [], ◌∷◌, ◌++◌, Some, None, Option, ap, append_assoc, append-nil, refl}
use Rattle.std.specs.Prelude.{option_and_then}
use Rattle.std.specs.Option.{option_map}
use Rattle.form_formula.specs.declared.structure.SVal.{SVal}
use Rattle.form_terms.specs.GroundTerms.{GroundTerm, no_terms}
use Rattle.ground_terms.specs.declared.node.TermNode.{TermNode}
use Rattle.ground_terms.specs.declared.node.TermNode.TheVariants.{Cons}
use Rattle.ground_terms.specs.Nodes.{IsList, IsPlaced, list_of, list_part, term_of, tree_of, tree_from, trees_of}
use Rattle.decide_models.specs.declared.found.Found.{Found}
use Rattle.decide_reading.specs.Keys.{HaveValues, class_of, classes_of, value_at}

-- the classes of a list are these, and those of the rest
abbrev pub GoOn : List TermNode → Found → ℕ → ℕ → List ℕ → Type 0
GoOn terms found list at xs =
    (values : GroundTerm → Option SVal) → HaveValues terms found values
    → classes_of values (list_of terms list) ≡ option_map (λ ys. xs ++ ys) (classes_of values (list_of terms at))

pub record IsDownClasses (terms : List TermNode) (found : Found) (list at : ℕ) (xs : List ℕ) : Type 0 where
  pub fits : IsList terms at
  pub on : GoOn terms found list at xs

itself : (o : Option (List ℕ)) → o ≡ option_map (λ ys. [] ++ ys) o
itself None = refl
itself (Some ys) = refl

module _ (terms : List TermNode) (found : Found) (list : ℕ) where
  pub begun : (xs : List ℕ) → xs ≡ [] → IsList terms list → IsDownClasses terms found list list xs
  begun xs e h = record {
    fits = h;
    on = λ values have. itself (classes_of values (list_of terms list)) ∙ ap (λ xs. option_map (λ ys. xs ++ ys) (classes_of values (list_of terms list))) (sym e);
  }

  -- the classes where the list begins with a term
  here : (at t ts : ℕ) → tree_of terms at ≡ tree_from (trees_of terms) (Cons t ts) → (values : GroundTerm → Option SVal)
      → classes_of values (list_of terms at) ≡ option_and_then (λ x. option_map (λ xs. class_of x ∷ xs) (classes_of values (list_of terms ts))) (values (term_of terms t))
  here at t ts means values = ap (λ tree. classes_of values (list_part tree)) means

  moved : (xs : List ℕ) (o : Option SVal) (x : ℕ) (rest : Option (List ℕ)) → option_map class_of o ≡ Some x
      → option_map (λ ys. xs ++ ys) (option_and_then (λ v. option_map (λ ys. class_of v ∷ ys) rest) o) ≡ option_map (λ ys. (xs ++ x ∷ []) ++ ys) rest
  moved xs None x rest e = cc
  moved xs (Some v) x None e = refl
  moved xs (Some v) x (Some ys) e = let same : class_of v ≡ x = cc in ap (λ x. Some (xs ++ x ∷ ys)) same ∙ ap (λ zs. Some zs) (sym (append_assoc xs (x ∷ []) ys))

  pub on_down : (at t ts x : ℕ) (xs ys : List ℕ) → IsPlaced terms (Cons t ts) → tree_of terms at ≡ tree_from (trees_of terms) (Cons t ts) → Some x ≡ option_map class_of (value_at found t)
      → ys ≡ xs ++ x ∷ [] → IsDownClasses terms found list at xs → IsDownClasses terms found list ts ys
  on_down at t ts x xs ys placed means own e h = record {
    fits = placed.1;
    on = λ values have.
        h.on values have
        ∙ (ap (option_map (λ ys. xs ++ ys)) (here at t ts means values)
        ∙ (moved xs (values (term_of terms t)) x (classes_of values (list_of terms ts)) (ap (option_map class_of) (have t placed.0) ∙ sym own)
        ∙ ap (λ zs. option_map (λ ys. zs ++ ys) (classes_of values (list_of terms ts))) (sym e)));
  }

  pub done : (at : ℕ) (xs : List ℕ) → list_of terms at ≡ no_terms → IsDownClasses terms found list at xs → (values : GroundTerm → Option SVal) → HaveValues terms found values
      → Some xs ≡ classes_of values (list_of terms list)
  done at xs e h values have =
      sym (h.on values have ∙ (ap (λ ts. option_map (λ ys. xs ++ ys) (classes_of values ts)) e ∙ ap (λ zs. Some zs) (append-nil xs)))

  none_of : (xs : List ℕ) (o : Option SVal) (rest : Option (List ℕ)) → option_map class_of o ≡ None
      → option_map (λ ys. xs ++ ys) (option_and_then (λ v. option_map (λ ys. class_of v ∷ ys) rest) o) ≡ None
  none_of xs None rest e = refl
  none_of xs (Some v) rest e = cc

  pub none : (at t ts : ℕ) (xs : List ℕ) → IsPlaced terms (Cons t ts) → tree_of terms at ≡ tree_from (trees_of terms) (Cons t ts) → None ≡ option_map class_of (value_at found t)
      → IsDownClasses terms found list at xs → (values : GroundTerm → Option SVal) → HaveValues terms found values → None ≡ classes_of values (list_of terms list)
  none at t ts xs placed means own h values have =
      sym (h.on values have
      ∙ (ap (option_map (λ ys. xs ++ ys)) (here at t ts means values)
      ∙ none_of xs (values (term_of terms t)) (classes_of values (list_of terms ts)) (ap (option_map class_of) (have t placed.0) ∙ sym own)))

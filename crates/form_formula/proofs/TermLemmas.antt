-- The value of a term by its innermost part.
use Rattle.std.proofs.Common.{◌≡◌, ℕ, true, refl, sym, ◌∙◌, List, [], ◌∷◌, ◌++◌, Option, Some, ap}
use Rattle.std.specs.Prelude.{slice_get}
use Rattle.std.specs.Option.{option_map}
use Rattle.std.proofs.lemmas.Option.{same_Some}
use Rattle.form_formula.specs.declared.node.Node.{Node}
use Rattle.form_formula.specs.declared.node.Node.TheVariants.{Bound, Num, Str, App, Yes, No, Eq, Less, Has, Flag, Present, Not, And, Or, Exists, Forall}
use Rattle.form_formula.specs.declared.structure.Structure.{Structure}
use Rattle.form_formula.specs.declared.structure.SVal.{SVal}
use Rattle.form_formula.specs.Nodes.{is_term, IsTerm, term_part, tree_of, tree_from, trees_of, term_of}
use Rattle.form_formula.specs.Truth.{value_of}
use Rattle.form_formula.specs.Values.{own_value, applied, apply_to}

-- one more function, the innermost
pub applied-push : (s : Structure) (fs : List ℕ) (f : ℕ) (v : Option SVal) → applied s (fs ++ f ∷ []) v ≡ applied s fs (apply_to s f v)
applied-push s [] f v = refl
applied-push s (g ∷ fs) f v = ap (λ w. apply_to s g w) (applied-push s fs f v)

-- the value of a function at a term
pub value_at-app : (s : Structure) (env : List ℕ) (nodes : List Node) (id f t : ℕ) → tree_of nodes id ≡ tree_from (trees_of nodes) (App f t)
    → value_of s env (term_of nodes id) ≡ apply_to s f (value_of s env (term_of nodes t))
value_at-app s env nodes id f t means = ap (λ tree. value_of s env (term_part tree)) means

-- the value of a term that is no function at a term
pub value_at-own : (s : Structure) (env : List ℕ) (nodes : List Node) (id : ℕ) (n : Node) → slice_get nodes id ≡ Some n → tree_of nodes id ≡ tree_from (trees_of nodes) n → IsTerm nodes id
    → ((f t : ℕ) → n ≡ App f t → ⊥) → value_of s env (term_of nodes id) ≡ own_value env n
value_at-own s env nodes id n e means k other =
    ap (λ tree. value_of s env (term_part tree)) means
    ∙ own n (same_Some (is_term n) true (sym (ap (λ o. option_map is_term o) e) ∙ k)) other
  where
    own : (n : Node) → is_term n ≡ true → ((f t : ℕ) → n ≡ App f t → ⊥) → value_of s env (term_part (tree_from (trees_of nodes) n)) ≡ own_value env n
    own (Bound sort depth) k other = refl
    own (Num n) k other = refl
    own (Str t) k other = refl
    own (App f t) k other = absurd (other f t refl)
    own Yes k other = cc
    own No k other = cc
    own (Eq s t) k other = cc
    own (Less s t) k other = cc
    own (Has f s t) k other = cc
    own (Flag f t) k other = cc
    own (Present f t) k other = cc
    own (Not a) k other = cc
    own (And a b) k other = cc
    own (Or a b) k other = cc
    own (Exists sort a) k other = cc
    own (Forall sort a) k other = cc

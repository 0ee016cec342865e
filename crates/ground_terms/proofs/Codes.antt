-- What the parts of a formula have, in the code's form and in that of the definitions.
use Rattle.std.proofs.Common.{◌≡◌, ℕ, zero, suc, ◌<◌, length, get_or, arith, Bool, true, false, cond, refl, sym, ◌∙◌, List, [], ◌∷◌, ◌++◌, Option, Some, None, ap, subst}
use Rattle.std.specs.Prelude.{is_none, slice_index_or}
use Rattle.std.specs.List.{flat_map}
use Rattle.std.specs.Option.{option_map, option_to_list}
use Rattle.form_formula.specs.declared.node.Node.{Node}
use Rattle.form_formula.specs.declared.structure.Signature.{Signature}
use Rattle.form_formula.specs.Trees.{Term, bound, num, str, app}
use Rattle.form_terms.specs.GroundTerms.{GroundTerm, field, target_of}
use Rattle.form_terms.specs.Parts.{Variable, ground_term, is_dependent, if_element, record_terms, applied_in, sorts_in}
use Rattle.form_terms.specs.Parts as tree
use Rattle.form_terms.specs.Universe.{variables_in, terms_in, functions_in as functions_of_part, sorts_of_part}
use Rattle.ground_terms.specs.declared.part.Part.{Part}
use Rattle.ground_terms.specs.declared.part.Part.TheVariants.{Existential, Universal, Named, Dependent, Literal}
use Rattle.ground_terms.specs.Parts.{ground_name, literal, variable, root_of, IsPart, AreParts, HasTerm, HaveTerms}
use Rattle.ground_terms.specs.Codes.{functions_in, element_functions, applied_to, record_parts, code_variables, code_terms, code_functions, code_sorts}

no_element : {A : Type 0} (g : Signature) (f : ℕ) → if_element {A = A} g f [] ≡ []
no_element {A} g f = choose (is_none (target_of g f))
  where
    nothing : List A
    nothing = []

    choose : (b : Bool) → cond b nothing nothing ≡ nothing
    choose true = refl
    choose false = refl

module _ (g : Signature) (names : List (Option GroundTerm)) where
  -- a term over a variable that has a ground term
  named_term : (t : Term) (root : GroundTerm) → root_of names t ≡ variable (Some root) → ground_term names t ≡ Some (applied_to g root (functions_in t))
  named_term (bound sort depth) root e = cc
  named_term (num n) root e = cc
  named_term (str t) root e = cc
  named_term (app f t) root e = ap (λ o. option_map (field f) o) (named_term t root e)

  pub named_records : (t : Term) (root : GroundTerm) → root_of names t ≡ variable (Some root) → record_terms g names t ≡ record_parts g root (functions_in t)
  named_records (bound sort depth) root e = ap (λ o. option_to_list o) (named_term (bound sort depth) root e)
  named_records (num n) root e = cc
  named_records (str t) root e = cc
  named_records (app f t) root e =
      ap (λ o. if_element g f (option_to_list o) ++ record_terms g names t) (named_term (app f t) root e)
      ∙ ap (λ ts. if_element g f (applied_to g root (f ∷ functions_in t) ∷ []) ++ ts) (named_records t root e)

  named_dependent : (t : Term) (root : GroundTerm) → root_of names t ≡ variable (Some root) → is_dependent names t ≡ false
  named_dependent (bound sort depth) root e = let h : slice_index_or names depth None ≡ Some root = cc in ap is_none h
  named_dependent (num n) root e = cc
  named_dependent (str t) root e = cc
  named_dependent (app f t) root e = named_dependent t root e

  -- a term without variables
  literal_term : (t : Term) → root_of names t ≡ literal → (ground_term names t ≡ None) × (is_dependent names t ≡ false)
  literal_term (bound sort depth) e = cc
  literal_term (num n) e = (refl, refl)
  literal_term (str t) e = (refl, refl)
  literal_term (app f t) e = let h = literal_term t e in (ap (λ o. option_map (field f) o) h.0, h.1)

  -- a term over a dependent variable
  dependent_term : (t : Term) → root_of names t ≡ variable None → (ground_term names t ≡ None) × (is_dependent names t ≡ true)
  dependent_term (bound sort depth) e = let h : slice_index_or names depth None ≡ None = cc in (h, ap is_none h)
  dependent_term (num n) e = cc
  dependent_term (str t) e = cc
  dependent_term (app f t) e = let h = dependent_term t e in (ap (λ o. option_map (field f) o) h.0, h.1)

  no_records : (t : Term) → ground_term names t ≡ None → record_terms g names t ≡ []
  no_records (bound sort depth) e = ap (λ o. option_to_list o) e
  no_records (num n) e = refl
  no_records (str t) e = refl
  no_records (app f t) e =
      ap (λ o. if_element g f (option_to_list o) ++ record_terms g names t) e
      ∙ (ap (λ xs. xs ++ record_terms g names t) (no_element g f) ∙ no_records t (below (ground_term names t) e))
    where
      below : (o : Option GroundTerm) → option_map (field f) o ≡ None → o ≡ None
      below None e = refl
      below (Some x) e = cc

  all_applied : (t : Term) → is_dependent names t ≡ true → applied_in g names t ≡ element_functions g t
  all_applied (bound sort depth) e = refl
  all_applied (num n) e = refl
  all_applied (str t) e = refl
  all_applied (app f t) e =
      ap (λ b. if_element g f (cond b (f ∷ []) []) ++ applied_in g names t) e ∙ ap (λ xs. if_element g f (f ∷ []) ++ xs) (all_applied t e)

  none_applied : (t : Term) → is_dependent names t ≡ false → applied_in g names t ≡ []
  none_applied (bound sort depth) e = refl
  none_applied (num n) e = refl
  none_applied (str t) e = refl
  none_applied (app f t) e =
      ap (λ b. if_element g f (cond b (f ∷ []) []) ++ applied_in g names t) e
      ∙ (ap (λ xs. xs ++ applied_in g names t) (no_element g f) ∙ none_applied t e)

module _ (g : Signature) (nodes : List Node) where
  same_variables : (p : tree.Part) (c : Part) → IsPart nodes p c → variables_in p ≡ code_variables g nodes c
  same_variables (tree.existential v) (Existential w) h = ap (λ v. v ∷ []) h
  same_variables (tree.existential v) (Universal s) h = absurd h
  same_variables (tree.existential v) (Named id n) h = absurd h
  same_variables (tree.existential v) (Dependent id) h = absurd h
  same_variables (tree.existential v) (Literal id) h = absurd h
  same_variables (tree.universal sort) (Existential w) h = absurd h
  same_variables (tree.universal sort) (Universal s) h = refl
  same_variables (tree.universal sort) (Named id n) h = absurd h
  same_variables (tree.universal sort) (Dependent id) h = absurd h
  same_variables (tree.universal sort) (Literal id) h = absurd h
  same_variables (tree.atom_term names t) (Existential w) h = absurd h
  same_variables (tree.atom_term names t) (Universal s) h = absurd h
  same_variables (tree.atom_term names t) (Named id n) h = refl
  same_variables (tree.atom_term names t) (Dependent id) h = refl
  same_variables (tree.atom_term names t) (Literal id) h = refl

  same_terms : (p : tree.Part) (c : Part) → IsPart nodes p c → terms_in g p ≡ code_terms g nodes c
  same_terms (tree.existential v) (Existential w) h = refl
  same_terms (tree.existential v) (Universal s) h = absurd h
  same_terms (tree.existential v) (Named id n) h = absurd h
  same_terms (tree.existential v) (Dependent id) h = absurd h
  same_terms (tree.existential v) (Literal id) h = absurd h
  same_terms (tree.universal sort) (Existential w) h = absurd h
  same_terms (tree.universal sort) (Universal s) h = refl
  same_terms (tree.universal sort) (Named id n) h = absurd h
  same_terms (tree.universal sort) (Dependent id) h = absurd h
  same_terms (tree.universal sort) (Literal id) h = absurd h
  same_terms (tree.atom_term names t) (Existential w) h = absurd h
  same_terms (tree.atom_term names t) (Universal s) h = absurd h
  same_terms (tree.atom_term names t) (Named id n) h =
      named_records g names t (ground_name n) h.2 ∙ ap (λ u. record_parts g (ground_name n) (functions_in u)) h.1
  same_terms (tree.atom_term names t) (Dependent id) h = no_records g names t (dependent_term g names t h.2).0
  same_terms (tree.atom_term names t) (Literal id) h = no_records g names t (literal_term g names t h.2).0

  same_functions : (p : tree.Part) (c : Part) → IsPart nodes p c → functions_of_part g p ≡ code_functions g nodes c
  same_functions (tree.existential v) (Existential w) h = refl
  same_functions (tree.existential v) (Universal s) h = absurd h
  same_functions (tree.existential v) (Named id n) h = absurd h
  same_functions (tree.existential v) (Dependent id) h = absurd h
  same_functions (tree.existential v) (Literal id) h = absurd h
  same_functions (tree.universal sort) (Existential w) h = absurd h
  same_functions (tree.universal sort) (Universal s) h = refl
  same_functions (tree.universal sort) (Named id n) h = absurd h
  same_functions (tree.universal sort) (Dependent id) h = absurd h
  same_functions (tree.universal sort) (Literal id) h = absurd h
  same_functions (tree.atom_term names t) (Existential w) h = absurd h
  same_functions (tree.atom_term names t) (Universal s) h = absurd h
  same_functions (tree.atom_term names t) (Named id n) h = none_applied g names t (named_dependent g names t (ground_name n) h.2)
  same_functions (tree.atom_term names t) (Dependent id) h = all_applied g names t (dependent_term g names t h.2).1 ∙ ap (λ u. element_functions g u) h.1
  same_functions (tree.atom_term names t) (Literal id) h = none_applied g names t (literal_term g names t h.2).1

  same_sorts : (p : tree.Part) (c : Part) → IsPart nodes p c → sorts_of_part g p ≡ code_sorts g nodes c
  same_sorts (tree.existential v) (Existential w) h = ap (λ v. v.sort ∷ []) h
  same_sorts (tree.existential v) (Universal s) h = absurd h
  same_sorts (tree.existential v) (Named id n) h = absurd h
  same_sorts (tree.existential v) (Dependent id) h = absurd h
  same_sorts (tree.existential v) (Literal id) h = absurd h
  same_sorts (tree.universal sort) (Existential w) h = absurd h
  same_sorts (tree.universal sort) (Universal s) h = ap (λ s. s ∷ []) h
  same_sorts (tree.universal sort) (Named id n) h = absurd h
  same_sorts (tree.universal sort) (Dependent id) h = absurd h
  same_sorts (tree.universal sort) (Literal id) h = absurd h
  same_sorts (tree.atom_term names t) (Existential w) h = absurd h
  same_sorts (tree.atom_term names t) (Universal s) h = absurd h
  same_sorts (tree.atom_term names t) (Named id n) h = ap (λ u. sorts_in g u) h.1
  same_sorts (tree.atom_term names t) (Dependent id) h = ap (λ u. sorts_in g u) h.1
  same_sorts (tree.atom_term names t) (Literal id) h = ap (λ u. sorts_in g u) h.1

  -- and all together
  same_all : {A : Type 0} (here : tree.Part → List A) (there : Part → List A) → ((p : tree.Part) (c : Part) → IsPart nodes p c → here p ≡ there c)
      → (ps : List tree.Part) (cs : List Part) → AreParts nodes ps cs → flat_map here ps ≡ flat_map there cs
  same_all here there each [] [] h = refl
  same_all here there each [] (c ∷ cs) h = absurd h
  same_all here there each (p ∷ ps) [] h = absurd h
  same_all here there each (p ∷ ps) (c ∷ cs) h = let a = each p c h.0 in let b = same_all here there each ps cs h.1 in cc

  pub variables_are : (ps : List tree.Part) (cs : List Part) → AreParts nodes ps cs → flat_map variables_in ps ≡ flat_map (code_variables g nodes) cs
  variables_are ps cs h = same_all variables_in (code_variables g nodes) same_variables ps cs h

  pub terms_are : (ps : List tree.Part) (cs : List Part) → AreParts nodes ps cs → flat_map (terms_in g) ps ≡ flat_map (code_terms g nodes) cs
  terms_are ps cs h = same_all (terms_in g) (code_terms g nodes) same_terms ps cs h

  pub functions_are : (ps : List tree.Part) (cs : List Part) → AreParts nodes ps cs → flat_map (functions_of_part g) ps ≡ flat_map (code_functions g nodes) cs
  functions_are ps cs h = same_all (functions_of_part g) (code_functions g nodes) same_functions ps cs h

  pub sorts_are : (ps : List tree.Part) (cs : List Part) → AreParts nodes ps cs → flat_map (sorts_of_part g) ps ≡ flat_map (code_sorts g nodes) cs
  sorts_are ps cs h = same_all (sorts_of_part g) (code_sorts g nodes) same_sorts ps cs h

  has_term : (p : tree.Part) (c : Part) → IsPart nodes p c → HasTerm nodes c
  has_term (tree.existential v) (Existential w) h = tt
  has_term (tree.existential v) (Universal s) h = tt
  has_term (tree.existential v) (Named id n) h = absurd h
  has_term (tree.existential v) (Dependent id) h = absurd h
  has_term (tree.existential v) (Literal id) h = absurd h
  has_term (tree.universal sort) (Existential w) h = tt
  has_term (tree.universal sort) (Universal s) h = tt
  has_term (tree.universal sort) (Named id n) h = absurd h
  has_term (tree.universal sort) (Dependent id) h = absurd h
  has_term (tree.universal sort) (Literal id) h = absurd h
  has_term (tree.atom_term names t) (Existential w) h = tt
  has_term (tree.atom_term names t) (Universal s) h = tt
  has_term (tree.atom_term names t) (Named id n) h = h.0
  has_term (tree.atom_term names t) (Dependent id) h = h.0
  has_term (tree.atom_term names t) (Literal id) h = h.0

  pub have_terms : (ps : List tree.Part) (cs : List Part) → AreParts nodes ps cs → HaveTerms nodes cs
  have_terms [] [] h = tt
  have_terms [] (c ∷ cs) h = absurd h
  have_terms (p ∷ ps) [] h = absurd h
  have_terms (p ∷ ps) (c ∷ cs) h = (has_term p c h.0, have_terms ps cs h.1)

-- the number of one of them
pub have_at : (nodes : List Node) (cs : List Part) (k : ℕ) (c : Part) → HaveTerms nodes cs → k < length cs → c ≡ get_or cs k c → HasTerm nodes c
have_at nodes [] k c h lt e = absurd (omega arith)
have_at nodes (x ∷ cs) zero c h lt e = let P : Part → Type 0 = λ c. HasTerm nodes c in subst P (sym e) h.0
have_at nodes (x ∷ cs) (suc k) c h lt e = have_at nodes cs k c h.1 (omega arith) e

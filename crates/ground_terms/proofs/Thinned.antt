-- Lists of which elements are left out that come again later, and parts of a formula.
use Rattle.std.proofs.Common.{◌≡◌, inl, inr, ℕ, Bool, true, false, ◌||◌, cond, refl, sym, ◌∙◌, List, [], ◌∷◌, ◌++◌, Contains, ap, subst, map}
use Rattle.std.specs.Prelude.{◌==◌}
use Rattle.std.specs.List.{flat_map, list_any}
use Rattle.std.proofs.lemmas.List.Elements.{Contains-append_left, Contains-append_right}
use Rattle.std.proofs.lemmas.List.Folds.{list_any-append}
use Rattle.form_formula.specs.declared.node.Node.{Node}
use Rattle.form_formula.specs.declared.structure.Signature.{Signature}
use Rattle.form_terms.specs.GroundTerms.{GroundTerm}
use Rattle.form_terms.specs.Listing.{is_same_term, unique}
use Rattle.form_terms.specs.Parts as tree
use Rattle.form_terms.specs.Universe.{variables_in, terms_in, functions_in as functions_of_part, sorts_of_part}
use Rattle.form_terms.proofs.Kept.{list_any-from, list_any-some, nat_same}
use Rattle.form_terms.proofs.Listed.{same_itself, to_map}
use Rattle.form_terms.proofs.Lists.{Contains-head, Contains-tail, flat_map-Contains}
use Rattle.ground_terms.specs.declared.part.Part.{Part}
use Rattle.ground_terms.specs.Codes.{AreMarked, code_functions, code_sorts, code_terms, code_variables, is_marked}
use Rattle.ground_terms.specs.Parts.{AreThinned, HaveTerms, IsAtomTerm, Thins}
use Rattle.ground_terms.proofs.Codes.{functions_are, have_terms, sorts_are, terms_are, variables_are}

-- ---- lists

module _ {A : Type 0} (may_go : A → Type 0) where
  pub thins-all : (xs : List A) → Thins may_go xs xs
  thins-all [] = refl
  thins-all (x ∷ xs) = inr (xs, refl, thins-all xs)

  -- elements in front that come again
  pub thins-front : (front xs kept : List A) → ((x : A) → may_go x) → ((x : A) → Contains front x → Contains xs x) → Thins may_go xs kept → Thins may_go (front ++ xs) kept
  thins-front [] xs kept any again t = t
  thins-front (x ∷ front) xs kept any again t =
      inl (
        any x,
        Contains-append_right front xs x (again x (Contains-head x front)),
        thins-front front xs kept any (λ y c. again y (Contains-tail x front y c)) t,
      )

  pub thins-kept : (front xs kept : List A) → Thins may_go xs kept → Thins may_go (front ++ xs) (front ++ kept)
  thins-kept [] xs kept t = t
  thins-kept (x ∷ front) xs kept t = inr (front ++ kept, refl, thins-kept front xs kept t)

  pub thins-append : (xs ys a b : List A) → Thins may_go xs a → Thins may_go ys b → Thins may_go (xs ++ ys) (a ++ b)
  thins-append [] ys a b e t = subst (λ (zs : List A). Thins may_go ys (zs ++ b)) (sym e) t
  thins-append (x ∷ xs) ys a b (inl left) t = inl (left.0, Contains-append_left xs ys x left.1, thins-append xs ys a b left.2 t)
  thins-append (x ∷ xs) ys a b (inr kept) t = inr (kept.0 ++ b, ap (λ (zs : List A). zs ++ b) kept.1, thins-append xs ys kept.0 b kept.2 t)

pub thins-map : {A B : Type 0} (may_go : A → Type 0) (may' : B → Type 0) (f : A → B) → ((x : A) → may' (f x)) → (xs kept : List A) → Thins may_go xs kept → Thins may' (map f xs) (map f kept)
thins-map may_go may' f each [] kept e = ap (map f) e
thins-map may_go may' f each (x ∷ xs) kept (inl left) = inl (each x, to_map f xs x left.1, thins-map may_go may' f each xs kept left.2)
thins-map may_go may' f each (x ∷ xs) kept (inr own) = inr (map f own.0, ap (map f) own.1, thins-map may_go may' f each xs own.0 own.2)

or_true : (a b : Bool) → (a ≡ true → b ≡ true) → (a || b) ≡ b
or_true true b h = sym (h refl)
or_true false b h = refl

-- a test finds an element of the one list just where it finds one of the other
pub any-thins : {A B : Type 0} (may_go : A → Type 0) (h : A → List B) (p : B → Bool) (xs kept : List A) → Thins may_go xs kept → list_any p (flat_map h xs) ≡ list_any p (flat_map h kept)
any-thins may_go h p [] kept e = ap (λ ys. list_any p (flat_map h ys)) (sym e)
any-thins may_go h p (x ∷ xs) kept (inl left) =
    let again : list_any p (h x) ≡ true → list_any p (flat_map h xs) ≡ true =
    λ found. let y = list_any-some p (h x) found in list_any-from p (flat_map h xs) y.0 (flat_map-Contains h xs x y.0 left.1 y.1) y.2 in
    list_any-append p (h x) (flat_map h xs) ∙ (or_true (list_any p (h x)) (list_any p (flat_map h xs)) again ∙ any-thins may_go h p xs kept left.2)
any-thins may_go h p (x ∷ xs) kept (inr own) =
    list_any-append p (h x) (flat_map h xs)
    ∙ (ap (λ b. list_any p (h x) || b) (any-thins may_go h p xs own.0 own.2)
    ∙ (sym (list_any-append p (h x) (flat_map h own.0)) ∙ ap (λ ys. list_any p (flat_map h ys)) (sym own.1)))

module _ {B : Type 0} (same : B → B → Bool) where
  pub unique-front : (front xs ys : List B) → ((p : B → Bool) → list_any p xs ≡ list_any p ys) → unique same xs ≡ unique same ys → unique same (front ++ xs) ≡ unique same (front ++ ys)
  unique-front [] xs ys alike e = e
  unique-front (x ∷ front) xs ys alike e =
      let rest = unique-front front xs ys alike e in
      let test : list_any (same x) (front ++ xs) ≡ list_any (same x) (front ++ ys) =
      list_any-append (same x) front xs ∙ (ap (λ b. list_any (same x) front || b) (alike (same x)) ∙ sym (list_any-append (same x) front ys)) in
      ap (λ b. cond b (unique same (front ++ xs)) (x ∷ unique same (front ++ xs))) test
      ∙ ap (λ zs. cond (list_any (same x) (front ++ ys)) zs (x ∷ zs)) rest

  -- elements in front that come again
  unique-again : ((x : B) → same x x ≡ true) → (front xs : List B) → ((x : B) → Contains front x → Contains xs x) → unique same (front ++ xs) ≡ unique same xs
  unique-again itself [] xs again = refl
  unique-again itself (x ∷ front) xs again =
      let found = list_any-from (same x) (front ++ xs) x (Contains-append_right front xs x (again x (Contains-head x front))) (itself x) in
      ap (λ b. cond b (unique same (front ++ xs)) (x ∷ unique same (front ++ xs))) found
      ∙ unique-again itself front xs (λ y c. again y (Contains-tail x front y c))

  pub unique-thins : {A : Type 0} (may_go : A → Type 0) (h : A → List B) → ((x : B) → same x x ≡ true) → (xs kept : List A) → Thins may_go xs kept
      → unique same (flat_map h xs) ≡ unique same (flat_map h kept)
  unique-thins may_go h itself [] kept e = ap (λ ys. unique same (flat_map h ys)) (sym e)
  unique-thins may_go h itself (x ∷ xs) kept (inl left) =
      unique-again itself (h x) (flat_map h xs) (λ y c. flat_map-Contains h xs x y left.1 c) ∙ unique-thins may_go h itself xs kept left.2
  unique-thins may_go h itself (x ∷ xs) kept (inr own) =
      unique-front (h x) (flat_map h xs) (flat_map h own.0) (λ p. any-thins may_go h p xs own.0 own.2) (unique-thins may_go h itself xs own.0 own.2)
      ∙ ap (λ ys. unique same (flat_map h ys)) (sym own.1)

-- ---- parts

variables-thinned : (ps kept : List tree.Part) → Thins IsAtomTerm ps kept → flat_map variables_in ps ≡ flat_map variables_in kept
variables-thinned [] kept e = ap (λ ys. flat_map variables_in ys) (sym e)
variables-thinned (tree.existential v ∷ ps) kept (inl left) = absurd left.0
variables-thinned (tree.universal sort ∷ ps) kept (inl left) = absurd left.0
variables-thinned (tree.atom_term names t ∷ ps) kept (inl left) = variables-thinned ps kept left.2
variables-thinned (p ∷ ps) kept (inr own) =
    ap (λ vs. variables_in p ++ vs) (variables-thinned ps own.0 own.2) ∙ ap (λ ys. flat_map variables_in ys) (sym own.1)

module _ (g : Signature) (nodes : List Node) (ps : List tree.Part) (cs : List Part) (thinned : AreThinned nodes ps cs) where
  pub variables_thinned : flat_map variables_in ps ≡ flat_map (code_variables g nodes) cs
  variables_thinned = variables-thinned ps thinned.0 thinned.1 ∙ variables_are g nodes thinned.0 cs thinned.2

  pub terms_thinned : (front : List GroundTerm) → unique is_same_term (front ++ flat_map (terms_in g) ps) ≡ unique is_same_term (front ++ flat_map (code_terms g nodes) cs)
  terms_thinned front =
      unique-front is_same_term front (flat_map (terms_in g) ps) (flat_map (terms_in g) thinned.0) (λ p. any-thins IsAtomTerm (terms_in g) p ps thinned.0 thinned.1)
      (unique-thins is_same_term IsAtomTerm (terms_in g) same_itself ps thinned.0 thinned.1)
      ∙ ap (λ ts. unique is_same_term (front ++ ts)) (terms_are g nodes thinned.0 cs thinned.2)

  pub functions_thinned : unique (λ h k. h == k) (flat_map (functions_of_part g) ps) ≡ unique (λ h k. h == k) (flat_map (code_functions g nodes) cs)
  functions_thinned =
      unique-thins (λ h k. h == k) IsAtomTerm (functions_of_part g) nat_same ps thinned.0 thinned.1
      ∙ ap (λ hs. unique (λ h k. h == k) hs) (functions_are g nodes thinned.0 cs thinned.2)

  pub marked_thinned : (old new : List Bool) → AreMarked (flat_map (code_sorts g nodes) cs) old new → AreMarked (flat_map (sorts_of_part g) ps) old new
  marked_thinned old new marked =
      let sorts : (sort : ℕ) → list_any (λ s. s == sort) (flat_map (code_sorts g nodes) cs) ≡ list_any (λ s. s == sort) (flat_map (sorts_of_part g) ps) =
      λ sort.
      ap (λ ss. list_any (λ s. s == sort) ss) (sym (sorts_are g nodes thinned.0 cs thinned.2))
      ∙ sym (any-thins IsAtomTerm (sorts_of_part g) (λ s. s == sort) ps thinned.0 thinned.1) in
      record {
        size = marked.size;
        marked = λ sort lt. marked.marked sort lt ∙ ap (λ b. is_marked old sort || b) (sorts sort);
      }

  pub terms_of_thinned : HaveTerms nodes cs
  terms_of_thinned = have_terms g nodes thinned.0 cs thinned.2

-- The list of the terms that arise within so many rounds has just these.
use Rattle.std.proofs.Common.{◌≡◌, inl, inr, Bool, true, false, ◌&&◌, refl, sym, ◌∙◌, List, [], ◌∷◌, cond, ap, subst, Contains, map}
use Rattle.std.specs.Prelude.{◌==◌}
use Rattle.std.specs.List.{list_any, filter}
use Rattle.std.proofs.lemmas.Bool.{and_parts, eqb-true}
use Rattle.form_terms.specs.GroundTerms.{GroundTerm, GroundTerms, constant, skolem, field, no_terms, term_and}
use Rattle.form_terms.specs.Listing.{is_same_term, are_same_terms, unique}
use Rattle.form_terms.proofs.Lists.{Contains-head, Contains-tail, Contains-cons_cases, Contains-none}
use Rattle.form_terms.proofs.Kept.{list_any-some, nat_same}

mutual
  pub same_term : (t u : GroundTerm) → is_same_term t u ≡ true → t ≡ u
  same_term (constant sort) (constant sort') e = ap constant (eqb-true sort sort' e)
  same_term (constant sort) (skolem n sort' ts) e = cc
  same_term (constant sort) (field h t) e = cc
  same_term (skolem n sort ts) (constant sort') e = cc
  same_term (skolem n sort ts) (skolem n' sort' ts') e =
      let p = and_parts (n == n') ((sort == sort') && are_same_terms ts ts') e in
      let q = and_parts (sort == sort') (are_same_terms ts ts') p.1 in
      let a = eqb-true n n' p.0 in let b = eqb-true sort sort' q.0 in let d = same_terms ts ts' q.1 in cc
  same_term (skolem n sort ts) (field h t) e = cc
  same_term (field h t) (constant sort') e = cc
  same_term (field h t) (skolem n sort' ts) e = cc
  same_term (field h t) (field h' t') e =
      let p = and_parts (h == h') (is_same_term t t') e in
      let a = eqb-true h h' p.0 in let b = same_term t t' p.1 in cc

  pub same_terms : (ts us : GroundTerms) → are_same_terms ts us ≡ true → ts ≡ us
  same_terms no_terms no_terms e = refl
  same_terms no_terms (term_and t ts) e = cc
  same_terms (term_and t ts) no_terms e = cc
  same_terms (term_and t ts) (term_and u us) e =
      let p = and_parts (is_same_term t u) (are_same_terms ts us) e in
      let a = same_term t u p.0 in let b = same_terms ts us p.1 in cc

mutual
  pub same_itself : (t : GroundTerm) → is_same_term t t ≡ true
  same_itself (constant sort) = nat_same sort
  same_itself (skolem n sort ts) = let a = nat_same n in let b = nat_same sort in let d = same_themselves ts in cc
  same_itself (field h t) = let a = nat_same h in let b = same_itself t in cc

  pub same_themselves : (ts : GroundTerms) → are_same_terms ts ts ≡ true
  same_themselves no_terms = refl
  same_themselves (term_and t ts) = let a = same_itself t in let b = same_themselves ts in cc

-- elements of a list without those that stand again
pub from_unique : {A : Type 0} (same : A → A → Bool) (xs : List A) (x : A) → Contains (unique same xs) x → Contains xs x
from_unique same [] x c = c
from_unique {A} same (y ∷ xs) x c = choose (from_unique same xs x) (list_any (same y) xs) c
  where
    choose : (Contains (unique same xs) x → Contains xs x) → (b : Bool) → Contains (cond b (unique same xs) (y ∷ unique same xs)) x → Contains (y ∷ xs) x
    choose later true c = Contains-tail y xs x (later c)
    choose later false c =
        elim (Contains-cons_cases y (unique same xs) x c) [
          | inl e ↦ let P : A → Type 0 = λ x. Contains (y ∷ xs) x in subst P e (Contains-head y xs)
          | inr rest ↦ Contains-tail y xs x (later rest)
        ]

pub to_unique : {A : Type 0} (same : A → A → Bool) → ((x y : A) → same x y ≡ true → x ≡ y) → (xs : List A) (x : A) → Contains xs x → Contains (unique same xs) x
to_unique same exact [] x c = c
to_unique {A} same exact (y ∷ xs) x c = choose (to_unique same exact xs x) (list_any (same y) xs) refl
  where
    choose : (Contains xs x → Contains (unique same xs) x) → (b : Bool) → list_any (same y) xs ≡ b → Contains (cond b (unique same xs) (y ∷ unique same xs)) x
    choose later true e =
        elim (Contains-cons_cases y xs x c) [
          | inl here ↦
              let found = list_any-some (same y) xs e in
              let again : y ≡ found.0 = exact y found.0 found.2 in
              let P : A → Type 0 = λ z. Contains xs z in
              later (subst P (sym again ∙ here) found.1)
          | inr rest ↦ later rest
        ]
    choose later false e =
        elim (Contains-cons_cases y xs x c) [
          | inl here ↦ let P : A → Type 0 = λ z. Contains (y ∷ unique same xs) z in subst P here (Contains-head y (unique same xs))
          | inr rest ↦ Contains-tail y (unique same xs) x (later rest)
        ]

pub to_filter : {A : Type 0} (p : A → Bool) (xs : List A) (x : A) → Contains xs x → p x ≡ true → Contains (filter p xs) x
to_filter p [] x c e = c
to_filter {A} p (y ∷ xs) x c e = choose (to_filter p xs x) (p y) refl
  where
    choose : (Contains xs x → p x ≡ true → Contains (filter p xs) x) → (b : Bool) → p y ≡ b → Contains (cond b (y ∷ filter p xs) (filter p xs)) x
    choose later true h =
        elim (Contains-cons_cases y xs x c) [
          | inl here ↦ let P : A → Type 0 = λ z. Contains (y ∷ filter p xs) z in subst P here (Contains-head y (filter p xs))
          | inr rest ↦ Contains-tail y (filter p xs) x (later rest e)
        ]
    choose later false h =
        elim (Contains-cons_cases y xs x c) [
          | inl here ↦ let no : true ≡ false = sym e ∙ (ap p (sym here) ∙ h) in cc
          | inr rest ↦ later rest e
        ]

pub in_filter : {A : Type 0} (p : A → Bool) (xs : List A) (x : A) → Contains (filter p xs) x → Contains xs x × (p x ≡ true)
in_filter p [] x c = Contains-none x c
in_filter {A} p (y ∷ xs) x c = choose (in_filter p xs x) (p y) refl c
  where
    choose : (Contains (filter p xs) x → Contains xs x × (p x ≡ true)) → (b : Bool) → p y ≡ b → Contains (cond b (y ∷ filter p xs) (filter p xs)) x
        → Contains (y ∷ xs) x × (p x ≡ true)
    choose later true h c =
        elim (Contains-cons_cases y (filter p xs) x c) [
          | inl here ↦ let P : A → Type 0 = λ z. Contains (y ∷ xs) z in (subst P here (Contains-head y xs), ap p (sym here) ∙ h)
          | inr rest ↦ let found = later rest in (Contains-tail y xs x found.0, found.1)
        ]
    choose later false h c = let found = later c in (Contains-tail y xs x found.0, found.1)

pub to_map : {A B : Type 0} (h : A → B) (xs : List A) (x : A) → Contains xs x → Contains (map h xs) (h x)
to_map h [] x c = Contains-none x c
to_map {A} {B} h (y ∷ xs) x c =
    elim (Contains-cons_cases y xs x c) [
      | inl e ↦ let P : A → Type 0 = λ z. Contains (h y ∷ map h xs) (h z) in subst P e (Contains-head (h y) (map h xs))
      | inr rest ↦ Contains-tail (h y) (map h xs) (h x) (to_map h xs x rest)
    ]

pub in_map : {A B : Type 0} (h : A → B) (xs : List A) (y : B) → Contains (map h xs) y → (x : A) × Contains xs x × (h x ≡ y)
in_map h [] y c = Contains-none y c
in_map h (x ∷ xs) y c =
    elim (Contains-cons_cases (h x) (map h xs) y c) [
      | inl e ↦ (x, Contains-head x xs, e)
      | inr rest ↦ let found = in_map h xs y rest in (found.0, Contains-tail x xs found.0 found.1, found.2)
    ]

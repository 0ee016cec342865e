-- A structure that satisfies a formula passes it over every set of terms.
use Rattle.std.proofs.Common.{◌≡◌, ℕ, zero, suc, ◌+◌, ◌<◌, ◌≤◌, inl, inr, Bool, true, false, refl, sym, ◌∙◌, List, [], ◌∷◌, ◌++◌, Some, None, Option, cond, ap, subst, arith, Contains, append_assoc}
use Rattle.std.specs.Prelude.{nat_eq, nat_lt, option_and_then}
use Rattle.std.specs.List.{find}
use Rattle.std.proofs.lemmas.List.{append-nil}
use Rattle.std.proofs.lemmas.List.Elements.{Contains-append_cases}
use Rattle.std.proofs.lemmas.Bool.{and_parts}
use Rattle.std.proofs.lemmas.Bool.Decides.{eqb_tells, leb_tells}
use Rattle.std.proofs.lemmas.Option.{option_and_then_some}
use Rattle.form_formula.specs.declared.structure.Signature.{Signature}
use Rattle.form_formula.specs.declared.structure.Structure.{Structure}
use Rattle.form_formula.specs.Trees.{Term, Formula, yes, no, equal, less, has, flag, present, negation, both, either, exists, forall}
use Rattle.form_formula.specs.Truth.{truth, elements}
use Rattle.form_terms.specs.GroundTerms.{GroundTerm}
use Rattle.form_terms.specs.Parts.{Variable, Part, existential, universal, atom_term, parts, parts_of, quantifiers, name_of}
use Rattle.form_terms.specs.Universe.{variables_of, variables_in}
use Rattle.form_terms.specs.Structures.{size_of}
use Rattle.form_terms.specs.Passing.{Choice, IsChoice, HoldsOver, Passes}
use Rattle.form_terms.proofs.Lists.{Contains-cons_cases, Contains-none, Contains-flat_map, find-any, find-Contains, range-within, range-Contains, list_all-Contains, either_true, cond_true, cond_false}

-- what a quantifier's variable ranges over, tried on the rest of the formula
abbrev passes_with : Structure → List ℕ → Formula → ℕ → Bool
passes_with s env a x = truth s (env ++ x ∷ []) a

-- the element that the variable with a number is, where the variables above have the elements of the first list, and the `forall`s from
-- there on those of the second: the first with which the rest of the formula holds
abbrev witness : Structure → ℕ → List ℕ → Formula → ℕ → List ℕ → Option ℕ
witness s number env yes n xs = None
witness s number env no n xs = None
witness s number env (equal t u) n xs = None
witness s number env (less t u) n xs = None
witness s number env (has r t u) n xs = None
witness s number env (flag f t) n xs = None
witness s number env (present f t) n xs = None
witness s number env (negation a) n xs = witness s number env a n xs
witness s number env (both a b) n xs = cond (nat_lt n (number + quantifiers a)) (witness s number env a n xs) (witness s (number + quantifiers a) env b n xs)
witness s number env (either a b) n xs = cond (nat_lt n (number + quantifiers a)) (witness s number env a n xs) (witness s (number + quantifiers a) env b n xs)
witness s number env (exists sort a) n xs =
    cond (nat_eq n number) (find (passes_with s env a) (elements s sort))
    (option_and_then (λ x. witness s (number + 1) (env ++ x ∷ []) a n xs) (find (passes_with s env a) (elements s sort)))
witness s number env (forall sort a) n [] = None
witness s number env (forall sort a) n (x ∷ xs) = witness s (number + 1) (env ++ x ∷ []) a n xs

-- a term of an atom is no variable
one_term : {A : Type 0} (names : List (Option GroundTerm)) (t : Term) (v : Variable) → Contains (atom_term names t ∷ []) (existential v) → A
one_term names t v c = elim (Contains-cons_cases (atom_term names t) [] (existential v) c) [ inl e ↦ cc | inr later ↦ Contains-none (existential v) later ]

two_terms : {A : Type 0} (names : List (Option GroundTerm)) (t u : Term) (v : Variable)
    → Contains (atom_term names t ∷ atom_term names u ∷ []) (existential v) → A
two_terms names t u v c =
    elim (Contains-cons_cases (atom_term names t) (atom_term names u ∷ []) (existential v) c) [ inl e ↦ cc | inr later ↦ one_term names u v later ]

-- the variables of the part of a formula have the numbers of its quantifiers
pub numbered : (number : ℕ) (names : List (Option GroundTerm)) (above : List ℕ) (a : Formula) (v : Variable)
    → Contains (parts number names above a) (existential v) → (number ≤ v.number) × (v.number < number + quantifiers a)
numbered number names above yes v c = Contains-none (existential v) c
numbered number names above no v c = Contains-none (existential v) c
numbered number names above (equal t u) v c = two_terms names t u v c
numbered number names above (less t u) v c = two_terms names t u v c
numbered number names above (has r t u) v c = two_terms names t u v c
numbered number names above (flag f t) v c = one_term names t v c
numbered number names above (present f t) v c = one_term names t v c
numbered number names above (negation a) v c = numbered number names above a v c
numbered number names above (both a b) v c =
    elim (Contains-append_cases (parts number names above a) (parts (number + quantifiers a) names above b) (existential v) c) [
      | inl c ↦ let h = numbered number names above a v c in (h.0, omega (arith, h.1))
      | inr c ↦ let h = numbered (number + quantifiers a) names above b v c in (omega (arith, h.0), omega (arith, h.1))
    ]
numbered number names above (either a b) v c =
    elim (Contains-append_cases (parts number names above a) (parts (number + quantifiers a) names above b) (existential v) c) [
      | inl c ↦ let h = numbered number names above a v c in (h.0, omega (arith, h.1))
      | inr c ↦ let h = numbered (number + quantifiers a) names above b v c in (omega (arith, h.0), omega (arith, h.1))
    ]
numbered number names above (exists sort a) v c =
    let own : Variable = record { number = number; sort = sort; above = above } in
    elim (Contains-cons_cases (existential own) (parts (number + 1) (names ++ name_of number sort above ∷ []) above a) (existential v) c) [
      | inl e ↦ let same : number ≡ v.number = cc in (omega (arith, same), omega (arith, same))
      | inr c ↦ let h = numbered (number + 1) (names ++ name_of number sort above ∷ []) above a v c in (omega (arith, h.0), omega (arith, h.1))
    ]
numbered number names above (forall sort a) v c =
    elim (Contains-cons_cases (universal sort) (parts (number + 1) (names ++ None ∷ []) (above ++ sort ∷ []) a) (existential v) c) [
      | inl e ↦ cc
      | inr c ↦ let h = numbered (number + 1) (names ++ None ∷ []) (above ++ sort ∷ []) a v c in (omega (arith, h.0), omega (arith, h.1))
    ]

-- which of two parts has a number
before : (n m : ℕ) → n < m → nat_lt n m ≡ true
before n m h = elim (leb_tells (suc n) m) [ inl p ↦ p.0 | inr p ↦ absurd (omega (arith, h, p.1)) ]

behind : (n m : ℕ) → m ≤ n → nat_lt n m ≡ false
behind n m h = elim (leb_tells (suc n) m) [ inl p ↦ absurd (omega (arith, h, p.1)) | inr p ↦ p.0 ]

apart : (n m : ℕ) → m < n → nat_eq n m ≡ false
apart n m h = elim (eqb_tells n m) [ inl p ↦ absurd (omega (arith, h, p.1)) | inr p ↦ p.0 ]

same : (n : ℕ) → nat_eq n n ≡ true
same n = elim (eqb_tells n n) [ inl p ↦ p.0 | inr p ↦ absurd (p.1 refl) ]

module _ (s : Structure) where
  -- what is found is an element of the variable's sort
  witnessed : (number : ℕ) (names : List (Option GroundTerm)) (above env : List ℕ) (a : Formula) (v : Variable) (xs : List ℕ) (x : ℕ)
      → Contains (parts number names above a) (existential v) → witness s number env a v.number xs ≡ Some x → x < size_of s v.sort
  witnessed number names above env yes v xs x c e = Contains-none (existential v) c
  witnessed number names above env no v xs x c e = Contains-none (existential v) c
  witnessed number names above env (equal t u) v xs x c e = two_terms names t u v c
  witnessed number names above env (less t u) v xs x c e = two_terms names t u v c
  witnessed number names above env (has r t u) v xs x c e = two_terms names t u v c
  witnessed number names above env (flag f t) v xs x c e = one_term names t v c
  witnessed number names above env (present f t) v xs x c e = one_term names t v c
  witnessed number names above env (negation a) v xs x c e = witnessed number names above env a v xs x c e
  witnessed number names above env (both a b) v xs x c e =
      let left : Option ℕ = witness s number env a v.number xs in
      let right : Option ℕ = witness s (number + quantifiers a) env b v.number xs in
      elim (Contains-append_cases (parts number names above a) (parts (number + quantifiers a) names above b) (existential v) c) [
        | inl c ↦
            let h = numbered number names above a v c in
            let e : left ≡ Some x = sym (cond_true (nat_lt v.number (number + quantifiers a)) left right (before v.number (number + quantifiers a) h.1)) ∙ e in
            witnessed number names above env a v xs x c e
        | inr c ↦
            let h = numbered (number + quantifiers a) names above b v c in
            let e : right ≡ Some x = sym (cond_false (nat_lt v.number (number + quantifiers a)) left right (behind v.number (number + quantifiers a) h.0)) ∙ e in
            witnessed (number + quantifiers a) names above env b v xs x c e
      ]
  witnessed number names above env (either a b) v xs x c e =
      let left : Option ℕ = witness s number env a v.number xs in
      let right : Option ℕ = witness s (number + quantifiers a) env b v.number xs in
      elim (Contains-append_cases (parts number names above a) (parts (number + quantifiers a) names above b) (existential v) c) [
        | inl c ↦
            let h = numbered number names above a v c in
            let e : left ≡ Some x = sym (cond_true (nat_lt v.number (number + quantifiers a)) left right (before v.number (number + quantifiers a) h.1)) ∙ e in
            witnessed number names above env a v xs x c e
        | inr c ↦
            let h = numbered (number + quantifiers a) names above b v c in
            let e : right ≡ Some x = sym (cond_false (nat_lt v.number (number + quantifiers a)) left right (behind v.number (number + quantifiers a) h.0)) ∙ e in
            witnessed (number + quantifiers a) names above env b v xs x c e
      ]
  witnessed number names above env (exists sort a) v xs x c e =
      let own : Variable = record { number = number; sort = sort; above = above } in
      let first : Option ℕ = find (passes_with s env a) (elements s sort) in
      let later : Option ℕ = option_and_then (λ y. witness s (number + 1) (env ++ y ∷ []) a v.number xs) first in
      elim (Contains-cons_cases (existential own) (parts (number + 1) (names ++ name_of number sort above ∷ []) above a) (existential v) c) [
        | inl p ↦
            let here : number ≡ v.number = cc in
            let kind : sort ≡ v.sort = cc in
            let test : nat_eq v.number number ≡ true = let Q : ℕ → Type 0 = λ n. nat_eq v.number n ≡ true in subst Q (sym here) (same v.number) in
            let found : first ≡ Some x = sym (cond_true (nat_eq v.number number) first later test) ∙ e in
            let within = range-within 0 (size_of s sort) x (find-Contains (passes_with s env a) (elements s sort) x found) in
            let Q : ℕ → Type 0 = λ n. x < size_of s n in subst Q kind (omega (arith, within.1))
        | inr c ↦
            let h = numbered (number + 1) (names ++ name_of number sort above ∷ []) above a v c in
            let found : later ≡ Some x = sym (cond_false (nat_eq v.number number) first later (apart v.number number (omega (arith, h.0)))) ∙ e in
            option_and_then_some (λ y. witness s (number + 1) (env ++ y ∷ []) a v.number xs) first x found
            (λ y q r. witnessed (number + 1) (names ++ name_of number sort above ∷ []) above (env ++ y ∷ []) a v xs x c r)
      ]
  witnessed number names above env (forall sort a) v [] x c e = cc
  witnessed number names above env (forall sort a) v (y ∷ xs) x c e =
      elim (Contains-cons_cases (universal sort) (parts (number + 1) (names ++ None ∷ []) (above ++ sort ∷ []) a) (existential v) c) [
        | inl p ↦ cc
        | inr c ↦ witnessed (number + 1) (names ++ None ∷ []) (above ++ sort ∷ []) (env ++ y ∷ []) a v xs x c e
      ]

module _ (g : Signature) (s : Structure) (c : Choice) (P : GroundTerm → Type 0) where
  -- the choice has what is found for the variables of the part of a formula
  abbrev Follows : ℕ → List ℕ → List ℕ → Formula → Type 0
  Follows number env xs a = (n : ℕ) (ys : List ℕ) → number ≤ n → n < number + quantifiers a → c.variable n (xs ++ ys) ≡ witness s number env a n ys

  follows_left : (number : ℕ) (env xs : List ℕ) (a b : Formula) → Follows number env xs (both a b) → Follows number env xs a
  follows_left number env xs a b h n ys low high =
      h n ys low (omega (arith, high)) ∙ cond_true (nat_lt n (number + quantifiers a)) _ _ (before n (number + quantifiers a) high)

  follows_right : (number : ℕ) (env xs : List ℕ) (a b : Formula) → Follows number env xs (both a b) → Follows (number + quantifiers a) env xs b
  follows_right number env xs a b h n ys low high =
      h n ys (omega (arith, low)) (omega (arith, high)) ∙ cond_false (nat_lt n (number + quantifiers a)) _ _ (behind n (number + quantifiers a) low)

  holds-over : (number : ℕ) (env xs : List ℕ) (a : Formula) → truth s env a ≡ true → Follows number env xs a → HoldsOver g s c P number env xs a
  holds-over number env xs yes e h = tt
  holds-over number env xs no e h = cc
  holds-over number env xs (equal t u) e h = e
  holds-over number env xs (less t u) e h = e
  holds-over number env xs (has r t u) e h = e
  holds-over number env xs (flag f t) e h = e
  holds-over number env xs (present f t) e h = e
  holds-over number env xs (negation a) e h = e
  holds-over number env xs (both a b) e h =
      let e = and_parts (truth s env a) (truth s env b) e in
      (holds-over number env xs a e.0 (follows_left number env xs a b h), holds-over (number + quantifiers a) env xs b e.1 (follows_right number env xs a b h))
  holds-over number env xs (either a b) e h =
      elim (either_true (truth s env a) (truth s env b) e) [
        | inl e ↦ inl (holds-over number env xs a e (follows_left number env xs a b h))
        | inr e ↦ inr (holds-over (number + quantifiers a) env xs b e (follows_right number env xs a b h))
      ]
  holds-over number env xs (exists sort a) e h =
      let found = find-any (passes_with s env a) (elements s sort) e in
      let x : ℕ = found.0 in
      let Q : List ℕ → Type 0 = λ ys. c.variable number ys ≡ Some x in
      let here : c.variable number (xs ++ []) ≡ Some x =
      h number [] (omega arith) (omega arith) ∙ (cond_true (nat_eq number number) _ _ (same number) ∙ found.1) in
      let rest : Follows (number + 1) (env ++ x ∷ []) xs a = λ n ys low high.
      h n ys (omega (arith, low)) (omega (arith, high)) ∙ (cond_false (nat_eq n number) _ _ (apart n number (omega (arith, low)))
      ∙ ap (λ o. option_and_then (λ x. witness s (number + 1) (env ++ x ∷ []) a n ys) o) found.1) in
      (x, subst Q (append-nil xs) here, holds-over (number + 1) (env ++ x ∷ []) xs a found.2 rest)
  holds-over number env xs (forall sort a) e h = λ x within named.
      let rest : Follows (number + 1) (env ++ x ∷ []) (xs ++ x ∷ []) a = λ n ys low high.
      ap (c.variable n) (append_assoc xs (x ∷ []) ys) ∙ h n (x ∷ ys) (omega (arith, low)) (omega (arith, high)) in
      let here : truth s (env ++ x ∷ []) a ≡ true =
      list_all-Contains (passes_with s env a) (elements s sort) x e (range-Contains 0 (size_of s sort) x (omega arith) (omega (arith, within))) in
      holds-over (number + 1) (env ++ x ∷ []) (xs ++ x ∷ []) a here rest

-- the first element of each sort, and what is found
abbrev witnesses : Structure → Formula → Choice
witnesses s f = record {
  constant = λ sort. cond (nat_lt 0 (size_of s sort)) (Some 0) None;
  variable = λ n xs. witness s 0 [] f n xs;
}

first_element : (size x : ℕ) → cond (nat_lt 0 size) (Some 0) None ≡ Some x → x < size
first_element zero x e = cc
first_element (suc n) x e =
    let found : Some 0 ≡ Some x = sym (cond_true (nat_lt 0 (suc n)) _ _ (before 0 (suc n) (omega arith))) ∙ e in
    let same : 0 ≡ x = cc in omega (arith, same)

pub variable_part : (g : Signature) (f : Formula) (v : Variable) → Contains (variables_of g f) v → Contains (parts_of f) (existential v)
variable_part g f v c =
    let found = Contains-flat_map variables_in (parts_of f) v c in
    own found.0 found.1 found.2
  where
    own : (p : Part) → Contains (parts_of f) p → Contains (variables_in p) v → Contains (parts_of f) (existential v)
    own (existential w) here there =
        elim (Contains-cons_cases w [] v there) [
          | inl e ↦ let Q : Variable → Type 0 = λ w. Contains (parts_of f) (existential w) in subst Q e here
          | inr later ↦ Contains-none v later
        ]
    own (universal sort) here there = Contains-none v there
    own (atom_term names t) here there = Contains-none v there

pub passes_where_true : (g : Signature) (f : Formula) (P : GroundTerm → Type 0) (s : Structure) → truth s [] f ≡ true → Passes g f P s
passes_where_true g f P s e =
    let c : Choice = witnesses s f in
    let fits : IsChoice g s f c = record {
      constants = λ sort x e. first_element (size_of s sort) x e;
      needed = λ sort h some. (0, cond_true (nat_lt 0 (size_of s sort)) _ _ (before 0 (size_of s sort) some));
      variables = λ v xs x there e. witnessed s 0 [] [] [] f v xs x (variable_part g f v there) e;
    } in
    (c, record { choice = fits; holds = holds-over g s c P 0 [] [] f e (λ n ys low high. refl) })

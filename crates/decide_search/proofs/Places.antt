-- A list by its places.
use Rattle.std.proofs.Common.{◌≡◌, ℕ, suc, ◌+◌, ◌<◌, Bool, true, false, refl, sym, ◌∙◌, List, [], ◌∷◌, length, get_or, map, ap, subst, arith, ◌++◌, Contains, IsTrue}
use Rattle.std.specs.Prelude.{IsSome, Option, Some, None, IfSome}
use Rattle.std.specs.List.{range_with_len}
use Rattle.std.proofs.lemmas.List.FromFn.{map-range_with_len_more}
use Rattle.form_terms.proofs.Kept.{All-from, All-Contains}
use Rattle.solve_theory.specs.Models.{IsModelOf}
use Rattle.solve_solver.specs.Assignment.{IsLawful, SameLiterals, theory_literals, value_at, literal_value}
use Rattle.solve_solver.specs.declared.literal.PLit.{PLit}
use Rattle.decide_search.specs.Mixed.{AreValues}

-- a function of places that a list has from a place on
places : (f : ℕ → Bool) (a : ℕ) (xs : List Bool) → ((k : ℕ) → k < length xs → f (a + k) ≡ get_or xs k false) → map f (range_with_len a (length xs)) ≡ xs
places f a [] h = refl
places f a (x ∷ xs) h =
    let none : a + 0 ≡ a = omega arith in
    let here : f a ≡ x = sym (ap f none) ∙ h 0 (omega arith) in
    let later : map f (range_with_len (a + 1) (length xs)) ≡ xs = places f (a + 1) xs (λ k l. let sum : a + 1 + k ≡ a + suc k = omega arith in ap f sum ∙ h (suc k) (omega arith)) in cc

pub all_places : (xs : List Bool) (n : ℕ) → length xs ≡ n → map (value_at xs) (range_with_len 0 n) ≡ xs
all_places xs n e =
    ap (λ n. map (value_at xs) (range_with_len 0 n)) (sym e) ∙ places (value_at xs) 0 xs (λ k l. let none : 0 + k ≡ k = omega arith in ap (λ k. get_or xs k false) none)

-- the values of a lawful assignment meet the clauses
pub lawful_values : {M L : Type 0} (models : M → Bool) (meets : M → L → Bool) (vars : ℕ) (clauses : List (List PLit)) (atoms : List (Option (L × L))) (assignment values : List Bool)
    → IsLawful models meets vars clauses atoms assignment → values ≡ map (value_at assignment) (range_with_len 0 vars) → AreValues vars clauses values
lawful_values models meets vars clauses atoms assignment values h e =
    let same : values ≡ assignment = e ∙ all_places assignment vars h.one_each in
    let P : List Bool → Type 0 = λ values. AreValues vars clauses values in
    subst P (sym same) (record { one_each = h.one_each; meets_each = h.meets_each })

-- the values that were listed are those of the assignment
pub values_more : (o : Option (List Bool)) (var : ℕ) (value : Bool) (old new : List Bool) → IfSome o (λ a. old ≡ map (value_at a) (range_with_len 0 var))
    → IfSome o (λ a. value ≡ literal_value a (record { var = var; plus = true })) → new ≡ old ++ value ∷ [] → IfSome o (λ a. new ≡ map (value_at a) (range_with_len 0 (var + 1)))
values_more None var value old new h k e = tt
values_more (Some a) var value old new h k e =
    e ∙ (ap (λ vs. vs ++ value ∷ []) h ∙ (ap (λ v. map (value_at a) (range_with_len 0 var) ++ v ∷ []) k ∙ sym (map-range_with_len_more (value_at a) 0 var var (omega arith))))

pub found_values : {M L : Type 0} (models : M → Bool) (meets : M → L → Bool) (n vars : ℕ) (clauses old : List (List PLit)) (atoms : List (Option (L × L))) (o : Option (List Bool)) (values : List Bool)
    → IsSome o → IfSome o (IsLawful models meets vars clauses atoms) → IfSome o (λ a. values ≡ map (value_at a) (range_with_len 0 n)) → vars ≡ n → clauses ≡ old → AreValues n old values
found_values models meets n vars clauses old atoms None values some h k e d = absurd (none_some some)
  where
    none_some : false ≡ true → ⊥
    none_some e = cc
found_values models meets n vars clauses old atoms (Some a) values some h k e d =
    let P : ℕ → Type 0 = λ n. AreValues n old values in
    let Q : List (List PLit) → Type 0 = λ cs. AreValues vars cs values in
    subst P e (subst Q d (lawful_values models meets vars clauses atoms a values h (k ∙ ap (λ n. map (value_at a) (range_with_len 0 n)) (sym e))))

-- the values of a lawful assignment are one, also of what was there before
pub found_lawful : {M L : Type 0} (models before : M → Bool) (meets : M → L → Bool) (n vars own : ℕ) (clauses old : List (List PLit)) (atoms first : List (Option (L × L))) (o : Option (List Bool)) (values : List Bool)
    → IsSome o → IfSome o (IsLawful models meets vars clauses atoms) → IfSome o (λ a. values ≡ map (value_at a) (range_with_len 0 n)) → models ≡ before → vars ≡ own → own ≡ n → clauses ≡ old → atoms ≡ first
    → IsLawful before meets own old first values
found_lawful models before meets n vars own clauses old atoms first None values some h k m e f d b = absurd (none_some some)
  where
    none_some : false ≡ true → ⊥
    none_some e = cc
found_lawful {M} {L} models before meets n vars own clauses old atoms first (Some a) values some h k m e f d b =
    let same : values ≡ a = k ∙ all_places a n (h.one_each ∙ (e ∙ f)) in
    let P : List Bool → Type 0 = λ values. IsLawful models meets vars clauses atoms values in
    let Q : (M → Bool) → Type 0 = λ models. IsLawful models meets vars clauses atoms values in
    let R : ℕ → Type 0 = λ vars. IsLawful before meets vars clauses atoms values in
    let S : List (List PLit) → Type 0 = λ clauses. IsLawful before meets own clauses atoms values in
    let T : List (Option (L × L)) → Type 0 = λ atoms. IsLawful before meets own old atoms values in
    subst T b (subst S d (subst R e (subst Q m (subst P (sym same) h))))

-- a model of the literals that a solver holds is one of those for the values
pub found_model : {M L : Type 0} (models before : M → Bool) (meets : M → L → Bool) (n vars own : ℕ) (clauses : List (List PLit)) (atoms first : List (Option (L × L))) (o : Option (List Bool)) (values : List Bool)
    (literals : List L) (m : M) → IsSome o → IfSome o (IsLawful models meets vars clauses atoms) → IfSome o (λ a. values ≡ map (value_at a) (range_with_len 0 n))
    → IfSome o (λ a. SameLiterals literals (theory_literals a atoms)) → models ≡ before → vars ≡ own → own ≡ n → atoms ≡ first → IsModelOf models meets literals m
    → IsModelOf before meets (theory_literals values first) m
found_model models before meets n vars own clauses atoms first None values literals m some h k s mo e f b is = absurd (none_some some)
  where
    none_some : false ≡ true → ⊥
    none_some e = cc
found_model {M} {L} models before meets n vars own clauses atoms first (Some a) values literals m some h k s mo e f b is =
    let same : values ≡ a = k ∙ all_places a n (h.one_each ∙ (e ∙ f)) in
    let met : IsModelOf models meets (theory_literals a atoms) m = record {
      is_model = is.is_model;
      meets_each = All-from (λ l. IsTrue (meets m l)) (theory_literals a atoms) (λ l there.
          All-Contains (λ l. IsTrue (meets m l)) literals l is.meets_each (All-Contains (Contains literals) (theory_literals a atoms) l s.back there));
    } in
    let P : List Bool → Type 0 = λ values. IsModelOf models meets (theory_literals values atoms) m in
    let Q : (M → Bool) → Type 0 = λ models. IsModelOf models meets (theory_literals values atoms) m in
    let T : List (Option (L × L)) → Type 0 = λ atoms. IsModelOf before meets (theory_literals values atoms) m in
    subst T b (subst Q mo (subst P (sym same) met))

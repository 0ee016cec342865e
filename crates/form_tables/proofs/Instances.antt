-- The instances of a formula's atoms over a list of terms.
use Rattle.std.proofs.Common.{◌≡◌, ℕ, ◌+◌, inl, inr, refl, List, [], ◌∷◌, ◌++◌, Some, None, Option, subst, Contains}
use Rattle.std.specs.List.{flat_map}
use Rattle.std.proofs.lemmas.List.Elements.{Contains-append_cases, Contains-append_left, Contains-append_right}
use Rattle.form_formula.specs.declared.structure.Signature.{Signature}
use Rattle.form_formula.specs.Over.{IsOver}
use Rattle.form_formula.specs.Trees.{Formula, yes, no, equal, less, has, flag, present, negation, both, either, exists, forall}
use Rattle.form_terms.specs.GroundTerms.{GroundTerm, GroundTerms, skolem, no_terms, term_and, and_last, sort_of}
use Rattle.form_terms.specs.Parts.{Variable, Part, existential, universal, parts, parts_of, quantifiers, name_of}
use Rattle.form_terms.specs.Universe.{variables_of, variables_in, HaveSorts, HasEach}
use Rattle.form_terms.specs.Listing.{of_sort}
use Rattle.form_terms.proofs.Lists.{Contains-head, Contains-tail, Contains-cons_cases, Contains-none, Contains-flat_map, flat_map-Contains}
use Rattle.form_terms.proofs.Listed.{to_filter, in_filter}
use Rattle.form_terms.proofs.CutFacts.{is_the_number, number_is}
use Rattle.form_terms.proofs.CutTruth.{and_last-sorts, and_last-each}
use Rattle.form_terms.specs.GroundTerms.{is_number}
use Rattle.form_tables.specs.Vocabulary.{Vocabulary, Covers, CoversAtom, IsFormed}
use Rattle.form_tables.proofs.Transfer.{AreTerms, terms_more}

-- an atom, and the terms that the variables above it are
pub record Instance : Type 0 where
  pub env : List GroundTerm
  pub atom : Formula

module _ (g : Signature) (f : Formula) (terms : List GroundTerm) where
  abbrev pub ranged : ℕ → List GroundTerm
  ranged sort = of_sort g f sort terms

  abbrev pub instances : ℕ → List GroundTerm → GroundTerms → Formula → List Instance
  instances number env args yes = []
  instances number env args no = []
  instances number env args (equal t u) = record { env = env; atom = equal t u } ∷ []
  instances number env args (less t u) = record { env = env; atom = less t u } ∷ []
  instances number env args (has r t u) = record { env = env; atom = has r t u } ∷ []
  instances number env args (flag h t) = record { env = env; atom = flag h t } ∷ []
  instances number env args (present h t) = record { env = env; atom = present h t } ∷ []
  instances number env args (negation a) = record { env = env; atom = a } ∷ []
  instances number env args (both a b) = instances number env args a ++ instances (number + quantifiers a) env args b
  instances number env args (either a b) = instances number env args a ++ instances (number + quantifiers a) env args b
  instances number env args (exists sort a) = instances (number + 1) (env ++ skolem number sort args ∷ []) args a
  instances number env args (forall sort a) = flat_map (λ t. instances (number + 1) (env ++ t ∷ []) (and_last args t) a) (ranged sort)

  -- the terms of the variables of `exists`
  abbrev pub names : ℕ → List GroundTerm → GroundTerms → Formula → List GroundTerm
  names number env args yes = []
  names number env args no = []
  names number env args (equal t u) = []
  names number env args (less t u) = []
  names number env args (has r t u) = []
  names number env args (flag h t) = []
  names number env args (present h t) = []
  names number env args (negation a) = []
  names number env args (both a b) = names number env args a ++ names (number + quantifiers a) env args b
  names number env args (either a b) = names number env args a ++ names (number + quantifiers a) env args b
  names number env args (exists sort a) = skolem number sort args ∷ names (number + 1) (env ++ skolem number sort args ∷ []) args a
  names number env args (forall sort a) = flat_map (λ t. names (number + 1) (env ++ t ∷ []) (and_last args t) a) (ranged sort)

  to_ranged : (sort : ℕ) (t : GroundTerm) → Contains terms t → sort_of g t ≡ Some sort → Contains (ranged sort) t
  to_ranged sort t c kind = to_filter (λ t. is_number (sort_of g t) sort) terms t c (is_the_number (sort_of g t) sort kind)

  in_ranged : (sort : ℕ) (t : GroundTerm) → Contains (ranged sort) t → Contains terms t × (sort_of g t ≡ Some sort)
  in_ranged sort t c =
      let (there, test) = in_filter (λ t. is_number (sort_of g t) sort) terms t c in (there, number_is (sort_of g t) sort test)

  module _ (v : Vocabulary) where
    abbrev AllCovered : List Instance → Type 0
    AllCovered is = (i : Instance) → Contains is i → CoversAtom g v i.env i.atom

    abbrev AllNamed : List GroundTerm → Type 0
    AllNamed ts = (t : GroundTerm) → Contains ts t → Contains v.named t

    -- a formula is covered where its instances are and its names are there
    pub covers_from : (a : Formula) (number : ℕ) (env : List GroundTerm) (args : GroundTerms) → AllCovered (instances number env args a)
        → AllNamed (names number env args a) → Covers g v terms number env args a
    covers_from yes number env args h n = tt
    covers_from no number env args h n = tt
    covers_from (equal t u) number env args h n = h (record { env = env; atom = equal t u }) (Contains-head (record { env = env; atom = equal t u }) [])
    covers_from (less t u) number env args h n = h (record { env = env; atom = less t u }) (Contains-head (record { env = env; atom = less t u }) [])
    covers_from (has r t u) number env args h n = h (record { env = env; atom = has r t u }) (Contains-head (record { env = env; atom = has r t u }) [])
    covers_from (flag k t) number env args h n = h (record { env = env; atom = flag k t }) (Contains-head (record { env = env; atom = flag k t }) [])
    covers_from (present k t) number env args h n = h (record { env = env; atom = present k t }) (Contains-head (record { env = env; atom = present k t }) [])
    covers_from (negation a) number env args h n = h (record { env = env; atom = a }) (Contains-head (record { env = env; atom = a }) [])
    covers_from (both a b) number env args h n = (
      covers_from a number env args (λ i c. h i (Contains-append_left (instances number env args a) (instances (number + quantifiers a) env args b) i c))
          (λ t c. n t (Contains-append_left (names number env args a) (names (number + quantifiers a) env args b) t c)),
      covers_from b (number + quantifiers a) env args (λ i c. h i (Contains-append_right (instances number env args a) (instances (number + quantifiers a) env args b) i c))
          (λ t c. n t (Contains-append_right (names number env args a) (names (number + quantifiers a) env args b) t c)),
    )
    covers_from (either a b) number env args h n = (
      covers_from a number env args (λ i c. h i (Contains-append_left (instances number env args a) (instances (number + quantifiers a) env args b) i c))
          (λ t c. n t (Contains-append_left (names number env args a) (names (number + quantifiers a) env args b) t c)),
      covers_from b (number + quantifiers a) env args (λ i c. h i (Contains-append_right (instances number env args a) (instances (number + quantifiers a) env args b) i c))
          (λ t c. n t (Contains-append_right (names number env args a) (names (number + quantifiers a) env args b) t c)),
    )
    covers_from (exists sort a) number env args h n =
        let rest : List GroundTerm = names (number + 1) (env ++ skolem number sort args ∷ []) args a in (
          n (skolem number sort args) (Contains-head (skolem number sort args) rest),
          covers_from a (number + 1) (env ++ skolem number sort args ∷ []) args h (λ t c. n t (Contains-tail (skolem number sort args) rest t c)),
        )
    covers_from (forall sort a) number env args h n = λ t c kind.
        covers_from a (number + 1) (env ++ t ∷ []) (and_last args t)
        (λ i d. h i (flat_map-Contains (λ t. instances (number + 1) (env ++ t ∷ []) (and_last args t) a) (ranged sort) t i (to_ranged sort t c kind) d))
        (λ u d. n u (flat_map-Contains (λ t. names (number + 1) (env ++ t ∷ []) (and_last args t) a) (ranged sort) t u (to_ranged sort t c kind) d))

    -- an instance is over the signature, at terms that name elements
    pub record IsGood (i : Instance) : Type 0 where
      pub scope : List ℕ
      pub over : IsOver g scope i.atom
      pub above : AreTerms g v.named scope i.env

    abbrev AllGood : List Instance → Type 0
    AllGood is = (i : Instance) → Contains is i → IsGood i

    abbrev AllFormed : List GroundTerm → Type 0
    AllFormed ts = (t : GroundTerm) → Contains ts t → (IsFormed g f v t) × ((sort : ℕ) × (sort_of g t ≡ Some sort))

    -- a part of the formula, below some quantifiers
    pub record IsHere (number : ℕ) (scope : List ℕ) (labels : List (Option GroundTerm)) (above : List ℕ) (a : Formula) (env : List GroundTerm) (args : GroundTerms) : Type 0 where
      pub over : IsOver g scope a
      pub inside : (p : Part) → Contains (parts number labels above a) p → Contains (parts_of f) p
      pub env_terms : AreTerms g v.named scope env
      pub sorts : HaveSorts g args above
      pub listed : HasEach (Contains terms) args

    module _ (among : (t : GroundTerm) → Contains terms t → Contains v.named t) where
      one_good : (a : Formula) (scope : List ℕ) (env : List GroundTerm) → IsOver g scope a → AreTerms g v.named scope env → AllGood (record { env = env; atom = a } ∷ [])
      one_good a scope env over above i c =
          elim (Contains-cons_cases (record { env = env; atom = a }) [] i c) [
            | inl e ↦ let P : Instance → Type 0 = λ i. IsGood i in subst P e (record { scope = scope; over = over; above = above })
            | inr none ↦ Contains-none i none
          ]

      each_among : (ts : GroundTerms) → HasEach (Contains terms) ts → HasEach (Contains v.named) ts
      each_among no_terms h = tt
      each_among (term_and t ts) h = (among t h.0, each_among ts h.1)

      abbrev IsWalked : ℕ → List GroundTerm → GroundTerms → Formula → Type 0
      IsWalked number env args a = AllGood (instances number env args a) × AllFormed (names number env args a)

      none_formed : AllFormed []
      none_formed t c = Contains-none t c

      two_walked : (number : ℕ) (env : List GroundTerm) (args : GroundTerms) (a b : Formula) → IsWalked number env args a → IsWalked (number + quantifiers a) env args b
          → AllGood (instances number env args a ++ instances (number + quantifiers a) env args b)
          × AllFormed (names number env args a ++ names (number + quantifiers a) env args b)
      two_walked number env args a b p q = (
        λ i c. elim (Contains-append_cases (instances number env args a) (instances (number + quantifiers a) env args b) i c) [ inl c ↦ p.0 i c | inr c ↦ q.0 i c ],
        λ t c. elim (Contains-append_cases (names number env args a) (names (number + quantifiers a) env args b) t c) [ inl c ↦ p.1 t c | inr c ↦ q.1 t c ],
      )

      here_left : (number : ℕ) (scope : List ℕ) (labels : List (Option GroundTerm)) (above : List ℕ) (a b : Formula) (env : List GroundTerm) (args : GroundTerms)
          → IsHere number scope labels above (both a b) env args → IsHere number scope labels above a env args
      here_left number scope labels above a b env args h = record {
        over = h.over.0;
        inside = λ p c. h.inside p (Contains-append_left (parts number labels above a) (parts (number + quantifiers a) labels above b) p c);
        env_terms = h.env_terms;
        sorts = h.sorts;
        listed = h.listed;
      }

      here_right : (number : ℕ) (scope : List ℕ) (labels : List (Option GroundTerm)) (above : List ℕ) (a b : Formula) (env : List GroundTerm) (args : GroundTerms)
          → IsHere number scope labels above (both a b) env args → IsHere (number + quantifiers a) scope labels above b env args
      here_right number scope labels above a b env args h = record {
        over = h.over.1;
        inside = λ p c. h.inside p (Contains-append_right (parts number labels above a) (parts (number + quantifiers a) labels above b) p c);
        env_terms = h.env_terms;
        sorts = h.sorts;
        listed = h.listed;
      }

      here_both : (number : ℕ) (scope : List ℕ) (labels : List (Option GroundTerm)) (above : List ℕ) (a b : Formula) (env : List GroundTerm) (args : GroundTerms)
          → IsHere number scope labels above (either a b) env args → IsHere number scope labels above (both a b) env args
      here_both number scope labels above a b env args h =
          record { over = h.over; inside = h.inside; env_terms = h.env_terms; sorts = h.sorts; listed = h.listed }

      pub walk : (a : Formula) (number : ℕ) (scope : List ℕ) (labels : List (Option GroundTerm)) (above : List ℕ) (env : List GroundTerm) (args : GroundTerms)
          → IsHere number scope labels above a env args → AllNamed (names number env args a) → IsWalked number env args a
      walk yes number scope labels above env args h n = (λ i c. Contains-none i c, none_formed)
      walk no number scope labels above env args h n = (λ i c. Contains-none i c, none_formed)
      walk (equal t u) number scope labels above env args h n = (one_good (equal t u) scope env h.over h.env_terms, none_formed)
      walk (less t u) number scope labels above env args h n = (one_good (less t u) scope env h.over h.env_terms, none_formed)
      walk (has r t u) number scope labels above env args h n = (one_good (has r t u) scope env h.over h.env_terms, none_formed)
      walk (flag k t) number scope labels above env args h n = (one_good (flag k t) scope env h.over h.env_terms, none_formed)
      walk (present k t) number scope labels above env args h n = (one_good (present k t) scope env h.over h.env_terms, none_formed)
      walk (negation a) number scope labels above env args h n = (one_good a scope env h.over h.env_terms, none_formed)
      walk (both a b) number scope labels above env args h n =
          two_walked number env args a b
          (walk a number scope labels above env args (here_left number scope labels above a b env args h)
          (λ t c. n t (Contains-append_left (names number env args a) (names (number + quantifiers a) env args b) t c)))
          (walk b (number + quantifiers a) scope labels above env args (here_right number scope labels above a b env args h)
          (λ t c. n t (Contains-append_right (names number env args a) (names (number + quantifiers a) env args b) t c)))
      walk (either a b) number scope labels above env args h n =
          two_walked number env args a b
          (walk a number scope labels above env args (here_left number scope labels above a b env args (here_both number scope labels above a b env args h))
          (λ t c. n t (Contains-append_left (names number env args a) (names (number + quantifiers a) env args b) t c)))
          (walk b (number + quantifiers a) scope labels above env args (here_right number scope labels above a b env args (here_both number scope labels above a b env args h))
          (λ t c. n t (Contains-append_right (names number env args a) (names (number + quantifiers a) env args b) t c)))
      walk (exists sort a) number scope labels above env args h n =
          let own : GroundTerm = skolem number sort args in
          let rest : List GroundTerm = names (number + 1) (env ++ skolem number sort args ∷ []) args a in
          let variable : Variable = record { number = number; sort = sort; above = above } in
          let others : List Part = parts (number + 1) (labels ++ name_of number sort above ∷ []) above a in
          let there : Contains (variables_of g f) variable =
          flat_map-Contains variables_in (parts_of f) (existential variable) variable (h.inside (existential variable) (Contains-head (existential variable) others)) (Contains-head variable []) in
          let later = walk a (number + 1) (scope ++ sort ∷ []) (labels ++ name_of number sort above ∷ []) above (env ++ skolem number sort args ∷ []) args
          (record {
            over = h.over.1;
            inside = λ p c. h.inside p (Contains-tail (existential variable) others p c);
            env_terms = terms_more g v.named scope env sort (skolem number sort args) h.env_terms (n (skolem number sort args) (Contains-head (skolem number sort args) rest)) refl;
            sorts = h.sorts;
            listed = h.listed;
          })
          (λ t c. n t (Contains-tail (skolem number sort args) rest t c)) in
          let formed : IsFormed g f v (skolem number sort args) = (above, there, h.sorts, each_among args h.listed) in
          let P : GroundTerm → Type 0 = λ t. (IsFormed g f v t) × ((sort : ℕ) × (sort_of g t ≡ Some sort)) in (
            later.0,
            λ t c. elim (Contains-cons_cases (skolem number sort args) rest t c) [
              | inl e ↦ subst P e (formed, (sort, refl))
              | inr c ↦ later.1 t c
            ],
          )
      walk (forall sort a) number scope labels above env args h n =
          let others : List Part = parts (number + 1) (labels ++ None ∷ []) (above ++ sort ∷ []) a in
          let each : (t : GroundTerm) → Contains (ranged sort) t → IsWalked (number + 1) (env ++ t ∷ []) (and_last args t) a = λ t d.
          let (c, kind) = in_ranged sort t d in
          walk a (number + 1) (scope ++ sort ∷ []) (labels ++ None ∷ []) (above ++ sort ∷ []) (env ++ t ∷ []) (and_last args t)
          (record {
            over = h.over.1;
            inside = λ p c. h.inside p (Contains-tail (universal sort) others p c);
            env_terms = terms_more g v.named scope env sort t h.env_terms (among t c) kind;
            sorts = and_last-sorts g args above t sort h.sorts kind;
            listed = and_last-each (Contains terms) args t h.listed c;
          })
          (λ u e. n u (flat_map-Contains (λ t. names (number + 1) (env ++ t ∷ []) (and_last args t) a) (ranged sort) t u d e)) in (
            λ i c.
                let (t, d, here) = Contains-flat_map (λ t. instances (number + 1) (env ++ t ∷ []) (and_last args t) a) (ranged sort) i c in
                (each t d).0 i here,
            λ u c.
                let (t, d, here) = Contains-flat_map (λ t. names (number + 1) (env ++ t ∷ []) (and_last args t) a) (ranged sort) u c in
                (each t d).1 u here,
          )

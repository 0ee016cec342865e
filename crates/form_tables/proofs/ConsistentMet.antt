-- A consistent table meets the clauses.
use Rattle.std.proofs.Common.{◌≡◌, ℕ, Bool, true, false, not, ◌&&◌, ◌||◌, inl, inr, refl, sym, ◌∙◌, List, [], ◌∷◌, ◌++◌, Some, None, Option, ap, subst, slice_get, Contains, map}
use Rattle.std.specs.Prelude.{◌==◌, option_and_then}
use Rattle.std.specs.List.{flat_map}
use Rattle.std.specs.Option.{option_map}
use Rattle.std.proofs.lemmas.Bool.{and_parts, eqb-true}
use Rattle.std.proofs.lemmas.List.Elements.{Contains-append_cases, Contains-append_right}
use Rattle.std.proofs.lemmas.Option.{slice_get-get_or}
use Rattle.form_formula.specs.declared.structure.Range.{Range}
use Rattle.form_formula.specs.declared.structure.Range.TheVariants as kinds
use Rattle.form_formula.specs.declared.structure.FunSig.{FunSig}
use Rattle.form_formula.specs.declared.structure.Signature.{Signature}
use Rattle.form_formula.specs.Over.{IsFunction}
use Rattle.form_formula.specs.Trees.{Formula}
use Rattle.form_formula.specs.Truth.{is_raised}
use Rattle.form_terms.specs.GroundTerms.{GroundTerm, GroundTerms, constant, skolem, field, no_terms, term_and, list_of, sort_of, record_sort}
use Rattle.form_terms.specs.Universe.{HaveSorts, HasEach}
use Rattle.form_tables.specs.Vocabulary.{Vocabulary, Pair, IsVocabulary, IsValuedIn, told}
use Rattle.form_tables.specs.Table.{Table, is_there}
use Rattle.form_tables.specs.Consistent.{IsConsistent, range_of}
use Rattle.form_tables.specs.Facts.{Assignment, Clause, term, there, same, raised, related, empty, so, not_so, implied, table_for, is_met}
use Rattle.form_tables.specs.Clauses.{IsTyped, one_and_same, all_same, total_clauses, term_clauses, sort_clauses, sort_clauses_of, target_clauses, function_clauses, pair_clauses, alike_clauses, element_clauses, value_clauses, value_clauses_of, relation_clauses, for_pairs, base_clauses, congruence_clauses}
use Rattle.form_terms.specs.Parts.{Variable}
use Rattle.form_terms.specs.Universe.{variables_of}
use Rattle.form_terms.proofs.Numbers.{variables_once}
use Rattle.form_tables.proofs.Positions.{marked_once}
use Rattle.form_tables.proofs.ClausesMet.{AreMet, AreFacts, met_append, met_flat, met_if, met_unless, implied_met, append_facts}
use Rattle.form_tables.proofs.Assigned.{same_equal, there_is, value_there, there_value, to_same, to_all_same, element_typed}

false_not : (b : Bool) → b ≡ false → not b ≡ true
false_not true e = cc
false_not false e = refl

module _ (g : Signature) (f : Formula) (terms : List GroundTerm) (v : Vocabulary) (a : Assignment)
    (words : IsVocabulary g f terms v) (typed : IsTyped g v a) where
  abbrev T : Table
  T = table_for a

  other_told : (t : GroundTerm) → Contains v.others t → Contains (told v) t
  other_told t c = Contains-append_right v.named v.others t c

  met_pair : {A : Type 0} (clauses : A → A → List Clause) (xs : List A) → ((x y : A) → Contains xs x → Contains xs y → AreMet a (clauses x y))
      → AreMet a (for_pairs g clauses xs)
  met_pair clauses xs h = met_flat a (λ x. flat_map (clauses x) xs) xs (λ x c. met_flat a (clauses x) xs (λ y d. h x y c d))

  same_there : (t u : GroundTerm) → T.value t ≡ T.value u → (a.there t ≡ true) → (a.there u ≡ true) × (a.value t ≡ a.value u)
  same_there t u e alive =
      let (there', value) = there_value a u (a.value t) (sym e ∙ value_there a t alive) in (there', sym value)

  -- and where the table is consistent
  module _ (fits : IsConsistent g v T) where
    alive_from : (t : GroundTerm) → a.there t ≡ true → is_there T t ≡ true
    alive_from t e = there_is a t ∙ e

    alive_to : (t : GroundTerm) → is_there T t ≡ true → a.there t ≡ true
    alive_to t e = sym (there_is a t) ∙ e

    arguments_met : (own : GroundTerm) (ts : GroundTerms) → (a.there own ≡ true → HasEach (λ t. is_there T t ≡ true) ts)
        → AreMet a (map (λ t. implied (there own ∷ []) (so (there t))) (list_of ts))
    arguments_met own no_terms h = tt
    arguments_met own (term_and t ts) h =
        (implied_met a (there own ∷ []) (so (there t)) (λ p. alive_to t (h p.0).0), arguments_met own ts (λ e. (h e).1))

    constant_met : (sort : ℕ) → is_there T (constant sort) ≡ not (a.is_empty sort) → AreMet a (term_clauses g (constant sort))
    constant_met sort e = (choose (a.there (constant sort)) (a.is_empty sort) (sym (there_is a (constant sort)) ∙ e), tt)
      where
        choose : (p q : Bool) → p ≡ not q → (p || (q || false)) ≡ true
        choose true q e = refl
        choose false true e = refl
        choose false false e = e

    total_met : (h : ℕ) (t : GroundTerm) → Contains (told v) (field h t) → (o : Option FunSig) → slice_get g.funs h ≡ o → AreMet a (total_clauses g o h t)
    total_met h t c None e = tt
    total_met h t c (Some sig) e =
        met_unless a sig.partial (implied (there t ∷ []) (so (there (field h t))) ∷ [])
        (λ partial. (implied_met a (there t ∷ []) (so (there (field h t))) (λ p. alive_to (field h t) (fits.functions.total h sig t c e partial (alive_from t p.0))), tt))

    term_met : (t : GroundTerm) → Contains (told v) t → AreMet a (term_clauses g t)
    term_met (constant sort) c =
        elim (Contains-append_cases v.named v.others (constant sort) c) [
          | inl here ↦ constant_met sort (fits.sorts.constants sort here)
          | inr here ↦ absurd (words.functions (constant sort) here)
        ]
    term_met (skolem number sort ts) c =
        elim (Contains-append_cases v.named v.others (skolem number sort ts) c) [
          | inl here ↦ arguments_met (skolem number sort ts) ts (λ e. fits.variables.within number sort ts here (alive_from (skolem number sort ts) e))
          | inr here ↦ absurd (words.functions (skolem number sort ts) here)
        ]
    term_met (field h t) c =
        (implied_met a (there (field h t) ∷ []) (so (there t)) (λ p. alive_to t (fits.functions.within h t c (alive_from (field h t) p.0))), total_met h t c (slice_get g.funs h) refl)

    sort_met : (t : GroundTerm) → Contains (told v) t → AreMet a (sort_clauses g t)
    sort_met t c = choose (sort_of g t) refl
      where
        choose : (o : Option ℕ) → sort_of g t ≡ o → AreMet a (sort_clauses_of g o t)
        choose None e = tt
        choose (Some sort) e =
            (implied_met a (there t ∷ []) (not_so (empty sort)) (λ p. false_not (a.is_empty sort) (fits.sorts.inhabited t sort c e (alive_from t p.0))), tt)

    function_met : (sig : FunSig) → Contains g.funs sig → AreMet a (function_clauses g sig)
    function_met sig (k, inside, e) = met_unless a sig.partial (target_clauses g sig.from sig.to) (λ partial. choose partial sig.to refl)
      where
        function : IsFunction g k sig
        function = slice_get-get_or g.funs k sig inside ∙ ap (λ sig. Some sig) e

        choose : sig.partial ≡ false → (to : Range) → sig.to ≡ to → AreMet a (target_clauses g sig.from to)
        choose partial (kinds.Rec sort) to = (implied_met a (empty sort ∷ []) (so (empty sig.from)) (λ p. back partial sort to (a.is_empty sig.from) refl p.0), tt)
          where
            back : sig.partial ≡ false → (sort : ℕ) → sig.to ≡ kinds.Rec sort → (b : Bool) → a.is_empty sig.from ≡ b → a.is_empty sort ≡ true → b ≡ true
            back partial sort to true p q = refl
            back partial sort to false p q = sym (fits.sorts.followed k sig sort function partial to p) ∙ q
        choose partial kinds.Flag to = tt
        choose partial kinds.Num to = tt
        choose partial kinds.Str to = tt

    relation_met : (p : Pair) → Contains v.pairs p → AreMet a (pair_clauses g p)
    relation_met p c = (
      implied_met a (related p ∷ []) (so (there p.holder)) (λ e. alive_to p.holder (fits.relations.within p c e.0).0),
      (implied_met a (related p ∷ []) (so (there p.member)) (λ e. alive_to p.member (fits.relations.within p c e.0).1), tt),
    )

    alike_met : (t u : GroundTerm) → Contains (told v) t → Contains (told v) u → AreMet a (alike_clauses g t u)
    alike_met (constant sort) u c d = tt
    alike_met (skolem number sort ts) u c d = tt
    alike_met (field h t) (constant sort) c d = tt
    alike_met (field h t) (skolem number sort ts) c d = tt
    alike_met (field h t) (field k u) c d =
        met_if a (h == k) (implied (there (field h t) ∷ one_and_same t u) (so (there (field k u))) ∷ []) (λ e.
        let P : ℕ → Type 0 = λ k. Contains (told v) (field k u) → AreMet a (implied (there (field h t) ∷ one_and_same t u) (so (there (field k u))) ∷ []) in
        subst P (eqb-true h k e) one d)
      where
        one : Contains (told v) (field h u) → AreMet a (implied (there (field h t) ∷ one_and_same t u) (so (there (field h u))) ∷ [])
        one d =
            let met = implied_met a (there (field h t) ∷ one_and_same t u) (so (there (field h u)))
            (λ p. alive_to (field h u) (sym (fits.functions.alike h t u c d (to_same a t u p.1)) ∙ alive_from (field h t) p.0)) in
            (met, tt)

    fields_met : (h : ℕ) (t u : GroundTerm) → Contains v.named (field h t) → Contains v.named (field h u)
        → AreMet a (implied (there (field h t) ∷ one_and_same t u) (so (same (term (field h t)) (term (field h u)))) ∷ [])
    fields_met h t u c d =
        let (sort, kind) = words.sorted (field h t) c in
        let P : Option ℕ → Type 0 = λ o. IsValuedIn g v o (field h t) in
        let Q : Option ℕ → Type 0 = λ o. IsValuedIn g v o (field h u) in
        let met = implied_met a (there (field h t) ∷ one_and_same t u) (so (same (term (field h t)) (term (field h u))))
        (λ p. same_equal (kinds.Rec sort) (a.value (field h t)) (a.value (field h u)) tt (element_typed a g f terms v words typed (field h t) sort c kind)
        (same_there (field h t) (field h u) (fits.functions.same h t u (subst P (sym kind) c) (subst Q (sym kind) d) (to_same a t u p.1)) p.0).1) in
        (met, tt)

    variables_met : (number sort : ℕ) (ts us : GroundTerms) → Contains v.named (skolem number sort ts) → Contains v.named (skolem number sort us)
        → AreMet a (implied (there (skolem number sort ts) ∷ all_same ts us) (so (there (skolem number sort us)))
        ∷ implied (there (skolem number sort ts) ∷ all_same ts us) (so (same (term (skolem number sort ts)) (term (skolem number sort us))))
        ∷ [])
    variables_met number sort ts us c d = (
      implied_met a (there (skolem number sort ts) ∷ all_same ts us) (so (there (skolem number sort us))) (λ p. (both p).0),
      (
        implied_met a (there (skolem number sort ts) ∷ all_same ts us) (so (same (term (skolem number sort ts)) (term (skolem number sort us))))
            (λ p. same_equal (kinds.Rec sort) (a.value (skolem number sort ts)) (a.value (skolem number sort us)) tt
            (element_typed a g f terms v words typed (skolem number sort ts) sort c refl) (both p).1),
        tt,
      ),
    )
      where
        both : AreFacts a (there (skolem number sort ts) ∷ all_same ts us)
            → (a.there (skolem number sort us) ≡ true) × (a.value (skolem number sort ts) ≡ a.value (skolem number sort us))
        both (alive, same') =
            let (above, variable, sorts, each) = words.formed (skolem number sort ts) c in
            let (above', variable', sorts', each') = words.formed (skolem number sort us) d in
            let first : Variable = record { number = number; sort = sort; above = above' } in
            let second : Variable = record { number = number; sort = sort; above = above } in
            let one : first ≡ second = marked_once (λ v. v.number) (variables_of g f) first second (variables_once g f) variable' variable refl in
            let P : List ℕ → Type 0 = λ sorts. HaveSorts g us sorts in
            let value = fits.variables.same number sort ts us c d
            (to_all_same a g f terms v words typed ts us above sorts (subst P (ap (λ v. v.above) one) sorts') same') in
            same_there (skolem number sort ts) (skolem number sort us) value alive

    element_met : (t u : GroundTerm) → Contains v.named t → Contains v.named u → AreMet a (element_clauses g t u)
    element_met (constant sort) u c d = tt
    element_met (skolem number sort ts) (constant sort') c d = tt
    element_met (skolem number sort ts) (skolem number' sort' us) c d =
        met_if a ((number == number') && (sort == sort'))
        (implied (there (skolem number sort ts) ∷ all_same ts us) (so (there (skolem number' sort' us)))
        ∷ implied (there (skolem number sort ts) ∷ all_same ts us) (so (same (term (skolem number sort ts)) (term (skolem number' sort' us))))
        ∷ []) (λ e.
        let (p, q) = and_parts (number == number') (sort == sort') e in
        let P : ℕ → Type 0 = λ n. Contains v.named (skolem n sort' us) → AreMet a (implied (there (skolem number sort ts) ∷ all_same ts us) (so (there (skolem n sort' us)))
        ∷ implied (there (skolem number sort ts) ∷ all_same ts us) (so (same (term (skolem number sort ts)) (term (skolem n sort' us))))
        ∷ []) in
        let Q : ℕ → Type 0 = λ s. Contains v.named (skolem number s us) → AreMet a (implied (there (skolem number sort ts) ∷ all_same ts us) (so (there (skolem number s us)))
        ∷ implied (there (skolem number sort ts) ∷ all_same ts us) (so (same (term (skolem number sort ts)) (term (skolem number s us))))
        ∷ []) in
        subst P (eqb-true number number' p) (subst Q (eqb-true sort sort' q) (variables_met number sort ts us c)) d)
    element_met (skolem number sort ts) (field h t) c d = tt
    element_met (field h t) (constant sort) c d = tt
    element_met (field h t) (skolem number sort ts) c d = tt
    element_met (field h t) (field k u) c d =
        met_if a (h == k) (implied (there (field h t) ∷ one_and_same t u) (so (same (term (field h t)) (term (field k u)))) ∷ []) (λ e.
        let P : ℕ → Type 0 = λ k. Contains v.named (field k u) → AreMet a (implied (there (field h t) ∷ one_and_same t u) (so (same (term (field h t)) (term (field k u)))) ∷ []) in
        subst P (eqb-true h k e) (fields_met h t u c) d)

    abbrev IsNoRecord : Range → Type 0
    IsNoRecord (kinds.Rec sort) = ⊥
    IsNoRecord kinds.Flag = Unit {0}
    IsNoRecord kinds.Num = Unit {0}
    IsNoRecord kinds.Str = Unit {0}

    no_sort : (h : ℕ) (t : GroundTerm) (to : Range) → range_of g (field h t) ≡ Some to → IsNoRecord to → sort_of g (field h t) ≡ None
    no_sort h t to e no-record = own (slice_get g.funs h) e
      where
        none : (to : Range) → IsNoRecord to → record_sort to ≡ None
        none (kinds.Rec sort) h = absurd h
        none kinds.Flag h = refl
        none kinds.Num h = refl
        none kinds.Str h = refl

        own : (o : Option FunSig) → option_map (λ sig. sig.to) o ≡ Some to → option_and_then (λ sig. record_sort sig.to) o ≡ None
        own None e = cc
        own (Some sig) e = let same' : sig.to ≡ to = cc in ap record_sort same' ∙ none to no-record

    value_equal : (h : ℕ) (t u : GroundTerm) → Contains v.others (field h t) → Contains v.others (field h u) → (to : Range) → range_of g (field h t) ≡ Some to → IsNoRecord to
        → a.there (field h t) ≡ true → AreFacts a (one_and_same t u) → a.value (field h t) ≡ a.value (field h u)
    value_equal h t u c d to e no-record alive ps =
        let kind = no_sort h t to e no-record in
        let P : Option ℕ → Type 0 = λ o. IsValuedIn g v o (field h t) in
        let Q : Option ℕ → Type 0 = λ o. IsValuedIn g v o (field h u) in
        let value = fits.functions.same h t u (subst P (sym kind) (other_told (field h t) c)) (subst Q (sym kind) (other_told (field h u) d)) (to_same a t u ps) in
        (same_there (field h t) (field h u) value alive).1

    values_met : (h : ℕ) (t u : GroundTerm) → Contains v.others (field h t) → Contains v.others (field h u) → (o : Option Range) → range_of g (field h t) ≡ o
        → AreMet a (value_clauses_of g o (field h t) (field h u) (one_and_same t u))
    values_met h t u c d None e = tt
    values_met h t u c d (Some (kinds.Rec sort)) e = tt
    values_met h t u c d (Some kinds.Flag) e =
        let met = implied_met a (raised (field h t) ∷ there (field h t) ∷ one_and_same t u) (so (raised (field h u)))
        (λ p. sym (ap is_raised (value_equal h t u c d kinds.Flag e tt p.1.0 p.1.1)) ∙ p.0) in
        (met, tt)
    values_met h t u c d (Some kinds.Num) e =
        let met = implied_met a (there (field h t) ∷ one_and_same t u) (so (same (term (field h t)) (term (field h u))))
        (λ p. same_equal kinds.Num (a.value (field h t)) (a.value (field h u)) tt (typed (field h t) kinds.Num (other_told (field h t) c) e) (value_equal h t u c d kinds.Num e tt p.0 p.1)) in
        (met, tt)
    values_met h t u c d (Some kinds.Str) e =
        let met = implied_met a (there (field h t) ∷ one_and_same t u) (so (same (term (field h t)) (term (field h u))))
        (λ p. same_equal kinds.Str (a.value (field h t)) (a.value (field h u)) tt (typed (field h t) kinds.Str (other_told (field h t) c) e) (value_equal h t u c d kinds.Str e tt p.0 p.1)) in
        (met, tt)

    value_met : (t u : GroundTerm) → Contains v.others t → Contains v.others u → AreMet a (value_clauses g t u)
    value_met (constant sort) u c d = tt
    value_met (skolem number sort ts) u c d = tt
    value_met (field h t) (constant sort) c d = tt
    value_met (field h t) (skolem number sort ts) c d = tt
    value_met (field h t) (field k u) c d =
        met_if a (h == k) (value_clauses_of g (range_of g (field h t)) (field h t) (field k u) (one_and_same t u)) (λ e.
        let P : ℕ → Type 0 = λ k. Contains v.others (field k u) → AreMet a (value_clauses_of g (range_of g (field h t)) (field h t) (field k u) (one_and_same t u)) in
        subst P (eqb-true h k e) (λ d. values_met h t u c d (range_of g (field h t)) refl) d)

    relations_met : (p q : Pair) → Contains v.pairs p → Contains v.pairs q → AreMet a (relation_clauses g p q)
    relations_met p q c d =
        met_if a (p.relation == q.relation) (implied (related p ∷ (one_and_same p.holder q.holder ++ one_and_same p.member q.member)) (so (related q)) ∷ []) (λ e.
        (one (eqb-true p.relation q.relation e), tt))
      where
        one : p.relation ≡ q.relation → is_met a (implied (related p ∷ (one_and_same p.holder q.holder ++ one_and_same p.member q.member)) (so (related q))) ≡ true
        one relation =
            implied_met a (related p ∷ (one_and_same p.holder q.holder ++ one_and_same p.member q.member)) (so (related q)) (λ h.
            let (first, second) = append_facts a (one_and_same p.holder q.holder) (one_and_same p.member q.member) h.1 in
            sym (fits.relations.same p q c d relation (to_same a p.holder q.holder first) (to_same a p.member q.member second)) ∙ h.0)

    pub base_met : AreMet a (base_clauses g v)
    base_met =
        met_append a (flat_map (term_clauses g) (told v)) _ (met_flat a (term_clauses g) (told v) term_met)
        (met_append a (flat_map (sort_clauses g) (told v)) _ (met_flat a (sort_clauses g) (told v) sort_met)
        (met_append a (flat_map (pair_clauses g) v.pairs) _ (met_flat a (pair_clauses g) v.pairs relation_met) (met_flat a (function_clauses g) g.funs function_met)))

    pub congruence_met : AreMet a (congruence_clauses g v)
    congruence_met =
        met_append a (for_pairs g (alike_clauses g) (told v)) _ (met_pair (alike_clauses g) (told v) alike_met)
        (met_append a (for_pairs g (element_clauses g) v.named) _ (met_pair (element_clauses g) v.named element_met)
        (met_append a (for_pairs g (value_clauses g) v.others) _ (met_pair (value_clauses g) v.others value_met) (met_pair (relation_clauses g) v.pairs relations_met)))

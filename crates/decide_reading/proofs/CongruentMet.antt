-- A congruent table meets the clauses of congruence.
use Rattle.std.proofs.Common.{◌≡◌, ℕ, true, ◌&&◌, sym, ◌∙◌, List, [], ◌∷◌, ◌++◌, Some, None, Option, ap, subst, refl, Contains}
use Rattle.std.specs.Prelude.{◌==◌}
use Rattle.std.specs.List.{flat_map}
use Rattle.std.proofs.lemmas.Bool.{and_parts, eqb-true}
use Rattle.std.proofs.lemmas.List.Elements.{Contains-append_left, Contains-append_right}
use Rattle.form_formula.specs.declared.structure.Range.{Range}
use Rattle.form_formula.specs.declared.structure.Range.TheVariants as kinds
use Rattle.form_formula.specs.declared.structure.Signature.{Signature}
use Rattle.form_formula.specs.Trees.{Formula}
use Rattle.form_formula.specs.Truth.{is_raised}
use Rattle.form_terms.specs.GroundTerms.{GroundTerm, GroundTerms, constant, skolem, field}
use Rattle.form_terms.specs.Universe.{HaveSorts, variables_of}
use Rattle.form_terms.specs.Parts.{Variable}
use Rattle.form_terms.proofs.Numbers.{variables_once}
use Rattle.form_tables.specs.Vocabulary.{Vocabulary, Pair, IsVocabulary, told}
use Rattle.form_tables.specs.Table.{Table}
use Rattle.form_tables.specs.Consistent.{range_of}
use Rattle.form_tables.specs.Facts.{Assignment, Clause, term, there, same, raised, related, so, implied, table_for, is_met}
use Rattle.form_tables.specs.Clauses.{IsTyped, one_and_same, all_same, alike_clauses, element_clauses, value_clauses, value_clauses_of, relation_clauses, for_pairs, congruence_clauses}
use Rattle.form_tables.proofs.Positions.{marked_once}
use Rattle.form_tables.proofs.ClausesMet.{AreMet, AreFacts, met_append, met_flat, met_if, implied_met, append_facts}
use Rattle.form_tables.proofs.Assigned.{same_equal, value_there, there_value, to_same, to_all_same, element_typed}
use Rattle.decide_reading.specs.Congruent.{IsCongruent}

module _ (g : Signature) (f : Formula) (terms : List GroundTerm) (v : Vocabulary) (a : Assignment)
    (words : IsVocabulary g f terms v) (typed : IsTyped g v a) (fits : IsCongruent v (table_for a)) where
  abbrev T : Table
  T = table_for a

  named_told : (t : GroundTerm) → Contains v.named t → Contains (told v) t
  named_told t c = Contains-append_left v.named v.others t c

  other_told : (t : GroundTerm) → Contains v.others t → Contains (told v) t
  other_told t c = Contains-append_right v.named v.others t c

  met_pair : {A : Type 0} (clauses : A → A → List Clause) (xs : List A) → ((x y : A) → Contains xs x → Contains xs y → AreMet a (clauses x y))
      → AreMet a (for_pairs g clauses xs)
  met_pair clauses xs h = met_flat a (λ x. flat_map (clauses x) xs) xs (λ x c. met_flat a (clauses x) xs (λ y d. h x y c d))

  same_there : (t u : GroundTerm) → T.value t ≡ T.value u → (a.there t ≡ true) → (a.there u ≡ true) × (a.value t ≡ a.value u)
  same_there t u e alive = let (there', value) = there_value a u (a.value t) (sym e ∙ value_there a t alive) in (there', sym value)

  -- a function at two terms that are the same
  both_fields : (h : ℕ) (t u : GroundTerm) → Contains (told v) (field h t) → Contains (told v) (field h u) → AreFacts a (there (field h t) ∷ one_and_same t u)
      → (a.there (field h u) ≡ true) × (a.value (field h t) ≡ a.value (field h u))
  both_fields h t u c d p = same_there (field h t) (field h u) (fits.functions h t u c d (to_same a t u p.1)) p.0

  alike_met : (t u : GroundTerm) → Contains (told v) t → Contains (told v) u → AreMet a (alike_clauses g t u)
  alike_met (constant sort) u c d = tt
  alike_met (skolem number sort ts) u c d = tt
  alike_met (field h t) (constant sort) c d = tt
  alike_met (field h t) (skolem number sort ts) c d = tt
  alike_met (field h t) (field k u) c d =
      met_if a (h == k) (implied (there (field h t) ∷ one_and_same t u) (so (there (field k u))) ∷ []) (λ e.
      let P : ℕ → Type 0 = λ k. Contains (told v) (field k u) → AreMet a (implied (there (field h t) ∷ one_and_same t u) (so (there (field k u))) ∷ []) in
      subst P (eqb-true h k e) one d)
    where
      one : Contains (told v) (field h u) → AreMet a (implied (there (field h t) ∷ one_and_same t u) (so (there (field h u))) ∷ [])
      one d = (implied_met a (there (field h t) ∷ one_and_same t u) (so (there (field h u))) (λ p. (both_fields h t u c d p).0), tt)

  fields_met : (h : ℕ) (t u : GroundTerm) → Contains v.named (field h t) → Contains v.named (field h u)
      → AreMet a (implied (there (field h t) ∷ one_and_same t u) (so (same (term (field h t)) (term (field h u)))) ∷ [])
  fields_met h t u c d =
      let (sort, kind) = words.sorted (field h t) c in
      let met = implied_met a (there (field h t) ∷ one_and_same t u) (so (same (term (field h t)) (term (field h u))))
      (λ p. same_equal (kinds.Rec sort) (a.value (field h t)) (a.value (field h u)) tt (element_typed a g f terms v words typed (field h t) sort c kind)
      (both_fields h t u (named_told (field h t) c) (named_told (field h u) d) p).1) in
      (met, tt)

  variables_met : (number sort : ℕ) (ts us : GroundTerms) → Contains v.named (skolem number sort ts) → Contains v.named (skolem number sort us)
      → AreMet a (implied (there (skolem number sort ts) ∷ all_same ts us) (so (there (skolem number sort us)))
      ∷ implied (there (skolem number sort ts) ∷ all_same ts us) (so (same (term (skolem number sort ts)) (term (skolem number sort us))))
      ∷ [])
  variables_met number sort ts us c d = (
    implied_met a (there (skolem number sort ts) ∷ all_same ts us) (so (there (skolem number sort us))) (λ p. (both p).0),
    (
      implied_met a (there (skolem number sort ts) ∷ all_same ts us) (so (same (term (skolem number sort ts)) (term (skolem number sort us))))
          (λ p. same_equal (kinds.Rec sort) (a.value (skolem number sort ts)) (a.value (skolem number sort us)) tt
          (element_typed a g f terms v words typed (skolem number sort ts) sort c refl) (both p).1),
      tt,
    ),
  )
    where
      both : AreFacts a (there (skolem number sort ts) ∷ all_same ts us)
          → (a.there (skolem number sort us) ≡ true) × (a.value (skolem number sort ts) ≡ a.value (skolem number sort us))
      both (alive, same') =
          let (above, variable, sorts, each) = words.formed (skolem number sort ts) c in
          let (above', variable', sorts', each') = words.formed (skolem number sort us) d in
          let first : Variable = record { number = number; sort = sort; above = above' } in
          let second : Variable = record { number = number; sort = sort; above = above } in
          let one : first ≡ second = marked_once (λ v. v.number) (variables_of g f) first second (variables_once g f) variable' variable refl in
          let P : List ℕ → Type 0 = λ sorts. HaveSorts g us sorts in
          let value = fits.variables number sort ts us c d
          (to_all_same a g f terms v words typed ts us above sorts (subst P (ap (λ v. v.above) one) sorts') same') in
          same_there (skolem number sort ts) (skolem number sort us) value alive

  element_met : (t u : GroundTerm) → Contains v.named t → Contains v.named u → AreMet a (element_clauses g t u)
  element_met (constant sort) u c d = tt
  element_met (skolem number sort ts) (constant sort') c d = tt
  element_met (skolem number sort ts) (skolem number' sort' us) c d =
      met_if a ((number == number') && (sort == sort'))
      (implied (there (skolem number sort ts) ∷ all_same ts us) (so (there (skolem number' sort' us)))
      ∷ implied (there (skolem number sort ts) ∷ all_same ts us) (so (same (term (skolem number sort ts)) (term (skolem number' sort' us))))
      ∷ []) (λ e.
      let (p, q) = and_parts (number == number') (sort == sort') e in
      let P : ℕ → Type 0 = λ n. Contains v.named (skolem n sort' us) → AreMet a (implied (there (skolem number sort ts) ∷ all_same ts us) (so (there (skolem n sort' us)))
      ∷ implied (there (skolem number sort ts) ∷ all_same ts us) (so (same (term (skolem number sort ts)) (term (skolem n sort' us))))
      ∷ []) in
      let Q : ℕ → Type 0 = λ s. Contains v.named (skolem number s us) → AreMet a (implied (there (skolem number sort ts) ∷ all_same ts us) (so (there (skolem number s us)))
      ∷ implied (there (skolem number sort ts) ∷ all_same ts us) (so (same (term (skolem number sort ts)) (term (skolem number s us))))
      ∷ []) in
      subst P (eqb-true number number' p) (subst Q (eqb-true sort sort' q) (variables_met number sort ts us c)) d)
  element_met (skolem number sort ts) (field h t) c d = tt
  element_met (field h t) (constant sort) c d = tt
  element_met (field h t) (skolem number sort ts) c d = tt
  element_met (field h t) (field k u) c d =
      met_if a (h == k) (implied (there (field h t) ∷ one_and_same t u) (so (same (term (field h t)) (term (field k u)))) ∷ []) (λ e.
      let P : ℕ → Type 0 = λ k. Contains v.named (field k u) → AreMet a (implied (there (field h t) ∷ one_and_same t u) (so (same (term (field h t)) (term (field k u)))) ∷ []) in
      subst P (eqb-true h k e) (fields_met h t u c) d)

  values_met : (h : ℕ) (t u : GroundTerm) → Contains v.others (field h t) → Contains v.others (field h u) → (o : Option Range) → range_of g (field h t) ≡ o
      → AreMet a (value_clauses_of g o (field h t) (field h u) (one_and_same t u))
  values_met h t u c d None e = tt
  values_met h t u c d (Some (kinds.Rec sort)) e = tt
  values_met h t u c d (Some kinds.Flag) e =
      let met = implied_met a (raised (field h t) ∷ there (field h t) ∷ one_and_same t u) (so (raised (field h u)))
      (λ p. sym (ap is_raised (both_fields h t u (other_told (field h t) c) (other_told (field h u) d) p.1).1) ∙ p.0) in
      (met, tt)
  values_met h t u c d (Some kinds.Num) e =
      let met = implied_met a (there (field h t) ∷ one_and_same t u) (so (same (term (field h t)) (term (field h u))))
      (λ p. same_equal kinds.Num (a.value (field h t)) (a.value (field h u)) tt (typed (field h t) kinds.Num (other_told (field h t) c) e)
      (both_fields h t u (other_told (field h t) c) (other_told (field h u) d) p).1) in
      (met, tt)
  values_met h t u c d (Some kinds.Str) e =
      let met = implied_met a (there (field h t) ∷ one_and_same t u) (so (same (term (field h t)) (term (field h u))))
      (λ p. same_equal kinds.Str (a.value (field h t)) (a.value (field h u)) tt (typed (field h t) kinds.Str (other_told (field h t) c) e)
      (both_fields h t u (other_told (field h t) c) (other_told (field h u) d) p).1) in
      (met, tt)

  value_met : (t u : GroundTerm) → Contains v.others t → Contains v.others u → AreMet a (value_clauses g t u)
  value_met (constant sort) u c d = tt
  value_met (skolem number sort ts) u c d = tt
  value_met (field h t) (constant sort) c d = tt
  value_met (field h t) (skolem number sort ts) c d = tt
  value_met (field h t) (field k u) c d =
      met_if a (h == k) (value_clauses_of g (range_of g (field h t)) (field h t) (field k u) (one_and_same t u)) (λ e.
      let P : ℕ → Type 0 = λ k. Contains v.others (field k u) → AreMet a (value_clauses_of g (range_of g (field h t)) (field h t) (field k u) (one_and_same t u)) in
      subst P (eqb-true h k e) (λ d. values_met h t u c d (range_of g (field h t)) refl) d)

  relations_met : (p q : Pair) → Contains v.pairs p → Contains v.pairs q → AreMet a (relation_clauses g p q)
  relations_met p q c d =
      met_if a (p.relation == q.relation) (implied (related p ∷ (one_and_same p.holder q.holder ++ one_and_same p.member q.member)) (so (related q)) ∷ []) (λ e.
      (one (eqb-true p.relation q.relation e), tt))
    where
      one : p.relation ≡ q.relation → is_met a (implied (related p ∷ (one_and_same p.holder q.holder ++ one_and_same p.member q.member)) (so (related q))) ≡ true
      one relation =
          implied_met a (related p ∷ (one_and_same p.holder q.holder ++ one_and_same p.member q.member)) (so (related q)) (λ h.
          let (first, second) = append_facts a (one_and_same p.holder q.holder) (one_and_same p.member q.member) h.1 in
          sym (fits.relations p q c d relation (to_same a p.holder q.holder first) (to_same a p.member q.member second)) ∙ h.0)

  pub congruence_met : AreMet a (congruence_clauses g v)
  congruence_met =
      met_append a (for_pairs g (alike_clauses g) (told v)) _ (met_pair (alike_clauses g) (told v) alike_met)
      (met_append a (for_pairs g (element_clauses g) v.named) _ (met_pair (element_clauses g) v.named element_met)
      (met_append a (for_pairs g (value_clauses g) v.others) _ (met_pair (value_clauses g) v.others value_met) (met_pair (relation_clauses g) v.pairs relations_met)))

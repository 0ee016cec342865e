-- Where the clauses are met the table is consistent.
use Rattle.std.proofs.Common.{◌≡◌, ℕ, Bool, true, false, not, ◌&&◌, ◌||◌, inl, inr, refl, sym, ◌∙◌, List, [], ◌∷◌, ◌++◌, Some, None, Option, cond, ap, subst, Contains, map}
use Rattle.std.specs.Prelude.{◌==◌, option_and_then}
use Rattle.std.specs.List.{flat_map}
use Rattle.std.specs.Option.{option_map}
use Rattle.std.proofs.lemmas.List.Elements.{Contains-append_cases, Contains-append_left, Contains-append_right}
use Rattle.std.proofs.lemmas.Option.{slice_get_within, get_or_from_slice_get}
use Rattle.form_formula.specs.declared.structure.Range.{Range}
use Rattle.form_formula.specs.declared.structure.Range.TheVariants as kinds
use Rattle.form_formula.specs.declared.structure.FunSig.{FunSig}
use Rattle.form_formula.specs.declared.structure.Signature.{Signature}
use Rattle.form_formula.specs.declared.structure.SVal.{SVal}
use Rattle.form_formula.specs.declared.structure.SVal.TheVariants.{Rec, Flag, Num, Str}
use Rattle.form_formula.specs.Over.{IsFunction}
use Rattle.form_formula.specs.Trees.{Formula}
use Rattle.form_formula.specs.Truth.{is_raised}
use Rattle.form_terms.specs.GroundTerms.{GroundTerm, GroundTerms, constant, skolem, field, no_terms, term_and, list_of, sort_of, record_sort}
use Rattle.form_terms.specs.Universe.{HasEach}
use Rattle.form_terms.proofs.Lists.{cond_true, cond_false}
use Rattle.form_terms.proofs.Kept.{nat_same}
use Rattle.form_tables.specs.Vocabulary.{Vocabulary, Pair, IsVocabulary, IsValued, IsValuedIn, told}
use Rattle.form_tables.specs.Table.{Table, is_there, IsSame, AreSame}
use Rattle.form_tables.specs.Consistent.{IsConsistent, IsOfRange, range_of}
use Rattle.form_tables.specs.Facts.{Assignment, Fact, Clause, term, there, same, raised, related, empty, so, not_so, implied, table_for}
use Rattle.form_tables.specs.Clauses.{IsTyped, one_and_same, all_same, total_clauses, term_clauses, sort_clauses, sort_clauses_of, target_clauses, function_clauses, pair_clauses, alike_clauses, element_clauses, value_clauses, value_clauses_of, relation_clauses, for_pairs, base_clauses, congruence_clauses}
use Rattle.form_tables.proofs.MadeAtoms.{one_truth}
use Rattle.form_tables.proofs.Sound.{told_function}
use Rattle.form_tables.proofs.ClausesMet.{AreMet, AreFacts, append_met, flat_met, met_implied, facts_append}
use Rattle.form_tables.proofs.Assigned.{equal_same, there_is, value_there, value_none, there_value, from_same, from_all_same}

not_true : (b : Bool) → not b ≡ true → b ≡ false
not_true true e = cc
not_true false e = refl

false_not : (b : Bool) → b ≡ false → not b ≡ true
false_not true e = cc
false_not false e = refl

module _ (g : Signature) (f : Formula) (terms : List GroundTerm) (v : Vocabulary) (a : Assignment)
    (words : IsVocabulary g f terms v) (typed : IsTyped g v a) where
  abbrev T : Table
  T = table_for a

  listed_told : (t : GroundTerm) → Contains v.named t → Contains (told v) t
  listed_told t c = Contains-append_left v.named v.others t c

  other_told : (t : GroundTerm) → Contains v.others t → Contains (told v) t
  other_told t c = Contains-append_right v.named v.others t c

  argument : (h : ℕ) (t : GroundTerm) → Contains (told v) (field h t) → Contains v.named t
  argument h t c = (told_function g f terms v words h t c).3

  function_there : (h : ℕ) (sig : FunSig) → IsFunction g h sig → Contains g.funs sig
  function_there h sig e = (h, slice_get_within g.funs h sig e, get_or_from_slice_get g.funs h sig sig e)

  pair_met : {A : Type 0} (clauses : A → A → List Clause) (xs : List A) → AreMet a (for_pairs g clauses xs) → (x y : A) → Contains xs x → Contains xs y
      → AreMet a (clauses x y)
  pair_met clauses xs m x y c d = flat_met a (clauses x) xs (flat_met a (λ x. flat_map (clauses x) xs) xs m x c) y d

  same_back : (t u : GroundTerm) → IsSame T t u → IsSame T u t
  same_back t u (x, p, q) = (x, q, p)

  all_back : (ts us : GroundTerms) → AreSame T ts us → AreSame T us ts
  all_back no_terms no_terms h = tt
  all_back no_terms (term_and u us) h = absurd h
  all_back (term_and t ts) no_terms h = absurd h
  all_back (term_and t ts) (term_and u us) h = (same_back t u h.0, all_back ts us h.1)

  if_met : (b : Bool) (cs : List Clause) → b ≡ true → AreMet a (cond b cs []) → AreMet a cs
  if_met b cs e h = let P : List Clause → Type 0 = λ cs. AreMet a cs in subst P (cond_true b cs [] e) h

  unless_met : (b : Bool) (cs : List Clause) → b ≡ false → AreMet a (cond b [] cs) → AreMet a cs
  unless_met b cs e h = let P : List Clause → Type 0 = λ cs. AreMet a cs in subst P (cond_false b [] cs e) h

  -- values of terms that are there at the same time
  values_same : (t u : GroundTerm) → a.there t ≡ a.there u → (a.there t ≡ true → a.value t ≡ a.value u) → T.value t ≡ T.value u
  values_same t u e value = choose (a.there t) refl
    where
      choose : (b : Bool) → a.there t ≡ b → T.value t ≡ T.value u
      choose true p = value_there a t p ∙ (ap (λ x. Some x) (value p) ∙ sym (value_there a u (sym e ∙ p)))
      choose false p = value_none a t p ∙ sym (value_none a u (sym e ∙ p))

  -- where the clauses are met
  module _ (base : AreMet a (base_clauses g v)) (congruence : AreMet a (congruence_clauses g v)) where
    Own : (t : GroundTerm) → Contains (told v) t → AreMet a (term_clauses g t)
    Own t c =
        let (first, rest) = append_met a (flat_map (term_clauses g) (told v)) (flat_map (sort_clauses g) (told v) ++ (flat_map (pair_clauses g) v.pairs ++ flat_map (function_clauses g) g.funs)) base in
        flat_met a (term_clauses g) (told v) first t c

    Sort : (t : GroundTerm) → Contains (told v) t → AreMet a (sort_clauses g t)
    Sort t c =
        let (first, rest) = append_met a (flat_map (term_clauses g) (told v)) (flat_map (sort_clauses g) (told v) ++ (flat_map (pair_clauses g) v.pairs ++ flat_map (function_clauses g) g.funs)) base in
        let (second, rest') = append_met a (flat_map (sort_clauses g) (told v)) (flat_map (pair_clauses g) v.pairs ++ flat_map (function_clauses g) g.funs) rest in
        flat_met a (sort_clauses g) (told v) second t c

    pairs_functions : AreMet a (flat_map (pair_clauses g) v.pairs) × AreMet a (flat_map (function_clauses g) g.funs)
    pairs_functions =
        let (first, rest) = append_met a (flat_map (term_clauses g) (told v)) (flat_map (sort_clauses g) (told v) ++ (flat_map (pair_clauses g) v.pairs ++ flat_map (function_clauses g) g.funs)) base in
        let (second, rest') = append_met a (flat_map (sort_clauses g) (told v)) (flat_map (pair_clauses g) v.pairs ++ flat_map (function_clauses g) g.funs) rest in
        append_met a (flat_map (pair_clauses g) v.pairs) (flat_map (function_clauses g) g.funs) rest'

    abbrev Alikes : List Clause
    Alikes = for_pairs g (alike_clauses g) (told v)

    abbrev Elements : List Clause
    Elements = for_pairs g (element_clauses g) v.named

    abbrev Values : List Clause
    Values = for_pairs g (value_clauses g) v.others

    abbrev Relations : List Clause
    Relations = for_pairs g (relation_clauses g) v.pairs

    four : AreMet a Alikes × (AreMet a Elements × (AreMet a Values × AreMet a Relations))
    four =
        let (first, rest) = append_met a Alikes (Elements ++ (Values ++ Relations)) congruence in
        let (second, rest') = append_met a Elements (Values ++ Relations) rest in
        (first, (second, append_met a Values Relations rest'))

    is_typed : (t : GroundTerm) (range : Range) (x : SVal) → Contains (told v) t → range_of g t ≡ Some range → T.value t ≡ Some x → IsOfRange range x
    is_typed t range x c kind e = let (alive, value) = there_value a t x e in let P : SVal → Type 0 = λ x. IsOfRange range x in subst P value (typed t range c kind)

    within : (h : ℕ) (t : GroundTerm) → Contains (told v) (field h t) → is_there T (field h t) ≡ true → is_there T t ≡ true
    within h t c e =
        there_is a t ∙ met_implied a (there (field h t) ∷ []) (so (there t)) (Own (field h t) c).0 (sym (there_is a (field h t)) ∙ e, tt)

    total : (h : ℕ) (sig : FunSig) (t : GroundTerm) → Contains (told v) (field h t) → IsFunction g h sig → sig.partial ≡ false
        → is_there T t ≡ true → is_there T (field h t) ≡ true
    total h sig t c function partial e =
        let P : Option FunSig → Type 0 = λ o. AreMet a (total_clauses g o h t) in
        let here : AreMet a (total_clauses g (Some sig) h t) = subst P function (Own (field h t) c).1 in
        let met = unless_met sig.partial (implied (there t ∷ []) (so (there (field h t))) ∷ []) partial here in
        there_is a (field h t) ∙ met_implied a (there t ∷ []) (so (there (field h t))) met.0 (sym (there_is a t) ∙ e, tt)

    -- one way, and so both
    there_too : (h : ℕ) (t u : GroundTerm) → Contains (told v) (field h t) → Contains (told v) (field h u) → IsSame T t u
        → a.there (field h t) ≡ true → a.there (field h u) ≡ true
    there_too h t u c d same' e =
        let met = if_met (h == h) (implied (there (field h t) ∷ one_and_same t u) (so (there (field h u))) ∷ []) (nat_same h)
        (pair_met (alike_clauses g) (told v) four.0 (field h t) (field h u) c d) in
        met_implied a (there (field h t) ∷ one_and_same t u) (so (there (field h u))) met.0 (e, from_same a g f terms v words typed t u (argument h t c) same')

    alike : (h : ℕ) (t u : GroundTerm) → Contains (told v) (field h t) → Contains (told v) (field h u) → IsSame T t u → a.there (field h t) ≡ a.there (field h u)
    alike h t u c d same' =
        one_truth (a.there (field h t)) (a.there (field h u)) (there_too h t u c d same') (there_too h u t d c (same_back t u same'))

    element_too : (h : ℕ) (t u : GroundTerm) → Contains v.named (field h t) → Contains v.named (field h u) → IsSame T t u
        → a.there (field h t) ≡ true → a.value (field h t) ≡ a.value (field h u)
    element_too h t u c d same' e =
        let met = if_met (h == h) (implied (there (field h t) ∷ one_and_same t u) (so (same (term (field h t)) (term (field h u)))) ∷ []) (nat_same h)
        (pair_met (element_clauses g) v.named four.1.0 (field h t) (field h u) c d) in
        equal_same (a.value (field h t)) (a.value (field h u))
        (met_implied a (there (field h t) ∷ one_and_same t u) (so (same (term (field h t)) (term (field h u)))) met.0
        (e, from_same a g f terms v words typed t u (argument h t (listed_told (field h t) c)) same'))

    value_too : (h : ℕ) (t u : GroundTerm) → Contains v.others (field h t) → Contains v.others (field h u) → sort_of g (field h t) ≡ None → IsSame T t u
        → a.there (field h t) ≡ true → a.there (field h u) ≡ true → a.value (field h t) ≡ a.value (field h u)
    value_too h t u c d kind same' alive alive' =
        let (sig, function, source, named) = told_function g f terms v words h t (other_told (field h t) c) in
        let range-is : range_of g (field h t) ≡ Some sig.to = ap (option_map (λ sig. sig.to)) function in
        let no-sort : record_sort sig.to ≡ None = sym (ap (option_and_then (λ sig. record_sort sig.to)) function) ∙ kind in
        let P : Option Range → Type 0 = λ o. AreMet a (value_clauses_of g o (field h t) (field h u) (one_and_same t u)) in
        let Q : Option Range → Type 0 = λ o. AreMet a (value_clauses_of g o (field h u) (field h t) (one_and_same u t)) in
        let met = if_met (h == h) (value_clauses_of g (range_of g (field h t)) (field h t) (field h u) (one_and_same t u)) (nat_same h)
        (pair_met (value_clauses g) v.others four.1.1.0 (field h t) (field h u) c d) in
        let back = if_met (h == h) (value_clauses_of g (range_of g (field h u)) (field h u) (field h t) (one_and_same u t)) (nat_same h)
        (pair_met (value_clauses g) v.others four.1.1.0 (field h u) (field h t) d c) in
        choose sig.to no-sort (typed (field h t) sig.to (other_told (field h t) c) range-is) (typed (field h u) sig.to (other_told (field h u) d) range-is)
        (subst P range-is met) (subst Q range-is back)
        (from_same a g f terms v words typed t u named same') (from_same a g f terms v words typed u t (argument h u (other_told (field h u) d)) (same_back t u same'))
      where
        flags : (x y : SVal) → IsOfRange kinds.Flag x → IsOfRange kinds.Flag y → (is_raised x ≡ true → is_raised y ≡ true) → (is_raised y ≡ true → is_raised x ≡ true) → x ≡ y
        flags (Flag b) (Flag c) p q e e' = ap (λ b. Flag b) (one_truth b c e e')
        flags (Flag b) (Rec y) p q e e' = absurd q
        flags (Flag b) (Num n) p q e e' = absurd q
        flags (Flag b) (Str s) p q e e' = absurd q
        flags (Rec x) y p q e e' = absurd p
        flags (Num n) y p q e e' = absurd p
        flags (Str s) y p q e e' = absurd p

        choose : (to : Range) → record_sort to ≡ None → IsOfRange to (a.value (field h t)) → IsOfRange to (a.value (field h u))
            → AreMet a (value_clauses_of g (Some to) (field h t) (field h u) (one_and_same t u)) → AreMet a (value_clauses_of g (Some to) (field h u) (field h t) (one_and_same u t))
            → AreFacts a (one_and_same t u) → AreFacts a (one_and_same u t) → a.value (field h t) ≡ a.value (field h u)
        choose (kinds.Rec n) no-sort p q met back ps qs = cc
        choose kinds.Flag no-sort p q met back ps qs =
            flags (a.value (field h t)) (a.value (field h u)) p q
            (λ e. met_implied a (raised (field h t) ∷ there (field h t) ∷ one_and_same t u) (so (raised (field h u))) met.0 (e, (alive, ps)))
            (λ e. met_implied a (raised (field h u) ∷ there (field h u) ∷ one_and_same u t) (so (raised (field h t))) back.0 (e, (alive', qs)))
        choose kinds.Num no-sort p q met back ps qs =
            equal_same (a.value (field h t)) (a.value (field h u))
            (met_implied a (there (field h t) ∷ one_and_same t u) (so (same (term (field h t)) (term (field h u)))) met.0 (alive, ps))
        choose kinds.Str no-sort p q met back ps qs =
            equal_same (a.value (field h t)) (a.value (field h u))
            (met_implied a (there (field h t) ∷ one_and_same t u) (so (same (term (field h t)) (term (field h u)))) met.0 (alive, ps))

    other_listed : (t : GroundTerm) → Contains (told v) t → sort_of g t ≡ None → Contains v.others t
    other_listed t c kind =
        elim (Contains-append_cases v.named v.others t c) [
          | inl here ↦ let found = words.sorted t here in let no' : None ≡ Some found.0 = sym kind ∙ found.1 in cc
          | inr here ↦ here
        ]

    values_too : (h : ℕ) (t u : GroundTerm) → IsValued g v (field h t) → IsValued g v (field h u) → IsSame T t u → T.value (field h t) ≡ T.value (field h u)
    values_too h t u p q same' = choose (sort_of g (field h t)) refl p q
      where
        choose : (o : Option ℕ) → sort_of g (field h t) ≡ o → IsValuedIn g v o (field h t) → IsValuedIn g v o (field h u) → T.value (field h t) ≡ T.value (field h u)
        choose None kind c d =
            let both = alike h t u c d same' in
            values_same (field h t) (field h u) both
            (λ e. value_too h t u (other_listed (field h t) c kind) (other_listed (field h u) d kind) kind same' e (sym both ∙ e))
        choose (Some sort) kind c d =
            values_same (field h t) (field h u) (alike h t u (listed_told (field h t) c) (listed_told (field h u) d) same') (element_too h t u c d same')

    arguments_there : (own : GroundTerm) (ts : GroundTerms) → AreMet a (map (λ t. implied (there own ∷ []) (so (there t))) (list_of ts)) → a.there own ≡ true
        → HasEach (λ t. is_there T t ≡ true) ts
    arguments_there own no_terms m e = tt
    arguments_there own (term_and t ts) m e =
        (there_is a t ∙ met_implied a (there own ∷ []) (so (there t)) m.0 (e, tt), arguments_there own ts m.1 e)

    abbrev VariableClauses : ℕ → ℕ → GroundTerms → GroundTerms → List Clause
    VariableClauses number sort ts us =
        implied (there (skolem number sort ts) ∷ all_same ts us) (so (there (skolem number sort us)))
        ∷ implied (there (skolem number sort ts) ∷ all_same ts us) (so (same (term (skolem number sort ts)) (term (skolem number sort us))))
        ∷ []

    variable_met : (number sort : ℕ) (ts us : GroundTerms) → Contains v.named (skolem number sort ts) → Contains v.named (skolem number sort us)
        → AreMet a (VariableClauses number sort ts us)
    variable_met number sort ts us c d =
        let p = nat_same number in
        let q = nat_same sort in
        let both : ((number == number) && (sort == sort)) ≡ true = cc in
        if_met ((number == number) && (sort == sort)) (VariableClauses number sort ts us) both
        (pair_met (element_clauses g) v.named four.1.0 (skolem number sort ts) (skolem number sort us) c d)

    variable_too : (number sort : ℕ) (ts us : GroundTerms) → Contains v.named (skolem number sort ts) → Contains v.named (skolem number sort us) → AreSame T ts us
        → a.there (skolem number sort ts) ≡ true → (a.there (skolem number sort us) ≡ true) × (a.value (skolem number sort ts) ≡ a.value (skolem number sort us))
    variable_too number sort ts us c d same' e =
        let (above, variable, sorts, each) = words.formed (skolem number sort ts) c in
        let facts : AreFacts a (there (skolem number sort ts) ∷ all_same ts us) = (e, from_all_same a g f terms v words typed ts us each same') in
        let met = variable_met number sort ts us c d in (
          met_implied a (there (skolem number sort ts) ∷ all_same ts us) (so (there (skolem number sort us))) met.0 facts,
          equal_same (a.value (skolem number sort ts)) (a.value (skolem number sort us))
              (met_implied a (there (skolem number sort ts) ∷ all_same ts us) (so (same (term (skolem number sort ts)) (term (skolem number sort us)))) met.1.0 facts),
        )

    relation_too : (p q : Pair) → Contains v.pairs p → Contains v.pairs q → p.relation ≡ q.relation → IsSame T p.holder q.holder → IsSame T p.member q.member
        → a.has p.relation p.holder p.member ≡ true → a.has q.relation q.holder q.member ≡ true
    relation_too p q c d relation holders members e =
        let (sig, there', holder-kind, holder-named, member-kind, member-named) = words.related p c in
        let one : (p.relation == q.relation) ≡ true = ap (λ n. p.relation == n) (sym relation) ∙ nat_same p.relation in
        let ps : List Fact = related p ∷ (one_and_same p.holder q.holder ++ one_and_same p.member q.member) in
        let met = if_met (p.relation == q.relation) (implied (related p ∷ (one_and_same p.holder q.holder ++ one_and_same p.member q.member)) (so (related q)) ∷ []) one
        (pair_met (relation_clauses g) v.pairs four.1.1.1 p q c d) in
        met_implied a (related p ∷ (one_and_same p.holder q.holder ++ one_and_same p.member q.member)) (so (related q)) met.0 (
          e,
          facts_append a (one_and_same p.holder q.holder) (one_and_same p.member q.member)
              (from_same a g f terms v words typed p.holder q.holder holder-named holders) (from_same a g f terms v words typed p.member q.member member-named members),
        )

    not_empty : (t : GroundTerm) (sort : ℕ) → Contains (told v) t → sort_of g t ≡ Some sort → a.there t ≡ true → a.is_empty sort ≡ false
    not_empty t sort c kind e =
        let P : Option ℕ → Type 0 = λ o. AreMet a (sort_clauses_of g o t) in
        let met : AreMet a (sort_clauses_of g (Some sort) t) = subst P kind (Sort t c) in
        not_true (a.is_empty sort) (met_implied a (there t ∷ []) (not_so (empty sort)) met.0 (e, tt))

    constant_there : (sort : ℕ) → Contains v.named (constant sort) → is_there T (constant sort) ≡ not (a.is_empty sort)
    constant_there sort c = there_is a (constant sort) ∙ choose (a.there (constant sort)) (a.is_empty sort) refl refl (Own (constant sort) (listed_told (constant sort) c)).0
      where
        choose : (p q : Bool) → a.there (constant sort) ≡ p → a.is_empty sort ≡ q → (p || (q || false)) ≡ true → p ≡ not q
        choose true q e e' m = let none = not_empty (constant sort) sort (listed_told (constant sort) c) refl e in sym (false_not q (sym e' ∙ none))
        choose false true e e' m = refl
        choose false false e e' m = m

    followed : (h : ℕ) (sig : FunSig) (sort : ℕ) → IsFunction g h sig → sig.partial ≡ false → sig.to ≡ kinds.Rec sort → a.is_empty sig.from ≡ false → a.is_empty sort ≡ false
    followed h sig sort function partial to e = choose (a.is_empty sort) refl
      where
        met : AreMet a (target_clauses g sig.from (kinds.Rec sort))
        met =
            let P : Range → Type 0 = λ to. AreMet a (target_clauses g sig.from to) in
            subst P to (unless_met sig.partial (target_clauses g sig.from sig.to) partial
            (flat_met a (function_clauses g) g.funs pairs_functions.1 sig (function_there h sig function)))

        choose : (b : Bool) → a.is_empty sort ≡ b → b ≡ false
        choose false p = refl
        choose true p = let yes' = met_implied a (empty sort ∷ []) (so (empty sig.from)) met.0 (p, tt) in let no' : true ≡ false = sym yes' ∙ e in cc

    pub consistent : IsConsistent g v T
    consistent = record {
      typed = is_typed;
      functions = record {
        within = within;
        total = total;
        alike = λ h t u c d same'. there_is a (field h t) ∙ (alike h t u c d same' ∙ sym (there_is a (field h u)));
        same = values_too;
      };
      variables = record {
        within = λ number sort ts c e. arguments_there (skolem number sort ts) ts (Own (skolem number sort ts) (listed_told (skolem number sort ts) c)) (sym (there_is a (skolem number sort ts)) ∙ e);
        same = λ number sort ts us c d same'.
            let both = one_truth (a.there (skolem number sort ts)) (a.there (skolem number sort us))
            (λ e. (variable_too number sort ts us c d same' e).0) (λ e. (variable_too number sort us ts d c (all_back ts us same') e).0) in
            values_same (skolem number sort ts) (skolem number sort us) both (λ e. (variable_too number sort ts us c d same' e).1);
      };
      relations = record {
        within = λ p c e.
            let met = flat_met a (pair_clauses g) v.pairs pairs_functions.0 p c in (
              there_is a p.holder ∙ met_implied a (related p ∷ []) (so (there p.holder)) met.0 (e, tt),
              there_is a p.member ∙ met_implied a (related p ∷ []) (so (there p.member)) met.1.0 (e, tt),
            );
        same = λ p q c d relation holders members.
            one_truth (a.has p.relation p.holder p.member) (a.has q.relation q.holder q.member) (relation_too p q c d relation holders members)
            (relation_too q p d c (sym relation) (same_back p.holder q.holder holders) (same_back p.member q.member members));
      };
      sorts = record {
        constants = constant_there;
        inhabited = λ t sort c kind e. not_empty t sort c kind (sym (there_is a t) ∙ e);
        followed = followed;
      };
    }

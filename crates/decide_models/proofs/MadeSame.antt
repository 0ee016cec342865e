-- The structure of what was found is the one that the table makes.
use Rattle.std.proofs.Common.{◌≡◌, ℕ, zero, suc, ◌+◌, ◌<◌, Bool, true, false, ◌&&◌, refl, sym, ◌∙◌, List, [], ◌∷◌, ◌++◌, Option, Some, None, length, cond, map, ap, arith, slice_get, get_or}
use Rattle.std.specs.Prelude.{option_and_then, unwrap_or, ◌==◌, position, slice_index_or}
use Rattle.std.specs.List.{find, filter, flat_map, range_with_len, enumerate_from}
use Rattle.std.specs.Option.{option_map, option_to_list}
use Rattle.std.proofs.lemmas.Bool.{eqb-true}
use Rattle.std.proofs.lemmas.Option.{slice_get-get_or}
use Rattle.form_terms.proofs.Kept.{nat_same}
use Rattle.std.proofs.lemmas.List.Quantifiers.{position-Some}
use Rattle.form_formula.specs.declared.structure.Range.{Range}
use Rattle.form_formula.specs.declared.structure.Range.TheVariants as range
use Rattle.form_formula.specs.declared.structure.FunSig.{FunSig}
use Rattle.form_formula.specs.declared.structure.Signature.{Signature}
use Rattle.form_formula.specs.declared.structure.SVal.{SVal}
use Rattle.form_formula.specs.declared.structure.SVal.TheVariants.{Rec, Flag, Num, Str}
use Rattle.form_formula.specs.Over.{IsFunction}
use Rattle.form_formula.specs.Truth.{element_of}
use Rattle.form_terms.specs.GroundTerms.{GroundTerm, constant, sort_of, is_number}
use Rattle.ground_terms.specs.declared.node.TermNode.{TermNode}
use Rattle.ground_terms.specs.declared.node.TermNode.TheVariants.{Constant, Skolem, Field, Empty, Cons}
use Rattle.ground_terms.specs.Nodes.{term_part, tree_from, trees_of, term_of, IsOne, is_one, ArePlaced}
use Rattle.ground_terms.proofs.Placement.{parts_placed}
use Rattle.ground_terms.specs.Standing.{AreOnes, terms_at}
use Rattle.form_tables.specs.Vocabulary.{Vocabulary, Pair}
use Rattle.form_tables.specs.Table.{Table}
use Rattle.form_tables.specs.Made.{classes, made_size, place, element, default, made_value, blank, is_at, made_entry, made_function, made_relation}
use Rattle.decide_models.specs.declared.found.Found.{Found}
use Rattle.ground_problem.specs.declared.words.PairNode.{PairNode}
use Rattle.decide_models.specs.declared.tellers.Teller.{Teller}
use Rattle.ground_problem.specs.declared.words.Words.{Words}
use Rattle.ground_problem.specs.Words.{vocabulary_at, pair_at, ArePairs}
use Rattle.decide_models.specs.Found.{IsFound}
use Rattle.decide_models.specs.Columns.{class_at, is_constant, classes_of, moved_value, blank_value, element_in, tellers_from, tellers_in, tellers_at, told_value, entry_at, related_in, relation_at, default_at, default_list, row_by, class_lists, element_list}
use Rattle.decide_models.proofs.Steps.{no_position}
use Rattle.decide_models.proofs.Lists.{range_same, slice_get-range, enumerated_same, enumerated_places}
use Rattle.decide_models.proofs.Agreement.{node_at, term_at_node, value_or, class_same, all_same, size_same, place_same, column_same}

-- a sort that a range names is there
abbrev pub IsRangeBelow : ℕ → Range → Type 0
IsRangeBelow sorts (range.Rec sort) = sort < sorts
IsRangeBelow sorts range.Flag = Unit {0}
IsRangeBelow sorts range.Num = Unit {0}
IsRangeBelow sorts range.Str = Unit {0}

-- the first node that passes
index_or : (xs : List ℕ) (i d : ℕ) → unwrap_or (slice_get xs i) d ≡ slice_index_or xs i d
index_or [] i d = refl
index_or (x ∷ xs) zero d = refl
index_or (x ∷ xs) (suc i) d = index_or xs i d

first_node : (p : TermNode → Bool) (nodes : List TermNode) (id : ℕ) → position p nodes ≡ Some id → (n : TermNode) × (slice_get nodes id ≡ Some n) × (p n ≡ true)
first_node p nodes id e =
    let at = position-Some p nodes id Empty e in (get_or nodes id Empty, slice_get-get_or nodes id Empty at.0, at.1)

constant_node : (sort : ℕ) (n : TermNode) → is_constant sort n ≡ true → n ≡ Constant sort
constant_node sort (Constant own) e = ap (λ n. Constant n) (eqb-true own sort e)
constant_node sort (Skolem number own ts) e = cc
constant_node sort (Field h t) e = cc
constant_node sort Empty e = cc
constant_node sort (Cons t ts) e = cc

module _ (g : Signature) (nodes : List TermNode) (w : Words) (found : Found) (table : Table) (placed : ArePlaced nodes) (told : IsFound g nodes w.pairs.items found table)
    (ones : AreOnes nodes w.named.items) where
  abbrev v : Vocabulary
  v = vocabulary_at nodes w

  abbrev all : List (List ℕ)
  all = class_lists g nodes found w.named.items

  abbrev elements : List (Option ℕ)
  elements = element_list g nodes found all

  abbrev defaults : List ℕ
  defaults = default_list g nodes elements

  -- the default of a sort
  default_same : (sort : ℕ) → sort < g.sorts → default_at nodes elements sort ≡ default g v table sort
  default_same sort lt = by (position (is_constant sort) nodes) refl
    where
      absent : (o : Option SVal) → table.value (constant sort) ≡ o → position (is_constant sort) nodes ≡ None → default g v table sort ≡ 0
      absent None e none = ap (λ o. unwrap_or (option_map (place g v table sort) (option_and_then element_of o)) 0) e
      absent (Some x) e none =
          let (id, own) = told.constants sort x e in absurd (no_position (is_constant sort) nodes id (Constant sort) own (nat_same sort) none)

      by : (o : Option ℕ) → position (is_constant sort) nodes ≡ o → unwrap_or (option_and_then (element_in elements) o) 0 ≡ default g v table sort
      by None e = sym (absent (table.value (constant sort)) refl e)
      by (Some id) e =
          let (n, there, passes) = first_node (is_constant sort) nodes id e in
          let own : slice_get nodes id ≡ Some (Constant sort) = there ∙ ap (λ n. Some n) (constant_node sort n passes) in
          let is_term : IsOne nodes id = ap (option_map is_one) own in
          let names : term_of nodes id ≡ constant sort = term_at_node nodes id (Constant sort) placed own in
          ap (λ o. unwrap_or o 0) (column_same g nodes w found table placed told ones id sort is_term (ap (sort_of g) names) lt ∙ ap (element g v table) names)

  blank_same : (to : Range) → IsRangeBelow g.sorts to → blank_value defaults to ≡ blank g v table to
  blank_same (range.Rec sort) lt =
      ap (λ n. Rec n) (value_or (slice_get defaults sort) (default_at nodes elements sort) 0 (slice_get-range (default_at nodes elements) g.sorts sort lt) ∙ default_same sort lt)
  blank_same range.Flag lt = refl
  blank_same range.Num lt = refl
  blank_same range.Str lt = refl

  moved_same : (to : Range) (x : SVal) → IsRangeBelow g.sorts to → moved_value all to x ≡ made_value g v table to x
  moved_same (range.Rec sort) (Rec k) lt = ap (λ n. Rec n) (place_same g nodes w found table placed told ones sort k lt)
  moved_same (range.Rec sort) (Flag b) lt = refl
  moved_same (range.Rec sort) (Num n) lt = refl
  moved_same (range.Rec sort) (Str t) lt = refl
  moved_same range.Flag x lt = refl
  moved_same range.Num x lt = refl
  moved_same range.Str x lt = refl

  moved_option : (to : Range) (o : Option SVal) → IsRangeBelow g.sorts to → option_map (moved_value all to) o ≡ option_map (made_value g v table to) o
  moved_option to None lt = refl
  moved_option to (Some x) lt = ap (λ y. Some y) (moved_same to x lt)

  -- what a function has at an element, by the first term that tells
  module _ (h k : ℕ) (sig : FunSig) (lt : IsRangeBelow g.sorts sig.to) where
    abbrev of_class : Teller → Bool
    of_class t = t.class == k

    abbrev term_in : Teller → ℕ
    term_in t = t.term

    abbrev said : List Teller → Option SVal
    said ts = told_value found.values all defaults sig (option_map term_in (find of_class ts))

    abbrev meant : List GroundTerm → Option SVal
    meant ts = made_entry g v table sig (find (is_at g v table h k) ts)

    module _ (id : ℕ) (ids : List ℕ) (is_term : IsOne nodes id) (later : said (tellers_at found.values h nodes ids) ≡ meant (terms_at nodes ids)) where
      abbrev rest : List Teller
      rest = tellers_at found.values h nodes ids

      abbrev meant_by : Bool → Option SVal
      meant_by b = made_entry g v table sig (cond b (Some (term_of nodes id)) (find (is_at g v table h k) (terms_at nodes ids)))

      abbrev said_by : Bool → ℕ → Option SVal
      said_by b j = told_value found.values all defaults sig (option_map term_in (cond b (Some (record { class = j; term = id })) (find of_class rest)))

      choose : (b : Bool) (j : ℕ) → said_by b j ≡ meant_by b
      choose true j = ap (option_map (moved_value all sig.to)) (sym (told.values id is_term)) ∙ moved_option sig.to (table.value (term_of nodes id)) lt
      choose false j = later

      taught : (same : Bool) (o : Option ℕ) → said (cond same (map (λ c. record { class = c; term = id }) (option_to_list o)) [] ++ rest) ≡ meant_by (same && is_number o k)
      taught true None = later
      taught true (Some j) = choose (j == k) j
      taught false o = later

      told_by : (n : TermNode) → slice_get nodes id ≡ Some n → is_one n ≡ true → said (tellers_from found.values h id n ++ rest) ≡ meant_by (is_at g v table h k (term_part (tree_from (trees_of nodes) n)))
      told_by (Constant sort) e own = later
      told_by (Skolem number sort ts) e own = later
      told_by (Field h' t) e own =
          taught (h' == h) (class_at found.values t)
          ∙ ap (λ o. meant_by ((h' == h) && is_number o k)) (class_same g nodes w found table placed told t (parts_placed nodes id (Field h' t) placed e))
      told_by Empty e own = cc
      told_by (Cons t ts) e own = cc

      told_more : said (tellers_at found.values h nodes (id ∷ ids)) ≡ meant (terms_at nodes (id ∷ ids))
      told_more =
          let (n, e, own) = node_at nodes id true is_term in
          ap (λ o. said (tellers_in found.values h id o ++ rest)) e ∙ (told_by n e own ∙ ap (λ t. meant_by (is_at g v table h k t)) (sym (term_at_node nodes id n placed e)))

    told_same : (ids : List ℕ) → AreOnes nodes ids → said (tellers_at found.values h nodes ids) ≡ meant (terms_at nodes ids)
    told_same [] h' = ap (λ x. cond sig.partial None (Some x)) (blank_same sig.to lt)
    told_same (id ∷ ids) h' = told_more id ids h'.0 (told_same ids h'.1)

  module _ (others : AreOnes nodes w.others.items) (fits : (h : ℕ) (sig : FunSig) → IsFunction g h sig → (sig.from < g.sorts) × IsRangeBelow g.sorts sig.to) where
    abbrev told_ids : List ℕ
    told_ids = w.named.items ++ w.others.items

    told_ones : (xs ys : List ℕ) → AreOnes nodes xs → AreOnes nodes ys → AreOnes nodes (xs ++ ys)
    told_ones [] ys p q = q
    told_ones (x ∷ xs) ys p q = (p.0, told_ones xs ys p.1 q)

    told_terms : (xs ys : List ℕ) → terms_at nodes (xs ++ ys) ≡ terms_at nodes xs ++ terms_at nodes ys
    told_terms [] ys = refl
    told_terms (x ∷ xs) ys = ap (λ ts. term_of nodes x ∷ ts) (told_terms xs ys)

    -- the values of a function
    row_same : (h : ℕ) (sig : FunSig) → IsFunction g h sig → row_by nodes found told_ids all defaults (h, sig) ≡ made_function g v table (h, sig)
    row_same h sig own =
        let (from, to) = fits h sig own in
        let tellers = tellers_at found.values h nodes told_ids in
        let entry : ℕ → Option SVal =
        λ x. made_entry g v table sig (find (is_at g v table h (slice_index_or (classes g v table sig.from) x 0)) (terms_at nodes w.named.items ++ terms_at nodes w.others.items)) in
        ap (λ n. map (entry_at found.values all defaults sig tellers) (range_with_len 0 n)) (size_same g nodes w found table placed told ones sig.from from)
        ∙ range_same (entry_at found.values all defaults sig tellers) entry 0 (made_size g v table sig.from)
        (λ x less.
        let k = unwrap_or (slice_get (classes_of all sig.from) x) 0 in
        let same : k ≡ slice_index_or (classes g v table sig.from) x 0 =
        ap (λ ks. unwrap_or (slice_get ks x) 0) (all_same g nodes w found table placed told ones sig.from from) ∙ index_or (classes g v table sig.from) x 0 in
        told_same h k sig to told_ids (told_ones w.named.items w.others.items ones others)
        ∙ (ap (λ ts. made_entry g v table sig (find (is_at g v table h k) ts)) (told_terms w.named.items w.others.items)
        ∙ ap (λ k. made_entry g v table sig (find (is_at g v table h k) (terms_at nodes w.named.items ++ terms_at nodes w.others.items))) same))

    pub rows_same : map (row_by nodes found told_ids all defaults) (enumerate_from 0 g.funs) ≡ map (made_function g v table) (enumerate_from 0 g.funs)
    rows_same =
        enumerated_same (row_by nodes found told_ids all defaults) (made_function g v table) 0 g.funs
        (λ h sig own. let none : 0 + h ≡ h = omega arith in ap (λ h. row_by nodes found told_ids all defaults (h, sig)) none ∙ (row_same h sig own ∙ sym (ap (λ h. made_function g v table (h, sig)) none)))

  -- the pairs of a set relation
  abbrev pub HasSort : ℕ → Type 0
  HasSort id = (sort : ℕ) × (sort_of g (term_of nodes id) ≡ Some sort) × (sort < g.sorts)

  column : (id : ℕ) → IsOne nodes id → HasSort id → unwrap_or (element_in elements id) 0 ≡ unwrap_or (element g v table (term_of nodes id)) 0
  column id is_term (sort, kind, lt) = ap (λ o. unwrap_or o 0) (column_same g nodes w found table placed told ones id sort is_term kind lt)

  abbrev pair_made : Pair → ℕ × ℕ
  pair_made q = (unwrap_or (element g v table q.holder) 0, unwrap_or (element g v table q.member) 0)

  module _ (r : ℕ) where
    abbrev holds : Pair → Bool
    holds q = (q.relation == r) && table.has q.relation q.holder q.member

    pairs_same : (a : ℕ) (ps : List PairNode) → ArePairs nodes ps
        → ((k : ℕ) (p : PairNode) → slice_get ps k ≡ Some p → HasSort p.holder × HasSort p.member)
        → ((k : ℕ) (p : PairNode) → slice_get ps k ≡ Some p → table.has p.relation (term_of nodes p.holder) (term_of nodes p.member) ≡ unwrap_or (slice_get found.related (a + k)) false)
        → flat_map (related_in found.related elements r) (enumerate_from a ps) ≡ map pair_made (filter holds (map (pair_at nodes) ps))
    pairs_same a [] are sorted has = refl
    pairs_same a (p ∷ ps) are sorted has =
        let none : a + 0 ≡ a = omega arith in
        let here : unwrap_or (slice_get found.related a) false ≡ table.has p.relation (term_of nodes p.holder) (term_of nodes p.member) =
        ap (λ n. unwrap_or (slice_get found.related n) false) (sym none) ∙ sym (has 0 p refl) in
        let pair : ◌≡◌ {A = ℕ × ℕ} (unwrap_or (element_in elements p.holder) 0, unwrap_or (element_in elements p.member) 0) (pair_made (pair_at nodes p)) =
        both (column p.holder are.0.0 (sorted 0 p refl).0) (column p.member are.0.1 (sorted 0 p refl).1) in
        let later = pairs_same (a + 1) ps are.1 (λ k q e. sorted (suc k) q e) (λ k q e. let sum : a + 1 + k ≡ a + suc k = omega arith in has (suc k) q e ∙ ap (λ n. unwrap_or (slice_get found.related n) false) (sym sum)) in
        let rest = flat_map (related_in found.related elements r) (enumerate_from (a + 1) ps) in
        let kept = map pair_made (filter holds (map (pair_at nodes) ps)) in
        ap (λ b. cond ((p.relation == r) && b) ((unwrap_or (element_in elements p.holder) 0, unwrap_or (element_in elements p.member) 0) ∷ []) [] ++ rest) here
        ∙ (ap (λ q. cond (holds (pair_at nodes p)) (q ∷ []) [] ++ rest) pair
        ∙ (ap (λ qs. cond (holds (pair_at nodes p)) (pair_made (pair_at nodes p) ∷ []) [] ++ qs) later ∙ by (holds (pair_at nodes p))))
      where
        both : {m n k l : ℕ} → m ≡ n → k ≡ l → ◌≡◌ {A = ℕ × ℕ} (m, k) (n, l)
        both p q = cc

        by : (b : Bool) → cond b (pair_made (pair_at nodes p) ∷ []) [] ++ map pair_made (filter holds (map (pair_at nodes) ps))
            ≡ map pair_made (cond b (pair_at nodes p ∷ filter holds (map (pair_at nodes) ps)) (filter holds (map (pair_at nodes) ps)))
        by true = refl
        by false = refl

  pub relations_same : ArePairs nodes w.pairs.items → ((k : ℕ) (p : PairNode) → slice_get w.pairs.items k ≡ Some p → HasSort p.holder × HasSort p.member)
      → map (relation_at found.related elements w.pairs.items) (range_with_len 0 (length g.sets)) ≡ map (made_relation g v table) (enumerate_from 0 g.sets)
  relations_same are sorted =
      enumerated_places (relation_at found.related elements w.pairs.items) (made_relation g v table) 0 g.sets
      (λ p. pairs_same p.0 0 w.pairs.items are sorted (λ k q e. let none : 0 + k ≡ k = omega arith in told.related k q e ∙ ap (λ n. unwrap_or (slice_get found.related n) false) (sym none)))

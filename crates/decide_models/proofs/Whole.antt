-- The structure and the elements that are made, for a vocabulary of a formula.
use Rattle.std.proofs.Common.{◌≡◌, ℕ, zero, suc, ◌<◌, refl, ◌∙◌, List, [], ◌∷◌, ◌++◌, Option, Some, length, ap, subst, arith, slice_get, Contains}
use Rattle.std.specs.Prelude.{option_and_then, All}
use Rattle.form_formula.specs.declared.structure.Range.{Range}
use Rattle.form_formula.specs.declared.structure.Range.TheVariants as range
use Rattle.form_formula.specs.declared.structure.FunSig.{FunSig}
use Rattle.form_formula.specs.declared.structure.Signature.{Signature}
use Rattle.form_formula.specs.declared.structure.Structure.{Structure}
use Rattle.form_formula.specs.Over.{IsFunction, IsOver}
use Rattle.form_formula.specs.Trees.{Formula}
use Rattle.form_terms.specs.GroundTerms.{GroundTerm, constant, skolem, field, sort_of}
use Rattle.form_terms.specs.Parts.{Variable, existential}
use Rattle.form_terms.specs.Satisfying.{leading_elements}
use Rattle.form_terms.proofs.Listed.{to_map}
use Rattle.form_terms.proofs.Recorded.{needed_below}
use Rattle.form_terms.proofs.Typed.{all_typed, target_at, target_below, source_below}
use Rattle.form_terms.proofs.Witnesses.{variable_part}
use Rattle.ground_terms.specs.declared.node.TermNode.{TermNode}
use Rattle.ground_terms.specs.Nodes.{ArePlaced, term_of}
use Rattle.ground_terms.proofs.Placement.{kind_within}
use Rattle.ground_terms.specs.Standing.{AreOnes}
use Rattle.form_tables.specs.Vocabulary.{Vocabulary, IsVocabulary}
use Rattle.form_tables.specs.Table.{Table}
use Rattle.form_tables.specs.Made.{made, made_choice}
use Rattle.decide_models.specs.declared.found.Found.{Found}
use Rattle.ground_problem.specs.declared.words.PairNode.{PairNode}
use Rattle.ground_problem.specs.declared.words.Words.{Words}
use Rattle.ground_problem.specs.Words.{vocabulary_at, pair_at, IsWords}
use Rattle.decide_models.specs.Found.{IsFound}
use Rattle.decide_models.specs.Columns.{class_lists, element_list, structure_from, choice_by}
use Rattle.decide_models.proofs.Steps.{item_there}
use Rattle.decide_models.proofs.Agreement.{sizes_same}
use Rattle.decide_models.proofs.MadeSame.{HasSort, IsRangeBelow, rows_same, relations_same}
use Rattle.decide_models.proofs.Chosen.{leading_same}

-- the numbers of terms are below the number of nodes
pub ones_below : (nodes : List TermNode) (xs : List ℕ) → AreOnes nodes xs → All (λ id. id < length nodes) xs
ones_below nodes [] h k d lt = absurd (omega arith)
ones_below nodes (x ∷ xs) h zero d lt = kind_within nodes x _ h.0
ones_below nodes (x ∷ xs) h (suc k) d lt = ones_below nodes xs h.1 k d (omega arith)

pub both_ones : (nodes : List TermNode) (xs ys : List ℕ) → AreOnes nodes xs → AreOnes nodes ys → AreOnes nodes (xs ++ ys)
both_ones nodes [] ys p q = q
both_ones nodes (x ∷ xs) ys p q = (p.0, both_ones nodes xs ys p.1 q)

module _ (g : Signature) (f : Formula) (terms : List GroundTerm) (over : IsOver g [] f) where
  -- a term that names an element is of a sort that is there
  below : (v : Vocabulary) → IsVocabulary g f terms v → (t : GroundTerm) (sort : ℕ) → Contains v.named t → sort_of g t ≡ Some sort → sort < g.sorts
  below v words (constant n) sort there kind =
      let same : n ≡ sort = cc in
      let P : ℕ → Type 0 = λ n. n < g.sorts in
      subst P same (needed_below g f over g.sorts n (words.formed (constant n) there))
  below v words (skolem number n ts) sort there kind =
      let (above, own, sorts, each) = words.formed (skolem number n ts) there in
      let variable : Variable = record { number = number; sort = n; above = above } in
      let same : n ≡ sort = cc in
      let P : ℕ → Type 0 = λ n. n < g.sorts in
      subst P same (all_typed g f over (existential variable) (variable_part g f variable own)).0
  below v words (field h t) sort there kind = target_below g h sort kind

  module _ (nodes : List TermNode) (w : Words) (found : Found) (table : Table) (placed : ArePlaced nodes) (told : IsFound g nodes w.pairs.items found table)
      (numbers : IsWords nodes w) (words : IsVocabulary g f terms (vocabulary_at nodes w)) where
    abbrev v : Vocabulary
    v = vocabulary_at nodes w

    abbrev Sorted : ℕ → Type 0
    Sorted id = HasSort g nodes w found table placed told numbers.named id

    named_sorted : (id : ℕ) → Contains w.named.items id → Sorted id
    named_sorted id c =
        let t = term_of nodes id in
        let there : Contains v.named t = to_map (term_of nodes) w.named.items id c in
        let (sort, kind) = words.sorted t there in
        (sort, kind, below v words t sort there kind)

    pair_sorted : (k : ℕ) (p : PairNode) → slice_get w.pairs.items k ≡ Some p → Sorted p.holder × Sorted p.member
    pair_sorted k p e =
        let q = pair_at nodes p in
        let (sig, own, from, holder, to, member) = words.related q (to_map (pair_at nodes) w.pairs.items p (item_there w.pairs.items k p e)) in
        ((sig.from, from, below v words q.holder sig.from holder from), (sig.to, to, below v words q.member sig.to member to))

    ranges : (h : ℕ) (sig : FunSig) → IsFunction g h sig → (sig.from < g.sorts) × IsRangeBelow g.sorts sig.to
    ranges h sig own = (source_below g h sig.from (ap (option_and_then (λ (sig : FunSig). Some sig.from)) own), to sig.to refl)
      where
        to : (r : Range) → sig.to ≡ r → IsRangeBelow g.sorts r
        to (range.Rec sort) e = target_below g h sort (target_at g h sig sort own e)
        to range.Flag e = tt
        to range.Num e = tt
        to range.Str e = tt

    abbrev all : List (List ℕ)
    all = class_lists g nodes found w.named.items

    pub structure_same : structure_from g nodes found w all (element_list g nodes found all) ≡ made g v table
    structure_same =
        let sizes = sizes_same g nodes w found table placed told numbers.named in
        let funs = rows_same g nodes w found table placed told numbers.named numbers.others ranges in
        let sets = relations_same g nodes w found table placed told numbers.named numbers.pairs pair_sorted in cc

    pub picks_same : leading_elements (choice_by nodes w.named.items (element_list g nodes found all)) 0 f ≡ leading_elements (made_choice g v table) 0 f
    picks_same = leading_same g nodes w found table placed told numbers.named named_sorted f

    -- and so for lists that are equal to these
    pub structure_made : (lists : List (List ℕ)) (elements : List (Option ℕ)) (made' : Structure) → lists ≡ all → elements ≡ element_list g nodes found lists
        → made' ≡ structure_from g nodes found w lists elements → made' ≡ made g v table
    structure_made lists elements made' e d m =
        m ∙ (ap (structure_from g nodes found w lists) d ∙ (ap (λ lists. structure_from g nodes found w lists (element_list g nodes found lists)) e ∙ structure_same))

    pub picks_made : (named picks : List ℕ) (lists : List (List ℕ)) (elements : List (Option ℕ)) → named ≡ w.named.items → lists ≡ all → elements ≡ element_list g nodes found lists
        → picks ≡ leading_elements (choice_by nodes named elements) 0 f → picks ≡ leading_elements (made_choice g v table) 0 f
    picks_made named picks lists elements n e d m =
        m ∙ (ap (λ named. leading_elements (choice_by nodes named elements) 0 f) n ∙ (ap (λ es. leading_elements (choice_by nodes w.named.items es) 0 f) d
        ∙ (ap (λ lists. leading_elements (choice_by nodes w.named.items (element_list g nodes found lists)) 0 f) e ∙ picks_same)))

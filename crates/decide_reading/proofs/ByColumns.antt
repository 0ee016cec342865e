-- The assignment of columns.
use Rattle.std.proofs.Common.{◌≡◌, ℕ, zero, suc, ◌<◌, Bool, true, false, refl, sym, ◌∙◌, List, [], ◌∷◌, ◌++◌, Option, Some, None, length, get_or, map, ap, subst, arith, cond, Contains, slice_get}
use Rattle.std.specs.Prelude.{unwrap_or, position, ◌==◌, int_lt}
use Rattle.std.specs.Option.{option_map}
use Rattle.std.proofs.lemmas.List.Quantifiers.{position-Some}
use Rattle.std.proofs.lemmas.Option.{slice_get-get_or}
use Rattle.std.proofs.lemmas.Bool.{eqb-true}
use Rattle.std.proofs.Common.{inl, inr}
use Rattle.form_terms.specs.GroundTerms.{no_terms}
use Rattle.form_terms.proofs.Lists.{Contains-none, Contains-cons_cases}
use Rattle.form_formula.specs.declared.node.Node.{Node}
use Rattle.form_formula.specs.declared.node.Node.TheVariants as node
use Rattle.form_formula.specs.declared.structure.Signature.{Signature}
use Rattle.form_formula.specs.declared.structure.SVal.{SVal}
use Rattle.form_formula.specs.declared.structure.SVal.TheVariants.{Flag}
use Rattle.form_formula.specs.Nodes as formula
use Rattle.form_formula.specs.Truth.{are_equal, both_pass, is_raised, number_of}
use Rattle.form_formula.proofs.TreeLemmas as shown
use Rattle.form_terms.specs.GroundTerms.{GroundTerm, constant}
use Rattle.form_terms.specs.Listing.{is_same_term}
use Rattle.form_terms.proofs.Listed.{same_term, same_itself, in_map}
use Rattle.ground_terms.specs.declared.node.TermNode.{TermNode}
use Rattle.ground_terms.specs.declared.node.TermNode.TheVariants.{Constant, Skolem, Field, Empty as NoTerms, Cons}
use Rattle.ground_terms.specs.Nodes.{one, some, term_part, trees_of, tree_of, tree_from, term_of, IsOne, is_one, ArePlaced, AreOnce}
use Rattle.ground_terms.proofs.TreeLemmas.{tree_of-at, length-trees_of}
use Rattle.ground_terms.specs.Standing.{terms_at}
use Rattle.ground_terms.proofs.Fewer.{one_number}
use Rattle.form_tables.specs.Facts.{Assignment, is_fact, noun_value, table_for}
use Rattle.form_tables.specs.Clauses.{IsTyped}
use Rattle.form_tables.specs.Consistent.{range_of, IsOfRange}
use Rattle.ground_instances.specs.declared.input.Value.{Value}
use Rattle.ground_instances.specs.declared.input.Value.TheVariants.{Term, Literal}
use Rattle.ground_instances.specs.Inputs.{literal_of}
use Rattle.ground_problem.specs.InputFacts.{noun_of}
use Rattle.ground_problem.specs.Words.{ArePairs, vocabulary_at}
use Rattle.ground_problem.specs.declared.words.PairNode.{PairNode}
use Rattle.ground_problem.specs.declared.words.Words.{Words}
use Rattle.ground_problem.specs.declared.facts.FactNode.{FactNode}
use Rattle.ground_problem.specs.declared.facts.FactNode.TheVariants.{There, Same, Below, Raised, Related, Empty}
use Rattle.ground_problem.specs.Facts.{fact_at, noun_at}
use Rattle.decide_models.specs.declared.found.Found.{Found}
use Rattle.decide_models.specs.Found.{IsFound}
use Rattle.decide_models.proofs.Agreement.{node_at, term_at_node, value_or}
use Rattle.decide_models.proofs.Lists.{slice_get-range}
use Rattle.decide_models.proofs.Steps.{position_first, slice_within, item_there}
use Rattle.decide_reading.specs.declared.columns.Columns.{Columns}
use Rattle.decide_reading.specs.Columns.{is_tree_of, number_in, is_pair_of, at_or, assignment_by, is_same_pair, value_by, literal_by, noun_by, fact_by, IsNoun, IsFactOf, IsSo, entry_by, AreFound, AreTyped}
use Rattle.decide_reading.proofs.Steps.{position_same}

at_own : {X : Type 0} (xs : List X) (o : Option ℕ) (k : ℕ) (d : X) → o ≡ Some k → at_or xs o d ≡ unwrap_or (slice_get xs k) d
at_own xs o k d e = ap (λ o. at_or xs o d) e

module _ (terms : List TermNode) (placed : ArePlaced terms) (once : AreOnce terms) where
  -- the tree of a term's number is that term
  own_tree : (id : ℕ) → IsOne terms id → tree_of terms id ≡ one (term_of terms id)
  own_tree id h =
      let (n, e, own) = node_at terms id true h in
      let tree = tree_of-at terms id n placed e in
      tree ∙ (by n own ∙ ap (λ t. one t) (sym (ap term_part tree)))
    where
      by : (n : TermNode) → is_one n ≡ true → tree_from (trees_of terms) n ≡ one (term_part (tree_from (trees_of terms) n))
      by (Constant sort) own = refl
      by (Skolem i sort ts) own = refl
      by (Field h t) own = refl
      by NoTerms own = cc
      by (Cons t ts) own = cc

  -- a tree that is a term is the tree of a term's number
  tree_is_one : (id : ℕ) (t : GroundTerm) → id < length terms → is_tree_of t (tree_of terms id) ≡ true → IsOne terms id × (term_of terms id ≡ t)
  tree_is_one id t lt h = by (slice_get terms id) refl
    where
      shape : (n : TermNode) → slice_get terms id ≡ Some n → is_tree_of t (tree_from (trees_of terms) n) ≡ true → (is_one n ≡ true) × (term_part (tree_from (trees_of terms) n) ≡ t)
      shape (Constant sort) e h = (refl, sym (same_term t (constant sort) h))
      shape (Skolem i sort ts) e h = (refl, sym (same_term t _ h))
      shape (Field k u) e h = (refl, sym (same_term t _ h))
      shape NoTerms e h = cc
      shape (Cons u us) e h = cc

      by : (o : Option TermNode) → slice_get terms id ≡ o → IsOne terms id × (term_of terms id ≡ t)
      by None e = let some : slice_get terms id ≡ Some (get_or terms id NoTerms) = slice_get-get_or terms id NoTerms lt in cc
      by (Some n) e =
          let s = shape n e (ap (is_tree_of t) (sym (tree_of-at terms id n placed e)) ∙ h) in
          (ap (option_map is_one) e ∙ ap (λ b. Some b) s.0, term_at_node terms id n placed e ∙ s.1)

  -- a term has its own number
  pub own_number : (id : ℕ) → IsOne terms id → number_in terms (term_of terms id) ≡ Some id
  own_number id h =
      let t = term_of terms id in
      let within = node_at terms id true h in
      let lt : id < length (trees_of terms) = omega (arith, length-trees_of terms, slice_within terms id within.0 within.1) in
      position_first (is_tree_of t) (trees_of terms) id (some no_terms) lt (λ k less. apart k less (is_tree_of t (tree_of terms k)) refl)
      (ap (is_tree_of t) (own_tree id h) ∙ same_itself t)
    where
      apart : (k : ℕ) → k < id → (b : Bool) → is_tree_of (term_of terms id) (tree_of terms k) ≡ b → is_tree_of (term_of terms id) (tree_of terms k) ≡ false
      apart k less false e = e
      apart k less true e =
          let within = node_at terms id true h in
          let lt : k < length terms = omega (arith, slice_within terms id within.0 within.1) in
          let (is_term, same) = tree_is_one k (term_of terms id) lt e in
          let test : (k == id) ≡ true = one_number terms placed once k id is_term h ∙ (ap (λ t. is_same_term t (term_of terms id)) same ∙ same_itself (term_of terms id)) in
          absurd (omega (arith, eqb-true k id test))

  module _ (nodes : List Node) (formed : formula.ArePlaced nodes) (pairs : List PairNode) (are : ArePairs terms pairs) (c : Columns) where
    abbrev a : Assignment
    a = assignment_by terms pairs c

    pub there_same : (id : ℕ) → IsOne terms id → a.there (term_of terms id) ≡ unwrap_or (slice_get c.there id) false
    there_same id h = at_own c.there (number_in terms (term_of terms id)) id false (own_number id h)

    pub value_same : (id : ℕ) → IsOne terms id → a.value (term_of terms id) ≡ value_by c id
    value_same id h = at_own c.values (number_in terms (term_of terms id)) id (Flag false) (own_number id h)

    pair_ones : (ps : List PairNode) → ArePairs terms ps → (q : PairNode) → Contains ps q → IsOne terms q.holder × IsOne terms q.member
    pair_ones [] h q there = Contains-none q there
    pair_ones (p ∷ ps) h q there =
        let P : PairNode → Type 0 = λ q. IsOne terms q.holder × IsOne terms q.member in
        elim (Contains-cons_cases p ps q there) [ inl e ↦ subst P e h.0 | inr later ↦ pair_ones ps h.1 q later ]

    pub has_same : (p : PairNode) → IsOne terms p.holder → IsOne terms p.member
        → a.has p.relation (term_of terms p.holder) (term_of terms p.member) ≡ at_or c.related (position (is_same_pair p) pairs) false
    has_same p h k =
        ap (λ o. at_or c.related o false)
        (position_same (is_pair_of terms p.relation (term_of terms p.holder) (term_of terms p.member)) (is_same_pair p) pairs
        (λ q there.
        let (is_holder, is_member) = pair_ones pairs are q there in
        let left : is_same_term (term_of terms p.holder) (term_of terms q.holder) ≡ (p.holder == q.holder) = sym (one_number terms placed once p.holder q.holder h is_holder) in
        let right : is_same_term (term_of terms p.member) (term_of terms q.member) ≡ (p.member == q.member) = sym (one_number terms placed once p.member q.member k is_member) in cc))

    noun_same : (v : Value) → IsNoun nodes terms v → noun_value a (noun_at nodes terms v) ≡ noun_by nodes c v
    noun_same (Term id) h = value_same id h
    noun_same (Literal id) h =
        let n = get_or nodes id node.No in
        let e : slice_get nodes id ≡ Some n = slice_get-get_or nodes id node.No h in
        ap (λ t. noun_value a (noun_of (literal_of (formula.term_part t)))) (shown.tree_of-at nodes id n formed e) ∙ (by n ∙ sym (ap literal_by e))
      where
        by : (n : Node) → noun_value a (noun_of (literal_of (formula.term_part (formula.tree_from (formula.trees_of nodes) n)))) ≡ literal_by (Some n)
        by (node.Bound sort depth) = refl
        by (node.Num n) = refl
        by (node.Str t) = refl
        by (node.App f t) = refl
        by node.Yes = refl
        by node.No = refl
        by (node.Eq s t) = refl
        by (node.Less s t) = refl
        by (node.Has f s t) = refl
        by (node.Flag f t) = refl
        by (node.Present f t) = refl
        by (node.Not b) = refl
        by (node.And b d) = refl
        by (node.Or b d) = refl
        by (node.Exists sort b) = refl
        by (node.Forall sort b) = refl

    -- a fact is so in the assignment where it is by the columns
    pub fact_same : (p : FactNode) → IsFactOf nodes terms p → is_fact a (fact_at nodes terms p) ≡ fact_by nodes pairs c p
    fact_same (There id) h = there_same id h
    fact_same (Same v w) h =
        ap (λ x. are_equal x (noun_value a (noun_at nodes terms w))) (noun_same v h.0) ∙ ap (are_equal (noun_by nodes c v)) (noun_same w h.1)
    fact_same (Below v w) h =
        ap (λ x. both_pass int_lt (number_of x) (number_of (noun_value a (noun_at nodes terms w)))) (noun_same v h.0)
        ∙ ap (λ x. both_pass int_lt (number_of (noun_by nodes c v)) (number_of x)) (noun_same w h.1)
    fact_same (Raised id) h = ap is_raised (value_same id h)
    fact_same (Related p) h = has_same p h.0 h.1
    fact_same (Empty sort) h = refl

    pub so_same : (p : FactNode) (value : Bool) → IsSo nodes terms pairs c p value → value ≡ is_fact a (fact_at nodes terms p)
    so_same p value h = h.is ∙ sym (fact_same p h.proper)

    -- it is typed where the columns are
    pub typed_same : (g : Signature) (w : Words) → AreTyped g terms c (w.named.items ++ w.others.items) → IsTyped g (vocabulary_at terms w) a
    typed_same g w typed t range there kind =
        let listed : Contains (terms_at terms (w.named.items ++ w.others.items)) t = subst (λ ts. Contains ts t) (sym (joined w.named.items w.others.items)) there in
        let (id, own, same) = in_map (term_of terms) (w.named.items ++ w.others.items) t listed in
        let (k, at) = place (w.named.items ++ w.others.items) id own in
        let h = typed k id at in
        let P : GroundTerm → Type 0 = λ t. IsOfRange range (a.value t) in
        let Q : SVal → Type 0 = λ x. IsOfRange range x in
        subst P same (subst Q (sym (value_same id h.one)) (h.typed range (ap (range_of g) same ∙ kind)))
      where
        joined : (xs ys : List ℕ) → terms_at terms (xs ++ ys) ≡ terms_at terms xs ++ terms_at terms ys
        joined [] ys = refl
        joined (x ∷ xs) ys = ap (λ ts. term_of terms x ∷ ts) (joined xs ys)

        place : (xs : List ℕ) (x : ℕ) → Contains xs x → (k : ℕ) × (slice_get xs k ≡ Some x)
        place xs x h = (h.0, slice_get-get_or xs h.0 x h.1 ∙ ap (λ y. Some y) h.2)

    -- and what was found is its table
    pub found_same : (g : Signature) (found : Found) → AreFound terms pairs c found → IsFound g terms pairs found (table_for a)
    found_same g found h = record {
      values = λ id is_term.
          let within = node_at terms id true is_term in
          let lt : id < length terms = slice_within terms id within.0 within.1 in
          ap (λ b. cond b (Some (a.value (term_of terms id))) None) (there_same id is_term)
          ∙ (ap (λ x. cond (unwrap_or (slice_get c.there id) false) (Some x) None) (value_same id is_term)
          ∙ sym (value_or (slice_get found.values id) (entry_by c id) None (ap (λ xs. slice_get xs id) h.values ∙ slice_get-range (entry_by c) (length terms) id lt)));
      constants = λ sort x e. constant_there sort (number_in terms (constant sort)) refl (there_from (a.there (constant sort)) (a.value (constant sort)) x e);
      related = λ k p e.
          let (is_holder, is_member) = pair_ones pairs are p (item_there pairs k p e) in
          has_same p is_holder is_member
          ∙ sym (value_or (slice_get found.related k) (at_or c.related (position (is_same_pair p) pairs) false) false
          (ap (λ xs. slice_get xs k) h.related ∙ mapped (λ p. at_or c.related (position (is_same_pair p) pairs) false) pairs k p e));
      empty = λ sort lt. ap (λ xs. unwrap_or (slice_get xs sort) false) (sym h.empty);
    }
      where
        there_from : (b : Bool) (y x : SVal) → cond b (Some y) None ≡ Some x → b ≡ true
        there_from true y x e = refl
        there_from false y x e = cc

        mapped : (f : PairNode → Bool) (ps : List PairNode) (k : ℕ) (p : PairNode) → slice_get ps k ≡ Some p → slice_get (map f ps) k ≡ Some (f p)
        mapped f [] k p e = cc
        mapped f (q ∷ ps) zero p e = let same : q ≡ p = cc in ap (λ p. Some (f p)) same
        mapped f (q ∷ ps) (suc k) p e = mapped f ps k p e

        constant_there : (sort : ℕ) (o : Option ℕ) → number_in terms (constant sort) ≡ o → at_or c.there (number_in terms (constant sort)) false ≡ true
            → (id : ℕ) × (slice_get terms id ≡ Some (Constant sort))
        constant_there sort None e h = let no : at_or c.there (number_in terms (constant sort)) false ≡ false = ap (λ o. at_or c.there o false) e in cc
        constant_there sort (Some id) e h =
            let at = position-Some (is_tree_of (constant sort)) (trees_of terms) id (some no_terms) e in
            let lt : id < length terms = omega (arith, length-trees_of terms, at.0) in
            let (is_term, same) = tree_is_one id (constant sort) lt at.1 in
            let (n, there, own) = node_at terms id true is_term in
            (id, there ∙ ap (λ n. Some n) (shape n own (sym (term_at_node terms id n placed there) ∙ same)))
          where
            shape : (n : TermNode) → is_one n ≡ true → term_part (tree_from (trees_of terms) n) ≡ constant sort → n ≡ Constant sort
            shape (Constant s) own same = let e : s ≡ sort = cc in ap (λ s. Constant s) e
            shape (Skolem i s ts) own same = cc
            shape (Field k u) own same = cc
            shape NoTerms own same = cc
            shape (Cons u us) own same = cc

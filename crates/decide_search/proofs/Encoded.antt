-- Where a lawful model makes clauses on facts true, their encoding has a lawful assignment.
use Rattle.std.proofs.Common.{◌≡◌, ℕ, zero, suc, ◌+◌, ◌<◌, Bool, true, false, ◌&&◌, ◌||◌, not, ◌⊎◌, inl, inr, refl, sym, ◌∙◌, List, [], ◌∷◌, ◌++◌, Some, None, length, get_or, map, ap, subst, arith, cond, Contains, slice_get, ℤ, ◌+ℤ◌, length-append, IsTrue, All}
use Rattle.std.specs.Prelude.{int_lt, replicate}
use Rattle.std.specs.List.{range_with_len, list_all}
use Rattle.std.specs.Ordering.{int_eq}
use Rattle.std.proofs.lemmas.Int.{ints}
use Rattle.std.proofs.lemmas.List.{get_or_append_left}
use Rattle.std.proofs.lemmas.List.Elements.{All-nil, All-cons}
use Rattle.std.proofs.lemmas.List.FromFn.{get_or-map-range_with_len, length-map-range_with_len}
use Rattle.solve_equality.specs.Equality.{is_classes, meets_literal}
use Rattle.solve_equality.specs.declared.literal.EqualityLit.{EqualityLit}
use Rattle.solve_equality.specs.declared.literal.EqualityLit.TheVariants as equality
use Rattle.solve_order.specs.Difference.{meets, value_of}
use Rattle.solve_order.specs.declared.diff.Diff.{Diff}
use Rattle.solve_theory.specs.Pair.{meets_own}
use Rattle.solve_theory.specs.declared.pair.PairLit.{PairLit}
use Rattle.solve_solver.specs.Assignment.{literal_value, meets_clause, theory_literals, value_at}
use Rattle.solve_solver.specs.declared.literal.PLit.{PLit}
use Rattle.decide_search.specs.Mixed.{Atom, IsMixed}
use Rattle.ground_gates.specs.Gates.{literal_value as gate_literal_value}
use Rattle.ground_gates.specs.Clauses.{meets_clause as gate_meets_clause}
use Rattle.ground_gates.specs.declared.gate.Literal.{Literal}
use Rattle.form_formula.specs.declared.node.Node.{Node}
use Rattle.form_formula.specs.declared.structure.Signature.{Signature}
use Rattle.ground_terms.specs.declared.node.TermNode.{TermNode}
use Rattle.form_terms.proofs.Kept.{All-from}
use Rattle.form_terms.proofs.Listed.{in_map}
use Rattle.form_terms.proofs.Lists.{list_all-Contains, Contains-head, Contains-tail, Contains-none, Contains-cons_cases}
use Rattle.form_tables.specs.Facts.{is_fact}
use Rattle.form_tables.specs.Models.{Model, IsLawful, assignment_of}
use Rattle.ground_problem.specs.Words.{vocabulary_at}
use Rattle.ground_problem.specs.declared.words.Words.{Words}
use Rattle.ground_problem.specs.declared.facts.FactNode.{FactNode}
use Rattle.ground_problem.specs.declared.facts.FactNode.TheVariants.{There, Same, Below, Raised, Related, Empty}
use Rattle.ground_problem.specs.Facts.{fact_at}
use Rattle.decide_models.proofs.Steps.{slice_within}
use Rattle.decide_search.specs.Encoding.{IsAtomOf, AreAtomsOf, AreAtomsFor, IsHalved, AreLinked, link_clauses, positive, negative}
use Rattle.decide_search.specs.Problem.{plit_of, HaveValues}
use Rattle.decide_search.proofs.ModelColumns.{class_column, number_column, below_difference, above_difference, same_numbers, lower_numbers, same_met, numbers_fit}

pub range_split : (i m n : ℕ) → range_with_len i (m + n) ≡ range_with_len i m ++ range_with_len (i + m) n
range_split i zero n = let none : i + 0 ≡ i = omega arith in let less : 0 + n ≡ n = omega arith in ap (range_with_len i) less ∙ sym (ap (λ k. range_with_len k n) none)
range_split i (suc m) n =
    let next : suc m + n ≡ suc (m + n) = omega arith in
    let moved : i + 1 + m ≡ i + suc m = omega arith in
    ap (range_with_len i) next ∙ ap (λ ks. i ∷ ks) (range_split (i + 1) m n ∙ ap (λ k. range_with_len (i + 1) m ++ range_with_len k n) moved)

pub map-append : {X Y : Type 0} (f : X → Y) (xs ys : List X) → map f (xs ++ ys) ≡ map f xs ++ map f ys
map-append f [] ys = refl
map-append f (x ∷ xs) ys = ap (λ zs. f x ∷ zs) (map-append f xs ys)

length-map : {X Y : Type 0} (f : X → Y) (xs : List X) → length (map f xs) ≡ length xs
length-map f [] = refl
length-map f (x ∷ xs) = ap suc (length-map f xs)

length-replicate : {X : Type 0} (x : X) (n : ℕ) → length (replicate n x) ≡ n
length-replicate x zero = refl
length-replicate x (suc n) = ap suc (length-replicate x n)

and_both : (p q : Bool) → p ≡ true → q ≡ true → (p && q) ≡ true
and_both true q h k = k
and_both false q h k = cc

-- two numbers are one, or one is below the other
apart_or_one : (x y : ℤ) → (int_eq x y || (int_lt x y || (int_lt y x || false))) ≡ true
apart_or_one x y = grind (arith, ints)

one_not_below : (x y : ℤ) → (not (int_eq x y) || (not (int_lt x y) || false)) ≡ true
one_not_below x y = grind (arith, ints)

one_not_above : (x y : ℤ) → (not (int_eq x y) || (not (int_lt y x) || false)) ≡ true
one_not_above x y = grind (arith, ints)

abbrev pub if_true : Bool → PairLit EqualityLit Diff × PairLit EqualityLit Diff → PairLit EqualityLit Diff
if_true true pair = pair.0
if_true false pair = pair.1

abbrev pub same_lit : ℕ → ℕ → EqualityLit
same_lit c d = equality.Same c d

pub cases-append : {X : Type 0} (xs ys : List X) (x : X) → Contains (xs ++ ys) x → Contains xs x ⊎ Contains ys x
cases-append [] ys x h = inr h
cases-append {X} (z ∷ xs) ys x h =
    elim (Contains-cons_cases z (xs ++ ys) x h) [
      | inl e ↦ let P : X → Type 0 = λ x. Contains (z ∷ xs) x in inl (subst P e (Contains-head z xs))
      | inr rest ↦ elim (cases-append xs ys x rest) [ inl left ↦ inl (Contains-tail z xs x left) | inr right ↦ inr right ]
    ]

module _ (g : Signature) (nodes : List Node) (terms : List TermNode) (w : Words) (texts : List (List ℕ)) (spare : ℕ → List ℕ) (m : Model) (law : IsLawful g texts spare m (vocabulary_at terms w)) where
  abbrev pub own : FactNode → Bool
  own p = is_fact (assignment_of g texts spare m) (fact_at nodes terms p)

  abbrev pub C : List ℕ
  C = class_column g nodes terms w texts spare m law

  abbrev pub N : List ℤ
  N = number_column g nodes terms w texts spare m law

  abbrev pub is_met : PairLit EqualityLit Diff → Bool
  is_met l = meets_own meets_literal meets (C, N) l

  -- the literal for the value of a fact is met
  atom_met : (p : FactNode) (pair : PairLit EqualityLit Diff × PairLit EqualityLit Diff) → IsAtomOf g nodes terms w texts p pair → IsTrue (is_met (if_true (own p) pair))
  atom_met (There id) pair h = absurd h
  atom_met (Same x y) pair h = by (own (Same x y)) refl
    where
      same : own (Same x y) ≡ meets_literal C (same_lit h.left h.right)
      same = same_met g nodes terms w texts spare m law x y true h.left h.right h.sides

      by : (b : Bool) → own (Same x y) ≡ b → IsTrue (is_met (if_true b pair))
      by true e = ap is_met h.when_true ∙ (sym same ∙ e)
      by false e = ap is_met h.when_false ∙ ap not (sym same ∙ e)
  atom_met (Below x y) pair h = by (own (Below x y)) refl
    where
      less : own (Below x y) ≡ int_lt (value_of N h.x +ℤ h.o) (value_of N h.y +ℤ h.q)
      less = lower_numbers g nodes terms w texts spare m law x y h.x h.y h.o h.q h.left h.right

      by : (b : Bool) → own (Below x y) ≡ b → IsTrue (is_met (if_true b pair))
      by true e = ap is_met h.when_true ∙ (below_difference (value_of N h.x) (value_of N h.y) h.o h.q ∙ (sym less ∙ e))
      by false e = ap is_met h.when_false ∙ (above_difference (value_of N h.x) (value_of N h.y) h.o h.q ∙ ap not (sym less ∙ e))
  atom_met (Raised id) pair h = absurd h
  atom_met (Related p) pair h = absurd h
  atom_met (Empty sort) pair h = absurd h

  -- and so are all of a list
  abbrev AreMet : List Bool → List Atom → Type 0
  AreMet [] ls = Unit {0}
  AreMet (b ∷ bs) [] = Unit {0}
  AreMet (b ∷ bs) (None ∷ ls) = AreMet bs ls
  AreMet (b ∷ bs) (Some pair ∷ ls) = IsTrue (is_met (if_true b pair)) × AreMet bs ls

  met_all : (bs : List Bool) (ls : List Atom) → AreMet bs ls → All (λ l. IsTrue (is_met l)) (theory_literals bs ls)
  met_all [] ls h = All-nil (λ l. IsTrue (is_met l))
  met_all (b ∷ bs) [] h = All-nil (λ l. IsTrue (is_met l))
  met_all (b ∷ bs) (None ∷ ls) h = met_all bs ls h
  met_all (true ∷ bs) (Some pair ∷ ls) h = All-cons (λ l. IsTrue (is_met l)) pair.0 (theory_literals bs ls) h.0 (met_all bs ls h.1)
  met_all (false ∷ bs) (Some pair ∷ ls) h = All-cons (λ l. IsTrue (is_met l)) pair.1 (theory_literals bs ls) h.0 (met_all bs ls h.1)

  met_append : (bs cs : List Bool) (ls ds : List Atom) → length bs ≡ length ls → AreMet bs ls → AreMet cs ds → AreMet (bs ++ cs) (ls ++ ds)
  met_append [] cs [] ds e h k = k
  met_append [] cs (o ∷ ls) ds e h k = absurd (omega arith)
  met_append (b ∷ bs) cs [] ds e h k = absurd (omega arith)
  met_append (b ∷ bs) cs (None ∷ ls) ds e h k = met_append bs cs ls ds (omega arith) h k
  met_append (b ∷ bs) cs (Some pair ∷ ls) ds e h k = (h.0, met_append bs cs ls ds (omega arith) h.1 k)

  none_met : (bs : List Bool) (n : ℕ) → AreMet bs (replicate n None)
  none_met [] n = tt
  none_met (b ∷ bs) zero = tt
  none_met (b ∷ bs) (suc n) = none_met bs n

  own_met : (ps : List FactNode) (ls : List Atom) → AreAtomsOf g nodes terms w texts ps ls → AreMet (map own ps) ls
  own_met [] [] h = tt
  own_met [] (o ∷ ls) h = absurd h
  own_met (p ∷ ps) [] h = absurd h
  own_met (p ∷ ps) (None ∷ ls) h = own_met ps ls h.1
  own_met (p ∷ ps) (Some pair ∷ ls) h = (atom_met p pair h.0, own_met ps ls h.1)

  own_long : (ps : List FactNode) (ls : List Atom) → AreAtomsOf g nodes terms w texts ps ls → length ps ≡ length ls
  own_long [] [] h = refl
  own_long [] (o ∷ ls) h = absurd h
  own_long (p ∷ ps) [] h = absurd h
  own_long (p ∷ ps) (o ∷ ls) h = ap suc (own_long ps ls h.1)

  module _ (vars : ℕ) (facts halves : List FactNode) (values : ℕ → Bool) (have : HaveValues nodes terms facts (assignment_of g texts spare m) values) where
    abbrev pub assignment : List Bool
    assignment = map values (range_with_len 0 vars) ++ map own halves

    plain : length (map values (range_with_len 0 vars)) ≡ vars
    plain = length-map-range_with_len values 0 vars

    pub long : length assignment ≡ vars + length halves
    long = length-append (map values (range_with_len 0 vars)) (map own halves) ∙ (ap (λ n. n + length (map own halves)) plain ∙ ap (λ n. vars + n) (length-map own halves))

    value_below : (x : ℕ) → x < vars → value_at assignment x ≡ values x
    value_below x lt =
        get_or_append_left (map values (range_with_len 0 vars)) (map own halves) false x (omega (arith, plain)) ∙ get_or-map-range_with_len values 0 vars x x false lt (omega arith)

    value_behind : (k : ℕ) (p : FactNode) → slice_get halves k ≡ Some p → value_at assignment (vars + k) ≡ own p
    value_behind k p e =
        ap (λ n. get_or assignment (n + k) false) (sym plain) ∙ (behind (map values (range_with_len 0 vars)) (map own halves) k ∙ mapped halves k e)
      where
        behind : (xs ys : List Bool) (j : ℕ) → get_or (xs ++ ys) (length xs + j) false ≡ get_or ys j false
        behind [] ys j = let none : 0 + j ≡ j = omega arith in ap (λ n. get_or ys n false) none
        behind (x ∷ xs) ys j = let next : suc (length xs) + j ≡ suc (length xs + j) = omega arith in ap (λ n. get_or (x ∷ xs ++ ys) n false) next ∙ behind xs ys j

        mapped : (ps : List FactNode) (j : ℕ) → slice_get ps j ≡ Some p → get_or (map own ps) j false ≡ own p
        mapped [] j e = cc
        mapped (q ∷ ps) zero e = let same : q ≡ p = cc in ap own same
        mapped (q ∷ ps) (suc j) e = mapped ps j e

    -- clauses on the variables below are met where the values meet them
    plit_same : (l : Literal) → l.var < vars → literal_value assignment (plit_of l) ≡ gate_literal_value values l
    plit_same l lt = by l.plus (value_below l.var lt)
      where
        by : (plus : Bool) → value_at assignment l.var ≡ values l.var
            → literal_value assignment (record { var = l.var; plus = plus }) ≡ cond plus (values l.var) (not (values l.var))
        by true e = e
        by false e = ap not e

    pub clause_same : (c : List Literal) → ((l : Literal) → Contains c l → l.var < vars) → meets_clause assignment (map plit_of c) ≡ gate_meets_clause values c
    clause_same [] h = refl
    clause_same (l ∷ c) h =
        let here = plit_same l (h l (Contains-head l c)) in
        let later = clause_same c (λ k there. h k (Contains-tail l c k there)) in cc

    -- those that link an equality and its halves are met
    pub link_met : (x e : ℕ) → length facts < vars + 1 → IsHalved g nodes terms w texts vars facts halves x e → (c : List PLit) → Contains (link_clauses x e) c → meets_clause assignment c ≡ true
    link_met x e room h c there =
        let one : value_at assignment x ≡ own (Same h.v h.u) =
        value_below x (omega (arith, slice_within facts x (Same h.v h.u) h.same_there)) ∙ have x (Same h.v h.u) h.same_there in
        let two : value_at assignment e ≡ own (Below h.v h.u) = ap (value_at assignment) h.halves_at ∙ value_behind h.half (Below h.v h.u) h.below_there in
        let moved : vars + h.half + 1 ≡ vars + (h.half + 1) = omega arith in
        let three : value_at assignment (e + 1) ≡ own (Below h.u h.v) =
        ap (λ e. value_at assignment (e + 1)) h.halves_at ∙ (ap (value_at assignment) moved ∙ value_behind (h.half + 1) (Below h.u h.v) h.above_there) in
        let A = value_of N h.left.0 +ℤ h.left.1 in
        let B = value_of N h.right.0 +ℤ h.right.1 in
        let p : value_at assignment x ≡ int_eq A B = one ∙ same_numbers g nodes terms w texts spare m law h.v h.u h.left.0 h.right.0 h.left.1 h.right.1 h.left.2 h.right.2 in
        let q : value_at assignment e ≡ int_lt A B = two ∙ lower_numbers g nodes terms w texts spare m law h.v h.u h.left.0 h.right.0 h.left.1 h.right.1 h.left.2 h.right.2 in
        let r : value_at assignment (e + 1) ≡ int_lt B A = three ∙ lower_numbers g nodes terms w texts spare m law h.u h.v h.right.0 h.left.0 h.right.1 h.left.1 h.right.2 h.left.2 in
        let P : List PLit → Type 0 = λ c. meets_clause assignment c ≡ true in
        let one_of : List PLit = positive x ∷ positive e ∷ positive (e + 1) ∷ [] in
        let not_below : List PLit = negative x ∷ negative e ∷ [] in
        let not_above : List PLit = negative x ∷ negative (e + 1) ∷ [] in
        let b = value_at assignment e in
        let d = value_at assignment (e + 1) in
        elim (Contains-cons_cases one_of (not_below ∷ not_above ∷ []) c there) [
          | inl same ↦ subst P same (ap (λ z. z || (b || (d || false))) p ∙ (ap (λ z. int_eq A B || (z || (d || false))) q ∙ (ap (λ z. int_eq A B || (int_lt A B || (z || false))) r ∙ apart_or_one A B)))
          | inr rest ↦ elim (Contains-cons_cases not_below (not_above ∷ []) c rest) [
            | inl same ↦ subst P same (ap (λ z. not z || (not b || false)) p ∙ (ap (λ z. not (int_eq A B) || (not z || false)) q ∙ one_not_below A B))
            | inr last ↦ elim (Contains-cons_cases not_above [] c last) [
              | inl same ↦ subst P same (ap (λ z. not z || (not d || false)) p ∙ (ap (λ z. not (int_eq A B) || (not z || false)) r ∙ one_not_above A B))
              | inr none ↦ Contains-none c none
            ]
          ]
        ]

    own_values : (i : ℕ) (ps : List FactNode) → ((k : ℕ) (p : FactNode) → slice_get ps k ≡ Some p → values (i + k) ≡ own p) → map values (range_with_len i (length ps)) ≡ map own ps
    own_values i [] h = refl
    own_values i (p ∷ ps) h =
        let none : i + 0 ≡ i = omega arith in
        let here : values i ≡ own p = sym (ap values none) ∙ h 0 p refl in
        let later = own_values (i + 1) ps (λ k q e. let next : i + 1 + k ≡ i + suc k = omega arith in ap values next ∙ h (suc k) q e) in cc

    -- and the literals of facts have a model
    pub literals_met : (atoms : List Atom) → AreAtomsFor g nodes terms w texts vars facts halves atoms → All (λ l. IsTrue (is_met l)) (theory_literals assignment atoms)
    literals_met atoms h =
        let mid = map own facts in
        let right = map values (range_with_len (0 + length facts) h.gap) in
        let halved : map values (range_with_len 0 vars) ≡ mid ++ right =
        ap (λ n. map values (range_with_len 0 n)) (sym h.to_gap)
        ∙ (ap (map values) (range_split 0 (length facts) h.gap)
        ∙ (map-append values (range_with_len 0 (length facts)) (range_with_len (0 + length facts) h.gap)
        ∙ ap (λ bs. bs ++ right) (own_values 0 facts (λ k p e. let none : 0 + k ≡ k = omega arith in ap values none ∙ have k p e)))) in
        let own_are = own_long facts h.own h.own_are in
        let none_gap : List Atom = replicate h.gap None in
        let right_long : length right ≡ length none_gap = length-map-range_with_len values (0 + length facts) h.gap ∙ sym (length-replicate None h.gap) in
        let mid_long : length mid ≡ length h.own = length-map own facts ∙ own_are in
        let front_met = met_append mid right h.own none_gap mid_long (own_met facts h.own h.own_are) (none_met right h.gap) in
        let front_long : length (mid ++ right) ≡ length (h.own ++ none_gap) =
        omega (arith, length-append mid right, length-append h.own none_gap, right_long, mid_long) in
        let all_met = met_append (mid ++ right) (map own halves) (h.own ++ none_gap) h.others front_long front_met (own_met halves h.others h.others_are) in
        let P : List Bool → Type 0 = λ bs. AreMet (bs ++ map own halves) atoms in
        let Q : List Atom → Type 0 = λ ls. AreMet ((mid ++ right) ++ map own halves) ls in
        met_all assignment atoms (subst P (sym halved) (subst Q (sym h.whole) all_met))

    -- so there is a lawful assignment
    pub mixed : (fixed : List ℕ) (clauses : List (List Literal)) (links : List (List PLit)) (atoms : List Atom) → AreAtomsFor g nodes terms w texts vars facts halves atoms
        → AreLinked g nodes terms w texts vars facts halves links → IsTrue (list_all (gate_meets_clause values) clauses)
        → ((c : List Literal) (l : Literal) → Contains clauses c → Contains c l → l.var < vars)
        → IsTrue (is_classes (length terms + length texts) fixed C)
        → IsMixed (length terms + length texts) fixed (length terms + 1) (vars + length halves) (map (map plit_of) clauses ++ links) atoms assignment
    mixed fixed clauses links atoms are linked meet bounded classes = record {
      one_each = long;
      meets_each = All-from (λ clause. IsTrue (meets_clause assignment clause)) (map (map plit_of) clauses ++ links)
          (λ clause there. elim (cases-append (map (map plit_of) clauses) links clause there) [
            | inl own_clause ↦
                let (c, listed, same) = in_map (map plit_of) clauses clause own_clause in
                ap (meets_clause assignment) (sym same) ∙ (clause_same c (λ l k. bounded c l listed k) ∙ list_all-Contains (gate_meets_clause values) clauses c meet listed)
            | inr link ↦ let (x, e, halved, listed) = linked.linked clause link in link_met x e (omega (arith, are.to_gap)) halved clause listed
          ]);
      has_model = record {
        model = (C, N);
        fits = record { is_model = and_both _ _ classes (numbers_fit g nodes terms w texts spare m law); meets_each = literals_met atoms are };
      };
    }

-- What the solver's answers say of the clauses.
use Rattle.std.proofs.Common.{Vec, Global, ◌≡◌, ℕ, zero, suc, ◌+◌, ◌-◌, ◌<◌, Bool, true, false, not, inl, inr, refl, sym, ◌∙◌, List, [], ◌∷◌, ◌++◌, Option, Some, None, Result, Ok, Err, IfOk, IfSome, length, get_or, map, ap, subst, arith, cond, Contains, slice_get, IsTrue, All}
use Rattle.std.specs.Prelude.{unwrap_or}
use Rattle.std.specs.List.{range_with_len}
use Rattle.std.proofs.lemmas.Option.{slice_get-get_or}
use Rattle.solve_equality.specs.Equality.{is_classes}
use Rattle.solve_solver.specs.Assignment.{literal_value, meets_clause, value_at}
use Rattle.solve_solver.specs.declared.literal.PLit.{PLit}
use Rattle.decide_search.specs.Mixed.{Atom, IsMixed, IsMixture}
use Rattle.decide_search.specs.declared.mixture.Mixture.{Mixture}
use Rattle.ground_gates.specs.Gates.{literal_value as gate_literal_value}
use Rattle.ground_gates.specs.Clauses.{meets_clause as gate_meets_clause}
use Rattle.ground_gates.specs.declared.gate.Literal.{Literal}
use Rattle.form_formula.specs.declared.node.Node.{Node}
use Rattle.form_formula.specs.declared.structure.Signature.{Signature}
use Rattle.ground_terms.specs.declared.node.TermNode.{TermNode}
use Rattle.form_terms.proofs.Kept.{All-Contains, list_all-from}
use Rattle.form_terms.proofs.Listed.{in_map, to_map}
use Rattle.form_terms.proofs.Lists.{range-within}
use Rattle.ground_problem.specs.declared.words.Words.{Words}
use Rattle.ground_problem.specs.declared.facts.FactNode.{FactNode}
use Rattle.std.proofs.lemmas.List.Elements.{Contains-append_left, Contains-append_right}
use Rattle.decide_search.specs.Encoding.{AreAtomsFor, AreLinked}
use Rattle.decide_search.specs.Problem.{AreBelow, AreSolved, IsNowhere, IsPlainlyMixed, plit_of}
use Rattle.ground_problem.specs.declared.facts.FactLiteral.{FactLiteral}
use Rattle.decide_models.specs.declared.found.Found.{Found}
use Rattle.decide_search.specs.declared.round.Round.{Round}
use Rattle.decide_search.specs.declared.round.Round.TheVariants as round
use Rattle.decide_search.specs.Tabled.{IsRound}
use Rattle.decide_search.specs.Texts.{StandOnce}
use Rattle.decide_search.proofs.ModelColumns.{class_column, classes_fit}
use Rattle.decide_search.proofs.Encoded.{assignment, cases-append, map-append, mixed}

-- what holds of an answer, where it holds of what was given
pub ok_too : {T E : Type 0} (r : Result T E) (P Q : T → Type 0) → ((x : T) → P x → Q x) → IfOk r P → IfOk r Q
ok_too (Ok x) P Q h k = h x k
ok_too (Err e) P Q h k = tt

pub some_too : {T : Type 0} (o : Option T) (P Q : T → Type 0) → ((x : T) → P x → Q x) → IfSome o P → IfSome o Q
some_too (Some x) P Q h k = h x k
some_too None P Q h k = tt

index_or : (xs : List Bool) (i : ℕ) → unwrap_or (slice_get xs i) false ≡ get_or xs i false
index_or [] i = refl
index_or (x ∷ xs) zero = refl
index_or (x ∷ xs) (suc i) = index_or xs i

-- no lawful model makes the clauses true where their encoding has no lawful assignment
pub nowhere_by : (g : Signature) (nodes : List Node) (terms : List TermNode) (w : Words) (texts : List (List ℕ)) (vars : ℕ) (facts halves : List FactNode) (clauses : List (List Literal))
    (links : List (List PLit)) → StandOnce texts → AreLinked g nodes terms w texts vars facts halves links
    → (atoms : List Atom) × IsPlainlyMixed g nodes terms w texts vars facts halves clauses links atoms → IsNowhere g nodes terms w texts facts clauses
nowhere_by g nodes terms w texts vars facts halves clauses links once linked (atoms, h) =
    λ spare m values law have meet.
    let fixed = range_with_len (length terms) (length texts) in
    let classes : IsTrue (is_classes (length terms + length texts) fixed (class_column g nodes terms w texts spare m law)) =
    classes_fit g nodes terms w texts spare m law fixed (λ c there. placed c there) once in
    h.none (assignment g nodes terms w texts spare m law vars facts halves values have)
    (mixed g nodes terms w texts spare m law vars facts halves values have fixed clauses links atoms h.are linked meet h.bounded classes)
  where
    placed : (c : ℕ) → Contains (range_with_len (length terms) (length texts)) c → (j : ℕ) × (t : List ℕ) × (slice_get texts j ≡ Some t) × (c ≡ length terms + j)
    placed c there =
        let (low, high) = range-within (length terms) (length texts) c there in
        let j = c - length terms in
        let lt : j < length texts = omega arith in (j, get_or texts j [], slice_get-get_or texts j [] lt, omega arith)

-- the encoding's clauses are those that were asked for
pub plainly : (g : Signature) (nodes : List Node) (terms : List TermNode) (w : Words) (texts : List (List ℕ)) (vars t x n : ℕ) (facts halves : List FactNode) (left right : List (List Literal))
    (links all : List (List PLit)) (atoms : List Atom) → t ≡ length terms → x ≡ length texts → n ≡ vars + length halves
    → all ≡ (map (map plit_of) left ++ map (map plit_of) right) ++ links
    → AreAtomsFor g nodes terms w texts vars facts halves atoms
    → ((c : List Literal) → Contains left c → AreBelow vars c) → ((c : List Literal) → Contains right c → AreBelow vars c)
    → ((assignment : List Bool) → IsMixed (t + x) (range_with_len t x) (t + 1) n all atoms assignment → ⊥)
    → IsPlainlyMixed g nodes terms w texts vars facts halves (left ++ right) links atoms
plainly g nodes terms w texts vars t x n facts halves left right links all atoms p q r s are below above none = record {
  are = are;
  bounded = λ c l listed there. All-Contains (λ (l : Literal). l.var < vars) c l (elim (cases-append left right c listed) [ inl k ↦ below c k | inr k ↦ above c k ]) there;
  none = λ assignment h.
      let P : ℕ → Type 0 = λ t. IsMixed (t + length texts) (range_with_len t (length texts)) (t + 1) (vars + length halves) (map (map plit_of) (left ++ right) ++ links) atoms assignment in
      let Q : ℕ → Type 0 = λ x. IsMixed (t + x) (range_with_len t x) (t + 1) (vars + length halves) (map (map plit_of) (left ++ right) ++ links) atoms assignment in
      let R : ℕ → Type 0 = λ n. IsMixed (t + x) (range_with_len t x) (t + 1) n (map (map plit_of) (left ++ right) ++ links) atoms assignment in
      let S : List (List PLit) → Type 0 = λ cs. IsMixed (t + x) (range_with_len t x) (t + 1) n cs atoms assignment in
      let same : all ≡ map (map plit_of) (left ++ right) ++ links = s ∙ ap (λ cs. cs ++ links) (sym (map-append (map plit_of) left right)) in
      none assignment (subst S (sym same) (subst R (sym r) (subst Q (sym q) (subst P (sym p) h))));
}

-- and values that meet them meet these
pub solved_by : (n : ℕ) (left right : List (List Literal)) (links all : List (List PLit)) (m : Mixture) → all ≡ (map (map plit_of) left ++ map (map plit_of) right) ++ links → IsMixture n all m
    → AreSolved (left ++ right) m
solved_by n left right links all m s h = record {
  meet = list_all-from (gate_meets_clause (λ x. unwrap_or (slice_get m.values.items x) false)) (left ++ right) (λ c there.
      let P : List (List PLit) → Type 0 = λ cs. Contains cs (map plit_of c) in
      let listed : Contains ((map (map plit_of) left ++ map (map plit_of) right) ++ links) (map plit_of c) =
      Contains-append_left (map (map plit_of) left ++ map (map plit_of) right) links (map plit_of c)
      (elim (cases-append left right c there) [
        | inl k ↦ Contains-append_left (map (map plit_of) left) (map (map plit_of) right) (map plit_of c) (to_map (map plit_of) left c k)
        | inr k ↦ Contains-append_right (map (map plit_of) left) (map (map plit_of) right) (map plit_of c) (to_map (map plit_of) right c k)
      ]) in
      sym (same c) ∙ All-Contains (λ clause. IsTrue (meets_clause m.values.items clause)) all (map plit_of c) h.meets_each (subst P (sym s) listed));
}
  where
    one : (l : Literal) → literal_value m.values.items (plit_of l) ≡ gate_literal_value (λ x. unwrap_or (slice_get m.values.items x) false) l
    one l = by l.plus (index_or m.values.items l.var)
      where
        by : (plus : Bool) → unwrap_or (slice_get m.values.items l.var) false ≡ value_at m.values.items l.var
            → literal_value m.values.items (record { var = l.var; plus = plus }) ≡ cond plus (unwrap_or (slice_get m.values.items l.var) false) (not (unwrap_or (slice_get m.values.items l.var) false))
        by true e = sym e
        by false e = ap not (sym e)

    same : (c : List Literal) → meets_clause m.values.items (map plit_of c) ≡ gate_meets_clause (λ x. unwrap_or (slice_get m.values.items x) false) c
    same [] = refl
    same (l ∷ c) = let here = one l in let later = same c in cc

pub each_below : {V : Type 0} (items : V → List Literal) (bound : ℕ) (cs : List V) → All (λ v. AreBelow bound (items v)) cs → (c : List Literal) → Contains (map items cs) c → AreBelow bound c
each_below items bound cs h c there =
    let (v, listed, same) = in_map items cs c there in subst (λ (c : List Literal). AreBelow bound c) same (All-Contains (λ v. AreBelow bound (items v)) cs v h listed)

-- what holds of a round
pub round_too : (r : Round) (P P' : Found → Type 0) (Q Q' : List (List FactLiteral) → Type 0) → ((x : Found) → P x → P' x) → ((cs : List (List FactLiteral)) → Q cs → Q' cs) → IsRound P Q r → IsRound P' Q' r
round_too (round.Table found) P P' Q Q' h k is = h found is
round_too (round.Broken clauses) P P' Q Q' h k is = k (map (λ c. c.items) clauses.items) is

pub broken_round : (o : Option Round) (P : Found → Type 0) (Q : List (List FactLiteral) → Type 0) (r : Round) (clauses : Vec (Vec FactLiteral Global) Global) → o ≡ Some r → r ≡ round.Broken clauses
    → IfSome o (IsRound P Q) → Q (map (λ c. c.items) clauses.items)
broken_round o P Q r clauses e is h =
    let here : IsRound P Q r = subst (λ o. IfSome o (IsRound P Q)) e h in subst (λ r. IsRound P Q r) is here

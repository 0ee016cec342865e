-- The halves of equalities of numbers.
use Rattle.std.proofs.Common.{◌≡◌, ℕ, zero, suc, ◌+◌, ◌<◌, inl, inr, refl, sym, ◌∙◌, List, [], ◌∷◌, ◌++◌, Some, length, get_or, map, ap, subst, arith, Contains, slice_get, take, append_assoc, append-nil, IfSome}
use Rattle.form_formula.specs.declared.node.Node.{Node}
use Rattle.form_formula.specs.declared.structure.Signature.{Signature}
use Rattle.decide_search.specs.Mixed.{Atom}
use Rattle.solve_solver.specs.declared.literal.PLit.{PLit}
use Rattle.ground_terms.specs.declared.node.TermNode.{TermNode}
use Rattle.form_terms.proofs.Lists.{Contains-none}
use Rattle.ground_instances.specs.declared.input.Value.{Value}
use Rattle.ground_problem.specs.declared.words.Words.{Words}
use Rattle.ground_problem.specs.declared.facts.FactNode.{FactNode}
use Rattle.ground_problem.specs.declared.facts.FactNode.TheVariants.{Below}
use Rattle.decide_search.specs.declared.halves.Halves.{Halves}
use Rattle.decide_search.specs.Encoding.{AddsAtoms, AreAtomsFor, AreAtomsOf, AreLinked, IsAtomOf, IsBelowAtom, IsBelowOf, IsElement, IsHalved, IsSameAtom, IsSameOf, IsSide, IsTold, link_clauses}
use Rattle.decide_search.specs.declared.sides.Side.{Side}
use Rattle.decide_search.specs.declared.sides.Side.TheVariants as side
use Rattle.solve_theory.specs.declared.pair.PairLit.{PairLit}
use Rattle.solve_equality.specs.declared.literal.EqualityLit.{EqualityLit}
use Rattle.solve_order.specs.declared.diff.Diff.{Diff}
use Rattle.ground_terms.specs.Nodes.{IsOne, term_of}
use Rattle.form_terms.proofs.Listed.{to_map}
use Rattle.std.specs.Prelude.{None, replicate}
use Rattle.std.proofs.lemmas.List.Elements.{Contains-append_left, Contains-append_right}
use Rattle.decide_search.specs.Halving.{GoesOnHalving}
use Rattle.decide_search.proofs.Encoded.{cases-append}

slice_front : {X : Type 0} (xs ys : List X) (i : ℕ) (x : X) → slice_get xs i ≡ Some x → slice_get (xs ++ ys) i ≡ Some x
slice_front [] ys i x e = cc
slice_front (z ∷ xs) ys zero x e = e
slice_front (z ∷ xs) ys (suc i) x e = slice_front xs ys i x e

slice_behind : {X : Type 0} (xs ys : List X) (j : ℕ) → slice_get (xs ++ ys) (length xs + j) ≡ slice_get ys j
slice_behind [] ys j = let none : 0 + j ≡ j = omega arith in ap (slice_get ys) none
slice_behind (x ∷ xs) ys j = let next : suc (length xs) + j ≡ suc (length xs + j) = omega arith in ap (slice_get (x ∷ xs ++ ys)) next ∙ slice_behind xs ys j

module _ (g : Signature) (nodes : List Node) (terms : List TermNode) (w : Words) (texts : List (List ℕ)) where
  -- nothing is linked
  pub none_linked : {V : Type 0} (vars : ℕ) (facts halves : List FactNode) (vs : List V) (items : V → List PLit) → vs ≡ [] → AreLinked g nodes terms w texts vars facts halves (map items vs)
  none_linked vars facts halves vs items e = record { linked = λ c there. Contains-none c (subst (λ (cs : List (List PLit)). Contains cs c) (ap (map items) e) there) }

  pub linked_as : {V : Type 0} (vars : ℕ) (facts hs ks : List FactNode) (vs us : List V) (items : V → List PLit) → ks ≡ hs → us ≡ vs
      → AreLinked g nodes terms w texts vars facts hs (map items vs) → AreLinked g nodes terms w texts vars facts ks (map items us)
  linked_as {V} vars facts hs ks vs us items e k h =
      subst (λ (xs : List FactNode). AreLinked g nodes terms w texts vars facts xs (map items us)) (sym e)
      (subst (λ (ys : List V). AreLinked g nodes terms w texts vars facts hs (map items ys)) (sym k) h)

  -- one more fact
  pub halves_more : (vars k x : ℕ) (facts : List FactNode) (fact : FactNode) (old new : Halves) → slice_get facts k ≡ Some fact → x ≡ k
      → AreLinked g nodes terms w texts vars facts old.facts.items (map (λ c. c.items) old.links.items) → GoesOnHalving g nodes terms w texts fact x vars old new
      → AreLinked g nodes terms w texts vars facts new.facts.items (map (λ c. c.items) new.links.items)
  halves_more vars k x facts fact old new at here was (inl same) =
      let P : Halves → Type 0 = λ h. AreLinked g nodes terms w texts vars facts h.facts.items (map (λ c. c.items) h.links.items) in subst P (sym same) was
  halves_more vars k x facts fact old new at here was (inr (v, u, are, has)) = record {
    linked = λ c there.
        let P : List (List PLit) → Type 0 = λ cs. Contains cs c in
        elim (cases-append (map (λ c. c.items) old.links.items) (link_clauses x (vars + length old.facts.items)) c (subst P has.links there)) [
          | inl before ↦ let (y, e, halved, listed) = was.linked c before in (y, e, kept y e halved, listed)
          | inr now ↦ (x, vars + length old.facts.items, fresh, now)
        ];
  }
    where
      more : List FactNode
      more = Below v u ∷ Below u v ∷ []

      kept : (y e : ℕ) → IsHalved g nodes terms w texts vars facts old.facts.items y e → IsHalved g nodes terms w texts vars facts new.facts.items y e
      kept y e h = record {
        half = h.half;
        v = h.v;
        u = h.u;
        same_there = h.same_there;
        below_there = ap (λ xs. slice_get xs h.half) has.facts ∙ slice_front old.facts.items (Below v u ∷ Below u v ∷ []) h.half (Below h.v h.u) h.below_there;
        above_there = ap (λ xs. slice_get xs (h.half + 1)) has.facts ∙ slice_front old.facts.items (Below v u ∷ Below u v ∷ []) (h.half + 1) (Below h.u h.v) h.above_there;
        left = h.left;
        right = h.right;
        halves_at = h.halves_at;
      }

      none : length old.facts.items ≡ length old.facts.items + 0
      none = omega arith

      fresh : IsHalved g nodes terms w texts vars facts new.facts.items x (vars + length old.facts.items)
      fresh = record {
        half = length old.facts.items;
        v = v;
        u = u;
        same_there = ap (slice_get facts) here ∙ (at ∙ ap (λ p. Some p) are.is_same);
        below_there = ap (λ xs. slice_get xs (length old.facts.items)) has.facts
            ∙ (ap (slice_get (old.facts.items ++ Below v u ∷ Below u v ∷ [])) none ∙ slice_behind old.facts.items (Below v u ∷ Below u v ∷ []) 0);
        above_there = ap (λ xs. slice_get xs (length old.facts.items + 1)) has.facts ∙ slice_behind old.facts.items (Below v u ∷ Below u v ∷ []) 1;
        left = are.left;
        right = are.right;
        halves_at = refl;
      }

  -- the literals of no facts, and of one more
  pub no_atoms_more : (old : List Atom) → AddsAtoms g nodes terms w texts [] old old
  no_atoms_more old = record { more = []; are = tt; whole = sym (append-nil old) }

  one_more : (ps : List FactNode) (ls : List Atom) (p : FactNode) (a : Atom) → AreAtomsOf g nodes terms w texts ps ls → IfSome a (IsAtomOf g nodes terms w texts p)
      → AreAtomsOf g nodes terms w texts (ps ++ p ∷ []) (ls ++ a ∷ [])
  one_more [] [] p a h k = (k, tt)
  one_more [] (b ∷ ls) p a h k = absurd h
  one_more (q ∷ ps) [] p a h k = absurd h
  one_more (q ∷ ps) (b ∷ ls) p a h k = (h.0, one_more ps ls p a h.1 k)

  take_more : (xs : List FactNode) (i : ℕ) (d : FactNode) → i < length xs → take (i + 1) xs ≡ take i xs ++ get_or xs i d ∷ []
  take_more [] i d lt = absurd (omega arith)
  take_more (x ∷ xs) zero d lt = refl
  take_more (x ∷ xs) (suc i) d lt = let next : suc i + 1 ≡ suc (i + 1) = omega arith in ap (λ n. take n (x ∷ xs)) next ∙ ap (λ ys. x ∷ ys) (take_more xs i d (omega arith))

  pub atoms_more : (facts : List FactNode) (i : ℕ) (d : FactNode) (atom : Atom) (old mid new : List Atom) → i < length facts → AddsAtoms g nodes terms w texts (take i facts) old mid
      → IfSome atom (IsAtomOf g nodes terms w texts (get_or facts i d)) → new ≡ mid ++ atom ∷ [] → AddsAtoms g nodes terms w texts (take (i + 1) facts) old new
  atoms_more facts i d atom old mid new lt h k e =
      let P : List FactNode → Type 0 = λ ps. AreAtomsOf g nodes terms w texts ps (h.more ++ atom ∷ []) in
      record {
        more = h.more ++ atom ∷ [];
        are = subst P (sym (take_more facts i d lt)) (one_more (take i facts) h.more (get_or facts i d) atom h.are k);
        whole = e ∙ (ap (λ ls. ls ++ atom ∷ []) h.whole ∙ append_assoc old h.more (atom ∷ []));
      }

  -- the literals of all variables
  pub atoms_whole : (vars gap : ℕ) (facts halves : List FactNode) (a0 a1 a2 a3 : List Atom) → a0 ≡ [] → AddsAtoms g nodes terms w texts facts a0 a1 → a2 ≡ a1 ++ replicate gap None
      → AddsAtoms g nodes terms w texts halves a2 a3 → length facts + gap ≡ vars → AreAtomsFor g nodes terms w texts vars facts halves a3
  atoms_whole vars gap facts halves a0 a1 a2 a3 o q r s t =
      let back : List Atom = replicate gap None in
      let begun : a1 ≡ q.more = q.whole ∙ ap (λ ls. ls ++ q.more) o in
      record {
        own = q.more;
        own_are = q.are;
        gap = gap;
        to_gap = t;
        others = s.more;
        others_are = s.are;
        whole = s.whole ∙ ap (λ ls. ls ++ s.more) (r ∙ ap (λ ls. ls ++ back) begun);
      }

  -- the literals of an equality and of a comparison
  pub same_sides : (v u : Value) (s t : Side) (pair : PairLit EqualityLit Diff × PairLit EqualityLit Diff) → IsSide g nodes terms w texts v s → IsSide g nodes terms w texts u t → IsSameOf s t pair
      → IsSameAtom g nodes terms w texts v u pair
  same_sides v u (side.Element sort x) (side.Element other y) pair p q h = record {
    left = x;
    right = y;
    sides = inl (record { sort = sort; left = p; right = subst (λ (o : ℕ). IsElement g nodes terms w texts u o y) (sym h.0) q });
    when_true = h.1.0;
    when_false = h.1.1;
  }
  same_sides v u (side.Element sort x) (side.Text y) pair p q h = absurd h
  same_sides v u (side.Element sort x) (side.Number y o) pair p q h = absurd h
  same_sides v u (side.Text x) (side.Element other y) pair p q h = absurd h
  same_sides v u (side.Text x) (side.Text y) pair p q h = record { left = x; right = y; sides = inr (record { left = p; right = q }); when_true = h.0; when_false = h.1 }
  same_sides v u (side.Text x) (side.Number y o) pair p q h = absurd h
  same_sides v u (side.Number x o) (side.Element other y) pair p q h = absurd h
  same_sides v u (side.Number x o) (side.Text y) pair p q h = absurd h
  same_sides v u (side.Number x o) (side.Number y r) pair p q h = absurd h

  pub below_sides : (v u : Value) (s t : Side) (pair : PairLit EqualityLit Diff × PairLit EqualityLit Diff) → IsSide g nodes terms w texts v s → IsSide g nodes terms w texts u t → IsBelowOf s t pair
      → IsBelowAtom g nodes terms w texts v u pair
  below_sides v u (side.Element sort x) t pair p q h = absurd h
  below_sides v u (side.Text x) t pair p q h = absurd h
  below_sides v u (side.Number x o) (side.Element other y) pair p q h = absurd h
  below_sides v u (side.Number x o) (side.Text y) pair p q h = absurd h
  below_sides v u (side.Number x o) (side.Number y r) pair p q h = record { x = x; y = y; o = o; q = r; left = p; right = q; when_true = h.0; when_false = h.1 }

  -- a listed number is that of a told term
  pub told_by : (id : ℕ) → IsOne terms id → Contains (w.named.items ++ w.others.items) id → IsTold g nodes terms w texts id
  told_by id one there = record {
    one = one;
    is_told = elim (cases-append w.named.items w.others.items id there) [
      | inl k ↦ Contains-append_left (map (term_of terms) w.named.items) (map (term_of terms) w.others.items) (term_of terms id) (to_map (term_of terms) w.named.items id k)
      | inr k ↦ Contains-append_right (map (term_of terms) w.named.items) (map (term_of terms) w.others.items) (term_of terms id) (to_map (term_of terms) w.others.items id k)
    ];
  }

-- Clauses that are put at the end of a list.
use Rattle.std.proofs.Common.{◌≡◌, ℕ, ◌+◌, ◌<◌, ◌≤◌, ◌∙◌, sym, refl, ap, subst, List, [], ◌∷◌, ◌++◌, length, get_or, take, map, append_assoc, append-nil}
use Rattle.std.specs.List.{flat_map}
use Rattle.std.proofs.lemmas.List.{take_all}
use Rattle.form_formula.specs.declared.node.Node.{Node}
use Rattle.ground_terms.specs.declared.node.TermNode.{TermNode}
use Rattle.ground_terms.proofs.Standing.{map-append, map_next, flat_next}
use Rattle.form_tables.specs.Facts.{Clause}
use Rattle.ground_problem.specs.declared.facts.FactLiteral.{FactLiteral}
use Rattle.ground_problem.specs.Facts.{AreAdded, clause_at, clauses_at}

flat_map-append : {A B : Type 0} (f : A → List B) (xs ys : List A) → flat_map f (xs ++ ys) ≡ flat_map f xs ++ flat_map f ys
flat_map-append f [] ys = refl
flat_map-append f (x ∷ xs) ys = ap (λ zs. f x ++ zs) (flat_map-append f xs ys) ∙ sym (append_assoc (f x) (flat_map f xs) (flat_map f ys))

module _ (nodes : List Node) (terms : List TermNode) where
  pub added_none : (old : List (List FactLiteral)) → AreAdded nodes terms old old []
  added_none old = record { more = []; whole = sym (append-nil old); are = refl }

  pub added_one : (old new : List (List FactLiteral)) (c : List FactLiteral) (x : Clause) → new ≡ old ++ c ∷ [] → clause_at nodes terms c ≡ x → AreAdded nodes terms old new (x ∷ [])
  added_one old new c x e is = record { more = c ∷ []; whole = e; are = ap (λ x. x ∷ []) is }

  pub added_both : (a b d : List (List FactLiteral)) (xs ys : List Clause) → AreAdded nodes terms a b xs → AreAdded nodes terms b d ys → AreAdded nodes terms a d (xs ++ ys)
  added_both a b d xs ys p q = record {
    more = p.more ++ q.more;
    whole = q.whole ∙ (ap (λ zs. zs ++ q.more) p.whole ∙ append_assoc a p.more q.more);
    are = map-append (clause_at nodes terms) p.more q.more ∙ (ap (λ zs. zs ++ clauses_at nodes terms q.more) p.are ∙ ap (λ zs. xs ++ zs) q.are);
  }

  pub added_as : (a b : List (List FactLiteral)) (xs ys : List Clause) → xs ≡ ys → AreAdded nodes terms a b xs → AreAdded nodes terms a b ys
  added_as a b xs ys e h = let P : List Clause → Type 0 = λ xs. AreAdded nodes terms a b xs in subst P e h

  -- the clauses of one element more
  pub added_next : {A B : Type 0} (f : B → List Clause) (h : A → B) (xs : List A) (k : ℕ) (d : A) (a b c : List (List FactLiteral)) → k < length xs → AreAdded nodes terms a b (flat_map f (map h (take k xs)))
      → AreAdded nodes terms b c (f (h (get_or xs k d))) → AreAdded nodes terms a c (flat_map f (map h (take (k + 1) xs)))
  added_next f h xs k d a b c within p q =
      let e : flat_map f (map h (take (k + 1) xs)) ≡ flat_map f (map h (take k xs)) ++ f (h (get_or xs k d)) =
      ap (flat_map f) (map_next h xs k d within) ∙ (flat_map-append f (map h (take k xs)) (h (get_or xs k d) ∷ []) ∙ ap (λ zs. flat_map f (map h (take k xs)) ++ zs) (append-nil (f (h (get_or xs k d))))) in
      added_as a c (flat_map f (map h (take k xs)) ++ f (h (get_or xs k d))) (flat_map f (map h (take (k + 1) xs))) (sym e) (added_both a b c (flat_map f (map h (take k xs))) (f (h (get_or xs k d))) p q)

  pub added_all : {A B : Type 0} (f : B → List Clause) (h : A → B) (xs : List A) (k : ℕ) (a b : List (List FactLiteral)) → length xs ≤ k → AreAdded nodes terms a b (flat_map f (map h (take k xs)))
      → AreAdded nodes terms a b (flat_map f (map h xs))
  added_all f h xs k a b past p = added_as a b (flat_map f (map h (take k xs))) (flat_map f (map h xs)) (ap (λ ys. flat_map f (map h ys)) (take_all k xs past)) p

  -- the same of elements themselves
  pub added_more : {A : Type 0} (f : A → List Clause) (xs : List A) (k : ℕ) (d : A) (a b c : List (List FactLiteral)) → k < length xs → AreAdded nodes terms a b (flat_map f (take k xs))
      → AreAdded nodes terms b c (f (get_or xs k d)) → AreAdded nodes terms a c (flat_map f (take (k + 1) xs))
  added_more f xs k d a b c within p q =
      added_as a c (flat_map f (take k xs) ++ f (get_or xs k d)) (flat_map f (take (k + 1) xs)) (sym (flat_next f xs k d within)) (added_both a b c (flat_map f (take k xs)) (f (get_or xs k d)) p q)

  pub added_whole : {A : Type 0} (f : A → List Clause) (xs : List A) (k : ℕ) (a b : List (List FactLiteral)) → length xs ≤ k → AreAdded nodes terms a b (flat_map f (take k xs)) → AreAdded nodes terms a b (flat_map f xs)
  added_whole f xs k a b past p = added_as a b (flat_map f (take k xs)) (flat_map f xs) (ap (flat_map f) (take_all k xs past)) p

  -- clauses that were put at the end of none
  pub added_to_none : (new : List (List FactLiteral)) (cs : List Clause) → AreAdded nodes terms [] new cs → clauses_at nodes terms new ≡ cs
  added_to_none new cs h = ap (clauses_at nodes terms) h.whole ∙ h.are

-- What values are to the decision procedures, and what facts say by that.
use Rattle.std.proofs.Common.{◌≡◌, ℕ, Bool, true, ◌∙◌, ◌+◌, ◌<◌, inl, inr, sym, List, ◌∷◌, [], ◌++◌, Option, Some, IfSome, length, map, subst, arith, Contains, slice_get, take, get_or, zero, suc, refl, ap}
use Rattle.std.specs.List.{list_all}
use Rattle.std.proofs.lemmas.Bool.{and_from}
use Rattle.std.proofs.lemmas.List.Elements.{Contains-append_cases, Contains-append_left, Contains-append_right}
use Rattle.std.proofs.lemmas.List.Folds.{list_all-append}
use Rattle.form_terms.proofs.Listed.{to_map}
use Rattle.form_formula.specs.declared.node.Node.{Node}
use Rattle.form_formula.specs.declared.structure.Signature.{Signature}
use Rattle.ground_terms.specs.declared.node.TermNode.{TermNode}
use Rattle.ground_terms.specs.Nodes.{IsOne, term_of}
use Rattle.ground_terms.proofs.Placement.{kind_within}
use Rattle.ground_instances.specs.declared.input.Value.{Value}
use Rattle.ground_problem.specs.declared.words.Words.{Words}
use Rattle.ground_problem.specs.declared.facts.FactNode.{FactNode}
use Rattle.certify_atoms.specs.Atoms.{AreAtomsOf, Both, IsAtomOf, IsBelowAtom, IsBelowOf, IsElement, IsSameAtom, IsSameOf, IsSide, IsSideWithin, IsTold}
use Rattle.certify_atoms.specs.declared.sides.Side.{Side}
use Rattle.certify_atoms.specs.declared.sides.Side.TheVariants as side
use Rattle.certify_atoms.proofs.Items.{slice_within}

module _ (g : Signature) (nodes : List Node) (terms : List TermNode) (w : Words) (texts : List (List ℕ)) where
  pub same_sides : (v u : Value) (s t : Side) (both : Both) → IsSide g nodes terms w texts v s → IsSide g nodes terms w texts u t → IsSameOf s t both
      → IsSameAtom g nodes terms w texts v u both
  same_sides v u (side.Element sort x) (side.Element other y) both p q h = record {
    left = x;
    right = y;
    sides = inl (record { sort = sort; left = p; right = subst (λ (o : ℕ). IsElement g nodes terms w texts u o y) (sym h.0) q });
    when_true = h.1.0;
    when_false = h.1.1;
  }
  same_sides v u (side.Element sort x) (side.Text y) both p q h = absurd h
  same_sides v u (side.Element sort x) (side.Number y o) both p q h = absurd h
  same_sides v u (side.Text x) (side.Element other y) both p q h = absurd h
  same_sides v u (side.Text x) (side.Text y) both p q h = record { left = x; right = y; sides = inr (record { left = p; right = q }); when_true = h.0; when_false = h.1 }
  same_sides v u (side.Text x) (side.Number y o) both p q h = absurd h
  same_sides v u (side.Number x o) (side.Element other y) both p q h = absurd h
  same_sides v u (side.Number x o) (side.Text y) both p q h = absurd h
  same_sides v u (side.Number x o) (side.Number y r) both p q h = absurd h

  pub below_sides : (v u : Value) (s t : Side) (both : Both) → IsSide g nodes terms w texts v s → IsSide g nodes terms w texts u t → IsBelowOf s t both
      → IsBelowAtom g nodes terms w texts v u both
  below_sides v u (side.Element sort x) t both p q h = absurd h
  below_sides v u (side.Text x) t both p q h = absurd h
  below_sides v u (side.Number x o) (side.Element other y) both p q h = absurd h
  below_sides v u (side.Number x o) (side.Text y) both p q h = absurd h
  below_sides v u (side.Number x o) (side.Number y r) both p q h = record { x = x; y = y; o = o; q = r; left = p; right = q; when_true = h.0; when_false = h.1 }

  -- a listed number is that of a told term
  pub told_by : (id : ℕ) → IsOne terms id → Contains (w.named.items ++ w.others.items) id → IsTold g nodes terms w texts id
  told_by id one there = record {
    one = one;
    is_told = elim (Contains-append_cases w.named.items w.others.items id there) [
      | inl k ↦ Contains-append_left (map (term_of terms) w.named.items) (map (term_of terms) w.others.items) (term_of terms id) (to_map (term_of terms) w.named.items id k)
      | inr k ↦ Contains-append_right (map (term_of terms) w.named.items) (map (term_of terms) w.others.items) (term_of terms id) (to_map (term_of terms) w.others.items id k)
    ];
  }

  pub side_within : (v : Value) (s : Side) → IsSide g nodes terms w texts v s → IsSideWithin (length terms) (length texts) s
  side_within v (side.Element sort c) h = omega (arith, kind_within terms c true h.one)
  side_within v (side.Text c) (inl h) = omega (arith, kind_within terms c true h.told_there.one)
  side_within v (side.Text c) (inr h) = omega (arith, slice_within texts h.place h.bytes h.listed, h.behind)
  side_within v (side.Number x o) (inl h) = omega (arith, kind_within terms h.id true h.told_there.one, h.behind)
  side_within v (side.Number x o) (inr h) = omega (arith, h.zero_at)

  -- what one more fact says
  pub atoms_push : (ps : List FactNode) (ls : List (Option Both)) (p : FactNode) (a : Option Both) → AreAtomsOf g nodes terms w texts ps ls
      → IfSome a (IsAtomOf g nodes terms w texts p) → AreAtomsOf g nodes terms w texts (ps ++ p ∷ []) (ls ++ a ∷ [])
  atoms_push [] [] p a h k = (k, tt)
  atoms_push [] (b ∷ ls) p a h k = absurd h
  atoms_push (q ∷ ps) [] p a h k = absurd h
  atoms_push (q ∷ ps) (b ∷ ls) p a h k = (h.0, atoms_push ps ls p a h.1 k)

  -- what the fact at a place says
  pub atoms_at : (ps : List FactNode) (ls : List (Option Both)) (k : ℕ) (both : Both) → AreAtomsOf g nodes terms w texts ps ls → slice_get ls k ≡ Some (Some both)
      → (p : FactNode) × (slice_get ps k ≡ Some p) × IsAtomOf g nodes terms w texts p both
  atoms_at [] [] k both h e = cc
  atoms_at [] (b ∷ ls) k both h e = absurd h
  atoms_at (p ∷ ps) [] k both h e = absurd h
  atoms_at (p ∷ ps) (b ∷ ls) zero both h e = let same : b ≡ Some both = cc in (p, refl, subst (λ (a : Option Both). IfSome a (IsAtomOf g nodes terms w texts p)) same h.0)
  atoms_at (p ∷ ps) (b ∷ ls) (suc k) both h e = atoms_at ps ls k both h.1 e

  pub atoms_long : (ps : List FactNode) (ls : List (Option Both)) → AreAtomsOf g nodes terms w texts ps ls → length ps ≡ length ls
  atoms_long [] [] h = refl
  atoms_long [] (b ∷ ls) h = absurd h
  atoms_long (p ∷ ps) [] h = absurd h
  atoms_long (p ∷ ps) (b ∷ ls) h = ap suc (atoms_long ps ls h.1)

  take_more : (xs : List FactNode) (i : ℕ) (d : FactNode) → i < length xs → take (i + 1) xs ≡ take i xs ++ get_or xs i d ∷ []
  take_more [] i d lt = absurd (omega arith)
  take_more (x ∷ xs) zero d lt = refl
  take_more (x ∷ xs) (suc i) d lt = let next : suc i + 1 ≡ suc (i + 1) = omega arith in ap (λ n. take n (x ∷ xs)) next ∙ ap (λ ys. x ∷ ys) (take_more xs i d (omega arith))

  pub atoms_more : (facts : List FactNode) (i : ℕ) (d : FactNode) (atom : Option Both) (old new : List (Option Both)) → i < length facts → AreAtomsOf g nodes terms w texts (take i facts) old
      → IfSome atom (IsAtomOf g nodes terms w texts (get_or facts i d)) → new ≡ old ++ atom ∷ [] → AreAtomsOf g nodes terms w texts (take (i + 1) facts) new
  atoms_more facts i d atom old new lt h k e =
      let P : List FactNode → Type 0 = λ ps. AreAtomsOf g nodes terms w texts ps new in
      subst P (sym (take_more facts i d lt))
      (subst (λ (ls : List (Option Both)). AreAtomsOf g nodes terms w texts (take i facts ++ get_or facts i d ∷ []) ls) (sym e) (atoms_push (take i facts) old (get_or facts i d) atom h k))

-- one more that passes
pub all_push : {X : Type 0} (p : X → Bool) (xs new : List X) (x : X) → list_all p xs ≡ true → p x ≡ true → new ≡ xs ++ x ∷ [] → list_all p new ≡ true
all_push p xs new x h k e = ap (list_all p) e ∙ (list_all-append p xs (x ∷ []) ∙ and_from _ _ h (and_from _ _ k refl))

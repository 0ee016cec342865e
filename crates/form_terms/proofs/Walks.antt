-- In a stratified formula no terms arise after as many rounds as there are sorts.
use Rattle.std.proofs.Common.{◌≡◌, ℕ, zero, suc, ◌<◌, ◌⊎◌, inl, inr, refl, sym, ◌∙◌, List, [], ◌∷◌, ◌++◌, Some, length, ap, subst, arith, Contains, append_assoc}
use Rattle.form_formula.specs.declared.structure.Signature.{Signature}
use Rattle.form_formula.specs.Trees.{Formula}
use Rattle.form_formula.specs.Over.{IsOver}
use Rattle.form_terms.specs.GroundTerms.{GroundTerm, GroundTerms, constant, skolem, field, no_terms, term_and, sort_of, source_of, target_of}
use Rattle.form_terms.specs.Parts.{existential}
use Rattle.form_terms.specs.Universe.{variables_of, functions_of, IsAppliedTo, ArisesWithin, HaveSorts, HasEach}
use Rattle.form_strata.specs.SortGraph.{IsWalk, IsStratified, edges_of}
use Rattle.form_terms.proofs.Edges.{IsEdge, graph_edge}
use Rattle.form_terms.proofs.Lists.{Contains-head, Contains-tail, Contains-cons_cases, Contains-none}
use Rattle.form_terms.proofs.Repeats.{repeats}
use Rattle.form_terms.proofs.Typed.{all_typed, source_there, source_below, target_below}
use Rattle.form_terms.proofs.Recorded.{functions_there}
use Rattle.form_terms.proofs.Witnesses.{variable_part}

module _ (g : Signature) (f : Formula) (over : IsOver g [] f) where
  -- edges, the last first
  abbrev pub IsTrail : List ℕ → Type 0
  IsTrail [] = Unit {0}
  IsTrail (to ∷ []) = Unit {0}
  IsTrail (to ∷ from ∷ rest) = IsEdge g f from to × IsTrail (from ∷ rest)

  trail_rest : (x : ℕ) (xs : List ℕ) → IsTrail (x ∷ xs) → IsTrail xs
  trail_rest x [] h = tt
  trail_rest x (y ∷ xs) h = h.1

  trail_back : (front rest : List ℕ) → IsTrail (front ++ rest) → IsTrail rest
  trail_back [] rest h = h
  trail_back (x ∷ front) rest h = trail_back front rest (trail_rest x (front ++ rest) h)

  -- a trail, read from its end
  walked : (middle : List ℕ) (to from : ℕ) (back after : List ℕ) → IsTrail (to ∷ (middle ++ from ∷ back)) → IsWalk (edges_of g f) to after
      → (through : List ℕ) × IsWalk (edges_of g f) from (through ++ to ∷ after)
  walked [] to from back after trail walk = ([], (graph_edge g f from to trail.0, walk))
  walked (x ∷ middle) to from back after trail walk =
      let later = walked middle x from back (to ∷ after) trail.1 (graph_edge g f x to trail.0, walk) in
      let P : List ℕ → Type 0 = λ ways. IsWalk (edges_of g f) from ways in
      (later.0 ++ x ∷ [], subst P (sym (append_assoc later.0 (x ∷ []) (to ∷ after))) later.1)

  edge_below : (from to : ℕ) → IsEdge g f from to → (from < g.sorts) × (to < g.sorts)
  edge_below from to (inl (h, used, source, target)) = (source_below g h from source, target_below g h to target)
  edge_below from to (inr (v, own, above, e)) =
      let fits = all_typed g f over (existential v) (variable_part g f v own) in
      let P : ℕ → Type 0 = λ n. n < g.sorts in
      (fits.1 from above, subst P e fits.0)

  first_below : (from : ℕ) → from < g.sorts → (x : ℕ) → Contains (from ∷ []) x → x < g.sorts
  first_below from under x c =
      let P : ℕ → Type 0 = λ n. n < g.sorts in
      elim (Contains-cons_cases from [] x c) [ inl e ↦ subst P e under | inr none ↦ Contains-none x none ]

  trail_below : (rest : List ℕ) (to from : ℕ) → IsTrail (to ∷ from ∷ rest) → (x : ℕ) → Contains (to ∷ from ∷ rest) x → x < g.sorts
  trail_below [] to from trail x c =
      let ends = edge_below from to trail.0 in
      let P : ℕ → Type 0 = λ n. n < g.sorts in
      elim (Contains-cons_cases to (from ∷ []) x c) [
        | inl e ↦ subst P e ends.1
        | inr later ↦ first_below from ends.0 x later
      ]
  trail_below (y ∷ rest) to from trail x c =
      let ends = edge_below from to trail.0 in
      let P : ℕ → Type 0 = λ n. n < g.sorts in
      elim (Contains-cons_cases to (from ∷ y ∷ rest) x c) [
        | inl e ↦ subst P e ends.1
        | inr later ↦ trail_below rest from y trail.1 x later
      ]

  no_long_trail : IsStratified g f → (to from : ℕ) (rest : List ℕ) → IsTrail (to ∷ from ∷ rest) → g.sorts < length (to ∷ from ∷ rest) → ⊥
  no_long_trail stratified to from rest trail long =
      let twice = repeats g.sorts (to ∷ from ∷ rest) (trail_below rest to from trail) long in
      let x : ℕ = twice.1 in
      let P : List ℕ → Type 0 = λ xs. IsTrail xs in
      let part = trail_back twice.0 (x ∷ (twice.2 ++ x ∷ twice.3)) (subst P twice.4 trail) in
      let cycle = walked twice.2 x x twice.3 [] part tt in
      stratified x cycle.0 cycle.1

  -- so many edges lead to a sort
  abbrev IsReached : ℕ → ℕ → Type 0
  IsReached n sort = (rest : List ℕ) × IsTrail (sort ∷ rest) × (length rest ≡ n)

  reached_more : (n from to : ℕ) → IsReached n from → IsEdge g f from to → IsReached (suc n) to
  reached_more n from to (rest, trail, e) edge = (from ∷ rest, (edge, trail), ap suc e)

  abbrev IsFar : ℕ → GroundTerm → Type 0
  IsFar n t = (sort : ℕ) × (sort_of g t ≡ Some sort) × IsReached n sort

  -- arguments that arise a round earlier, or one with a long way
  earlier : (P Q : GroundTerm → Type 0) (n : ℕ) → ((t : GroundTerm) → P t → Q t ⊎ IsFar n t) → (ts : GroundTerms) (above : List ℕ) → HaveSorts g ts above → HasEach P ts
      → HasEach Q ts ⊎ ((s : ℕ) × Contains above s × IsReached n s)
  earlier P Q n step no_terms above sorts each = inl tt
  earlier P Q n step (term_and t ts) [] sorts each = absurd sorts
  earlier P Q n step (term_and t ts) (s ∷ above) sorts each =
      elim (step t each.0) [
        | inl here ↦
            elim (earlier P Q n step ts above sorts.1 each.1) [
              | inl later ↦ inl (here, later)
              | inr (r, there, far) ↦ inr (r, Contains-tail s above r there, far)
            ]
        | inr (sort, e, far) ↦
            let same : sort ≡ s = let both = sym e ∙ sorts.0 in cc in
            let R : ℕ → Type 0 = λ s. IsReached n s in
            inr (s, Contains-head s above, subst R same far)
      ]

  variable_edge : (number sort : ℕ) (above : List ℕ) (s : ℕ) → Contains (variables_of g f) (record { number = number; sort = sort; above = above }) → Contains above s → IsEdge g f s sort
  variable_edge number sort above s own there = inr (record { number = number; sort = sort; above = above }, own, there, refl)

  field_edge : (h from : ℕ) (w : GroundTerm) → Contains (functions_of g f) h → source_of g h ≡ Some from → (to : ℕ) × (target_of g h ≡ Some to) × IsEdge g f from to
  field_edge h from w used source = let target = functions_there g f h used in (target.0, target.1, inl (h, used, source, target.1))

  step_zero : (t : GroundTerm) → IsAppliedTo g f (ArisesWithin g f 0) t → ArisesWithin g f 0 t ⊎ IsFar 1 t
  step_zero (constant sort) a = absurd a
  step_zero (skolem number sort no_terms) ([], own, sorts, each) = inl (refl, own)
  step_zero (skolem number sort (term_and t ts)) ([], own, sorts, each) = absurd sorts
  step_zero (skolem number sort ts) (s ∷ above, own, sorts, each) =
      inr (sort, refl, (s ∷ [], (variable_edge number sort (s ∷ above) s own (Contains-head s above), tt), refl))
  step_zero (field h w) (used, source, there) =
      let target = functions_there g f h used in
      let from = source_there g h target.0 target.1 in
      inr (target.0, target.1, (from.0 ∷ [], (inl (h, used, from.1, target.1), tt), refl))

  step_more : (n : ℕ) → ((t : GroundTerm) → ArisesWithin g f (suc n) t → ArisesWithin g f n t ⊎ IsFar (suc n) t)
      → (t : GroundTerm) → IsAppliedTo g f (ArisesWithin g f (suc n)) t → ArisesWithin g f (suc n) t ⊎ IsFar (suc (suc n)) t
  step_more n before (constant sort) a = absurd a
  step_more n before (skolem number sort ts) (above, own, sorts, each) =
      elim (earlier (ArisesWithin g f (suc n)) (ArisesWithin g f n) (suc n) before ts above sorts each) [
        | inl each ↦ inl (inr (above, own, sorts, each))
        | inr (s, there, far) ↦ inr (sort, refl, reached_more (suc n) s sort far (variable_edge number sort above s own there))
      ]
  step_more n before (field h w) (used, source, there) =
      elim (before w there) [
        | inl there ↦ inl (inr (used, source, there))
        | inr (sort, e, far) ↦
            let edge = field_edge h sort w used (source ∙ e) in
            inr (edge.0, edge.1, reached_more (suc n) sort edge.0 far edge.2)
      ]

  -- a term that arises a round later has a longer way
  far : (n : ℕ) (t : GroundTerm) → ArisesWithin g f (suc n) t → ArisesWithin g f n t ⊎ IsFar (suc n) t
  far zero t (inl first) = inl first
  far zero t (inr applied) = step_zero t applied
  far (suc n) t (inl first) = inl (inl first)
  far (suc n) t (inr applied) = step_more n (far n) t applied

  pub settled : IsStratified g f → (t : GroundTerm) → ArisesWithin g f (suc g.sorts) t → ArisesWithin g f g.sorts t
  settled stratified t h =
      elim (far g.sorts t h) [
        | inl here ↦ here
        | inr (sort, e, way) ↦ absurd (too_long sort way.0 way.1 way.2)
      ]
    where
      too_long : (sort : ℕ) (rest : List ℕ) → IsTrail (sort ∷ rest) → length rest ≡ suc g.sorts → ⊥
      too_long sort [] trail long = cc
      too_long sort (from ∷ rest) trail long = no_long_trail stratified sort from rest trail (omega (arith, long))

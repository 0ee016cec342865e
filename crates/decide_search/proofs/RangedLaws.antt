-- What terms have is of their ranges.
use Rattle.std.proofs.Common.{◌≡◌, ◌∙◌, true, false, ℕ, zero, suc, ◌+◌, ◌<◌, sym, ap, subst, refl, List, [], ◌∷◌, ◌++◌, Some, None, length, get_or, slice_get, arith, length-append, inl, inr, ◌⊎◌}
use Rattle.std.specs.Prelude.{unwrap_or}
use Rattle.std.proofs.lemmas.Option.{none-some, slice_get-get_or}
use Rattle.form_formula.specs.declared.structure.Range.{Range}
use Rattle.form_formula.specs.declared.structure.Signature.{Signature}
use Rattle.form_formula.specs.declared.structure.SVal.{SVal}
use Rattle.form_formula.specs.declared.structure.SVal.TheVariants.{Flag}
use Rattle.form_tables.specs.Consistent.{range_of, IsOfRange}
use Rattle.ground_terms.specs.declared.node.TermNode.{TermNode}
use Rattle.ground_terms.specs.Nodes.{IsOne, term_of}
use Rattle.ground_terms.specs.Standing.{AreOnes}
use Rattle.decide_models.proofs.Agreement.{node_at}
use Rattle.decide_models.proofs.Steps.{slice_within}
use Rattle.decide_reading.specs.Columns.{AreTyped, value_by}
use Rattle.decide_reading.specs.declared.columns.Columns.{Columns}
use Rattle.decide_search.specs.Ranged.{AreRanged, AreRangedValues, IsRanged}

-- an item of a list with one more
pub item_more : {X : Type 0} (xs : List X) (x : X) (k : ℕ) (y : X) → slice_get (xs ++ x ∷ []) k ≡ Some y → (slice_get xs k ≡ Some y) ⊎ ((k ≡ length xs) × (x ≡ y))
item_more [] x zero y e = let same : x ≡ y = cc in inr (refl, same)
item_more [] x (suc k) y e = inl e
item_more (z ∷ xs) x zero y e = inl e
item_more (z ∷ xs) x (suc k) y e = elim (item_more xs x k y e) [ inl before ↦ inl before | inr (p, q) ↦ inr (ap suc p, q) ]

module _ (g : Signature) (terms : List TermNode) where
  -- a value of the range that the number has
  pub ranged_as : (id : ℕ) (range : Range) (value : SVal) → range_of g (term_of terms id) ≡ Some range → IsOfRange range value → IsRanged g terms id value
  ranged_as id range value e h one other e' = let same : range ≡ other = cc in subst (λ range. IsOfRange range value) same h

  -- a number that is that of no term, or of a term without a range
  pub none_ranged : (id : ℕ) (value : SVal) → (IsOne terms id → None ≡ range_of g (term_of terms id)) → IsRanged g terms id value
  none_ranged id value h one range e = absurd (none-some range (h one ∙ e))

  pub no_values : (values : List SVal) → values ≡ [] → AreRangedValues g terms 0 values
  no_values values none = subst (AreRangedValues g terms 0) (sym none) (record { one_each = refl; ranged = λ id value e. cc })

  pub values_more : (n : ℕ) (values new : List SVal) (value : SVal) → new ≡ values ++ value ∷ [] → AreRangedValues g terms n values → IsRanged g terms n value → AreRangedValues g terms (n + 1) new
  values_more n values new value e h own = subst (AreRangedValues g terms (n + 1)) (sym e) (record {
    one_each = omega (arith, length-append values (value ∷ []), h.one_each);
    ranged = λ id other there.
        elim (item_more values value id other there) [
          | inl before ↦ h.ranged id other before
          | inr (p, q) ↦ subst (λ id. IsRanged g terms id other) (sym (p ∙ h.one_each)) (subst (IsRanged g terms n) q own)
        ];
  })

  pub columns_ranged : (c : Columns) (values : List SVal) → c.values ≡ values → AreRangedValues g terms (length terms) values → AreRanged g terms c
  columns_ranged c values e h id one =
      let (node, at, own) = node_at terms id true one in
      let lt : id < length values = omega (arith, slice_within terms id node at, h.one_each) in
      let value = get_or values id (Flag false) in
      let there : slice_get values id ≡ Some value = slice_get-get_or values id (Flag false) lt in
      let same : value_by c id ≡ value = ap (λ vs. unwrap_or (slice_get vs id) (Flag false)) e ∙ ap (λ o. unwrap_or o (Flag false)) there in
      record { one = one; typed = λ range r. subst (IsOfRange range) (sym same) (h.ranged id value there one range r) }

  -- and so are those of the terms of some numbers
  pub typed_all : (c : Columns) (ids : List ℕ) → AreRanged g terms c → AreOnes terms ids → AreTyped g terms c ids
  typed_all c [] h ones k id e = cc
  typed_all c (x ∷ ids) h ones zero id e = let same : x ≡ id = cc in h id (subst (IsOne terms) same ones.0)
  typed_all c (x ∷ ids) h ones (suc k) id e = typed_all c ids h ones.1 k id e

-- Terms of variables that are masked.
use Rattle.std.proofs.Common.{◌≡◌, ℕ, zero, suc, ◌+◌, ◌<◌, ◌≤◌, ◌⊎◌, inl, inr, true, false, Bool, cond, refl, sym, ◌∙◌, List, [], ◌∷◌, ◌++◌, length, get_or, ap, subst, arith, length-append, below_more}
use Rattle.std.proofs.lemmas.List.{get_or_append_left}
use Rattle.std.proofs.Math.Seq.{get_or-append_seam}
use Rattle.ground_terms.specs.declared.node.TermNode.{TermNode}
use Rattle.std.proofs.lemmas.List.{length-map}
use Rattle.form_terms.specs.GroundTerms.{GroundTerm, list_of}
use Rattle.ground_terms.specs.Nodes.{Extends, IsOne, term_of, list_of as list_at}
use Rattle.ground_terms.specs.Standing.{AreOnes, terms_at}
use Rattle.ground_terms.proofs.Standing.{extends_both, one_at, term_kept, list_kept, list_term_kept}
use Rattle.ground_instances.specs.declared.shapes.Shape.{Shape}
use Rattle.ground_instances.specs.declared.instance.Instance.{Instance}
use Rattle.ground_instances.specs.Instances.{IsInstanceOf, IsMasked}
use Rattle.ground_instances.specs.Lists.{IsListOf}
use Rattle.ground_instances.specs.Shapes.{is_in}
use Rattle.ground_instances.proofs.MakeLaws.{ones_append}
use Rattle.ground_instances.proofs.ValueLaws.{at_index, term_beyond}

picked : (nodes : List TermNode) (b : Bool) (x y : ℕ) → IsOne nodes x → IsOne nodes y → IsOne nodes (cond b x y)
picked nodes true x y p q = p
picked nodes false x y p q = q

pub masked_on : (mask : ℕ) (terms : List TermNode) (ids kept : List ℕ) (place blank t : ℕ) → place < length ids → AreOnes terms ids → IsOne terms blank → t ≡ cond (is_in mask place) (get_or ids place 0) blank
    → length kept ≡ place → AreOnes terms kept → ((k : ℕ) → k < place → is_in mask k ≡ true → get_or kept k 0 ≡ get_or ids k 0)
    → (length (kept ++ t ∷ []) ≡ place + 1) × AreOnes terms (kept ++ t ∷ []) × ((k : ℕ) → k < place + 1 → is_in mask k ≡ true → get_or (kept ++ t ∷ []) k 0 ≡ get_or ids k 0)
masked_on mask terms ids kept place blank t lt ones one is size own same =
    let O : ℕ → Type 0 = λ x. IsOne terms x in
    let here : IsOne terms t = subst O (sym is) (picked terms (is_in mask place) (get_or ids place 0) blank (one_at terms ids place 0 ones lt) one) in
    let C : ℕ → Type 0 = λ k. is_in mask k ≡ true → get_or (kept ++ t ∷ []) k 0 ≡ get_or ids k 0 in
    let last : get_or (kept ++ t ∷ []) place 0 ≡ t = ap (λ k. get_or (kept ++ t ∷ []) k 0) (sym size) ∙ get_or-append_seam kept t [] 0 in (
      omega (arith, length-append kept (t ∷ []), size),
      ones_append terms kept (t ∷ []) own (here, tt),
      below_more C place (λ k k_lt e. get_or_append_left kept (t ∷ []) 0 k (omega (arith, k_lt, size)) ∙ same k k_lt e) (λ e. last ∙ (is ∙ ap (λ b. cond b (get_or ids place 0) blank) e)),
    )

beyond : (xs : List ℕ) (k : ℕ) → length xs ≤ k → get_or xs k 0 ≡ 0
beyond [] k le = refl
beyond (x ∷ xs) zero le = absurd (omega arith)
beyond (x ∷ xs) (suc k) le = beyond xs k (omega arith)

below_or_from : (n m : ℕ) → (n < m) ⊎ (m ≤ n)
below_or_from n m = grind arith

pub masked_done : (mask : ℕ) (old new : List TermNode) (ids kept : List ℕ) (place : ℕ) → Extends old new → place ≡ length ids → length kept ≡ place → AreOnes new kept
    → ((k : ℕ) → k < place → is_in mask k ≡ true → get_or kept k 0 ≡ get_or ids k 0) → IsMasked mask old new ids kept
masked_done mask old new ids kept place grown end size own same = record {
  grown = grown;
  ones = own;
  size = size ∙ end;
  same = λ k e. elim (below_or_from k place) [
    | inl lt ↦ same k lt e
    | inr le ↦ beyond kept k (omega (arith, le, size)) ∙ sym (beyond ids k (omega (arith, le, end)))
  ];
}

-- an instance of masked variables
same_terms : (old new : List TermNode) (ids kept : List ℕ) (mask k : ℕ) (d : GroundTerm) → IsMasked mask old new ids kept → AreOnes old ids → is_in mask k ≡ true → get_or (terms_at new kept) k d ≡ get_or (terms_at old ids) k d
same_terms old new ids kept mask k d h ones e =
    elim (below_or_from k (length ids)) [
      | inl lt ↦
          let a = at_index new kept k d h.ones (omega (arith, lt, h.size)) in
          let b = at_index old ids k d ones lt in
          a.1 ∙ (ap (λ t. term_of new t) (h.same k e) ∙ (term_kept old new (get_or ids k 0) h.grown b.0 ∙ sym b.1))
      | inr le ↦ term_beyond new kept k d (omega (arith, le, h.size)) ∙ sym (term_beyond old ids k d le)
    ]

pub instance_is : (shape : Shape) (node number : ℕ) (variables arguments kept slice own : List ℕ) (old a b d : List TermNode) (i : Instance) → IsMasked shape.variables old a variables kept → slice ≡ kept → AreOnes old variables
    → IsListOf (terms_at a slice) a b i.variables → IsListOf (terms_at b own) b d i.arguments → i.node ≡ node → (shape.exists ≡ true → i.number ≡ number) → (shape.exists ≡ true → terms_at b own ≡ terms_at old arguments)
    → IsInstanceOf shape node number variables arguments old d i
instance_is shape node number variables arguments kept slice own old a b d i m e ones v u part counted below =
    let is : list_of (list_at d i.variables) ≡ terms_at a kept = ap list_of (list_term_kept b d i.variables u.kept v.fits) ∙ (v.are ∙ ap (λ ids. terms_at a ids) e) in
    record {
      kept = extends_both old a d m.grown (extends_both a b d v.kept u.kept);
      part = part;
      variables_list = list_kept b d i.variables u.kept v.fits;
      arguments_list = u.fits;
      size = ap length is ∙ (length-map kept (term_of a) ∙ m.size);
      same = λ k x h. ap (λ ts. get_or ts k x) is ∙ same_terms old a variables kept shape.variables k x m ones h;
      counted = counted;
      below = λ h. u.are ∙ below h;
    }

-- Marks that are taken away from literals that follow from other marked ones.
use Rattle.std.proofs.Common.{◌≡◌, ℕ, ◌+◌, ◌<◌, Bool, false, List, length, get_or, set, take, Option, Some, None, IsTrue, inl, inr, sym, ap, subst, ◌∙◌, get_or-set_other}
use Rattle.std.specs.Bool.{OnFalse}
use Rattle.std.specs.List.{slice_get, slice_index_or}
use Rattle.std.specs.Option.{IfSome, IsSomeAnd}
use Rattle.std.proofs.lemmas.Bool.{cases_eq, both_ways, OnFalse_at, OnFalse_from, OnTrue_from}
use Rattle.std.proofs.lemmas.List.Elements.{All-more, All-weaker}
use Rattle.std.proofs.lemmas.Option.{slice_get-get_or}
use Rattle.solve_solver.specs.declared.literal.PLit.{PLit}
use Rattle.solve_solver.specs.declared.reason.Reason.TheVariants.{Unknown}
use Rattle.solve_solver.specs.declared.trail.Entry.{Entry}
use Rattle.solve_solver.specs.Assignment.{value_at}
use Rattle.solve_solver.specs.LearnerView.{LearnerView, IsExplained, IsMinimal, IsMinimizedAt, clause_by}
use Rattle.solve_solver.specs.Marks.{HasMarks, IsMarkedBut}
use Rattle.solve_solver.proofs.SetMarks.{IsMarkedBut-kept, HasMarks-without, unmarked_after}

-- the same mark is taken away on both sides
HasMarks-both : (more fewer : List Bool) (v : ℕ) → HasMarks more fewer → HasMarks (set more v false) (set fewer v false)
HasMarks-both more fewer v has w m = elim (cases_eq w v) [
  | inl q ↦ absurd (both_ways (value_at (set fewer v false) w) (ap (value_at (set fewer v false)) q ∙ unmarked_after fewer v) m)
  | inr q ↦ get_or-set_other more v w false false q ∙ has w (sym (get_or-set_other fewer v w false false q) ∙ m)
]

module _ {T L : Type 0} (s : LearnerView T L) where
  -- what is explained by fewer marks is explained by more
  IsExplained-more : (more fewer : List Bool) (l : PLit) → HasMarks more fewer → IsExplained s fewer l → IsExplained s more l
  IsExplained-more more fewer l has h = go (clause_by s (slice_index_or s.reasons l.var Unknown)) h
    where
      go : (o : Option (List PLit)) → IsSomeAnd o (IsMarkedBut (set fewer l.var false) s.state.entries (Some l)) → IsSomeAnd o (IsMarkedBut (set more l.var false) s.state.entries (Some l))
      go None k = k
      go (Some clause) k = IsMarkedBut-kept (set more l.var false) (set fewer l.var false) s.state.entries (Some l) clause (HasMarks-both more fewer l.var has) k

  -- the mark of a literal that follows is taken away
  pub minimized_explained : (marks : List Bool) (root : Bool) (e : Entry) → e.decided ≡ false → marks ≡ set s.marks e.literal.var false → IsMinimizedAt s marks root e root
  minimized_explained marks root e implied is =
      let gone : value_at marks e.literal.var ≡ false = ap (λ ms. value_at ms e.literal.var) is ∙ unmarked_after s.marks e.literal.var in
      record {
        next_root_is = (λ t. (t, implied), λ h. h.0);
        fewer = λ v m. HasMarks-without s.marks e.literal.var v (sym (ap (λ ms. value_at ms v) is) ∙ m);
        others = λ v other. ap (λ ms. value_at ms v) is ∙ get_or-set_other s.marks e.literal.var v false false other;
        decided = OnTrue_from e.decided (marks ≡ s.marks) (λ d. absurd (both_ways e.decided implied d));
        implied = OnFalse_from e.decided (IsTrue root → value_at marks e.literal.var ≡ false) (λ _ _. gone);
        minimal = OnFalse_from e.decided (IsTrue (value_at marks e.literal.var) → ¬ IsExplained s marks e.literal) (λ _ m _. both_ways (value_at marks e.literal.var) gone m);
      }

  -- one more place
  pub IsMinimal-more : (more fewer : List Bool) (xs : List Entry) (i : ℕ) (d : Entry) → i < length xs → HasMarks more fewer → IsMinimal s more (take i xs) → OnFalse (get_or xs i d).decided (IsTrue (value_at fewer (get_or xs i d).literal.var) → ¬ IsExplained s fewer (get_or xs i d).literal) → IsMinimal s fewer (take (i + 1) xs)
  IsMinimal-more more fewer xs i d h has before here =
      All-more (λ (e : Entry). OnFalse e.decided (IsTrue (value_at fewer e.literal.var) → ¬ IsExplained s fewer e.literal)) xs i d h
      (All-weaker (λ (e : Entry). OnFalse e.decided (IsTrue (value_at more e.literal.var) → ¬ IsExplained s more e.literal)) (λ (e : Entry). OnFalse e.decided (IsTrue (value_at fewer e.literal.var) → ¬ IsExplained s fewer e.literal))
      (λ e k. OnFalse_from e.decided (IsTrue (value_at fewer e.literal.var) → ¬ IsExplained s fewer e.literal) (λ implied m explained. OnFalse_at implied k (has e.literal.var m) (IsExplained-more more fewer e.literal has explained)))
      (take i xs) before)
      here

-- what is known of the element at a place that is there
pub at_place : {X : Type 0} (P : X → Type 0) (xs : List X) (i : ℕ) (d : X) → i < length xs → IfSome (slice_get xs i) P → P (get_or xs i d)
at_place P xs i d h k = subst (λ o. IfSome o P) (slice_get-get_or xs i d h) k

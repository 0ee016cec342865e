-- Formulas that stand in a longer arena, too.
use Rattle.std.proofs.Common.{◌≡◌, ℕ, zero, suc, ◌+◌, List, [], ◌∷◌, take, sym, ap, arith, subst, false}
use Rattle.std.specs.Prelude.{Some, slice_get}
use Rattle.form_formula.specs.declared.node.Node.{Node}
use Rattle.form_formula.specs.declared.structure.Signature.{Signature}
use Rattle.form_formula.specs.Added.{Extends}
use Rattle.form_formula.specs.Nodes.{IsFormula, formula_of}
use Rattle.form_formula.specs.NormalForm.{normal_form}
use Rattle.form_formula.specs.Trees.{Formula}
use Rattle.form_formula.proofs.FormLemmas.{extends_formula}
use Rattle.form_formula.proofs.Placement.{kind_within}
use Rattle.decide_verdict.specs.Verdicts.{IsSafe, IsVerdict}
use Rattle.decide_verdict.specs.declared.verdict.Verdict.TheVariants.{Safe}
use Rattle.check_scripts.specs.Safe.{IsSafeIn}

-- two lists with one front, and then one element
pub one_more_same : {A : Type 0} (xs ys : List A) (n : ℕ) (x : A) → take n xs ≡ take n ys → slice_get xs n ≡ Some x → slice_get ys n ≡ Some x
    → take (n + 1) xs ≡ take (n + 1) ys
one_more_same [] ys n x t e f = cc
one_more_same (a ∷ xs) [] n x t e f = cc
one_more_same (a ∷ xs) (b ∷ ys) zero x t e f = let same : a ≡ b = cc in ap (λ y. y ∷ []) same
one_more_same (a ∷ xs) (b ∷ ys) (suc n) x t e f =
    let more : suc n + 1 ≡ suc (n + 1) = omega arith in
    let first : a ≡ b = cc in
    let rest : take n xs ≡ take n ys = cc in
    let behind = one_more_same xs ys n x rest e f in
    rw more cc

-- a formula that is safe in an arena is safe in each front of it in which it stands
pub safe_in_front : (g : Signature) (xs ys : List Node) (id : ℕ) → Extends xs ys → IsFormula xs id → IsSafeIn g ys id → IsSafeIn g xs id
unfolding IsSafeIn
safe_in_front g xs ys id e h safe =
    subst (λ (f : Formula). IsSafe g f (normal_form f)) (extends_formula xs ys id e (kind_within xs id false h)) safe

-- and one that the verdict says to be safe is so in each longer one
pub safe_behind : (g : Signature) (xs ys : List Node) (id : ℕ) → Extends xs ys → IsFormula xs id → IsVerdict g (formula_of xs id) Safe → IsSafeIn g ys id
unfolding IsSafeIn
safe_behind g xs ys id e h safe =
    subst (λ (f : Formula). IsSafe g f (normal_form f)) (sym (extends_formula xs ys id e (kind_within xs id false h))) safe

pub verdict_of : (g : Signature) (xs : List Node) (id : ℕ) → IsSafeIn g xs id → IsVerdict g (formula_of xs id) Safe
unfolding IsSafeIn
verdict_of g xs id safe = safe

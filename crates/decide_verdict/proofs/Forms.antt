-- Normal forms, and the `exists` that a formula begins with.
use Rattle.std.proofs.Common.{◌≡◌, ℕ, ◌<◌, Bool, true, false, refl, sym, ◌∙◌, List, [], ◌∷◌, ◌++◌, ap, arith, append_assoc, append-nil}
use Rattle.std.specs.Prelude.{not, ◌&&◌, ◌||◌}
use Rattle.std.specs.List.{list_any}
use Rattle.form_formula.specs.declared.structure.Signature.{Signature}
use Rattle.form_formula.specs.declared.structure.Structure.{Structure}
use Rattle.form_formula.specs.NormalForm.{signed_form}
use Rattle.form_formula.specs.Over.{IsOver}
use Rattle.form_formula.specs.Trees.{Formula, yes, no, equal, less, has, flag, present, negation, both, either, exists, forall}
use Rattle.form_formula.specs.Truth.{truth, elements, size_of}
use Rattle.form_terms.specs.Satisfying.{leading_sorts, body_of, AreElements}
use Rattle.form_terms.proofs.Kept.{list_any-from}
use Rattle.form_terms.proofs.Lists.{range-Contains}

-- a normal form is over the same signature
pub over_form : (g : Signature) (sign : Bool) (scope : List ℕ) (f : Formula) → IsOver g scope f → IsOver g scope (signed_form sign f)
over_form g true scope yes h = tt
over_form g false scope yes h = tt
over_form g true scope no h = tt
over_form g false scope no h = tt
over_form g true scope (equal t u) h = h
over_form g false scope (equal t u) h = h
over_form g true scope (less t u) h = h
over_form g false scope (less t u) h = h
over_form g true scope (has r t u) h = h
over_form g false scope (has r t u) h = h
over_form g true scope (flag f t) h = h
over_form g false scope (flag f t) h = h
over_form g true scope (present f t) h = h
over_form g false scope (present f t) h = h
over_form g true scope (negation a) h = over_form g false scope a h
over_form g false scope (negation a) h = over_form g true scope a h
over_form g true scope (both a b) h = (over_form g true scope a h.0, over_form g true scope b h.1)
over_form g false scope (both a b) h = (over_form g false scope a h.0, over_form g false scope b h.1)
over_form g true scope (either a b) h = (over_form g true scope a h.0, over_form g true scope b h.1)
over_form g false scope (either a b) h = (over_form g false scope a h.0, over_form g false scope b h.1)
over_form g true scope (exists sort a) h = (h.0, over_form g true (scope ++ sort ∷ []) a h.1)
over_form g false scope (exists sort a) h = (h.0, over_form g false (scope ++ sort ∷ []) a h.1)
over_form g true scope (forall sort a) h = (h.0, over_form g true (scope ++ sort ∷ []) a h.1)
over_form g false scope (forall sort a) h = (h.0, over_form g false (scope ++ sort ∷ []) a h.1)

module _ (s : Structure) where
  -- no element is chosen where no `exists` leads
  nothing_led : (env picks : List ℕ) (f : Formula) → AreElements s [] picks → truth s (env ++ picks) f ≡ true → truth s env f ≡ true
  nothing_led env [] f h e = sym (ap (λ xs. truth s xs f) (append-nil env)) ∙ e
  nothing_led env (x ∷ xs) f h e = absurd h

  -- a formula is true where it is with elements for the `exists` that it begins with
  pub leading_true : (env picks : List ℕ) (f : Formula) → AreElements s (leading_sorts f) picks → truth s (env ++ picks) (body_of f) ≡ true → truth s env f ≡ true
  leading_true env picks yes h e = nothing_led env picks yes h e
  leading_true env picks no h e = nothing_led env picks no h e
  leading_true env picks (equal t u) h e = nothing_led env picks (equal t u) h e
  leading_true env picks (less t u) h e = nothing_led env picks (less t u) h e
  leading_true env picks (has r t u) h e = nothing_led env picks (has r t u) h e
  leading_true env picks (flag f t) h e = nothing_led env picks (flag f t) h e
  leading_true env picks (present f t) h e = nothing_led env picks (present f t) h e
  leading_true env picks (negation a) h e = nothing_led env picks (negation a) h e
  leading_true env picks (both a b) h e = nothing_led env picks (both a b) h e
  leading_true env picks (either a b) h e = nothing_led env picks (either a b) h e
  leading_true env [] (exists sort a) h e = absurd h
  leading_true env (x ∷ xs) (exists sort a) h e =
      let later : truth s (env ++ x ∷ []) a ≡ true = leading_true (env ++ x ∷ []) xs a h.1 (ap (λ ys. truth s ys (body_of a)) (append_assoc env (x ∷ []) xs) ∙ e) in
      list_any-from (λ x. truth s (env ++ x ∷ []) a) (elements s sort) x (range-Contains 0 (size_of s sort) x (omega arith) (omega (arith, h.0))) later
  leading_true env picks (forall sort a) h e = nothing_led env picks (forall sort a) h e

-- What calls did to an outside object, one after another.
use Rattle.std.proofs.Common.{◌≡◌, refl, ℕ, ◌≤◌, inl, inr, List, [], ◌∷◌, ◌++◌, Option, ◌∙◌, arith}
use Rattle.std.proofs.lemmas.Bool.{cases_lt}
use Rattle.app_flow.specs.Faults.{Rose}
use Rattle.app_flow.specs.Files.{Files}
use Rattle.app_flow.specs.Outside.{IsRead}
use Rattle.app_flow.proofs.ToldLemmas.{Appends-none, Appends-then}

Rose-later : (a b c : ℕ) → a ≤ b → b ≤ c → Rose b c → Rose a c
Rose-later a b c before after (inl rose) = inl (omega (arith, before, rose))
Rose-later a b c before after (inr last) =
    elim (cases_lt a c) [
      | inl rose ↦ inl rose
      | inr stood ↦ inr (omega (arith, before, after, last, stood))
    ]

none-before : {A : Type 0} (front back : List A) → front ++ back ≡ [] → front ≡ []
none-before [] back e = refl
none-before (x ∷ front) back e = absurd cc

none-behind : {A : Type 0} (front back : List A) → front ++ back ≡ [] → back ≡ []
none-behind [] back e = e
none-behind (x ∷ front) back e = absurd cc

module _ {O : Type 0} (told : O → Option Files) (calls : O → Option (List (List ℕ))) (faults : O → ℕ) where
  -- one reading after another: the names of both, in their order
  pub read-more : (a b c : O) (names more : List (List ℕ)) (failed later : Type 0) → IsRead told calls faults a b names failed → IsRead told calls faults b c more later
      → IsRead told calls faults a c (names ++ more) later
  read-more a b c names more failed later p q = record {
    called = Appends-then (calls a) (calls b) (calls c) names more p.called q.called;
    silent = λ none. q.silent (none-behind names more none) ∙ p.silent (none-before names more none);
    kept = q.kept ∙ p.kept;
    counted = λ fault. Rose-later (faults a) (faults b) (faults c) p.never_falls q.never_falls (q.counted fault);
    never_falls = omega (arith, p.never_falls, q.never_falls);
  }

  -- the same reading, failed in fewer cases
  pub read-as : (a b : O) (names : List (List ℕ)) (failed less : Type 0) → (less → failed) → IsRead told calls faults a b names failed → IsRead told calls faults a b names less
  read-as a b names failed less fewer p = record {
    called = p.called;
    silent = p.silent;
    kept = p.kept;
    counted = λ fault. p.counted (fewer fault);
    never_falls = p.never_falls;
  }

  -- nothing is read
  pub read-none : (a : O) (failed : Type 0) → ¬ failed → IsRead told calls faults a a [] failed
  read-none a failed never = record {
    called = Appends-none (calls a);
    silent = λ none. refl;
    kept = refl;
    counted = λ fault. absurd (never fault);
    never_falls = omega arith;
  }

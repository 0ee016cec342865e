-- What clauses are spelled by, as they grow.
use Rattle.std.proofs.Common.{◌≡◌, ℕ, ◌+◌, ◌<◌, List, [], ◌∷◌, ◌++◌, length, map, take, get_or, refl, sym, ap, ◌∙◌, add-one, ℤ, pos}
use Rattle.std.proofs.Math.Seq.{take-suc}
use Rattle.std.proofs.lemmas.List.{append_assoc, append-nil}
use Rattle.solve_solver.specs.declared.literal.PLit.{PLit}
use Rattle.solve_bench.specs.Spelling.{number_of, spelled, spelled_with}

spelled_push : (clauses : List (List PLit)) (clause : List PLit) → spelled (clauses ++ clause ∷ []) ≡ spelled clauses ++ (map number_of clause ++ pos 0 ∷ [])
spelled_push [] clause = refl
spelled_push (first ∷ clauses) clause =
    ap (λ rest. map number_of first ++ pos 0 ∷ rest) (spelled_push clauses clause)
    ∙ sym (append_assoc (map number_of first) (pos 0 ∷ spelled clauses) (map number_of clause ++ pos 0 ∷ []))

-- a clause that is ended
pub spelled_ended : (clauses new : List (List PLit)) (clause rest : List PLit) (n : ℤ) → new ≡ clauses ++ clause ∷ [] → rest ≡ [] → n ≡ pos 0 → spelled_with new rest ≡ spelled_with clauses clause ++ n ∷ []
spelled_ended clauses new clause rest n pushed none zero =
    ap (λ cs. spelled_with cs rest) pushed
    ∙ ap (λ c. spelled_with (clauses ++ clause ∷ []) c) none
    ∙ append-nil (spelled (clauses ++ clause ∷ []))
    ∙ spelled_push clauses clause
    ∙ sym (append_assoc (spelled clauses) (map number_of clause) (pos 0 ∷ []))
    ∙ ap (λ k. spelled_with clauses clause ++ k ∷ []) (sym zero)

-- one number more
pub take_one_more : (numbers old new : List ℤ) (k : ℕ) (n : ℤ) → k < length numbers → n ≡ get_or numbers k (pos 0) → old ≡ take k numbers → new ≡ old ++ n ∷ [] → new ≡ take (k + 1) numbers
take_one_more numbers old new k n l is before more =
    more ∙ ap (λ xs. xs ++ n ∷ []) before ∙ ap (λ m. take k numbers ++ m ∷ []) is
    ∙ sym (ap (λ j. take j numbers) (add-one k) ∙ take-suc numbers k (pos 0) l)

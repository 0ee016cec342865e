-- What is left of the clauses that were learned.
use Rattle.std.proofs.Common.{◌≡◌, List, [], ◌∷◌, ◌++◌, ◌⊎◌, ℕ, Some, length, sym, ap, ◌∙◌, inl, inr, refl, arith}
use Rattle.std.specs.List.{All, Contains, slice_get}
use Rattle.std.proofs.lemmas.List.{length_push, get_or_push}
use Rattle.std.proofs.lemmas.List.Elements.{All-nil, All-push, All-weaker, All-contains, All-contains_itself}
use Rattle.std.proofs.lemmas.Option.{slice_get_within, slice_get-get_or, get_or_from_slice_get}
use Rattle.solve_solver.specs.declared.literal.PLit.{PLit}
use Rattle.solve_solver.specs.Learned.{LearnedView, IsAmong, clause_of, learned_list}

-- a clause behind others that are all from a list
pub among_pushed : (all kept : List (List PLit)) (clause : List PLit) → All (Contains all) kept → All (IsAmong all clause) (kept ++ clause ∷ [])
among_pushed all kept clause h = All-push (IsAmong all clause) kept clause (All-weaker (Contains all) (IsAmong all clause) (λ x c. inl c) kept h) (inr refl)

-- what stands at a place is there
pub there_at : (xs : List (List PLit)) (k : ℕ) (clause : List PLit) → Some clause ≡ slice_get xs k → Contains xs clause
there_at xs k clause h = (k, slice_get_within xs k clause (sym h), get_or_from_slice_get xs k clause clause (sym h))

-- a clause that has a slot is there
pub clause_of-there : (l : LearnedView) (slot : ℕ) (clause : List PLit) → Some clause ≡ clause_of l slot → Contains (learned_list l) clause
clause_of-there l slot clause h = there_at (learned_list l) slot clause h

-- the clauses that were there, or none of them
pub kept_or_none : (old kept : List (List PLit)) → (kept ≡ old) ⊎ (kept ≡ []) → All (Contains old) kept
kept_or_none old kept (inl e) = rw e (All-contains_itself old)
kept_or_none old kept (inr e) = rw e (All-nil (Contains old))

-- a clause from a list is put behind others from it
pub contained_pushed : (from to : List (List PLit)) (slot : ℕ) (clause : List PLit) → slice_get from slot ≡ Some clause → All (Contains from) to → All (Contains from) (to ++ clause ∷ [])
contained_pushed from to slot clause here h = All-push (Contains from) to clause h (there_at from slot clause (sym here))

pub last_here : (xs : List (List PLit)) (clause : List PLit) → slice_get (xs ++ clause ∷ []) (length xs) ≡ Some clause
last_here xs clause =
    slice_get-get_or (xs ++ clause ∷ []) (length xs) clause (omega (arith, length_push xs clause))
    ∙ ap Some (get_or_push xs clause clause (length xs) refl)

-- what holds of the clauses before and of the one that was pushed
pub All-among : (P : List PLit → Type 0) (old new : List (List PLit)) (clause : List PLit) → All P old → P clause → All (IsAmong old clause) new → All P new
All-among P old new clause h p among =
    All-weaker (IsAmong old clause) P (λ x a. elim a [ inl there ↦ All-contains P old x h there | inr e ↦ rw e p ]) new among

-- what holds of each clause holds of those of them that are kept
pub All-kept : (P : List PLit → Type 0) (old new : List (List PLit)) → All P old → All (Contains old) new → All P new
All-kept P old new h kept = All-weaker (Contains old) P (λ x there. All-contains P old x h there) new kept

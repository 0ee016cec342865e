-- What adding a visit and forgetting all of them change.
use Rattle.std.proofs.Common.{◌≡◌, ◌≢◌, ℕ, ◌+◌, ◌<◌, ◌≤◌, Bool, true, false, ◌||◌, eqb, List, [], ◌∷◌, ◌++◌, length, get_or, set, drop, sym, ap, ◌∙◌, arith}
use Rattle.std.specs.List.{All, AllPairs}
use Rattle.std.proofs.Math.Logic.{⊎_elim}
use Rattle.std.proofs.lemmas.Bool.{cases_eq, false≢true, or_cases, or_right, eqb-true, eq-eqb, ne_eqb, false_from_ne_true}
use Rattle.std.proofs.lemmas.List.{at_drop_more, drop_all, get_or-set_same, get_or-set_other, length-set, length_push}
use Rattle.std.proofs.lemmas.List.Elements.{All-from_get_or, All-push}
use Rattle.std.proofs.lemmas.List.Folds.{list_any-append, list_any_at}
use Rattle.std.proofs.lemmas.List.Quantifiers.{all_pairs_push}
use Rattle.std.proofs.Math.Bool.{or-false}
use Rattle.solve_equality.specs.declared.visits.Visit.{Visit}
use Rattle.solve_theory.proofs.Distinct.{length-le_from_pairs_by}
use Rattle.solve_equality.specs.Visits.{has_visited, MarkedFrom, IsSoundVisits}

-- once no visit is left, nothing is marked
pub unmarked : (visits : List Visit) (seen : List Bool) → MarkedFrom visits seen (length visits) → All (λ mark. mark ≡ false) seen
unmarked visits seen marked =
    All-from_get_or (λ mark. mark ≡ false) seen false
    (λ t l. false_from_ne_true (get_or seen t false) (λ e. false≢true (sym (ap (λ vs. has_visited vs t) (drop_all (length visits) visits (omega arith))) ∙ marked t l e)))

-- whether a term is visited once a visit is added
has_visited_push : (visits : List Visit) (v : Visit) (t : ℕ) → has_visited (visits ++ v ∷ []) t ≡ (has_visited visits t || eqb v.term t)
has_visited_push visits v t = list_any-append (λ (w : Visit). eqb w.term t) visits (v ∷ []) ∙ ap (λ b. has_visited visits t || b) (or-false (eqb v.term t))

module _ (visits : List Visit) (seen : List Bool) (capacity : ℕ) (v : Visit) (sound : IsSoundVisits visits seen capacity) (here : v.term < length seen) (new : has_visited visits v.term ≡ false) where
  once_push : AllPairs (λ (a b : Visit). a.term ≢ b.term) (visits ++ v ∷ [])
  once_push = all_pairs_push (λ (a b : Visit). a.term ≢ b.term) visits v sound.once
      (λ k d l e. false≢true (sym new ∙ list_any_at (λ (w : Visit). eqb w.term v.term) visits k d l (eq-eqb _ _ e)))

  within_push : All (λ (a : Visit). a.term < length seen) (visits ++ v ∷ [])
  within_push = All-push (λ (a : Visit). a.term < length seen) visits v sound.within here

  -- there is room for another visit
  pub has_room : length visits < capacity
  has_room = omega (arith, length-le_from_pairs_by (λ (w : Visit). w.term) (visits ++ v ∷ []) (length seen) once_push within_push, length_push visits v, sound.room)

  marks_push : (t : ℕ) → t < length (set seen v.term true) → get_or (set seen v.term true) t false ≡ has_visited (visits ++ v ∷ []) t
  marks_push t l =
      let n = length-set seen v.term true in
      ⊎_elim
      (λ same.
      ap (λ k. get_or (set seen v.term true) k false) same ∙ get_or-set_same seen v.term true false here
      ∙ sym (has_visited_push visits v t ∙ or_right (has_visited visits t) (eqb v.term t) (eq-eqb v.term t (sym same))))
      (λ other.
      get_or-set_other seen v.term t true false other ∙ sound.marks t (omega arith)
      ∙ sym (has_visited_push visits v t ∙ ap (λ b. has_visited visits t || b) (ne_eqb v.term t (λ e. other (sym e))) ∙ or-false (has_visited visits t)))
      (cases_eq t v.term)

  pub IsSoundVisits-push : (more : ℕ) → capacity ≤ more → IsSoundVisits (visits ++ v ∷ []) (set seen v.term true) more
  IsSoundVisits-push more le =
      let n = length-set seen v.term true in
      record {
        small = omega (arith, sound.small);
        room = omega (arith, sound.room);
        within = rw n within_push;
        once = once_push;
        marks = marks_push;
      }

-- the visits are at most as many as there are terms
pub length-le_visits : (visits : List Visit) (seen : List Bool) (capacity : ℕ) → IsSoundVisits visits seen capacity → length visits ≤ length seen
length-le_visits visits seen capacity sound = length-le_from_pairs_by (λ (w : Visit). w.term) visits (length seen) sound.once sound.within

-- Marks that are set one after another.
use Rattle.std.proofs.Common.{◌≡◌, ◌≢◌, ◌⊎◌, ℕ, ◌+◌, ◌<◌, ◌≤◌, Bool, true, false, List, length, get_or, set, take, Option, Some, IsTrue, inl, inr, sym, ap, ◌∙◌, arith, get_or-set_same, get_or-set_other, length-set}
use Rattle.std.specs.List.{All, Any, slice_index}
use Rattle.std.proofs.Math.ListN.{get_or-eq_default}
use Rattle.std.proofs.lemmas.Bool.{cases_eq, cases_lt, both_ways}
use Rattle.std.proofs.lemmas.List.{get_or_default}
use Rattle.std.proofs.lemmas.List.Elements.{All-more, All-weaker}
use Rattle.solve_solver.specs.declared.literal.PLit.{PLit}
use Rattle.solve_solver.specs.declared.trail.Entry.{Entry}
use Rattle.solve_solver.specs.Assignment.{value_at}
use Rattle.solve_solver.specs.Marks.{HasMarks, IsMarkedBut}
use Rattle.solve_solver.specs.Units.{IsFalseIn}

pub HasMarks-trans : (most more few : List Bool) → HasMarks most more → HasMarks more few → HasMarks most few
HasMarks-trans most more few h k v m = h v (k v m)

pub is_marked : (marks : List Bool) (v : ℕ) → v < length marks → IsTrue (value_at (set marks v true) v)
is_marked marks v h = get_or-set_same marks v true false h

pub HasMarks-set : (marks : List Bool) (v : ℕ) → v < length marks → HasMarks (set marks v true) marks
HasMarks-set marks v h k m = elim (cases_eq k v) [
  | inl q ↦ ap (value_at (set marks v true)) q ∙ is_marked marks v h
  | inr q ↦ get_or-set_other marks v k true false q ∙ m
]

-- with more marks a clause is marked all the same
pub IsMarkedBut-kept : (more fewer : List Bool) (es : List Entry) (but : Option PLit) (clause : List PLit) → HasMarks more fewer → IsMarkedBut fewer es but clause → IsMarkedBut more es but clause
IsMarkedBut-kept more fewer es but clause has h =
    All-weaker (λ x. (but ≡ Some x) ⊎ (IsFalseIn es x × IsTrue (value_at fewer x.var))) (λ x. (but ≡ Some x) ⊎ (IsFalseIn es x × IsTrue (value_at more x.var)))
    (λ x k. elim k [ inl e ↦ inl e | inr m ↦ inr (m.0, has x.var m.1) ])
    clause h

-- a step of a loop over the clause: the literal that is left out, or one that is false
pub IsMarkedBut-same : (marks : List Bool) (es : List Entry) (but : Option PLit) (clause : List PLit) (i : ℕ) (d : PLit) → i < length clause → IsMarkedBut marks es but (take i clause) → but ≡ Some (get_or clause i d) → IsMarkedBut marks es but (take (i + 1) clause)
IsMarkedBut-same marks es but clause i d l h e =
    All-more (λ x. (but ≡ Some x) ⊎ (IsFalseIn es x × IsTrue (value_at marks x.var))) clause i d l h (inl e)

pub IsMarkedBut-false : (marks : List Bool) (es : List Entry) (but : Option PLit) (clause : List PLit) (i : ℕ) (d : PLit) → i < length clause → (get_or clause i d).var < length marks → IsMarkedBut marks es but (take i clause) → IsFalseIn es (get_or clause i d) → IsMarkedBut (set marks (get_or clause i d).var true) es but (take (i + 1) clause)
IsMarkedBut-false marks es but clause i d l below h f =
    let v = (get_or clause i d).var in
    let more = set marks v true in
    All-more (λ x. (but ≡ Some x) ⊎ (IsFalseIn es x × IsTrue (value_at more x.var))) clause i d l
    (IsMarkedBut-kept more marks es but (take i clause) (HasMarks-set marks v below) h)
    (inr (f, is_marked marks v below))

-- what is marked after one more mark was marked before, or is what was marked now
pub marked_by_set : (marks : List Bool) (v w : ℕ) → IsTrue (value_at (set marks v true) w) → IsTrue (value_at marks w) ⊎ (v ≡ w)
marked_by_set marks v w m = elim (cases_eq w v) [
  | inl q ↦ inr (sym q)
  | inr q ↦ inl (sym (get_or-set_other marks v w true false q) ∙ m)
]

-- what is marked is what was marked before, or of the clause
pub only_of_clause : (marks before : List Bool) (but : Option PLit) (clause : List PLit) (i : ℕ) (d : PLit) → i < length clause → but ≢ Some (get_or clause i d)
    → ((v : ℕ) → IsTrue (value_at marks v) → IsTrue (value_at before v) ⊎ Any (λ x. (but ≢ Some x) × (x.var ≡ v)) clause)
    → (v : ℕ) → IsTrue (value_at (set marks (get_or clause i d).var true) v) → IsTrue (value_at before v) ⊎ Any (λ x. (but ≢ Some x) × (x.var ≡ v)) clause
only_of_clause marks before but clause i d l other only v m = elim (marked_by_set marks (get_or clause i d).var v m) [
  | inl n ↦ only v n
  | inr e ↦ inr (i, get_or clause i d, l, get_or_default clause i (get_or clause i d) d l, (other, e))
]

-- a literal of the clause that is neither the one that is left out nor false
pub not_false_at : (es : List Entry) (but : Option PLit) (clause : List PLit) (i : ℕ) (d : PLit) → i < length clause → but ≢ Some (get_or clause i d) → ¬ IsFalseIn es (get_or clause i d) → Any (λ x. (but ≢ Some x) × ¬ IsFalseIn es x) clause
not_false_at es but clause i d l other not_false = (i, get_or clause i d, l, get_or_default clause i (get_or clause i d) d l, (other, not_false))

-- a step of a loop over positions of a list of variables
pub places_marked : (marks : List Bool) (places positions : List ℕ) (i d : ℕ) → i < length positions → get_or positions i d < length places → slice_index places (get_or positions i d) < length marks → All (λ p. p < length places → IsTrue (value_at marks (slice_index places p))) (take i positions) → All (λ p. p < length places → IsTrue (value_at (set marks (slice_index places (get_or positions i d)) true) (slice_index places p))) (take (i + 1) positions)
places_marked marks places positions i d l inside below h =
    let v = slice_index places (get_or positions i d) in
    All-more (λ p. p < length places → IsTrue (value_at (set marks v true) (slice_index places p))) positions i d l
    (All-weaker (λ p. p < length places → IsTrue (value_at marks (slice_index places p))) (λ p. p < length places → IsTrue (value_at (set marks v true) (slice_index places p)))
    (λ p m k. HasMarks-set marks v below (slice_index places p) (m k)) (take i positions) h)
    (λ _. is_marked marks v below)

pub places_passed : (marks : List Bool) (places positions : List ℕ) (i d : ℕ) → i < length positions → length places ≤ get_or positions i d → All (λ p. p < length places → IsTrue (value_at marks (slice_index places p))) (take i positions) → All (λ p. p < length places → IsTrue (value_at marks (slice_index places p))) (take (i + 1) positions)
places_passed marks places positions i d l outside h =
    All-more (λ p. p < length places → IsTrue (value_at marks (slice_index places p))) positions i d l h (λ k. absurd (omega arith))

-- what is marked is what was marked before, or at one of the positions
pub only_at_places : (marks before : List Bool) (places positions : List ℕ) (i d : ℕ) → i < length positions → get_or positions i d < length places
    → ((v : ℕ) → IsTrue (value_at marks v) → IsTrue (value_at before v) ⊎ Any (λ p. (p < length places) × (slice_index places p ≡ v)) positions)
    → (v : ℕ) → IsTrue (value_at (set marks (slice_index places (get_or positions i d)) true) v) → IsTrue (value_at before v) ⊎ Any (λ p. (p < length places) × (slice_index places p ≡ v)) positions
only_at_places marks before places positions i d l inside only v m = elim (marked_by_set marks (slice_index places (get_or positions i d)) v m) [
  | inl n ↦ only v n
  | inr e ↦ inr (i, get_or positions i d, l, get_or_default positions i (get_or positions i d) d l, (inside, e))
]

-- a mark that was taken away is gone
pub unmarked_after : (marks : List Bool) (v : ℕ) → value_at (set marks v false) v ≡ false
unmarked_after marks v = elim (cases_lt v (length marks)) [
  | inl within ↦ get_or-set_same marks v false false within
  | inr past ↦ get_or-eq_default (set marks v false) false (omega (arith, length-set marks v false))
]

-- a literal that is false and marked, and of another variable than one whose mark is taken away
pub IsMarkedBut-other : (marks : List Bool) (v : ℕ) (es : List Entry) (but : Option PLit) (clause : List PLit) (i : ℕ) (d : PLit) → i < length clause → ¬ ((get_or clause i d).var ≡ v) → IsFalseIn es (get_or clause i d) × IsTrue (value_at marks (get_or clause i d).var) → IsMarkedBut (set marks v false) es but (take i clause) → IsMarkedBut (set marks v false) es but (take (i + 1) clause)
IsMarkedBut-other marks v es but clause i d l ne here h =
    All-more (λ x. (but ≡ Some x) ⊎ (IsFalseIn es x × IsTrue (value_at (set marks v false) x.var))) clause i d l h
    (inr (here.0, get_or-set_other marks v (get_or clause i d).var false false ne ∙ here.1))

-- a literal that is neither the one that is left out nor both false and marked
pub not_marked_but : (marks : List Bool) (es : List Entry) (but : Option PLit) (clause : List PLit) (i : ℕ) (d : PLit) → i < length clause → but ≢ Some (get_or clause i d) → ¬ (IsFalseIn es (get_or clause i d) × IsTrue (value_at marks (get_or clause i d).var)) → ¬ IsMarkedBut marks es but clause
not_marked_but marks es but clause i d l other unmarked h = elim (h i d l) [
  | inl e ↦ other e
  | inr m ↦ unmarked m
]

-- where one mark is taken away, those that are left were there
pub HasMarks-without : (marks : List Bool) (v : ℕ) → HasMarks marks (set marks v false)
HasMarks-without marks v w m = elim (cases_eq w v) [
  | inl q ↦ absurd (both_ways (value_at (set marks v false) w) (ap (value_at (set marks v false)) q ∙ unmarked_after marks v) m)
  | inr q ↦ sym (get_or-set_other marks v w false false q) ∙ m
]

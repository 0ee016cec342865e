-- What a scan of all clauses shows of a search.
use Rattle.std.proofs.Common.{◌≡◌, ◌≢◌, ℕ, ◌<◌, Bool, List, Option, Some, None, IsTrue, refl, sym}
use Rattle.std.specs.List.{All, slice_get}
use Rattle.std.specs.Option.{IfSome}
use Rattle.std.proofs.lemmas.List.Elements.{All-contains}
use Rattle.std.proofs.lemmas.Option.{slice_get_within, get_or_from_slice_get}
use Rattle.solve_solver.specs.declared.literal.PLit.{PLit}
use Rattle.solve_solver.specs.declared.trail.Entry.{Entry}
use Rattle.solve_solver.specs.declared.units.ClauseState.{ClauseState}
use Rattle.solve_solver.specs.declared.units.ClauseState.TheVariants.{Open, Conflict, UnitLiteral}
use Rattle.solve_solver.specs.Assignment.{meets_clause}
use Rattle.solve_solver.specs.Clauses.{IsWithin}
use Rattle.solve_solver.specs.Marks.{IsEntailed}
use Rattle.solve_solver.specs.Scanned.{IsNext, IsScanned, IsMetIn}
use Rattle.solve_solver.specs.ContextView.{ContextView, Lawful, IsContext}
use Rattle.solve_solver.specs.Steps.{IsSolved}
use Rattle.solve_solver.specs.Trail.{value_in}
use Rattle.solve_solver.specs.Units.{IsUnit, IsOpen, IsFoundIn, IsFoundWithin}
use Rattle.solve_solver.specs.declared.reason.Reason.{Reason}
use Rattle.solve_solver.specs.declared.reason.Reason.TheVariants.{Given, Learned, Unknown}
use Rattle.solve_solver.specs.Learned.{LearnedView, clause_of, learned_list}
use Rattle.solve_solver.specs.Watches.{IsMet, clause_in}
use Rattle.solve_solver.proofs.LearnedClauses.{clause_of-there}
use Rattle.solve_solver.proofs.Assigned.{assigned_is_lawful, assigned_is_shown}
use Rattle.solve_solver.proofs.Entailment.{conflict_not_met, unit_is_true}

pub All-at : {X : Type 0} (P : X → Type 0) (xs : List X) (k : ℕ) (x : X) → All P xs → slice_get xs k ≡ Some x → P x
All-at P xs k x h e = rw (get_or_from_slice_get xs k x x e) at (h k x (slice_get_within xs k x e))

-- what the clauses that follow show
entailed_next : (Lawful : List Bool → Type 0) (vars : ℕ) (es : List Entry) (clause : List PLit) (l : PLit) → IsEntailed Lawful clause → IsWithin vars clause → IsUnit es clause l → IsNext Lawful vars es l
entailed_next Lawful vars es clause l entailed within u = record {
  within = All-contains (λ (x : PLit). x.var < vars) clause l within u.there;
  unset = u.unset;
  forced = λ a lawful agrees. unit_is_true a es clause l agrees u (entailed a lawful);
}

-- a clause that follows and is met in a state
pub met_shows : (Lawful : List Bool → Type 0) (vars : ℕ) (es : List Entry) (clause : Option (List PLit)) (state : ClauseState) → IfSome clause (IsEntailed Lawful) → IfSome clause (IsWithin vars) → IsMet es clause state → IsMetIn Lawful vars es state
met_shows Lawful vars es None Conflict entailed within h = absurd h
met_shows Lawful vars es None (UnitLiteral l) entailed within h = absurd h
met_shows Lawful vars es (Some clause) Conflict entailed within h =
    λ a lawful agrees. conflict_not_met a es clause agrees h (entailed a lawful)
met_shows Lawful vars es (Some clause) (UnitLiteral l) entailed within h = entailed_next Lawful vars es clause l entailed within h
met_shows Lawful vars es clause Open entailed within h = tt

if_some : {X : Type 0} (P : X → Type 0) (o : Option X) → ((x : X) → o ≡ Some x → P x) → IfSome o P
if_some P None h = tt
if_some P (Some x) h = h x refl

-- what holds of all clauses holds of that of a reason
all_by : (P : List PLit → Type 0) (given : List (List PLit)) (learned : LearnedView) (reason : Reason) → All P given → All P (learned_list learned) → IfSome (clause_in given (Some learned) reason) P
all_by P given learned (Given place) h k = if_some P (slice_get given place) (λ x e. All-at P given place x h e)
all_by P given learned (Learned slot) h k = if_some P (clause_of learned slot) (λ x e. All-contains P (learned_list learned) x k (clause_of-there learned slot x (sym e)))
all_by P given learned Unknown h k = tt

module _ {T M L : Type 0} (models : T → M → Bool) (meets : M → L → Bool) (s : ContextView T L) where
  -- each lawful assignment meets a clause that is searched
  pub given_entailed : (k : ℕ) (clause : List PLit) → slice_get s.clauses k ≡ Some clause → IsEntailed (Lawful models meets s) clause
  given_entailed k clause e a lawful = All-at (λ c. IsTrue (meets_clause a c)) s.clauses k clause lawful.meets_each e

  found_solved : (literals : T → List L) (capacity : T → ℕ) (takes : T → L → Bool) → IsContext literals capacity takes models meets s → All (IsOpen s.entries) s.clauses → ((v : ℕ) → v < s.vars → value_in s.entries v ≢ None) → IsSolved literals models meets s
  found_solved literals capacity takes h found set = record {
    lawful = assigned_is_lawful s.vars s.entries set (models s.theory) meets s.clauses s.atoms h.within found (rw (← h.in_step) h.has_model);
    shown = rw h.in_step (assigned_is_shown s.vars s.entries set s.atoms h.is_trail);
    has_model = h.has_model;
    held = record { set_each = set; open_each = found };
  }

  pub context_scanned : (literals : T → List L) (capacity : T → ℕ) (takes : T → L → Bool) (state : ClauseState) (place : ℕ) → IsContext literals capacity takes models meets s → IsFoundIn s.entries s.clauses state place → IsScanned literals models meets state s
  context_scanned literals capacity takes Conflict place h found =
      λ a lawful agrees. conflict_not_met a s.entries found.clause agrees found.is (given_entailed place found.clause found.here a lawful)
  context_scanned literals capacity takes (UnitLiteral l) place h found =
      entailed_next (Lawful models meets s) s.vars s.entries found.clause l (given_entailed place found.clause found.here) (All-at (IsWithin s.vars) s.clauses place found.clause h.within found.here) found.is
  context_scanned literals capacity takes Open place h found = λ set. found_solved literals capacity takes h found set

  pub within_shows : (start end place : ℕ) (state : ClauseState) → All (IsWithin s.vars) s.clauses → IsFoundWithin s.entries s.clauses start end state place → IsMetIn (Lawful models meets s) s.vars s.entries state
  within_shows start end place Conflict within found =
      λ a lawful agrees. conflict_not_met a s.entries found.clause agrees found.is (given_entailed place found.clause found.here a lawful)
  within_shows start end place (UnitLiteral l) within found =
      entailed_next (Lawful models meets s) s.vars s.entries found.clause l (given_entailed place found.clause found.here) (All-at (IsWithin s.vars) s.clauses place found.clause within found.here) found.is
  within_shows start end place Open within found = tt

  -- what is met by the clause of a reason
  pub reason_shows : (learned : LearnedView) (reason : Reason) (state : ClauseState) → All (IsWithin s.vars) s.clauses → All (IsEntailed (Lawful models meets s)) (learned_list learned) → All (IsWithin s.vars) (learned_list learned)
      → IsMet s.entries (clause_in s.clauses (Some learned) reason) state → IsMetIn (Lawful models meets s) s.vars s.entries state
  reason_shows learned reason state given_within entailed within met =
      met_shows (Lawful models meets s) s.vars s.entries (clause_in s.clauses (Some learned) reason) state
      (all_by (IsEntailed (Lawful models meets s)) s.clauses learned reason (λ k d h a lawful. lawful.meets_each k d h) entailed)
      (all_by (IsWithin s.vars) s.clauses learned reason given_within within)
      met

-- What a contract sees of a `Learner`, and what holds of it at each step.
use Rattle.std.specs.Prelude.{◌≡◌, ◌≢◌, ◌↔◌, ℕ, Bool, false, List, Option, Some, All, IsTrue, IsSomeAnd, slice_index_or, slice_set}
use Rattle.std.specs.Bool.{OnTrue, OnFalse}
use Rattle.solve_solver.specs.declared.literal.PLit.{PLit}
use Rattle.solve_solver.specs.declared.trail.Entry.{Entry}
use Rattle.solve_solver.specs.declared.reason.Reason.{Reason}
use Rattle.solve_solver.specs.declared.reason.Reason.TheVariants.{Unknown}
use Rattle.solve_solver.specs.Assignment.{value_at}
use Rattle.solve_solver.specs.Clauses.{IsWithin}
use Rattle.solve_solver.specs.Learned.{LearnedView}
use Rattle.solve_solver.specs.Watches.{WatchesView, clause_in}
use Rattle.solve_solver.specs.Marks.{HasMarks, IsEntailed, IsMarkedBut}
use Rattle.solve_solver.specs.Preferences.{PreferencesView}
use Rattle.solve_solver.specs.ContextView.{ContextView, Lawful}

-- What is searched and set so far, which variables are marked, what was learned, and of each variable
-- the clause by which it was set, its score and its last value.
pub record LearnerView (T L : Type 0) : Type 0 where
  pub state : ContextView T L
  pub marks : List Bool
  pub learned : LearnedView
  pub reasons : List Reason
  pub preferences : PreferencesView

-- What was learned follows from the clauses and the theory. There is a mark, a reason and a score for
-- each variable, and room for a clause of all of them.
pub record IsLearner {T M L : Type 0} (models : T → M → Bool) (meets : M → L → Bool) (state : ContextView T L) (learned : List (List PLit)) (width marks reasons scores room : ℕ) (watches : WatchesView) : Type 0 where
  pub entailed : All (IsEntailed (Lawful models meets state)) learned
  pub within : All (IsWithin state.vars) learned
  pub wide : width ≡ state.vars
  pub mark_each : marks ≡ state.vars
  pub reason_each : reasons ≡ state.vars
  pub score_each : scores ≡ state.vars
  pub room_for_all : room ≡ state.vars
  pub watch_each : watches.vars ≡ state.vars

-- the clause of a reason, where it is still there
abbrev pub clause_by : {T L : Type 0} → LearnerView T L → Reason → Option (List PLit)
clause_by s reason = clause_in s.state.clauses (Some s.learned) reason

-- a literal follows by the clause of its reason from other literals that are marked
abbrev pub IsExplained : {T L : Type 0} → LearnerView T L → List Bool → PLit → Type 0
IsExplained s marks l = IsSomeAnd (clause_by s (slice_index_or s.reasons l.var Unknown)) (IsMarkedBut (slice_set marks l.var false) s.state.entries (Some l))

-- no literal that follows by its reason from other marked ones is marked itself
abbrev pub IsMinimal : {T L : Type 0} → LearnerView T L → List Bool → List Entry → Type 0
IsMinimal s marks entries = All (λ (e : Entry). OnFalse e.decided (IsTrue (value_at marks e.literal.var) → ¬ IsExplained s marks e.literal)) entries

-- The mark of a literal is taken away, where it was not decided and follows; `root` says that nothing
-- before it was decided, and `next_root` that nothing up to it was.
pub record IsMinimizedAt {T L : Type 0} (s : LearnerView T L) (marks : List Bool) (root : Bool) (e : Entry) (next_root : Bool) : Type 0 where
  pub next_root_is : IsTrue next_root ↔ (IsTrue root × (e.decided ≡ false))
  pub fewer : HasMarks s.marks marks
  pub others : (var : ℕ) → var ≢ e.literal.var → value_at marks var ≡ value_at s.marks var
  pub decided : OnTrue e.decided (marks ≡ s.marks)
  pub implied : OnFalse e.decided (IsTrue root → value_at marks e.literal.var ≡ false)
  pub minimal : OnFalse e.decided (IsTrue (value_at marks e.literal.var) → ¬ IsExplained s marks e.literal)

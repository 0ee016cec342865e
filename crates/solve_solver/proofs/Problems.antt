-- Two states of one search have the same lawful assignments.
use Rattle.std.proofs.Common.{◌≡◌, ℕ, Bool, List, refl, sym, ◌∙◌}
use Rattle.solve_solver.specs.declared.literal.PLit.{PLit}
use Rattle.solve_solver.specs.declared.trail.Entry.{Entry}
use Rattle.solve_solver.specs.Assignment.{negated}
use Rattle.solve_solver.specs.Dropping.{IsDropped}
use Rattle.solve_solver.specs.declared.reason.Reason.{Reason}
use Rattle.solve_solver.specs.Learned.{LearnedView}
use Rattle.solve_solver.specs.LearnerView.{LearnerView}
use Rattle.solve_solver.specs.Marks.{ForcesMarked, IsRefutedMarked, IsAsStrong, HasMarks}
use Rattle.solve_solver.specs.ContextView.{ContextView, Lawful, SameProblem}
use Rattle.solve_solver.specs.Trail.{Forces, IsRefuted}
use Rattle.solve_solver.proofs.MarkedTrails.{AgreesMarked-fewer, refuted_both_marked}

module _ {T M L : Type 0} {capacity : T → ℕ} {takes : T → L → Bool} {models : T → M → Bool} where
  pub SameProblem-refl : (s : ContextView T L) → SameProblem capacity takes models s s
  SameProblem-refl s = record { vars = refl; clauses = refl; atoms = refl; capacity_is = refl; takes_is = refl; models_is = refl }

  pub SameProblem-sym : {a b : ContextView T L} → SameProblem capacity takes models a b → SameProblem capacity takes models b a
  SameProblem-sym h = record {
    vars = sym h.vars;
    clauses = sym h.clauses;
    atoms = sym h.atoms;
    capacity_is = sym h.capacity_is;
    takes_is = sym h.takes_is;
    models_is = sym h.models_is;
  }

  pub SameProblem-trans : {a b c : ContextView T L} → SameProblem capacity takes models a b → SameProblem capacity takes models b c → SameProblem capacity takes models a c
  SameProblem-trans h k = record {
    vars = k.vars ∙ h.vars;
    clauses = k.clauses ∙ h.clauses;
    atoms = k.atoms ∙ h.atoms;
    capacity_is = k.capacity_is ∙ h.capacity_is;
    takes_is = k.takes_is ∙ h.takes_is;
    models_is = k.models_is ∙ h.models_is;
  }

  module _ (meets : M → L → Bool) {old new : ContextView T L} (same : SameProblem capacity takes models old new) where
    pub Lawful-before : (a : List Bool) → Lawful models meets new a → Lawful models meets old a
    Lawful-before a h = record {
      one_each = h.one_each ∙ same.vars;
      meets_each = rw (← same.clauses) h.meets_each;
      has_model = rw (← same.models_is, ← same.atoms) h.has_model;
    }

    pub Forces-after : (es : List Entry) (l : PLit) → Forces (Lawful models meets old) es l → Forces (Lawful models meets new) es l
    Forces-after es l h a lawful agrees = h a (Lawful-before a lawful) agrees

    pub IsRefuted-after : (es : List Entry) → IsRefuted (Lawful models meets old) es → IsRefuted (Lawful models meets new) es
    IsRefuted-after es h a lawful agrees = h a (Lawful-before a lawful) agrees

    pub ForcesMarked-after : (marks : List Bool) (es : List Entry) (l : PLit) → ForcesMarked (Lawful models meets old) marks es l → ForcesMarked (Lawful models meets new) marks es l
    ForcesMarked-after marks es l h a lawful agrees = h a (Lawful-before a lawful) agrees

    pub IsRefutedMarked-after : (marks : List Bool) (es : List Entry) → IsRefutedMarked (Lawful models meets old) marks es → IsRefutedMarked (Lawful models meets new) marks es
    IsRefutedMarked-after marks es h a lawful agrees = h a (Lawful-before a lawful) agrees

    -- a literal that follows and that the theory refuses
    pub refused_refuted : (fewer more : List Bool) (l : PLit) → new.entries ≡ old.entries → HasMarks more fewer → ForcesMarked (Lawful models meets old) fewer old.entries (negated l) → ForcesMarked (Lawful models meets new) more new.entries l → IsRefutedMarked (Lawful models meets new) more new.entries
    refused_refuted fewer more l kept has refused forced =
        let opposite = ForcesMarked-after fewer old.entries (negated l) refused in
        refuted_both_marked (Lawful models meets new) more new.entries l forced
        (λ a lawful agrees. opposite a lawful (rw (← kept) (AgreesMarked-fewer a more fewer new.entries has agrees)))

-- what is forced lasts as marks that the others force are taken away, and levels in which nothing is marked
pub forced_minimized : {T M L : Type 0} {capacity : T → ℕ} {takes : T → L → Bool} {models : T → M → Bool} (meets : M → L → Bool) {first second third : ContextView T L} → SameProblem capacity takes models first second → SameProblem capacity takes models second third → (marks minimized : List Bool) (vars : ℕ) (l : PLit)
    → ForcesMarked (Lawful models meets first) marks second.entries l → IsAsStrong (Lawful models meets second) second.entries minimized marks → IsDropped minimized vars second.entries third.entries → ForcesMarked (Lawful models meets third) minimized third.entries l
forced_minimized meets before after marks minimized vars l forced strong gone a lawful agrees =
    let at_second = Lawful-before meets after a lawful in
    forced a (Lawful-before meets before a at_second) (strong a at_second (gone.agrees a agrees))

-- a state with other names for what was learned and for the reasons
pub same_parts : {T L : Type 0} (s : LearnerView T L) (learned : LearnedView) (reasons : List Reason) → s.learned ≡ learned → s.reasons ≡ reasons → s ≡ record s { learned = learned; reasons = reasons }
same_parts s learned reasons same_learned same_reasons = rw (← same_learned, ← same_reasons) refl

-- The trail of a search: the literals that are true so far, the latest first.
use Rattle.std.specs.Prelude.{◌≡◌, ℕ, ◌<◌, ◌==◌, Bool, false, if◌then◌else◌, List, [], ◌∷◌, ◌++◌, Option, Some, None, IsTrue, slice_index_or, map}
use Rattle.std.specs.Bool.{OnFalse}
use Rattle.std.specs.List.{range_with_len}
use Rattle.std.specs.Option.{option_map, option_to_list, unwrap_or}
use Rattle.solve_solver.specs.declared.literal.PLit.{PLit}
use Rattle.solve_solver.specs.declared.trail.Entry.{Entry}
use Rattle.solve_solver.specs.Assignment.{literal_value, signed}

-- what a contract sees of a `Trail`
pub record TrailView : Type 0 where
  pub vars : ℕ
  pub entries : List Entry

-- the value of a variable, where it has one
abbrev pub value_in : List Entry → ℕ → Option Bool
value_in [] var = None
value_in (e ∷ es) var = if e.literal.var == var then Some e.literal.plus else value_in es var

-- the value of a literal, where its variable has one
abbrev pub literal_in : List Entry → PLit → Option Bool
literal_in es l = option_map (signed l) (value_in es l.var)

-- each variable is below a number and stands once
abbrev pub IsTrail : ℕ → List Entry → Type 0
IsTrail vars [] = Unit {0}
IsTrail vars (e ∷ es) = (e.literal.var < vars) × ((value_in es e.literal.var ≡ None) × IsTrail vars es)

-- each literal of the trail is true
abbrev pub Agrees : List Bool → List Entry → Type 0
Agrees assignment [] = Unit {0}
Agrees assignment (e ∷ es) = IsTrue (literal_value assignment e.literal) × Agrees assignment es

-- a literal is true in each lawful assignment that agrees with the trail
abbrev pub Forces : (List Bool → Type 0) → List Entry → PLit → Type 0
Forces Lawful es l = (assignment : List Bool) → Lawful assignment → Agrees assignment es → IsTrue (literal_value assignment l)

-- no lawful assignment agrees with the trail
abbrev pub IsRefuted : (List Bool → Type 0) → List Entry → Type 0
IsRefuted Lawful es = (assignment : List Bool) → Lawful assignment → ¬ Agrees assignment es

-- what is no decision follows from what was set before it
abbrev pub Follows : (List Bool → Type 0) → List Entry → Type 0
Follows Lawful [] = Unit {0}
Follows Lawful (e ∷ es) = OnFalse e.decided (Forces Lawful es e.literal) × Follows Lawful es

-- the theory's literal for a literal, where its variable has an atom
abbrev pub literal_of : {L : Type 0} → List (Option (L × L)) → PLit → Option L
literal_of atoms l = option_map (λ pair. if l.plus then pair.0 else pair.1) (slice_index_or atoms l.var None)

-- the theory's literals for those of the trail, the oldest first
abbrev pub trail_literals : {L : Type 0} → List (Option (L × L)) → List Entry → List L
trail_literals atoms [] = []
trail_literals atoms (e ∷ es) = trail_literals atoms es ++ option_to_list (literal_of atoms e.literal)

-- the variable of each of them
abbrev pub trail_places : {L : Type 0} → List (Option (L × L)) → List Entry → List ℕ
trail_places atoms [] = []
trail_places atoms (e ∷ es) = trail_places atoms es ++ option_to_list (option_map (λ _. e.literal.var) (literal_of atoms e.literal))

-- the values that the trail gives to the first variables
abbrev pub assignment_of : ℕ → List Entry → List Bool
assignment_of vars es = map (λ var. unwrap_or (value_in es var) false) (range_with_len 0 vars)

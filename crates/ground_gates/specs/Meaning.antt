-- What variables of the clauses' own mean.
use Rattle.std.specs.Prelude.{◌≡◌, ℕ, ◌+◌, ◌<◌, Bool, true, not, ◌||◌, List, Option, None, Some, slice_get}
use Rattle.std.specs.List.{list_any}
use Rattle.ground_gates.specs.declared.gate.Gate.{Gate as AnyGate}
use Rattle.ground_gates.specs.Gates.{value_of}
use Rattle.ground_gates.specs.Clauses.{inputs_by, meets_clause}
use Rattle.ground_gates.specs.declared.names.Owner.{Owner}
use Rattle.ground_gates.specs.declared.names.Owner.TheVariants.{Gate, Input}
use Rattle.ground_gates.specs.declared.parts.Parts.{Parts}
use Rattle.ground_gates.specs.Names.{NamesView}

module _ (gates : List AnyGate) (inputs : List (List ℕ)) (w : ℕ → Bool) where
  abbrev pub input_truth : ℕ → Bool
  input_truth k = inputs_by inputs w k

  abbrev pub truth : ℕ → Bool
  truth k = value_of (inputs_by inputs w) gates k

  abbrev pub owner_truth : Owner → Bool
  owner_truth (Gate k) = truth k
  owner_truth (Input k) = input_truth k

  -- each variable is true exactly where what it stands for is
  abbrev pub IsFaithful : NamesView → Type 0
  IsFaithful names = (n : ℕ) (o : Owner) → slice_get names.owners n ≡ Some o → w (names.base + n) ≡ owner_truth o

  -- a gate below this one is true where its variable is
  abbrev pub IsSoundBelow : ℕ → NamesView → Type 0
  IsSoundBelow j names = (n k : ℕ) → slice_get names.owners n ≡ Some (Gate k) → k < j → w (names.base + n) ≡ true → truth k ≡ true

  -- and so is an input
  abbrev pub IsSoundAtInputs : NamesView → Type 0
  IsSoundAtInputs names = (n k : ℕ) → slice_get names.owners n ≡ Some (Input k) → w (names.base + n) ≡ true → input_truth k ≡ true

  -- one of the parts of a disjunction is true: a literal, all facts of an input, or a gate
  abbrev pub some_part : Parts → Bool
  some_part p = meets_clause w p.literals.items || (list_any input_truth p.inputs.items || list_any truth p.stack.items)

-- whether the variable is true, if there is one, of what is said under it
abbrev pub is_asked : Option ℕ → (ℕ → Bool) → Bool
is_asked None w = true
is_asked (Some x) w = w x

-- what is said under it
abbrev pub under : Option ℕ → (ℕ → Bool) → Bool → Bool
under whole w b = not (is_asked whole w) || b

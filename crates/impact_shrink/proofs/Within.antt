-- The command of a real witness is one of the script.
use Rattle.std.proofs.Common.{◌≡◌, ◌⊎◌, ⊎_elim, ℕ, zero, suc, ◌<◌, ◌≤◌, ◌-◌, Bool, true, false, List, [], ◌∷◌, arith, length}
use Rattle.std.specs.Prelude.{Option, None, Some, MatchOption, slice_get}
use Rattle.std.specs.Option.{option_map_or}
use Rattle.type_schema.specs.Commands.{Command}
use Rattle.type_schema.specs.Script.{Script, count}
use Rattle.data_meaning.specs.declared.cells.Cell.{Cell}
use Rattle.data_meaning.specs.Gain.{updates, weakens, GainAt}
use Rattle.check_witness.specs.Witness.{Witness}
use Rattle.impact_meaning.specs.Weakened.{WeakAt}
use Rattle.impact_shrink.specs.Real.{IsReal, LeaksCell}

some-below : (cs : List Command) (j : ℕ) (c : Command) → slice_get cs j ≡ Some c → j < length cs
some-below [] j c at = absurd cc
some-below (x ∷ cs) zero c at = omega arith
some-below (x ∷ cs) (suc j) c at = let rest = some-below cs j c at in omega (arith, rest)

passes-below : (p : Command → Bool) (cs : List Command) (j : ℕ) → option_map_or p (slice_get cs j) false ≡ true → j < length cs
passes-below p [] j h = absurd cc
passes-below p (x ∷ cs) zero h = omega arith
passes-below p (x ∷ cs) (suc j) h = let rest = passes-below p cs j h in omega (arith, rest)

up-to : (k n : ℕ) → 1 ≤ k → k - 1 < n → k ≤ n
up-to k n counted below = omega (arith, counted, below)

module _ (t : Script) (w : Witness) where
  abbrev Gained : Type 0
  Gained = GainAt t w.command w.target w.right w.base w.row w.who

  abbrev Weak : Type 0
  Weak = WeakAt t w.command w.target w.right w.base w.row w.who

  by-cell : (cell : Option Cell) → MatchOption cell (Gained ⊎ Weak) (LeaksCell t w) → w.command ≤ count t
  by-cell None h =
      ⊎_elim
      (λ (g : Gained). up-to w.command (count t) g.counted (passes-below (updates w.target w.right) t.commands (w.command - 1) g.updated))
      (λ (g : Weak). up-to w.command (count t) g.counted (passes-below (weakens w.target w.right) t.commands (w.command - 1) g.weakened)) h
  by-cell (Some cell) l = up-to w.command (count t) l.adds.counted (some-below t.commands (w.command - 1) _ l.adds.command)

  pub within : IsReal t w → w.command ≤ count t
  within real = by-cell w.cell real

-- Outcomes of a check whose witness is small.
use Rattle.std.specs.Prelude.{◌≡◌}
use Rattle.type_schema.specs.Script.{Script}
use Rattle.data_meaning.specs.Database.{IsInOrder}
use Rattle.data_meaning.specs.Gain.{kind_of}
use Rattle.check_scripts.specs.Outcomes.{Outcome, accepted, leak, undecided, too_large, IsOutcome}
use Rattle.check_witness.specs.Witness.{Witness}
use Rattle.impact_shrink.specs.Real.{IsLeaking}
use Rattle.impact_shrink.specs.Small.{IsSmall}

-- A small witness of the command, target, right and kind of principals of the other. It shows a gain or a leak, and nothing declared. The
-- tables of its base are those of the models in their order, as a text tells them.
pub record IsSmallFor (t : Script) (w small : Witness) : Type 0 where
  pub command : small.command ≡ w.command
  pub target : small.target ≡ w.target
  pub right : small.right ≡ w.right
  pub kind : kind_of small.who ≡ kind_of w.who
  pub leaks : IsLeaking t small
  pub smallest : IsSmall t small
  pub tables : IsInOrder t.start small.base

-- The outcome is the other, with a small witness in the place of its own.
abbrev pub IsMadeSmall : Script → Outcome → Outcome → Type 0
IsMadeSmall t (accepted n) made = made ≡ accepted n
IsMadeSmall t (leak w) made = (small : Witness) × (made ≡ leak small) × IsSmallFor t w small
IsMadeSmall t (undecided duty cycle) made = made ≡ undecided duty cycle
IsMadeSmall t (too_large duty terms nodes) made = made ≡ too_large duty terms nodes

-- What a check shows: an outcome of the script, with a small witness. So where it leaks, the first obligation that is not cleared has the
-- command, target, right and kind of the witness; it need not fail by just the cell of the witness.
pub record IsSmallOutcome (t : Script) (made : Outcome) : Type 0 where
  pub found : Outcome
  pub outcome : IsOutcome t found
  pub small : IsMadeSmall t found made

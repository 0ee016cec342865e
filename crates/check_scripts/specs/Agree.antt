-- How a script stands by an outcome: all its outcomes say the same.
use Rattle.std.specs.Prelude.{◌≡◌}
use Rattle.type_schema.specs.Script.{Script, IsScript}
use Rattle.check_scripts.specs.Outcomes.{Outcome, accepted, leak, undecided, too_large, IsOutcome}

-- The script is accepted; or its first obligation that is not cleared fails or is not decided; or that one is too large.
pub data Standing : Type 0 where
  passed : Standing
  held_up : Standing
  oversized : Standing

abbrev pub standing : Outcome → Standing
standing (accepted n) = passed
standing (leak w) = held_up
standing (undecided duty cycle) = held_up
standing (too_large duty terms nodes) = oversized

-- A formula that is not stratified may be true on some structure and not be decided, so that a leak and no decision are both outcomes.
abbrev pub OutcomesAgree : Type 0
OutcomesAgree = (t : Script) → IsScript t → (a b : Outcome) → IsOutcome t a → IsOutcome t b → standing a ≡ standing b

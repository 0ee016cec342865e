-- What is printed of declared weakenings.
use Rattle.std.specs.Prelude.{ℕ, suc, ◌==◌, List, [], ◌∷◌, ◌++◌, codes, drop, length}
use Rattle.std.specs.Fmt.{decimal}
use Rattle.std.specs.List.{concat, flat_map, position}
use Rattle.std.specs.Option.{option_map_or}
use Rattle.type_schema.specs.Script.{Script}
use Rattle.check_report.specs.Reports.{cycle_text, duty_text}
use Rattle.check_report.specs.Views.{witness_data}
use Rattle.check_report.specs.declared.witness.Witness as code_witness
use Rattle.check_witness.specs.Printed.{witness_text}
use Rattle.impact_effects.specs.declared.effect.Effect.{Effect}
use Rattle.impact_effects.specs.declared.effect.Shown.{Shown}
use Rattle.impact_effects.specs.declared.effect.Shown.TheVariants.{Example, Nothing, Undecided, TooLarge}

-- what stands behind the first line of a text
abbrev pub behind_first_line : List ℕ → List ℕ
behind_first_line text = option_map_or (λ at. drop (suc at) text) (position (λ b. b == 10) text) []

-- the formula would have so many terms and nodes
abbrev pub large_text : (terms nodes : ℕ) → List ℕ
large_text terms nodes = concat (codes " too large terms " ∷ decimal terms ∷ codes " nodes " ∷ decimal nodes ∷ codes "\n" ∷ [])

-- how many effects there are
abbrev pub impacts_text : ℕ → List ℕ
impacts_text count = concat (codes "impacts " ∷ decimal count ∷ codes "\n" ∷ [])

module _ (t : Script) where
  -- an example: the lines of the witness but its first, which tells of a leak
  abbrev pub example_text : code_witness.Witness → List ℕ
  example_text w = concat (codes " example\n" ∷ behind_first_line (witness_text t (witness_data w)) ∷ [])

  -- the formula is not stratified: its sorts are in this cycle
  abbrev pub cyclic_text : List ℕ → List ℕ
  cyclic_text cycle = concat (codes " undecided cycle " ∷ cycle_text t cycle ∷ codes "\n" ∷ [])

  -- what is shown of a weakening
  abbrev pub shown_text : Shown → List ℕ
  shown_text (Example w) = example_text w
  shown_text Nothing = codes " nothing\n"
  shown_text (Undecided cycle) = cyclic_text cycle
  shown_text (TooLarge terms nodes) = large_text terms nodes

  -- a weakening, by its command, right and kind of principals, and what is shown of it
  abbrev pub effect_text : Effect → List ℕ
  effect_text e = concat (codes "impact " ∷ duty_text t e.duty ∷ shown_text e.shown ∷ [])

  abbrev pub impact_text : List Effect → List ℕ
  impact_text effects = flat_map effect_text effects ++ impacts_text (length effects)

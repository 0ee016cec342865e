-- The reports on certificates, each with its end.
use Rattle.std.specs.Prelude.{ℕ, List, [], ◌∷◌, codes}
use Rattle.std.specs.Fmt.{decimal}
use Rattle.std.specs.List.{concat}
use Rattle.check_report.specs.Reports.{undecided_text}
use Rattle.check_scripts.specs.Outcomes.{models_of_cycle}
use Rattle.duty_meaning.specs.declared.duty.Duty.{Duty}
use Rattle.type_schema.specs.Script.{Script}

abbrev pub certified_text : (obligations : ℕ) → List ℕ
certified_text obligations = concat (codes "certified obligations " ∷ decimal obligations ∷ codes "\n" ∷ [])

-- the first line of the certificate of that name that is not the next one
abbrev pub bad_line_text : List ℕ → ℕ → List ℕ
bad_line_text name line = concat (name ∷ codes ": bad line " ∷ decimal line ∷ codes "\n" ∷ [])

-- an obligation that has no clauses, by this cycle of sorts
abbrev pub cyclic_text : Script → Duty → List ℕ → List ℕ
cyclic_text t duty cycle = undecided_text t duty (models_of_cycle t cycle)

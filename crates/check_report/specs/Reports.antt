-- The reports on an obligation that is neither cleared nor shown to fail, each one line. Names are those of witnesses: what the script
-- adds carries the number of its command.
use Rattle.std.specs.Prelude.{ℕ, List, [], ◌∷◌, ◌++◌, Option, None, Some, codes}
use Rattle.std.specs.Fmt.{decimal}
use Rattle.std.specs.List.{concat, flat_map}
use Rattle.type_schema.specs.declared.rights.Kind.{Kind}
use Rattle.type_schema.specs.declared.rights.Kind.TheVariants.{Static, Model}
use Rattle.type_schema.specs.declared.rights.Target.{Target}
use Rattle.type_schema.specs.declared.rights.Target.TheVariants as on
use Rattle.type_schema.specs.Script.{Script}
use Rattle.duty_meaning.specs.declared.duty.Duty.{Duty}
use Rattle.check_witness.specs.Printed.{model_text, static_text, field_text, access_text}

-- which use of a field in an initialiser, counted from 1; an obligation against gains has none
abbrev pub use_text : Option ℕ → List ℕ
use_text None = []
use_text (Some n) = codes " use " ++ decimal n

module _ (t : Script) where
  -- what a right is on, by its name alone, as it is named after k commands
  abbrev pub target_name : ℕ → Target → List ℕ
  target_name k (on.Field m f) = concat (model_text t m ∷ codes "." ∷ field_text t k m f ∷ [])
  target_name k (on.Model m) = model_text t m

  abbrev pub kind_text : Kind → List ℕ
  kind_text (Static n) = static_text t n
  kind_text (Model m) = model_text t m

  abbrev pub duty_text : Duty → List ℕ
  duty_text duty = concat (access_text t duty.command duty.target duty.right ∷ use_text duty.spot ∷ codes " kind " ∷ kind_text duty.kind ∷ [])

  -- a cycle ends with the model that it began with
  abbrev pub cycle_text : List ℕ → List ℕ
  cycle_text [] = []
  cycle_text (m ∷ models) = flat_map (λ n. model_text t n ++ codes " -> ") (m ∷ models) ++ model_text t m

  -- the formula of the obligation is not stratified: its sorts are in this cycle
  abbrev pub undecided_text : Duty → List ℕ → List ℕ
  undecided_text duty cycle = concat (codes "undecided " ∷ duty_text duty ∷ codes " cycle " ∷ cycle_text cycle ∷ codes "\n" ∷ [])

  -- the instantiation of the formula would have so many terms and nodes
  abbrev pub too_large_text : Duty → (terms nodes : ℕ) → List ℕ
  too_large_text duty terms nodes =
      concat (codes "too large " ∷ duty_text duty ∷ codes " terms " ∷ decimal terms ∷ codes " nodes " ∷ decimal nodes ∷ codes "\n" ∷ [])

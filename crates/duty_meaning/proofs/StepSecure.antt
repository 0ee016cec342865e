-- No obligation of a script fails exactly where it is secure at each step.
use Rattle.std.proofs.Common.{◌≡◌, false, []}
use Rattle.std.specs.Prelude.{Option, Some, None, ℕ, MatchOption}
use Rattle.std.specs.Option.{option_map_or}
use Rattle.std.proofs.lemmas.Bool.{false_from_ne_true}
use Rattle.type_schema.specs.Script.{Script, IsScript}
use Rattle.data_meaning.specs.Secure.{IsStepSecure}
use Rattle.form_formula.specs.Truth.{truth}
use Rattle.duty_meaning.specs.Structures.{structure_of}
use Rattle.duty_meaning.specs.Duties.{gain_formula_of, flow_formula_of}
use Rattle.duty_meaning.specs.Gains.{IsGainDuty}
use Rattle.duty_meaning.specs.Flows.{cell_of}
use Rattle.duty_meaning.specs.Listed.{IsUseDuty}
use Rattle.duty_meaning.specs.Failing.{NoneFails, FalseFormulasSecure}
use Rattle.duty_meaning.proofs.Gains.{true_gains}
use Rattle.duty_meaning.proofs.Flows.{true_flows}
use Rattle.duty_meaning.proofs.Failing.{secure_where_false}
use Rattle.duty_meaning.proofs.Listed.{from-list}

none-fails : (t : Script) → IsScript t → IsStepSecure t → NoneFails t
none-fails t is secure duty listed d start =
    elim duty.spot as (λ (o : Option ℕ). MatchOption o (IsGainDuty t duty) (IsUseDuty t duty)
    → truth (structure_of t.start d) [] (option_map_or (flow_formula_of t duty) o (gain_formula_of t duty)) ≡ false) [
      | None ↦ λ of.
          false_from_ne_true _ (λ h.
          let g = (true_gains t is duty of d start).0 h in
          secure.no_gain duty.command duty.target duty.right d g.id g.who g.gain)
      | Some spot ↦ λ of.
          false_from_ne_true _ (λ h.
          let g = (true_flows t is duty spot of.model of.field of.init of.at of.flow d start).0 h in
          secure.no_flow duty.command d g.id g.who (cell_of of.at g.source) g.flow)
    ] (from-list t is duty listed)

pub secure_exactly : FalseFormulasSecure
secure_exactly t is = (secure_where_false t is, none-fails t is)

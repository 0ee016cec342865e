-- The words that speak of obligations as formulas.
pub use Rattle.duty_meaning.specs.Structures.{before, Place, functions_of, relations_of, sort_of, function_of, relation_of, sorts_of, function_signatures, relation_signatures, element_of, entry_of, structure_of}
pub use Rattle.duty_meaning.specs.Cases.{Condition, Cases, over_ends, continued, at_ends, at_terms, condition_of, has_term, holds_truth}
pub use Rattle.duty_meaning.specs.Formulas.{Who, Scene, Written, nothing_written, written_out, cases_of, is_in, is_allowed, init_cases}
pub use Rattle.duty_meaning.specs.Reach.{reach, set_reach, init_reach}
pub use Rattle.duty_meaning.specs.Duties.{obligations_of, gain_formula_of, flow_formula_of, formula_of}
pub use Rattle.duty_meaning.specs.Sizes.{size, policy_size, init_size}
pub use Rattle.duty_meaning.specs.Truths.{who_at, own_element, TellsTheTruth, FormulasAreTrue}
pub use Rattle.duty_meaning.specs.Gains.{IsGainDuty, GainsSomebody, GainFormulasAreTrue}
pub use Rattle.duty_meaning.specs.Reads.{read_by, set_read_by, init_read_by, IsUsed, UsesRead}
pub use Rattle.duty_meaning.specs.Flows.{cell_of, IsFlowDuty, LeaksToSomebody, FlowFormulasAreTrue}
pub use Rattle.duty_meaning.specs.Failing.{NoneFails, FalseFormulasSecure}
pub use Rattle.duty_meaning.specs.Listed.{IsUseDuty, IsObligation, ObligationsAreListed}
pub use Rattle.duty_meaning.specs.Over.{IsSignatureOf, FormulasAreOver, SignaturesFit}
pub use Rattle.duty_meaning.specs.Shapes.{StructuresAreOver, NoneHolds, UnsatisfiedSecure}
pub use Rattle.duty_meaning.specs.Worked.{WorkedFormulas, ExpandedIsCounted}

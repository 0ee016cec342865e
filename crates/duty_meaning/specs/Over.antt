-- The formulas of obligations are closed and over the signature of the schema of start databases, which has one.
use Rattle.std.specs.Prelude.{◌≡◌, ◌<◌, ◌^◌, [], length, IsTrue, Contains}
use Rattle.type_schema.specs.Schema.{Schema}
use Rattle.type_schema.specs.Script.{Script, IsScript}
use Rattle.form_formula.specs.declared.structure.Signature.{Signature}
use Rattle.form_formula.specs.Signature.{is_signature}
use Rattle.form_formula.specs.Over.{IsOver, IsClosed}
use Rattle.duty_meaning.specs.declared.duty.Duty.{Duty}
use Rattle.duty_meaning.specs.Structures.{sorts_of, function_signatures, relation_signatures}
use Rattle.duty_meaning.specs.Duties.{obligations_of, formula_of}

-- the signature of a schema
pub record IsSignatureOf (s : Schema) (g : Signature) : Type 0 where
  pub sorts : g.sorts ≡ sorts_of s
  pub functions : g.funs ≡ function_signatures s
  pub relations : g.sets ≡ relation_signatures s

abbrev pub FormulasAreOver : Type 0
FormulasAreOver =
    (t : Script) → IsScript t → (g : Signature) → IsSignatureOf t.start g → (duty : Duty) → Contains (obligations_of t) duty
    → IsOver g [] (formula_of t duty) × IsClosed 0 (formula_of t duty)

-- the sorts that the functions and set relations name are there; numbers of 32 bits serve if there are no more of each
abbrev pub SignaturesFit : Type 0
SignaturesFit =
    (t : Script) → IsScript t → length (function_signatures t.start) < 2 ^ 32 → length (relation_signatures t.start) < 2 ^ 32
    → IsTrue (is_signature (sorts_of t.start) (function_signatures t.start) (relation_signatures t.start))

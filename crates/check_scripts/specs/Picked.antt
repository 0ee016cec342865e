-- The witness that a structure stands for, by the elements that are picked for the first quantifiers of an obligation's formula.
use Rattle.std.specs.Prelude.{◌-◌, ℕ, suc, List, Option, slice_get, slice_index_or, option_and_then, Contains}
use Rattle.std.specs.Option.{option_map}
use Rattle.type_schema.specs.declared.rights.Kind.{Kind}
use Rattle.type_schema.specs.declared.rights.Kind.TheVariants as kind
use Rattle.type_schema.specs.Trees.{Init}
use Rattle.type_schema.specs.Uses.{Use, init_uses_of}
use Rattle.type_schema.specs.Script.{Script, command_at, IsScript}
use Rattle.data_meaning.specs.declared.principals.Principal.{Principal}
use Rattle.data_meaning.specs.declared.principals.Principal.TheVariants as who
use Rattle.data_meaning.specs.declared.cells.Cell.{Cell}
use Rattle.form_formula.specs.declared.structure.Signature.{Signature}
use Rattle.form_formula.specs.declared.structure.Structure.{Structure}
use Rattle.form_formula.specs.NormalForm.{normal_form}
use Rattle.form_terms.specs.Satisfying.{SatisfiesWith}
use Rattle.duty_meaning.specs.declared.duty.Duty.{Duty}
use Rattle.duty_meaning.specs.Duties.{init_in, obligations_of, formula_of}
use Rattle.duty_meaning.specs.Flows.{cell_of}
use Rattle.duty_meaning.specs.Over.{IsSignatureOf}
use Rattle.check_witness.specs.Back.{HasIds}
use Rattle.check_witness.specs.Built.{built}
use Rattle.check_witness.specs.Witness.{Witness}
use Rattle.check_scripts.specs.FailsBy.{FailsBy}

-- the id of the record that the element picked at this place is
abbrev pub id_at : List ℕ → ℕ → ℕ
id_at picks place = suc (slice_index_or picks place 0)

-- the first element is the record; the second is the principal, where the kind is a model
abbrev pub who_of : Kind → List ℕ → Principal
who_of (kind.Static n) picks = who.Static n
who_of (kind.Model n) picks = who.Rec n (id_at picks 1)

-- the last one is the record whose field leaks
abbrev pub source_place : Kind → ℕ
source_place (kind.Static n) = 1
source_place (kind.Model n) = 2

-- the use of the field that leaks, counted from 1 in the initialiser that the command of the obligation adds
abbrev pub use_in : Init → ℕ → Option Use
use_in init spot = slice_get (init_uses_of init) (spot - 1)

abbrev pub use_of : Script → Duty → ℕ → Option Use
use_of t duty spot = option_and_then (λ init. use_in init spot) (option_and_then (init_in t) (command_at t (duty.command - 1)))

abbrev pub leaking_cell : Script → Duty → List ℕ → ℕ → Option Cell
leaking_cell t duty picks spot = option_map (λ at. cell_of at (id_at picks (source_place duty.kind))) (use_of t duty spot)

abbrev pub picked_witness : Script → Duty → Structure → List ℕ → Witness
picked_witness t duty st picks = record {
  command = duty.command;
  target = duty.target;
  right = duty.right;
  base = built t.start st;
  row = id_at picks 0;
  who = who_of duty.kind picks;
  cell = option_and_then (leaking_cell t duty picks) duty.spot;
}

-- Where a structure satisfies the formula of an obligation with these elements, the obligation fails by the witness.
abbrev pub PickedWitnessesFail : Type 0
PickedWitnessesFail =
    (t : Script) → IsScript t → (g : Signature) → IsSignatureOf t.start g → (duty : Duty) → Contains (obligations_of t) duty
    → (st : Structure) (picks : List ℕ) → HasIds st → SatisfiesWith g (normal_form (formula_of t duty)) st picks
    → FailsBy t duty (picked_witness t duty st picks)

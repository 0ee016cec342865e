-- The formulas of obligations are small where each policy and initialiser is within a limit.
use Rattle.std.specs.Prelude.{◌≡◌, ◌≤◌, ◌<◌, ◌+◌, ◌*◌, ℕ, suc, Option, Some, IfSome, Contains}
use Rattle.std.specs.List.{AllByRecursion}
use Rattle.type_schema.specs.Trees.{Policy}
use Rattle.type_schema.specs.Schema.{FieldInfo, ModelInfo, Schema}
use Rattle.type_schema.specs.Commands.{Command, create_model, delete_model, add_static, remove_static, add_principal, add_field, remove_field, update_field, weaken_field, update_model, weaken_model}
use Rattle.type_schema.specs.Script.{Script, schema_at, command_at, IsScript}
use Rattle.duty_meaning.specs.declared.duty.Duty.{Duty}
use Rattle.duty_meaning.specs.Duties.{obligations_of, formula_of}
use Rattle.duty_meaning.specs.Sizes.{size, policy_size, init_size, largest_size}

-- ---- what is within a limit over a schema

module _ (most : ℕ) (s : Schema) where
  abbrev pub PolicyIsBounded : Policy → Type 0
  PolicyIsBounded p = policy_size s p ≤ most

  abbrev pub GivenAreBounded : Option Policy → Option Policy → Type 0
  GivenAreBounded one other = IfSome one PolicyIsBounded × IfSome other PolicyIsBounded

  abbrev pub FieldIsBounded : FieldInfo → Type 0
  FieldIsBounded f = PolicyIsBounded f.read × PolicyIsBounded f.write

  abbrev pub ModelIsBounded : ModelInfo → Type 0
  ModelIsBounded info = PolicyIsBounded info.create × PolicyIsBounded info.delete × AllByRecursion FieldIsBounded info.fields

  -- the policies and the initialiser that the command gives
  abbrev pub CommandIsBounded : Command → Type 0
  CommandIsBounded (create_model info) = ModelIsBounded info
  CommandIsBounded (delete_model m) = Unit {0}
  CommandIsBounded (add_static info) = Unit {0}
  CommandIsBounded (remove_static n) = Unit {0}
  CommandIsBounded (add_principal m) = Unit {0}
  CommandIsBounded (add_field m f init) = FieldIsBounded f × (init_size s f.ty init ≤ most)
  CommandIsBounded (remove_field m f) = Unit {0}
  CommandIsBounded (update_field m f read write) = GivenAreBounded read write
  CommandIsBounded (weaken_field m f read write reason) = GivenAreBounded read write
  CommandIsBounded (update_model m create delete) = GivenAreBounded create delete
  CommandIsBounded (weaken_model m create delete reason) = GivenAreBounded create delete

-- ---- along a script

-- The policies of the first schema are within the limit over it, and what each command gives over the schema after the command.
pub record IsBounded (most : ℕ) (t : Script) : Type 0 where
  pub first : AllByRecursion (ModelIsBounded most (schema_at t 0)) (schema_at t 0).models
  pub commands : (k : ℕ) (c : Command) → command_at t k ≡ Some c → CommandIsBounded most (schema_at t (suc k)) c

-- An obligation has two quantifiers and a conjunction with two policies, or three and two conjunctions with two policies and what a use reads.
abbrev pub FormulasAreSmall : Type 0
FormulasAreSmall =
    (t : Script) (most : ℕ) → IsScript t → 1 ≤ most → most < largest_size → IsBounded most t → (duty : Duty) → Contains (obligations_of t) duty
    → size (formula_of t duty) ≤ 5 + 3 * most

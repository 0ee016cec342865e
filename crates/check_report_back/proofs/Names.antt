-- The names of a script are names where those of its schemas are, and those of the statics that commands add.
use Rattle.std.proofs.Common.{◌≡◌, ℕ, zero, suc, List, [], ◌∷◌, ◌++◌, refl}
use Rattle.std.specs.Prelude.{Option, Some, None, option_and_then, slice_index_or, ◌==◌}
use Rattle.std.specs.List.{flat_map, AllByRecursion}
use Rattle.text_ast.specs.Words.{IsName}
use Rattle.type_schema.specs.Schema.{StaticInfo, FieldInfo, ModelInfo, Schema, model_of, field_in, field_of}
use Rattle.type_schema.specs.Commands.{Command}
use Rattle.type_schema.specs.Script.{Script, schema_at}
use Rattle.data_meaning.proofs.Finds.{find-among}
use Rattle.check_witness.specs.Printed.{statics_by}
use Rattle.check_report_back.specs.Told.{HasNames}
use Rattle.check_report_back.specs.Scripts.{HasFieldNames, HaveNames, AddsNames}

at-index : {A : Type 0} (P : A → Type 0) (xs : List A) (k : ℕ) (d : A) → P d → AllByRecursion P xs → P (slice_index_or xs k d)
at-index P [] zero d last all = last
at-index P [] (suc k) d last all = last
at-index P (x ∷ xs) zero d last all = all.0
at-index P (x ∷ xs) (suc k) d last all = at-index P xs k d last all.1

pub in-both : {A : Type 0} (P : A → Type 0) (xs ys : List A) → AllByRecursion P xs → AllByRecursion P ys → AllByRecursion P (xs ++ ys)
in-both P [] ys first second = second
in-both P (x ∷ xs) ys first second = (first.0, in-both P xs ys first.1 second)

abbrev StaticsHaveNames : List StaticInfo → Type 0
StaticsHaveNames = AllByRecursion (λ (n : StaticInfo). IsName n.name)

added-names : (commands : List Command) → AllByRecursion AddsNames commands → StaticsHaveNames (flat_map statics_by commands)
added-names [] all = tt
added-names (c ∷ commands) all = in-both (λ (n : StaticInfo). IsName n.name) (statics_by c) (flat_map statics_by commands) all.0 (added-names commands all.1)

model-names : (models : List ModelInfo) → AllByRecursion HasFieldNames models → AllByRecursion (λ (m : ModelInfo). IsName m.name) models
model-names [] all = tt
model-names (m ∷ models) all = (all.0.name, model-names models all.1)

field-name : (s : Schema) (m f : ℕ) (info : FieldInfo) → HaveNames s → field_of s m f ≡ Some info → IsName info.name
field-name s m f info have found =
    elim (model_of s m) as (λ (o : Option ModelInfo). model_of s m ≡ o → option_and_then (λ (i : ModelInfo). field_in i.fields f) o ≡ Some info → IsName info.name) [
      | None ↦ λ _ e. cc
      | Some i ↦ λ model e.
          let names : HasFieldNames i = find-among HasFieldNames (λ (j : ModelInfo). j.number == m) s.models i have.models model in
          find-among (λ (g : FieldInfo). IsName g.name) (λ (g : FieldInfo). g.number == f) i.fields info names.fields e
    ] refl found

pub has-names : (t : Script) → HaveNames t.start → AllByRecursion AddsNames t.commands → AllByRecursion HaveNames t.schemas → HasNames t
has-names t start commands schemas = record {
  models = model-names t.start.models start.models;
  statics = in-both (λ (n : StaticInfo). IsName n.name) t.start.statics (flat_map statics_by t.commands) start.statics (added-names t.commands commands);
  fields = λ k m f info found. field-name (schema_at t k) m f info (at-index HaveNames t.schemas k t.start start schemas) found;
}

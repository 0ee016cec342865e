-- Values of a type's shape whose ids name records are values of the type.
use Rattle.std.proofs.Common.{◌≡◌, ℕ, ◌≤◌, ◌+◌, Bool, true, false, not, List, [], ◌∷◌, refl, ap, sym, ◌∙◌, subst, cond, arith, ⊎_elim, inl, inr}
use Rattle.std.specs.Prelude.{Some, None, ◌==◌, option_and_then}
use Rattle.std.specs.List.{find, AllByRecursion}
use Rattle.std.proofs.lemmas.Bool.{eqb-true}
use Rattle.type_schema.specs.declared.types.TBase.{TBase}
use Rattle.type_schema.specs.declared.types.TBase.TheVariants as base
use Rattle.type_schema.specs.declared.types.TTy.{TTy}
use Rattle.type_schema.specs.declared.types.TTy.TheVariants.{Plain, Set, Opt}
use Rattle.type_schema.specs.Schema.{ModelInfo, Schema, model_of}
use Rattle.type_schema.specs.Typing.{HasModel, IsType}
use Rattle.data_meaning.specs.Values.{Value, Nothing, Just, IsId, IsValueOf, IsBaseValueOf, ids_in, last_id}
use Rattle.data_meaning.specs.Database.{Table, Database, table_of, has_record, AreThere, IsBaseIntact, IsIntact, IsRecordIn, HasTable, IsDatabase}
use Rattle.data_records.specs.Shape.{IsShape, IsBaseShape, There, dangling_in, base_model}
use Rattle.data_records.proofs.Changes.{Located, located, id_is, some-of}
use Rattle.data_records.proofs.Firsts.{found-among, found-passes}

module _ (s : Schema) (there : There) (e : Database) where
  -- what counts as being there, of a model of the schema, has an id and is a record of e
  abbrev pub AreReal : Type 0
  AreReal = (n i : ℕ) → HasModel s n → there n i ≡ true → IsId i × (has_record e n i ≡ true)

  none-missing : AreReal → (n : ℕ) → HasModel s n → (ids : List ℕ) → find (λ i. not (there n i)) ids ≡ None → AllByRecursion IsId ids × AreThere e n ids
  none-missing real n has [] none = (tt, tt)
  none-missing real n has (i ∷ ids) none =
      elim (there n i) as (λ (b : Bool). there n i ≡ b → cond (not b) (Some i) (find (λ j. not (there n j)) ids) ≡ None
      → AllByRecursion IsId (i ∷ ids) × AreThere e n (i ∷ ids)) [
        | true ↦ λ is h.
            let rest = none-missing real n has ids h in
            let one = real n i has is in
            ((one.0, rest.0), (one.1, rest.1))
        | false ↦ λ is h. cc
      ] refl none

  base-real : AreReal → (b : TBase) → IsType s (Plain b) → (v : Value) → IsBaseShape b v
      → option_and_then (λ n. find (λ i. not (there n i)) (ids_in v)) (base_model b) ≡ None → IsBaseValueOf b v × IsBaseIntact e b (ids_in v)
  base-real real base.Bool typed v shape none = (shape, tt)
  base-real real base.Int typed v shape none = (shape, tt)
  base-real real base.Text typed v shape none = (shape, tt)
  base-real real (base.Id n) typed v shape none =
      let found = none-missing real n typed (shape.0 ∷ []) (subst (λ (w : Value). find (λ i. not (there n i)) (ids_in w) ≡ None) shape.1 none) in
      ((shape.0, shape.1, found.0.0), subst (λ (w : Value). AreThere e n (ids_in w)) (sym shape.1) found.1)

  no-ids : (b : TBase) → IsBaseIntact e b []
  no-ids base.Bool = tt
  no-ids base.Int = tt
  no-ids base.Text = tt
  no-ids (base.Id n) = tt

  pub value-real : AreReal → (t : TTy) → IsType s t → (v : Value) → IsShape t v → dangling_in there t v ≡ None → IsValueOf t v × IsIntact e t v
  value-real real (Plain b) typed v shape none = base-real real b typed v shape none
  value-real real (Set n) typed v shape none =
      let found = none-missing real n typed shape.0 (subst (λ (w : Value). find (λ i. not (there n i)) (ids_in w) ≡ None) shape.1 none) in
      ((shape.0, shape.1, shape.2, found.0), subst (λ (w : Value). AreThere e n (ids_in w)) (sym shape.1) found.1)
  value-real real (Opt b) typed v shape none =
      ⊎_elim
      (λ (nothing : v ≡ Nothing).
      let value : IsValueOf (Opt b) v = inl nothing in
      (value, subst (λ (w : Value). IsBaseIntact e b (ids_in w)) (sym nothing) (no-ids b)))
      (λ (some : (w : Value) × (v ≡ Just w) × IsBaseShape b w).
      let inner = base-real real b typed some.0 some.2 (subst (λ (w : Value). option_and_then (λ n. find (λ i. not (there n i)) (ids_in w)) (base_model b) ≡ None) some.1 none) in
      let value : IsValueOf (Opt b) v = inr (some.0, some.1, inner.0) in
      (value, subst (λ (w : Value). IsBaseIntact e b (ids_in w)) (sym some.1) inner.1))
      shape

-- ---- a record that is there, of a model of the schema, was given an id

pub record-in : (s : Schema) (d : Database) → IsDatabase s d → (n i : ℕ) (info : ModelInfo) → model_of s n ≡ Some info → (at : Located d n i)
    → IsRecordIn d info at.table.next at.row × (at.table.next ≤ last_id + 1) × (at.row.id ≡ i)
record-in s d is n i info model at =
    let has = found-among (HasTable d) (λ (u : ModelInfo). u.number == n) s.models info is.tables model in
    let number : info.number ≡ n = eqb-true _ _ (found-passes (λ (u : ModelInfo). u.number == n) s.models info model) in
    let here : table_of d n ≡ Some has.0 = ap (table_of d) (sym number) ∙ has.1 in
    let same : has.0 ≡ at.table = cc (here, at.table_is) in
    let table = subst (λ (t : Table). AllByRecursion (IsRecordIn d info t.next) t.records × (t.next ≤ last_id + 1)) same (has.2.records, has.2.last) in (
      found-among (IsRecordIn d info at.table.next) (id_is i) at.table.records at.row table.0 at.row_is,
      table.1,
      eqb-true _ _ (found-passes (id_is i) at.table.records at.row at.row_is),
    )

pub id-real : (s : Schema) (d : Database) → IsDatabase s d → (n i : ℕ) → HasModel s n → has_record d n i ≡ true → IsId i
id-real s d is n i has there =
    let model = some-of (model_of s n) has in
    let at = located d n i there in
    let in_table = record-in s d is n i model.0 model.1 at in
    let first = in_table.0.first in
    let given = in_table.0.given in
    (omega (arith, first, in_table.2), omega (arith, given, in_table.1, in_table.2))

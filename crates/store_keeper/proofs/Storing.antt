-- What is stored stays so where a record is put or dropped.
use Rattle.std.proofs.Common.{◌≡◌, ℕ, Bool, true, false, [], ◌∷◌, refl, ap, sym, ◌∙◌, subst, map, inl, inr}
use Rattle.std.specs.Prelude.{Some, ◌==◌, if◌then◌else◌}
use Rattle.std.specs.List.{AllByRecursion}
use Rattle.type_schema.specs.Schema.{ModelInfo, model_of}
use Rattle.type_schema.specs.Typing.{HasModel}
use Rattle.data_meaning.specs.Database.{Record, Table, Database, IsDatabase}
use Rattle.data_records.specs.Inserted.{change_table, with_record}
use Rattle.data_records.specs.Keeping.{DatabasesStay}
use Rattle.data_records.specs.Removed.{without_record_in}
use Rattle.store_keeper.specs.Changes.{IsPutInto, MayDrop, put_into, values_of, with_drop, with_put}
use Rattle.store_keeper.specs.Stored.{Stored, IsStored}
use Rattle.store_keeper.proofs.Putting.{in_place, not-next, put-is-field, put-is-row, put-is-same}

models-same : (m : ℕ) (g : Table → Table) → ((t : Table) → (g t).model ≡ t.model) → (d : Database)
    → map (λ (t : Table). t.model) (change_table m g d) ≡ map (λ (t : Table). t.model) d
models-same m g keeps [] = refl
models-same m g keeps (t ∷ d) =
    elim (t.model == m) as (λ (b : Bool). map (λ (u : Table). u.model) (if b then g t ∷ d else t ∷ change_table m g d) ≡ t.model ∷ map (λ (u : Table). u.model) d) [
      | true ↦ ap (λ n. n ∷ map (λ (u : Table). u.model) d) (keeps t)
      | false ↦ ap (λ ns. t.model ∷ ns) (models-same m g keeps d)
    ]

-- what holds of the numbers of all tables
all-models : (P : ℕ → Type 0) (d : Database) → AllByRecursion (λ (t : Table). P t.model) d → AllByRecursion P (map (λ (t : Table). t.model) d)
all-models P [] all = tt
all-models P (t ∷ d) all = (all.0, all-models P d all.1)

of-models : (P : ℕ → Type 0) (d : Database) → AllByRecursion P (map (λ (t : Table). t.model) d) → AllByRecursion (λ (t : Table). P t.model) d
of-models P [] all = tt
of-models P (t ∷ d) all = (all.0, of-models P d all.1)

-- a changed table
stays : (s : Stored) (m : ℕ) (g : Table → Table) → ((t : Table) → (g t).model ≡ t.model) → IsStored s → IsDatabase s.schema (change_table m g s.base)
    → IsStored (record s { base = change_table m g s.base })
stays s m g keeps is database =
    let same = models-same m g keeps s.base in
    record {
      first = is.first;
      last = is.last;
      settled = is.settled;
      database = database;
      no_further = of-models (HasModel s.schema) (change_table m g s.base)
          (subst (AllByRecursion (HasModel s.schema)) (sym same) (all-models (HasModel s.schema) s.base is.no_further));
      order = same ∙ is.order;
    }

module _ (stay : DatabasesStay) (s : Stored) (info : ModelInfo) (r : Record) (after : Database) (is : IsStored s) (known : model_of s.schema info.number ≡ Some info) where
  pub put-is : IsPutInto info s.base r after → after ≡ change_table info.number (put_into r) s.base
  put-is (inl row) = row.1 ∙ sym (put-is-row info r s.base row.0)
  put-is (inr (inl same)) =
      same.1 ∙ sym (put-is-same info.number r s.base same.0.slots (not-next s.schema info s.base r.id is.database known same.0.there))
  put-is (inr (inr one)) =
      let set = one.2 in
      one.3 ∙ sym (put-is-field info.number r one.0.number one.1 s.base set.slots (not-next s.schema info s.base r.id is.database known set.there))

  put-database : IsPutInto info s.base r after → IsDatabase s.schema after
  put-database (inl row) =
      subst (IsDatabase s.schema) (sym row.1) ((stay s.schema is.settled.steady.proper).insert s.base is.database info (values_of r.slots) known row.0.admitted)
  put-database (inr (inl same)) = subst (IsDatabase s.schema) (sym same.1) is.database
  put-database (inr (inr one)) =
      let set = one.2 in
      subst (IsDatabase s.schema) (sym one.3)
      ((stay s.schema is.settled.steady.proper).set_field s.base is.database info.number r.id info one.0 one.1 known set.known set.fits)

  put-keeps : (t : Table) → (put_into r t).model ≡ t.model
  put-keeps t =
      elim (r.id == t.next) as (λ (b : Bool). (let u : Table = if b then with_record r t else in_place r t in u.model) ≡ t.model) [
        | true ↦ refl
        | false ↦ refl
      ]

  pub put-stored : IsPutInto info s.base r after → IsStored (with_put info.number r s)
  put-stored how = stays s info.number (put_into r) put-keeps is (subst (IsDatabase s.schema) (put-is how) (put-database how))

pub drop-stored : DatabasesStay → (s : Stored) (info : ModelInfo) (id : ℕ) → IsStored s → MayDrop s info id → IsStored (with_drop info.number id s)
drop-stored stay s info id is may =
    stays s info.number (without_record_in id) (λ t. refl) is ((stay s.schema is.settled.steady.proper).remove s.base is.database info.number id may.free)

-- The database of a structure is over the schema.
use Rattle.std.proofs.Common.{◌≡◌, ℕ, suc, ◌<◌, ◌≤◌, true, false, not, List, [], ◌∷◌, refl, ap, sym, ◌∙◌, subst, arith, inl, inr}
use Rattle.std.specs.Prelude.{Option, Some, None, map, filter, nat_eq, is_some}
use Rattle.std.specs.List.{flat_map, range_with_len, AllByRecursion, IsDistinct}
use Rattle.std.specs.List.Sorted.{IsStrictlyIncreasing}
use Rattle.std.specs.Option.{option_map_or}
use Rattle.type_schema.specs.declared.types.TBase.{TBase}
use Rattle.type_schema.specs.declared.types.TBase.TheVariants as base
use Rattle.type_schema.specs.declared.types.TTy.{TTy}
use Rattle.type_schema.specs.declared.types.TTy.TheVariants.{Plain, Set, Opt}
use Rattle.type_schema.specs.Schema.{FieldInfo, ModelInfo, Schema, model_of, field_in, type_of}
use Rattle.type_schema.specs.Typing.{HasModel}
use Rattle.data_meaning.specs.Values.{Value, Flag, Num, Str, Id, Ids, Nothing, Just, IsId, IsBaseValueOf, last_id, ids_in}
use Rattle.data_meaning.specs.Values as values
use Rattle.data_meaning.specs.Database.{Table, Database, has_record, IsBaseIntact, IsIntact, AreSlots, IsRecordIn, HasTable, IsDatabase, HasNoFurtherTables}
use Rattle.form_formula.specs.declared.structure.Signature.{Signature}
use Rattle.form_formula.specs.declared.structure.SVal.{SVal}
use Rattle.form_formula.specs.declared.structure.SVal.TheVariants as sval
use Rattle.form_formula.specs.declared.structure.Structure.{Structure}
use Rattle.form_formula.specs.Truth.{size_of, elements, entry, relates}
use Rattle.form_terms.specs.Structures.{IsValueOf, IsEntryOf}
use Rattle.duty_meaning.specs.Structures.{Place, places_in, is_set, functions_of, is_place, sort_of, function_of, relation_of, base_range, function_signature}
use Rattle.duty_meaning.proofs.Starting.{place, Placed, placed, find-kept}
use Rattle.check_witness.specs.Built.{value_at, built_value, built_slot, built_record, built_table, built}
use Rattle.check_witness.specs.Back.{IsBuildable, HasIds, BuiltDatabasesStart}
use Rattle.check_witness.proofs.Lists.{all-implied, all-both, all-map, all-or, all-filter, all-range, at-found, map-twice, range-rises, filter-rises, next-rises, increases}
use Rattle.check_witness.proofs.Places.{models-found, fields-found, type-there}
use Rattle.check_witness.proofs.Looked.{made-ids, table-built, there-built}
use Rattle.check_witness.proofs.Structures.{signature_at, sizes, function-there}

module _ (s : Schema) (g : Signature) (st : Structure) (is : IsBuildable s g st) (has : HasIds st) where
  abbrev d : Database
  d = built s st

  few : (sort : ℕ) → size_of st sort ≤ last_id
  few sort = all-or (λ n. n ≤ last_id) st.sizes sort 0 has (omega arith)

  id-fits : (sort x : ℕ) → x < size_of st sort → IsId (suc x)
  id-fits sort x below = let most = few sort in (omega arith, omega (arith, below, most))

  -- what the function of a field has at an element
  entry-typed : (m f : ℕ) (ty : TTy) (x : ℕ) → type_of s m f ≡ Some ty → is_set ty ≡ false → x < size_of st (sort_of s m)
      → IsEntryOf st (signature_at s m ty) (entry st (function_of s m f) x)
  entry-typed m f ty x typed no-set below =
      let p : Placed s m f ty = placed s m f ty typed in
      let keeps : not (is_set p.field.ty) ≡ true = ap (λ u. not (is_set u)) p.ty ∙ ap not no-set in
      let found = find-kept (is_place m f) (λ (u : Place). not (is_set u.field.ty)) (flat_map places_in s.models) (place m p.field) p.found keeps in
      let there = function-there s g st is (function_of s m f) (place m p.field) (at-found (is_place m f) (functions_of s) (place m p.field) found) in
      subst (λ (u : TTy). IsEntryOf st (signature_at s m u) (entry st (function_of s m f) x)) p.ty
      (is.structure.values (function_of s m f) (function_signature s (place m p.field)) x there below)

  base-typed : (b : TBase) (v : SVal) → IsValueOf st (base_range s b) v → IsBaseValueOf b (value_at v) × IsBaseIntact d b (ids_in (value_at v))
  base-typed base.Bool (sval.Rec x) h = absurd h
  base-typed base.Bool (sval.Flag b) h = ((b, refl), tt)
  base-typed base.Bool (sval.Num n) h = absurd h
  base-typed base.Bool (sval.Str t) h = absurd h
  base-typed base.Int (sval.Rec x) h = absurd h
  base-typed base.Int (sval.Flag b) h = absurd h
  base-typed base.Int (sval.Num n) h = ((n, refl, h), tt)
  base-typed base.Int (sval.Str t) h = absurd h
  base-typed base.Text (sval.Rec x) h = absurd h
  base-typed base.Text (sval.Flag b) h = absurd h
  base-typed base.Text (sval.Num n) h = absurd h
  base-typed base.Text (sval.Str t) h = ((t, refl, h), tt)
  base-typed (base.Id m) (sval.Rec x) h =
      ((suc x, refl, id-fits (sort_of s m) x h), (there-built s st (sizes s g st is) m x h, tt))
  base-typed (base.Id m) (sval.Flag b) h = absurd h
  base-typed (base.Id m) (sval.Num n) h = absurd h
  base-typed (base.Id m) (sval.Str t) h = absurd h

  abbrev Fits : TTy → Value → Type 0
  Fits ty v = values.IsValueOf ty v × IsIntact d ty v

  plain-typed : (m : ℕ) (b : TBase) (o : Option SVal) → IsEntryOf st (signature_at s m (Plain b)) o → Fits (Plain b) (option_map_or value_at o Nothing)
  plain-typed m b None h = cc
  plain-typed m b (Some v) h = base-typed b v h

  option-typed : (m : ℕ) (b : TBase) (o : Option SVal) → IsEntryOf st (signature_at s m (Opt b)) o
      → Fits (Opt b) (option_map_or (λ v. Just (value_at v)) o Nothing)
  option-typed m b None h = (inl refl, no-ids b)
    where
      no-ids : (b : TBase) → IsBaseIntact d b []
      no-ids base.Bool = tt
      no-ids base.Int = tt
      no-ids base.Text = tt
      no-ids (base.Id n) = tt
  option-typed m b (Some v) h = let one = base-typed b v h in (inr (value_at v, refl, one.0), one.1)

  set-typed : (r n x : ℕ) → Fits (Set n) (Ids (map suc (filter (relates st r x) (elements st (sort_of s n)))))
  set-typed r n x =
      let all : List ℕ = range_with_len 0 (size_of st (sort_of s n)) in
      let members : List ℕ = filter (relates st r x) all in
      let within : AllByRecursion (λ y. y < size_of st (sort_of s n)) members
      = all-filter (λ y. y < size_of st (sort_of s n)) (relates st r x) all
      (all-range (λ y. y < size_of st (sort_of s n)) (size_of st (sort_of s n)) 0 (λ y low high. omega (arith, high))) in (
        (
          map suc members,
          refl,
          increases (map suc members) (next-rises members (filter-rises (relates st r x) all (range-rises (size_of st (sort_of s n)) 0))),
          all-map IsId suc members (all-implied (λ y. y < size_of st (sort_of s n)) (λ y. IsId (suc y)) (id-fits (sort_of s n)) members within),
        ),
        all-map (λ id. has_record d n id ≡ true) suc members
            (all-implied (λ y. y < size_of st (sort_of s n)) (λ y. has_record d n (suc y) ≡ true) (there-built s st (sizes s g st is) n) members within),
      )

  value-typed : (m f : ℕ) (ty : TTy) (x : ℕ) → type_of s m f ≡ Some ty → x < size_of st (sort_of s m) → Fits ty (built_value s st m f ty x)
  value-typed m f (Plain b) x typed below = plain-typed m b (entry st (function_of s m f) x) (entry-typed m f (Plain b) x typed refl below)
  value-typed m f (Set n) x typed below = set-typed (relation_of s m f) n x
  value-typed m f (Opt b) x typed below = option-typed m b (entry st (function_of s m f) x) (entry-typed m f (Opt b) x typed refl below)

  -- ---- records and tables

  slots-typed : (i : ModelInfo) (x : ℕ) → model_of s i.number ≡ Some i → x < size_of st (sort_of s i.number) → (fields : List FieldInfo)
      → AllByRecursion (λ (f : FieldInfo). field_in i.fields f.number ≡ Some f) fields → AreSlots d fields (map (built_slot s st i x) fields)
  slots-typed i x model below [] found = tt
  slots-typed i x model below (f ∷ fields) found =
      let one = value-typed i.number f.number f.ty x (type-there s i.number i f model found.0) below in
      ((refl, one.0, one.1), slots-typed i x model below fields found.1)

  table-there : (i : ModelInfo) → model_of s i.number ≡ Some i → AllByRecursion (λ (f : FieldInfo). field_in i.fields f.number ≡ Some f) i.fields → HasTable d i
  table-there i model found =
      let n : ℕ = size_of st (sort_of s i.number) in
      let most = few (sort_of s i.number) in (
        built_table s st i,
        table-built s st i.number i model,
        record {
          first = omega arith;
          last = omega (arith, most);
          rising = subst IsStrictlyIncreasing (sym (made-ids (built_record s st i) (λ x. refl) n 0)) (increases (range_with_len 1 n) (range-rises n 1));
          records =
              all-map (IsRecordIn d i (suc n)) (built_record s st i) (range_with_len 0 n)
              (all-range (λ x. IsRecordIn d i (suc n) (built_record s st i x)) n 0
              (λ x low high.
              let below : x < n = omega (arith, high) in
              record { first = omega arith; given = omega (arith, high); slots = slots-typed i x model below i.fields found }));
        },
      )

  pub database : IsDatabase s d
  database = record {
    apart = subst (IsDistinct nat_eq) (sym (map-twice (λ (t : Table). t.model) (built_table s st) s.models)) is.models;
    tables =
        all-implied (λ (i : ModelInfo). (model_of s i.number ≡ Some i) × AllByRecursion (λ (f : FieldInfo). field_in i.fields f.number ≡ Some f) i.fields) (HasTable d)
        (λ i h. table-there i h.0 h.1) s.models
        (all-both (λ (i : ModelInfo). model_of s i.number ≡ Some i) (λ (i : ModelInfo). AllByRecursion (λ (f : FieldInfo). field_in i.fields f.number ≡ Some f) i.fields) s.models
        (models-found s is.models is.fields) (fields-found s is.models is.fields));
  }

  pub only : HasNoFurtherTables s d
  only =
      all-map (λ (t : Table). HasModel s t.model) (built_table s st) s.models
      (all-implied (λ (i : ModelInfo). model_of s i.number ≡ Some i) (λ (i : ModelInfo). HasModel s i.number) (λ i e. ap is_some e) s.models
      (models-found s is.models is.fields))

pub start : BuiltDatabasesStart
start s g st is has = (
  database s g st is has,
  only s g st is has,
  λ t e. let P : Schema → Type 0 = λ u. IsDatabase u (built s st) × HasNoFurtherTables u (built s st) in
      let both : P t.start = subst P (sym e) (database s g st is has, only s g st is has) in
      record { over = both.0; only = both.1 },
)

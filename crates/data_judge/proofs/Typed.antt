-- What is written for a field is a value of its type, where nothing is wrong with it.
use Rattle.std.proofs.Common.{◌≡◌, ◌∙◌, sym, ℕ, Bool, true, false, List, [], ◌∷◌, refl, subst}
use Rattle.std.specs.Prelude.{Option, Some, None, not, if◌then◌else◌, option_and_then}
use mathlib.Core.Logic.{inl, inr}
use Rattle.std.specs.List.{AllByRecursion}
use Rattle.std.specs.Option.{option_map, option_map_or}
use Rattle.data_tree.specs.declared.literals.WrittenId.{WrittenId}
use Rattle.data_tree.specs.declared.literals.Lit.{Lit, out-Lit}
use Rattle.data_tree.specs.declared.literals.Lit.TheOpen.{Lit-F}
use Rattle.data_tree.specs.Literals.{Layer, lit_at}
use Rattle.type_schema.specs.declared.types.TBase.{TBase}
use Rattle.type_schema.specs.declared.types.TBase.TheVariants as base
use Rattle.type_schema.specs.declared.types.TTy.{TTy}
use Rattle.type_schema.specs.declared.types.TTy.TheVariants.{Plain, Set, Opt}
use Rattle.data_meaning.specs.Values.{Value, ids_in, IsId, IsBaseValueOf, IsValueOf}
use Rattle.data_meaning.specs.Database.{Database, has_record, IsBaseIntact, IsIntact}
use Rattle.data_records.specs.Shape as shape
use Rattle.data_judge.specs.declared.fault.Fault.TheVariants as fault
use Rattle.data_judge.specs.First.{first_behind}
use Rattle.data_judge.specs.Faults.{is_base, is_flag, is_number, is_text, is_id, has, item_fault, set_fault, option_fault, value_fault}
use Rattle.data_judge.specs.Meaning.{layer_id, id_in, with_item, ids_of, plain_value, layer_value, value_of}
use Rattle.data_judge.specs.References.{id_lost, items_lost, layer_lost, value_lost}
use Rattle.data_judge.specs.Ranged.{HasRange}
use Rattle.data_judge.proofs.Sets.{all-items, ids-rise}
use Rattle.data_judge.proofs.Tests.{or-none, chosen-then}

-- an id that is not lost names a record
there : (d : Database) (m : ℕ) (i : WrittenId) → id_lost d m (Some i) ≡ None → has_record d m i.number ≡ true
there d m i e =
    elim (has_record d m i.number) as (λ (b : Bool). option_map (λ (j : WrittenId). j.at) (if not b then Some i else None) ≡ None → b ≡ true) [
      | true ↦ λ none. refl
      | false ↦ λ some. cc
    ] e

module _ (d : Database) (ranged : (m id : ℕ) → has_record d m id ≡ true → IsId id) where
  abbrev pub Fits : TTy → Value → Type 0
  Fits t v = IsValueOf t v × IsIntact d t v

  abbrev BaseFits : TBase → Value → Type 0
  BaseFits b v = IsBaseValueOf b v × IsBaseIntact d b (ids_in v)

  flag-fits : (layer : Layer) → is_flag layer ≡ true → BaseFits base.Bool (plain_value layer)
  flag-fits (Lit-F.Flag b at) is = ((b, refl), tt)
  flag-fits (Lit-F.Num n at) is = let no : false ≡ true = is in cc
  flag-fits (Lit-F.Str text at) is = let no : false ≡ true = is in cc
  flag-fits (Lit-F.Id id at) is = let no : false ≡ true = is in cc
  flag-fits (Lit-F.SelfId at) is = let no : false ≡ true = is in cc
  flag-fits (Lit-F.NoneLit at) is = let no : false ≡ true = is in cc
  flag-fits (Lit-F.SomeLit inner at) is = let no : false ≡ true = is in cc
  flag-fits (Lit-F.List items at) is = let no : false ≡ true = is in cc

  number-fits : (layer : Layer) → is_number layer ≡ true → HasRange (plain_value layer) → BaseFits base.Int (plain_value layer)
  number-fits (Lit-F.Num n at) is range = ((n, refl, range), tt)
  number-fits (Lit-F.Flag b at) is range = let no : false ≡ true = is in cc
  number-fits (Lit-F.Str text at) is range = let no : false ≡ true = is in cc
  number-fits (Lit-F.Id id at) is range = let no : false ≡ true = is in cc
  number-fits (Lit-F.SelfId at) is range = let no : false ≡ true = is in cc
  number-fits (Lit-F.NoneLit at) is range = let no : false ≡ true = is in cc
  number-fits (Lit-F.SomeLit inner at) is range = let no : false ≡ true = is in cc
  number-fits (Lit-F.List items at) is range = let no : false ≡ true = is in cc

  text-fits : (layer : Layer) → is_text layer ≡ true → HasRange (plain_value layer) → BaseFits base.Text (plain_value layer)
  text-fits (Lit-F.Str text at) is range = ((text, refl, range), tt)
  text-fits (Lit-F.Flag b at) is range = let no : false ≡ true = is in cc
  text-fits (Lit-F.Num n at) is range = let no : false ≡ true = is in cc
  text-fits (Lit-F.Id id at) is range = let no : false ≡ true = is in cc
  text-fits (Lit-F.SelfId at) is range = let no : false ≡ true = is in cc
  text-fits (Lit-F.NoneLit at) is range = let no : false ≡ true = is in cc
  text-fits (Lit-F.SomeLit inner at) is range = let no : false ≡ true = is in cc
  text-fits (Lit-F.List items at) is range = let no : false ≡ true = is in cc

  id-fits : (m : ℕ) (layer : Layer) → is_id layer ≡ true → id_lost d m (layer_id layer) ≡ None → BaseFits (base.Id m) (plain_value layer)
  id-fits m (Lit-F.Id i at) is found = let t = there d m i found in ((i.number, refl, ranged m i.number t), (t, tt))
  id-fits m (Lit-F.Flag b at) is found = let no : false ≡ true = is in cc
  id-fits m (Lit-F.Num n at) is found = let no : false ≡ true = is in cc
  id-fits m (Lit-F.Str text at) is found = let no : false ≡ true = is in cc
  id-fits m (Lit-F.SelfId at) is found = let no : false ≡ true = is in cc
  id-fits m (Lit-F.NoneLit at) is found = let no : false ≡ true = is in cc
  id-fits m (Lit-F.SomeLit inner at) is found = let no : false ≡ true = is in cc
  id-fits m (Lit-F.List items at) is found = let no : false ≡ true = is in cc

  base-fits : (b : TBase) (layer : Layer) → is_base b layer ≡ true → HasRange (plain_value layer)
      → option_and_then (λ m. id_lost d m (layer_id layer)) (shape.base_model b) ≡ None → BaseFits b (plain_value layer)
  base-fits base.Bool layer is range found = flag-fits layer is
  base-fits base.Int layer is range found = number-fits layer is range
  base-fits base.Text layer is range found = text-fits layer is range
  base-fits (base.Id m) layer is range found = id-fits m layer is found

  -- without `some` around it
  record IsSame (layer : Layer) : Type 0 where
    value : layer_value layer ≡ plain_value layer
    lost : (m : ℕ) → layer_lost d m layer ≡ id_lost d m (layer_id layer)

  same : (b : TBase) (layer : Layer) → is_base b layer ≡ true → IsSame layer
  same base.Bool (Lit-F.Flag b at) is = record { value = refl; lost = λ m. refl }
  same base.Int (Lit-F.Num n at) is = record { value = refl; lost = λ m. refl }
  same base.Text (Lit-F.Str text at) is = record { value = refl; lost = λ m. refl }
  same (base.Id n) (Lit-F.Id i at) is = record { value = refl; lost = λ m. refl }
  same b layer is = let no : false ≡ true = is in cc

  -- ---- sets

  items-there : (m : ℕ) (seen : List ℕ) (items : List Lit) → first_behind item_fault with_item seen items ≡ None → items_lost d m items ≡ None
      → AllByRecursion (λ l. (i : WrittenId) × (id_in l ≡ Some i) × (has_record d m i.number ≡ true)) items
  items-there m seen [] sound found = tt
  items-there m seen (l ∷ items) sound found =
      let one = or-none (item_fault seen l) (first_behind item_fault with_item (with_item seen l) items) sound in
      let two = or-none (id_lost d m (id_in l)) (items_lost d m items) found in
      (item-there m seen l (id_in l) refl one.0 two.0, items-there m (with_item seen l) items one.1 two.1)
    where
      item-there : (m : ℕ) (seen : List ℕ) (l : Lit) (o : Option WrittenId) → id_in l ≡ o
          → option_map_or (λ (i : WrittenId). if has seen i.number then Some (fault.Twice i.at) else None) o (Some (fault.WrongShape (lit_at l))) ≡ None → id_lost d m o ≡ None
          → (i : WrittenId) × (id_in l ≡ Some i) × (has_record d m i.number ≡ true)
      item-there m seen l None is sound found = cc
      item-there m seen l (Some i) is sound found = (i, is, there d m i found)

  with-ids : (m : ℕ) (items : List Lit) → AllByRecursion (λ l. (i : WrittenId) × (id_in l ≡ Some i) × (has_record d m i.number ≡ true)) items
      → AllByRecursion (λ l. (i : WrittenId) × (id_in l ≡ Some i) × IsId i.number) items
  with-ids m [] all = tt
  with-ids m (l ∷ items) ((i, is, t), all) = ((i, is, ranged m i.number t), with-ids m items all)

  set-fits : (m : ℕ) (layer : Layer) → set_fault layer ≡ None → layer_lost d m layer ≡ None → Fits (Set m) (layer_value layer)
  set-fits m (Lit-F.List items at) sound found =
      let each = items-there m [] items sound found in (
        (ids_of items, refl, ids-rise items, all-items IsId [] items tt (with-ids m items each)),
        all-items (λ id. has_record d m id ≡ true) [] items tt each,
      )
  set-fits m (Lit-F.Flag b at) sound found = cc
  set-fits m (Lit-F.Num n at) sound found = cc
  set-fits m (Lit-F.Str text at) sound found = cc
  set-fits m (Lit-F.Id id at) sound found = cc
  set-fits m (Lit-F.SelfId at) sound found = cc
  set-fits m (Lit-F.NoneLit at) sound found = cc
  set-fits m (Lit-F.SomeLit inner at) sound found = cc

  -- ---- options, and values of any type

  then-same : {A B : Type 0} (f g : A → Option B) → ((x : A) → f x ≡ g x) → (o : Option A) → option_and_then f o ≡ option_and_then g o
  then-same f g same None = refl
  then-same f g same (Some x) = same x

  plain-fits : (b : TBase) (layer : Layer) → is_base b layer ≡ true → HasRange (layer_value layer) → option_and_then (λ m. layer_lost d m layer) (shape.base_model b) ≡ None
      → Fits (Plain b) (layer_value layer)
  plain-fits b layer is range found =
      let s = same b layer is in
      subst (Fits (Plain b)) (sym s.value)
      (base-fits b layer is (subst HasRange s.value range)
      (then-same (λ m. id_lost d m (layer_id layer)) (λ m. layer_lost d m layer) (λ m. sym (s.lost m)) (shape.base_model b) ∙ found))

  none-intact : (b : TBase) → IsBaseIntact d b []
  none-intact base.Bool = tt
  none-intact base.Int = tt
  none-intact base.Text = tt
  none-intact (base.Id m) = tt

  option-fits : (b : TBase) (layer : Layer) → option_fault b layer ≡ None → HasRange (layer_value layer) → option_and_then (λ m. layer_lost d m layer) (shape.base_model b) ≡ None
      → Fits (Opt b) (layer_value layer)
  option-fits b (Lit-F.NoneLit at) sound range found = (inl refl, none-intact b)
  option-fits b (Lit-F.SomeLit inner at) sound range found =
      let is = (chosen-then (is_base b (out-Lit inner)) (fault.WrongShape (lit_at inner)) None sound).0 in
      let fits = base-fits b (out-Lit inner) is range found in
      (inr (plain_value (out-Lit inner), refl, fits.0), fits.1)
  option-fits b (Lit-F.Flag value at) sound range found = cc
  option-fits b (Lit-F.Num n at) sound range found = cc
  option-fits b (Lit-F.Str text at) sound range found = cc
  option-fits b (Lit-F.Id id at) sound range found = cc
  option-fits b (Lit-F.SelfId at) sound range found = cc
  option-fits b (Lit-F.List items at) sound range found = cc

  pub value-fits : (t : TTy) (l : Lit) → value_fault t l ≡ None → HasRange (value_of l) → value_lost d t l ≡ None → Fits t (value_of l)
  value-fits (Plain b) l sound range found =
      plain-fits b (out-Lit l) (chosen-then (is_base b (out-Lit l)) (fault.WrongShape (lit_at l)) None sound).0 range found
  value-fits (Set m) l sound range found = set-fits m (out-Lit l) sound found
  value-fits (Opt b) l sound range found = option-fits b (out-Lit l) sound range found

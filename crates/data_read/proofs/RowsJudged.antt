-- What is written for the fields of a record is its slots, with nothing wrong.
use Rattle.std.proofs.Common.{◌≡◌, ℕ, true, List, [], ◌∷◌, map, refl, sym, ◌∙◌, ap, subst}
use Rattle.std.specs.Prelude.{Option, None, Some}
use Rattle.std.specs.List.{AllByRecursion, AllZip, IsDistinct, find, list_any}
use Rattle.std.specs.Option.{option_map_or}
use Rattle.std.specs.Str.{bytes_eq}
use Rattle.std.proofs.lemmas.Slice.Eq.{bytes_eq-Decides}
use Rattle.type_schema.specs.Schema.{FieldInfo}
use Rattle.data_meaning.specs.Values.{Nothing}
use Rattle.data_meaning.specs.Database.{Slot, Database}
use Rattle.data_tree.specs.declared.tables.FieldLit.{FieldLit}
use Rattle.data_judge.specs.First.{first_given}
use Rattle.data_judge.specs.Faults.{are_given, field_fault, field_named, row_fault}
use Rattle.data_judge.specs.Meaning.{slot_of, value_of, written}
use Rattle.data_judge.specs.References.{field_lost}
use Rattle.data_read.specs.Spelled.{IsFieldLitOf, held}
use Rattle.data_read.proofs.First.{none-behind, none-given}
use Rattle.data_read.proofs.Lists.{IsNew, all-pass, any-of-found, finds, map-same, zip-from, zip-left, zip-maps, zip-right, zip-with}
use Rattle.data_read.proofs.Looked.{IsHeld, slot-at}
use Rattle.data_read.proofs.ValuesJudged.{IsFine, value-fine}

pub bytes-same : (k : List ℕ) → bytes_eq k k ≡ true
bytes-same k = (bytes_eq-Decides k k).1 refl

abbrev field-name : FieldInfo → List ℕ
field-name f = f.name

abbrev lit-name : FieldLit → List ℕ
lit-name w = w.name.name

module _ (d : Database) (slots : List Slot) (fields : List FieldInfo) (ws : List FieldLit) where
  -- a field and what is written for it: each is found by its name
  record IsPaired (f : FieldInfo) (w : FieldLit) : Type 0 where
    fine : IsFine d f.ty (held slots f.number) w.value
    named : field_named fields w.name.name ≡ Some f
    found : written ws f ≡ Some w

  abbrev IsKnown : FieldInfo → Type 0
  IsKnown f = IsHeld d slots f × (find (λ (g : FieldInfo). bytes_eq g.name f.name) fields ≡ Some f)

  abbrev IsPlaced : FieldLit → Type 0
  IsPlaced w = find (λ (v : FieldLit). bytes_eq v.name.name w.name.name) ws ≡ Some w

  pair : (f : FieldInfo) (w : FieldLit) → IsFieldLitOf slots f w × IsKnown f × IsPlaced w → IsPaired f w
  pair f w (is, known, placed) = record {
    fine = value-fine d f.ty (held slots f.number) w.value known.0.0 known.0.1 is.value;
    named = ap (field_named fields) is.name ∙ known.1;
    found = subst (λ (name : List ℕ). find (λ (v : FieldLit). bytes_eq v.name.name name) ws ≡ Some w) is.name placed;
  }

  known-all : (fs : List FieldInfo) → AllByRecursion (IsHeld d slots) fs → AllByRecursion (λ (f : FieldInfo). find (λ (g : FieldInfo). bytes_eq g.name f.name) fields ≡ Some f) fs
      → AllByRecursion IsKnown fs
  known-all [] values finds = tt
  known-all (f ∷ fs) values finds = ((values.0, finds.0), known-all fs values.1 finds.1)

  module _ (zip : AllZip (IsFieldLitOf slots) fields ws) (values : AllByRecursion (IsHeld d slots) fields) (names : IsDistinct bytes_eq (map field-name fields)) where
    lit-names : map lit-name ws ≡ map field-name fields
    lit-names = zip-maps (IsFieldLitOf slots) field-name lit-name (λ f w is. is.name) fields ws zip

    apart : IsDistinct bytes_eq (map lit-name ws)
    apart = subst (IsDistinct bytes_eq) (sym lit-names) names

    pairs : AllZip IsPaired fields ws
    pairs =
        zip-from (λ f w. IsFieldLitOf slots f w × IsKnown f × IsPlaced w) IsPaired pair fields ws
        (zip-with (IsFieldLitOf slots) IsKnown IsPlaced fields ws zip (known-all fields values (finds bytes_eq field-name bytes-same fields names))
        (finds bytes_eq lit-name bytes-same ws apart))

    field-calm : (f : FieldInfo) (w : FieldLit) → IsPaired f w → (before : List FieldLit) → IsNew bytes_eq lit-name before w → field_fault fields before w ≡ None
    field-calm f w is before new = rw (is.named, new) is.fine.sound

    given : are_given fields ws ≡ true
    given =
        all-pass (λ (f : FieldInfo). list_any (λ (w : FieldLit). bytes_eq w.name.name f.name) ws) fields
        (zip-left IsPaired (λ (f : FieldInfo). list_any (λ (w : FieldLit). bytes_eq w.name.name f.name) ws ≡ true)
        (λ f w is. any-of-found (λ (v : FieldLit). bytes_eq v.name.name f.name) ws w is.found) fields ws pairs)

    pub row-sound : (close : ℕ) → row_fault fields ws close ≡ None
    row-sound close =
        let first = none-behind bytes_eq lit-name (field_fault fields) ws
        (zip-right IsPaired (λ w. (before : List FieldLit) → IsNew bytes_eq lit-name before w → field_fault fields before w ≡ None) field-calm fields ws pairs) apart in
        rw (first, given) refl

    slot-same : (f : FieldInfo) (w : FieldLit) → IsPaired f w → slot_of ws f ≡ slot-at slots f
    slot-same f w is =
        ap (λ v. let s : Slot = record { field = f.number; value = v } in s)
        (ap (λ (o : Option FieldLit). option_map_or (λ (v : FieldLit). value_of v.value) o Nothing) is.found ∙ is.fine.value)

    pub slots-same : map (slot_of ws) fields ≡ map (slot-at slots) fields
    slots-same = map-same (slot_of ws) (slot-at slots) fields (zip-left IsPaired (λ f. slot_of ws f ≡ slot-at slots f) slot-same fields ws pairs)

    field-kept : (f : FieldInfo) (w : FieldLit) → IsPaired f w → field_lost d fields w ≡ None
    field-kept f w is = rw is.named is.fine.kept

    pub row-kept : first_given (field_lost d fields) ws ≡ None
    row-kept = none-given (field_lost d fields) ws (zip-right IsPaired (λ w. field_lost d fields w ≡ None) field-kept fields ws pairs)

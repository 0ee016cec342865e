-- The database of a structure over the signature of a schema.
use Rattle.std.specs.Prelude.{ℕ, suc, map, filter}
use Rattle.std.specs.Option.{option_map_or}
use Rattle.type_schema.specs.declared.types.TTy.{TTy}
use Rattle.type_schema.specs.declared.types.TTy.TheVariants.{Plain, Set, Opt}
use Rattle.type_schema.specs.Schema.{FieldInfo, ModelInfo, Schema}
use Rattle.data_meaning.specs.Values.{Value, Flag, Num, Str, Id, Ids, Nothing, Just}
use Rattle.data_meaning.specs.Database.{Slot, Record, Table, Database}
use Rattle.form_formula.specs.declared.structure.SVal.{SVal}
use Rattle.form_formula.specs.declared.structure.SVal.TheVariants as sval
use Rattle.form_formula.specs.declared.structure.Structure.{Structure}
use Rattle.form_formula.specs.Truth.{size_of, elements, entry, relates}
use Rattle.duty_meaning.specs.Structures.{sort_of, function_of, relation_of}

-- what a function has, as a value: the element x is the record with the id x + 1
abbrev pub value_at : SVal → Value
value_at (sval.Rec x) = Id (suc x)
value_at (sval.Flag b) = Flag b
value_at (sval.Num n) = Num n
value_at (sval.Str bytes) = Str bytes

module _ (s : Schema) (st : Structure) where
  -- What a field of a model holds at an element: what its function has there, or the ids of all that its set relation relates to it. An
  -- option is nothing where its function has nothing; other functions have a value at each element.
  abbrev pub built_value : (model field : ℕ) → TTy → ℕ → Value
  built_value m f (Plain b) x = option_map_or value_at (entry st (function_of s m f) x) Nothing
  built_value m f (Set n) x = Ids (map suc (filter (relates st (relation_of s m f) x) (elements st (sort_of s n))))
  built_value m f (Opt b) x = option_map_or (λ v. Just (value_at v)) (entry st (function_of s m f) x) Nothing

  abbrev pub built_slot : ModelInfo → ℕ → FieldInfo → Slot
  built_slot m x f = record { field = f.number; value = built_value m.number f.number f.ty x }

  abbrev pub built_record : ModelInfo → ℕ → Record
  built_record m x = record { id = suc x; slots = map (built_slot m x) m.fields }

  -- the records 1, 2, 3 and so on, one for each element of the model's sort
  abbrev pub built_table : ModelInfo → Table
  built_table m = record {
    model = m.number;
    next = suc (size_of st (sort_of s m.number));
    records = map (built_record m) (elements st (sort_of s m.number));
  }

  abbrev pub built : Database
  built = map built_table s.models

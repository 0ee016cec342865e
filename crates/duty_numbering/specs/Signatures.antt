-- What the signature of a schema asks of it.
use Rattle.std.specs.Prelude.{not, List, map, filter, flat_map}
use Rattle.std.specs.List.{AllByRecursion}
use Rattle.type_schema.specs.Schema.{Schema}
use Rattle.type_schema.specs.Script.{Script, IsScript}
use Rattle.type_schema.specs.Typing.{IsType}
use Rattle.form_formula.specs.declared.structure.FunSig.{FunSig}
use Rattle.form_formula.specs.declared.structure.SetSig.{SetSig}
use Rattle.duty_meaning.specs.Structures.{Place, places_in, is_set, function_signature, relation_signature}

-- the models that the types of its fields name are there
abbrev pub TypesAreThere : Schema → Type 0
TypesAreThere s = AllByRecursion (λ (p : Place). IsType s p.field.ty) (flat_map places_in s.models)

abbrev pub StartTypesAreThere : Type 0
StartTypesAreThere = (t : Script) → IsScript t → TypesAreThere t.start

-- of several fields the functions, and the set relations
abbrev pub functions_at : Schema → List Place → List FunSig
functions_at s places = map (function_signature s) (filter (λ (p : Place). not (is_set p.field.ty)) places)

abbrev pub relations_at : Schema → List Place → List SetSig
relations_at s places = map (relation_signature s) (filter (λ (p : Place). is_set p.field.ty) places)

-- Names that are added: each is new, and there is room for one more.
use Rattle.std.specs.Prelude.{ℕ, Bool, List, [], ◌∷◌, ◌++◌, Ok, Err, ◌||◌, is_some, length, nat_lt, if◌then◌else◌}
use Rattle.std.specs.List.{list_any}
use Rattle.std.specs.Str.{bytes_eq}
use Rattle.text_ast.specs.Limits.{most_statics, most_models, most_fields}
use Rattle.text_tree.specs.declared.named.Named.{Named}
use Rattle.text_tree.specs.declared.models.FieldDef.{FieldDef}
use Rattle.type_schema.specs.Trees.{Name}
use Rattle.type_schema.specs.Schema.{Schema}
use Rattle.type_typing.specs.declared.type_err.TypeErr.TheVariants.{Twice, Crowded}
use Rattle.type_typing.specs.Names.{model_named, static_named}
use Rattle.type_typing.specs.Outcome.{Checked, ◌>>=◌}
use Rattle.type_specs.specs.InTurn.{in_turn}

-- One more of so many, of which there may be only so many. That its name is taken comes first.
unfoldable pub one_more : (is_taken : Bool) → (there most : ℕ) → Named → Checked (Unit {0})
one_more is_taken there most x =
    if is_taken then Err (Twice x.at) else (if nat_lt there most then Ok tt else Err (Crowded x.at))

-- statics and models share their names
unfoldable pub is_taken : Schema → Name → Bool
is_taken s name = is_some (static_named s name) || is_some (model_named s name)

abbrev pub new_static : Schema → Named → Checked (Unit {0})
new_static s x = one_more (is_taken s x.name) (length s.statics) most_statics x

abbrev pub new_model : Schema → Named → Checked (Unit {0})
new_model s x = one_more (is_taken s x.name) (length s.models) most_models x

-- one more field of a model whose fields have these names
abbrev pub new_field : List Name → Named → Checked (Unit {0})
new_field names x = one_more (list_any (λ name. bytes_eq name x.name) names) (length names) most_fields x

abbrev pub with_field_name : List Name → FieldDef → Checked (List Name)
with_field_name names f = new_field names f.name >>= (λ _. Ok (names ++ f.name.name ∷ []))

-- the names of the fields of a model differ
unfoldable pub fields_differ : List FieldDef → Checked (Unit {0})
fields_differ fields = in_turn with_field_name [] fields >>= (λ _. Ok tt)

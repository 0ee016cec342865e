-- The kinds of principals that a script has to do with.
use Rattle.std.specs.Prelude.{ℕ, Bool, false, not, ◌&&◌, ◌==◌, is_some, List, ◌++◌, map, filter, take, Option, None, Some}
use Rattle.std.specs.List.{list_any, range_with_len}
use Rattle.std.specs.Option.{option_map_or}
use Rattle.type_schema.specs.declared.rights.Kind.{Kind}
use Rattle.type_schema.specs.declared.rights.Kind.TheVariants as kind
use Rattle.type_schema.specs.Schema.{Schema, static_of, is_principal_model}
use Rattle.type_schema.specs.Commands.{Command, create_model, delete_model, add_static, remove_static, add_principal, add_field, remove_field, update_field, weaken_field, update_model, weaken_model}
use Rattle.type_schema.specs.Script.{Script, schema_at, count}

-- whether the schema has the static, or the model as principal
abbrev pub has_kind : Schema → Kind → Bool
has_kind s (kind.Static n) = is_some (static_of s n)
has_kind s (kind.Model m) = is_principal_model s m

abbrev pub same_kind : Kind → Kind → Bool
same_kind (kind.Static n) (kind.Static k) = n == k
same_kind (kind.Static n) (kind.Model k) = false
same_kind (kind.Model m) (kind.Static k) = false
same_kind (kind.Model m) (kind.Model k) = m == k

-- the kind that a command drops, if it drops one
abbrev pub dropped_by : Command → Option Kind
dropped_by (create_model m) = None
dropped_by (delete_model m) = Some (kind.Model m)
dropped_by (add_static n) = None
dropped_by (remove_static n) = Some (kind.Static n)
dropped_by (add_principal m) = None
dropped_by (add_field m f init) = None
dropped_by (remove_field m f) = None
dropped_by (update_field m f read write) = None
dropped_by (weaken_field m f read write reason) = None
dropped_by (update_model m create delete) = None
dropped_by (weaken_model m create delete reason) = None

abbrev pub is_dropped : Kind → List Command → Bool
is_dropped a commands = list_any (λ c. option_map_or (same_kind a) (dropped_by c) false) commands

-- Kinds at k are those of any schema on the way, before or after, without those that a command up to k drops.
abbrev pub is_kind_at : Script → ℕ → Kind → Bool
is_kind_at t k a = list_any (λ s. has_kind s a) t.schemas && not (is_dropped a (take k t.commands))

abbrev pub numbers_below : ℕ → List ℕ
numbers_below n = range_with_len 0 n

-- the kinds at k: statics by number, then models by number
abbrev pub kinds_at : Script → ℕ → List Kind
kinds_at t k =
    filter (is_kind_at t k)
    (map (λ n. kind.Static n) (numbers_below (schema_at t (count t)).next_static) ++ map (λ m. kind.Model m) (numbers_below (schema_at t (count t)).next_model))

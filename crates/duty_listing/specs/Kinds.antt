-- Kinds by parts.
use Rattle.std.specs.Prelude.{ℕ, Bool, not, List, ◌++◌, map, filter}
use Rattle.std.specs.List.{list_any, range_with_len}
use Rattle.type_schema.specs.declared.rights.Kind.{Kind}
use Rattle.type_schema.specs.declared.rights.Kind.TheVariants as kind
use Rattle.type_schema.specs.Schema.{Schema}
use Rattle.type_schema.specs.Commands.{Command}
use Rattle.type_schema.specs.Script.{Script, schema_at, count}
use Rattle.type_schema.specs.Kinds.{has_kind, is_dropped}

-- whether any schema on the way has the kind
abbrev pub ever_has : Script → Kind → Bool
ever_has t a = list_any (λ s. has_kind s a) t.schemas

-- the statics, and the models, with so many numbers from this one on
abbrev pub statics_from : ℕ → ℕ → List Kind
statics_from first many = map (λ n. kind.Static n) (range_with_len first many)

abbrev pub models_from : ℕ → ℕ → List Kind
models_from first many = map (λ m. kind.Model m) (range_with_len first many)

-- the kinds of any schema on the way
abbrev pub kinds_on_the_way : Script → List Kind
kinds_on_the_way t =
    filter (ever_has t) (statics_from 0 (schema_at t (count t)).next_static ++ models_from 0 (schema_at t (count t)).next_model)

-- those that none of the commands drops
abbrev pub kept_by : List Command → List Kind → List Kind
kept_by commands kinds = filter (λ a. not (is_dropped a commands)) kinds

use Rattle.std.proofs.Common.{◌≡◌, ◌++◌, take}
use Rattle.std.specs.List.{flat_map}
use Rattle.type_schema.specs.SchemaViews.{model_info_of}
use Rattle.data_print.specs.Texts.{table_text}
use Rattle.data_print.proofs.databases.write_tables.Given as goal

abbrev pub invariant-loop-info : goal.invariant-loop-info
invariant-loop-info l =
    l.out ≡ l.fn.out ++ flat_map (λ m. table_text m.name l.database (model_info_of m)) (take l.info-index l.models)

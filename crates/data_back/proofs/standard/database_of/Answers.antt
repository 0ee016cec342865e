use Rattle.std.proofs.Common.{rules, ◌≡◌, map, subst, sym}
use Rattle.std.specs.List.{AllByRecursion}
use Rattle.type_schema.specs.SchemaViews.{schema_of}
use Rattle.data_records.specs.Views.{table_data}
use Rattle.data_meaning.specs.Database.{Database}
use Rattle.data_back.specs.Standard.{IsKeptTable, IsWhole}
use Rattle.data_back.proofs.LookedAt.{rising, given, standard, standard-kept, standard-whole}
use Rattle.data_back.proofs.standard.database_of.Goals as goal

pub returns-then-not-are_kept : goal.returns-then-not-are_kept
returns-then-not-are_kept c =
    let fails : AllByRecursion IsKeptTable (map table_data c.args.tables.items) → ⊥ = search rules in
    λ is. fails (standard-kept (schema_of c.args.s.now) (map table_data c.args.tables.items) c.requires.models c.requires.order is)

pub of_tables-requires : goal.of_tables-requires
of_tables-requires c =
    let kept : AllByRecursion IsKeptTable (map table_data c.args.tables.items) = search rules in
    record { rising = rising (map table_data c.args.tables.items) kept; given = given (map table_data c.args.tables.items) kept }

pub returns-then-are_whole : goal.returns-then-are_whole
returns-then-are_whole c =
    let ts = map table_data c.args.tables.items in
    let kept : AllByRecursion IsKeptTable ts = search rules in
    let same : c.in_ok-database.database ≡ ts = search rules in
    let whole : AllByRecursion (IsWhole c.in_ok-database.database) (schema_of c.args.s.now).models = search rules in
    (standard (schema_of c.args.s.now) ts c.requires.models c.requires.order kept (subst (λ (d : Database). AllByRecursion (IsWhole d) (schema_of c.args.s.now).models) same whole), same)

pub returns-else-are_whole : goal.returns-else-are_whole
returns-else-are_whole c =
    let ts = map table_data c.args.tables.items in
    let same : c.in_ok-database.database ≡ ts = search rules in
    let fails : AllByRecursion (IsWhole c.in_ok-database.database) (schema_of c.args.s.now).models → ⊥ = search rules in
    λ is. fails (subst (λ (d : Database). AllByRecursion (IsWhole d) (schema_of c.args.s.now).models) (sym same) (standard-whole (schema_of c.args.s.now) ts c.requires.models c.requires.order is))

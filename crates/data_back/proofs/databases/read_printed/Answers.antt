use Rattle.std.proofs.Common.{rules, ◌≡◌, []}
use Rattle.std.specs.Prelude.{None}
use Rattle.type_schema.specs.SchemaViews.{schema_of}
use Rattle.data_back.specs.Back.{found, tables_from}
use Rattle.data_back.proofs.ReadPrinted.{nothing-found}
use Rattle.data_back.proofs.databases.read_printed.Goals as goal

pub returns-in-None : goal.returns-in-None
returns-in-None c =
    let none : found (tables_from [] (schema_of c.args.s.now).models c.args.bytes.now) ≡ None = search rules in
    nothing-found (schema_of c.args.s.now) c.args.bytes.now c.requires none

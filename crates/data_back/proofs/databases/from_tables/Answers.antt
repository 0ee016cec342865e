use Rattle.std.proofs.Common.{rules, ◌≡◌, map}
use Rattle.std.specs.Prelude.{Option}
use Rattle.std.specs.Option.{SomeIff}
use Rattle.type_schema.specs.SchemaViews.{schema_of}
use Rattle.data_records.specs.Views.{table_data}
use Rattle.data_meaning.specs.Database.{Database}
use Rattle.data_print.specs.Texts.{database_text}
use Rattle.data_back.specs.Printed.{IsStandard, IsRead}
use Rattle.data_back.proofs.ReadPrinted.{if-ok, in-model-order, not-standard, if-printed}
use Rattle.data_back.proofs.databases.from_tables.Goals as goal

pub database_of-requires-clause-order : goal.database_of-requires-clause-order
database_of-requires-clause-order c =
    in-model-order (schema_of c.args.s.now) c.args.bytes.now c.requires.numbered (map table_data c.args.tables.items) c.requires.found

pub returns-in-Some : goal.returns-in-Some
returns-in-Some c =
    let s = schema_of c.args.s.now in
    let ts = map table_data c.args.tables.items in
    let both : IsStandard s ts × (c.in-Some.database ≡ ts) = search rules in
    if-ok (λ (o : Option Database). SomeIff o (database_text s c.in-Some.database ≡ c.args.bytes.now) c.in-Some.database) (λ (o : Option Database). IsRead s c.args.bytes.now o) c.if_printed.result
    (λ o h. if-printed s c.args.bytes.now c.requires.numbered ts c.requires.found c.in-Some.database o both.0 both.1 h) c.if_printed.ensures

pub returns-in-None : goal.returns-in-None
returns-in-None c =
    let s = schema_of c.args.s.now in
    let ts = map table_data c.args.tables.items in
    let other : IsStandard s ts → ⊥ = search rules in
    not-standard s c.args.bytes.now c.requires.numbered ts c.requires.found other

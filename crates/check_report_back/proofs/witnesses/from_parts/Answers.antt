use Rattle.std.proofs.Common.{rules, ◌≡◌, map, ◌∙◌, ap}
use Rattle.std.specs.Prelude.{Option}
use Rattle.std.specs.Option.{SomeIff, option_map}
use Rattle.type_schema.specs.SchemaViews.{script_of}
use Rattle.data_records.specs.Views.{table_data}
use Rattle.data_back.specs.Printed.{IsStandard}
use Rattle.check_witness.proofs.Scripts.{start-models}
use Rattle.check_witness.specs.Printed.{witness_text}
use Rattle.check_report.specs.declared.witness.Witness as code_witness
use Rattle.check_report.specs.Views.{witness_data}
use Rattle.check_report_back.specs.Back.{witness_of}
use Rattle.check_report_back.specs.Printed.{IsReadBack, IsWitnessOn}
use Rattle.check_report_back.proofs.ReadBack.{if-ok, if-seen, in-order, not-standard, if-printed}
use Rattle.check_report_back.proofs.witnesses.from_parts.Goals as goal

pub database_of-requires-clause-models : goal.database_of-requires-clause-models
database_of-requires-clause-models c = start-models (script_of c.args.t.now) c.requires.script

pub database_of-requires-clause-order : goal.database_of-requires-clause-order
database_of-requires-clause-order c =
    in-order (script_of c.args.t.now) c.requires.script c.requires.names c.args.text.now c.args.head (map table_data c.args.tables.items) c.requires.found

pub returns-in-Some : goal.returns-in-Some
returns-in-Some c =
    let t = script_of c.args.t.now in
    let tables = map table_data c.args.tables.items in
    let w = c.witness_from.result in
    let both : IsStandard t.start tables × (c.in-Some.base ≡ tables) = search rules in
    let P = IsWitnessOn t (witness_data w) × (witness_text t (witness_data w) ≡ c.args.text.now) in
    if-ok (λ (o : Option code_witness.Witness). SomeIff o P w) (λ (o : Option code_witness.Witness). IsReadBack t c.args.text.now (option_map witness_data o)) c.if_printed.result
    (λ o h. if-printed t c.requires.script c.requires.names c.args.text.now c.args.head tables c.requires.found (witness_data w) (option_map witness_data o)
    (c.witness_from.ensures ∙ ap (witness_of c.args.head) both.1) (if-seen witness_data o P w h)) c.if_printed.ensures

pub returns-in-None : goal.returns-in-None
returns-in-None c =
    let t = script_of c.args.t.now in
    let tables = map table_data c.args.tables.items in
    let other : IsStandard t.start tables → ⊥ = search rules in
    not-standard t c.requires.script c.requires.names c.args.text.now c.args.head tables c.requires.found other

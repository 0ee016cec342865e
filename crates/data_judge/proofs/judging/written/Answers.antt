use Rattle.std.proofs.Common.{◌≡◌, sym, ◌∙◌, map}
use Rattle.std.specs.Prelude.{None}
use Rattle.data_records.specs.Views.{table_data}
use Rattle.type_schema.specs.SchemaViews.{schema_of}
use Rattle.data_judge.specs.Faults.{rule_fault}
use Rattle.data_judge.specs.Laid.{AreLaid}
use Rattle.data_judge.proofs.Held.{held, all-given, all-rising}
use Rattle.data_judge.proofs.judging.written.Goals as goal

pub returns-in_ok-tables_of-in-None-clause-ok : goal.returns-in_ok-tables_of-in-None-clause-ok
returns-in_ok-tables_of-in-None-clause-ok c =
    let s = schema_of c.args.s.now in
    let first = rw c.as_slice-models.ensures at c.in_ok-fault.ensures in
    let sound : rule_fault s c.args.ts.now ≡ None = sym first ∙ c.in-None.is in
    let laid : AreLaid c.args.ts.now s.models (map table_data c.in_ok-tables_of-in-None.field-0.items) =
    rw c.as_slice-models.ensures at c.in_ok-tables_of-in-None.ensures in
    record { sound = sound; held = held s.models c.args.ts.now sound s.models _ laid }

pub returns-in_ok-tables_of-in-None-clause-rising : goal.returns-in_ok-tables_of-in-None-clause-rising
returns-in_ok-tables_of-in-None-clause-rising c =
    let s = schema_of c.args.s.now in
    all-rising c.args.ts.now s.models _ (returns-in_ok-tables_of-in-None-clause-ok c).held

pub returns-in_ok-tables_of-in-None-clause-given : goal.returns-in_ok-tables_of-in-None-clause-given
returns-in_ok-tables_of-in-None-clause-given c =
    let s = schema_of c.args.s.now in
    let laid : AreLaid c.args.ts.now s.models (map table_data c.in_ok-tables_of-in-None.field-0.items) =
    rw c.as_slice-models.ensures at c.in_ok-tables_of-in-None.ensures in
    all-given s.models c.args.ts.now (returns-in_ok-tables_of-in-None-clause-ok c).sound s.models _ laid

use Rattle.std.proofs.Common.{◌≡◌, ◌∙◌, sym}
use Rattle.std.specs.Prelude.{None}
use Rattle.type_schema.specs.SchemaViews.{schema_of}
use Rattle.data_judge.specs.References.{lost}
use Rattle.data_judge.proofs.InOrder.{proper-apart}
use Rattle.data_judge.proofs.Standard.{in-order, standard}
use Rattle.data_judge.proofs.judging.checked.Goals as goal

pub returns-in-None-excess-clause-database : goal.returns-in-None-excess-clause-database
returns-in-None-excess-clause-database c =
    let s = schema_of c.args.s.now in
    let first = rw c.as_slice.ensures at c.lost.ensures in
    let found : lost s c.args.database c.args.ts.now ≡ None = sym first ∙ c.in-None.is in
    standard s c.args.ts.now c.args.database c.requires.proper (record { writes = c.requires.writes; found = found }) c.requires.ranged

pub returns-in-None-excess-clause-order : goal.returns-in-None-excess-clause-order
returns-in-None-excess-clause-order c =
    let s = schema_of c.args.s.now in
    in-order c.args.ts.now s.models c.args.database c.requires.writes.held

pub lost-requires : goal.lost-requires
lost-requires c = rw c.as_slice.ensures (proper-apart (schema_of c.args.s.now) c.requires.proper)

use Rattle.std.proofs.Common.{rules, ◌≡◌}
use Rattle.std.specs.Prelude.{Err}
use Rattle.type_schema.specs.SchemaViews.{schema_of}
use Rattle.data_judge.proofs.InOrder.{proper-apart}
use Rattle.data_judge.proofs.judging.judge.Goals as goal

pub returns-in_err-tables-clause-refused : goal.returns-in_err-tables-clause-refused
returns-in_err-tables-clause-refused c =
    let same : c.from_residual.result ≡ Err c.in_err-tables.field-0.0 = search rules in
    rw same (c.in_err-tables.ensures.refused c.args.limits)

pub written-requires : goal.written-requires
written-requires c = proper-apart (schema_of c.args.s.now) c.requires

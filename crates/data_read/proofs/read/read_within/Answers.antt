use Rattle.std.proofs.lemmas.Result.{err_from_is_err_and}
use Rattle.type_schema.specs.SchemaViews.{schema_of}
use Rattle.data_read.proofs.OneReading.{of-parser, of-tables, one-read, read-not-refused}
use Rattle.data_read.proofs.read.read_within.Goals as goal

pub returns-in_err-tables-clause-none : goal.returns-in_err-tables-clause-none
returns-in_err-tables-clause-none c =
    let l = c.args.limits in
    let s = schema_of c.args.s.now in
    let p = err_from_is_err_and c.from_residual.result c.from_residual.ensures.1 in
    rw p.1 (λ some d is.
    read-not-refused l s c.args.text.now d p.0 is (of-parser l s c.args.text.now c.in_err-tables.field-0.0 p.0 c.in_err-tables.ensures.refused p.2 some))

pub returns-in_err-judge-clause-none : goal.returns-in_err-judge-clause-none
returns-in_err-judge-clause-none c =
    let l = c.args.limits in
    let s = schema_of c.args.s.now in
    let p = err_from_is_err_and c.from_residual-in_err-judge.result c.from_residual-in_err-judge.ensures.1 in
    let refused = rw c.as_slice.ensures at c.in_err-judge.ensures.refused in
    rw p.1 (λ some d is.
    read-not-refused l s c.args.text.now d p.0 is
    (of-tables l s c.args.text.now c.in_err-judge.field-0.0 p.0 (c.in_ok-tables.tables, c.in_ok-tables.ensures.ok, refused) p.2 some))

pub returns-clause-only : goal.returns-clause-only
returns-clause-only c =
    let l = c.args.limits in
    let s = schema_of c.args.s.now in
    let given = rw c.as_slice.ensures at c.in_ok-judge.ensures.ok in
    λ e is. one-read l s c.args.text.now e c.in_ok-judge.field-0 is (c.in_ok-tables.tables, c.in_ok-tables.ensures.ok, given)

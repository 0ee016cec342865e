use Rattle.std.proofs.Common.{codes, ◌∙◌}
use Rattle.type_schema.specs.SchemaViews.{script_of}
use Rattle.check_witness.specs.Printed.{database_text, leak_line, principal_line, row_line, touched_line}
use Rattle.check_report.specs.Views.{witness_data}
use Rattle.check_report.proofs.Grown.{grown}
use Rattle.check_report.proofs.witness.print_witness.Goals as goal

pub returns : goal.returns
returns c =
    c.into_bytes.ensures
    ∙ grown c.new-out.result c.write_leak_line.new.out c.write_row_line.new.out c.write_principal_line.new.out c.write_touched_line.new.out c.put.new.self c.write_database.new.out c.put-2.new.self
    (leak_line (script_of c.args.t.now) (witness_data c.args.w.now)) (row_line (script_of c.args.t.now) (witness_data c.args.w.now))
    (principal_line (script_of c.args.t.now) c.args.w.now.who) (touched_line (script_of c.args.t.now) c.args.w.now.command c.args.w.now.cell)
    (codes "database\n") (database_text (script_of c.args.t.now) c.args.w.now.base) (codes "end\n")
    c.new-out.ensures c.in_ok-write_leak_line.ensures c.in_ok-write_row_line.ensures c.in_ok-write_principal_line.ensures c.in_ok-write_touched_line.ensures
    c.in_ok-put.ensures c.in_ok-write_database.ensures c.in_ok-put-2.ensures

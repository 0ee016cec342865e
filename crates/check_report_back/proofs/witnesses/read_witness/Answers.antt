use Rattle.std.proofs.Common.{rules, ◌≡◌}
use Rattle.std.specs.Prelude.{None}
use Rattle.type_schema.specs.SchemaViews.{script_of}
use Rattle.data_back.specs.Back.{found}
use Rattle.check_report_back.specs.Back.{witness_at}
use Rattle.check_report_back.proofs.ReadBack.{nothing-found}
use Rattle.check_report_back.proofs.witnesses.read_witness.Goals as goal

pub returns-in-None : goal.returns-in-None
returns-in-None c =
    let none : found (witness_at (script_of c.args.t.now) c.args.text.now) ≡ None = search rules in
    nothing-found (script_of c.args.t.now) c.requires c.scripts_have_names.ensures c.args.text.now none

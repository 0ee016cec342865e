use Rattle.std.proofs.Common.{ap, ◌∙◌}
use Rattle.std.specs.Prelude.{option_and_then}
use Rattle.type_schema.specs.SchemaViews.{script_of}
use Rattle.duty_meaning.specs.Duties.{init_in}
use Rattle.impact_shrink.proofs.rights.init_of_witness.Goals as goal

pub returns-in-Some : goal.returns-in-Some
returns-in-Some c =
    c.init_of_command.ensures (script_of c.args.t.now)
    ∙ ap (option_and_then (init_in (script_of c.args.t.now))) c.in-Some.ensures

use Rattle.std.proofs.Common.{◌≡◌, subst}
use Rattle.std.specs.Prelude.{MatchOption, Some, None, Option}
use Rattle.type_schema.specs.SchemaViews.{script_of}
use Rattle.check_report.specs.Views.{witness_data}
use Rattle.impact_effects.proofs.Shows.{shows_nothing, shows_example, of_none, of_leak}
use Rattle.impact_effects.proofs.effects.shown_of.Goals as goal

pub returns-in-None : goal.returns-in-None
returns-in-None c =
    shows_nothing (script_of c.args.t.now) c.requires.script c.args.signature.now c.requires.signature c.args.duty c.requires.listed
    (of_none _ _ c.args.found c.in-None.is c.requires.found)

pub returns-in-Some-Leak : goal.returns-in-Some-Leak
returns-in-Some-Leak c =
    shows_example (script_of c.args.t.now) c.requires.script c.args.signature.now c.requires.signature c.args.duty c.requires.listed
    (witness_data c.in-Some-Leak.witness)
    (of_leak (script_of c.args.t.now) c.args.signature.now c.args.duty c.args.found c.in-Some-Leak.field-0 c.in-Some-Leak.witness c.in-Some-Leak.is c.in-Some-Leak.field-0-is c.requires.found)

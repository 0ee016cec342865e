use Rattle.std.proofs.Common.{◌≡◌, sym, subst, Contains}
use Rattle.type_schema.specs.Script.{Script, IsScript}
use Rattle.type_schema.specs.SchemaViews.{script_of}
use Rattle.duty_meaning.specs.Duties.{obligations_of}
use Rattle.impact_meaning.proofs.AsUpdates.{undeclared_scripts}
use Rattle.impact_meaning.proofs.Weakenings.{of_undeclared}
use Rattle.impact_effects.proofs.effects.effect_of.Goals as goal

pub unsettled-requires-clause-script : goal.unsettled-requires-clause-script
unsettled-requires-clause-script g c =
    subst (λ (t : Script). IsScript t) (sym c.requires.undeclared) (undeclared_scripts (script_of c.args.t.now) c.requires.script)

pub unsettled-requires-clause-listed : goal.unsettled-requires-clause-listed
unsettled-requires-clause-listed g c =
    subst (λ (t : Script). Contains (obligations_of t) c.args.duty) (sym c.requires.undeclared)
    (of_undeclared (script_of c.args.t.now) c.args.duty c.requires.listed)

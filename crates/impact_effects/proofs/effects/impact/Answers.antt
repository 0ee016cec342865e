use Rattle.std.proofs.Common.{◌≡◌, ◌∙◌, All, List, map, sym, subst}
use Rattle.std.specs.Prelude.{Result, Ok, Err, IfOk}
use Rattle.type_schema.specs.Script.{Script, IsScript}
use Rattle.type_schema.specs.SchemaViews.{script_of}
use Rattle.duty_meaning.specs.Over.{IsSignatureOf}
use Rattle.duty_numbering.proofs.SignatureLaws.{start_types_are_there}
use Rattle.impact_meaning.proofs.AsUpdates.{undeclared_scripts}
use Rattle.impact_effects.proofs.Shows.{are_effects}
use Rattle.impact_effects.proofs.effects.impact.Goals as goal

pub signature_of-requires : goal.signature_of-requires
signature_of-requires g c =
    start_types_are_there (script_of c.in_ok-u.u) (subst (λ (t : Script). IsScript t) (sym c.in_ok-u.ensures) (undeclared_scripts (script_of c.args.t.now) c.requires))

pub returns : goal.returns
returns g c =
    are_effects (script_of c.args.t.now) c.in_ok-signature.signature
    (subst (λ (t : Script). IsSignatureOf t.start c.in_ok-signature.signature) c.in_ok-u.ensures c.in_ok-signature.ensures)
    (λ effects. effects.items) c.effects_of.result c.effects_of.ensures.listed c.effects_of.ensures.shown

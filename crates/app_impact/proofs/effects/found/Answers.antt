use Rattle.std.proofs.Common.{List, refl, subst, sym}
use Rattle.impact_effects.specs.Effects.{AreEffects}
use Rattle.impact_effects.specs.declared.effect.Effect.{Effect}
use Rattle.type_schema.specs.SchemaViews.{script_of}
use Rattle.app_impact.proofs.effects.found.Goals as goal

pub returns-clause-found : goal.returns-clause-found
returns-clause-found c = record {
  script = refl;
  typed = c.requires;
  effects = subst (λ (effects : List Effect). AreEffects (script_of c.args.script) effects) (sym c.from_vec.ensures) c.in_ok-effects.ensures;
}

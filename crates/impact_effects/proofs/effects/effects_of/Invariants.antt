use Rattle.std.proofs.Common.{◌≡◌, All, map, take}
use Rattle.type_schema.specs.SchemaViews.{script_of}
use Rattle.impact_effects.specs.Effects.{IsEffect}
use Rattle.impact_effects.specs.declared.effect.Effect.{Effect}
use Rattle.impact_effects.proofs.effects.effects_of.Given as goal

abbrev pub invariant-loop-duty : goal.invariant-loop-duty
invariant-loop-duty g l =
    (map (λ (e : Effect). e.duty) l.effects.items ≡ take l.duty-index l.weakenings)
    × All (IsEffect (script_of l.t) l.signature) l.effects.items
    × (l.known ≡ l.signature)

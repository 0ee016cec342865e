use Rattle.std.proofs.Common.{◌≡◌, ◌++◌, take}
use Rattle.std.specs.List.{flat_map}
use Rattle.type_schema.specs.SchemaViews.{script_of}
use Rattle.app_impact.specs.Report.{effect_text}
use Rattle.app_impact.proofs.report.write_effects.Given as goal

abbrev pub invariant-loop-effect : goal.invariant-loop-effect
invariant-loop-effect l = l.out ≡ l.fn.out ++ flat_map (λ effect. effect_text (script_of l.t) effect) (take l.effect-index l.effects)

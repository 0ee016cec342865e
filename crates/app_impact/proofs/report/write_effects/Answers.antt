use Rattle.std.proofs.Common.{◌≡◌, ◌++◌, ◌∙◌, [], ◌∷◌, ap, sym, arith, get_or, rules, take}
use Rattle.std.specs.List.{flat_map}
use Rattle.std.proofs.lemmas.List.{flat_map_more, take_more}
use Rattle.impact_effects.specs.declared.effect.Effect.{Effect}
use Rattle.type_schema.specs.SchemaViews.{script_of}
use Rattle.app_impact.specs.Report.{effect_text}
use Rattle.app_impact.proofs.report.write_effects.Goals as goal

pub loop-effect-preserved : goal.loop-effect-preserved
loop-effect-preserved c =
    let step = λ (e : Effect). effect_text (script_of c.args.t.now) e in
    let i = c.loop-effect.effect-index in
    let item = c.effect-item.result in
    let at : item ≡ get_or c.args.effects.now i item = search rules in
    c.in_ok-write_effect.ensures
    ∙ ap (λ z. z ++ step item) c.loop-effect.invariant
    ∙ flat_map_more step c.args.out.now (take i c.args.effects.now) item
    ∙ ap (λ es. c.args.out.now ++ flat_map step es) (ap (λ (e : Effect). take i c.args.effects.now ++ e ∷ []) at ∙ sym (take_more c.args.effects.now i item (omega (arith, c.loop-effect-test.true))))

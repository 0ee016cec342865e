use Rattle.std.proofs.Common.{ℕ, ◌++◌, ◌∙◌, ap, sym, arith, codes, get_or, take}
use Rattle.std.specs.List.{flat_map}
use Rattle.std.proofs.lemmas.List.{flat_map_more, take_more}
use Rattle.type_schema.specs.SchemaViews.{script_of}
use Rattle.check_witness.specs.Printed.{model_text}
use Rattle.check_report.proofs.reports.write_steps.Goals as goal

pub loop-m-preserved : goal.loop-m-preserved
loop-m-preserved c =
    let step = λ (m : ℕ). model_text (script_of c.args.t.now) m ++ codes " -> " in
    let m = get_or c.args.models.now c.loop-m.m-index 0 in
    c.in_ok-write_step.ensures
    ∙ ap (λ z. z ++ step m) c.loop-m.invariant
    ∙ flat_map_more step c.args.out.now (take c.loop-m.m-index c.args.models.now) m
    ∙ ap (λ ms. c.args.out.now ++ flat_map step ms) (sym (take_more c.args.models.now c.loop-m.m-index 0 (omega arith)))

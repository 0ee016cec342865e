use Rattle.std.proofs.Common.{◌∙◌, sym, ap}
use Rattle.form_formula.specs.Values.{applied, sval_of}
use Rattle.std.specs.Option.{option_map}
use Rattle.form_formula.proofs.TermLemmas.{applied-push}
use Rattle.form_formula.proofs.term.value_of.Goals as goal

pub loop-f-preserved : goal.loop-f-preserved
loop-f-preserved c =
    let s = c.args.reading.structure.now in
    ap (λ v. applied s c.pop.new.self.items v) c.applied_to-value.ensures
    ∙ (sym (applied-push s c.pop.new.self.items c.in-Some.f (option_map sval_of c.loop-f.value))
    ∙ (ap (λ fs. applied s fs (option_map sval_of c.loop-f.value)) (sym c.in-Some.ensures.items) ∙ c.loop-f.invariant))

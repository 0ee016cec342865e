use Rattle.std.proofs.Common.{refl, sym, subst}
use Rattle.type_schema.specs.SchemaViews.{script_of}
use Rattle.data_meaning.specs.Database.{Database}
use Rattle.check_report.specs.Views.{witness_data}
use Rattle.impact_shrink.specs.Real.{IsReal}
use Rattle.impact_shrink.specs.Small.{over, IsPart}
use Rattle.impact_shrink.proofs.shrinking.shrink.Goals as goal

pub smallest-requires-clause-base : goal.smallest-requires-clause-base
smallest-requires-clause-base c = subst (λ (b : Database). IsReal (script_of c.args.t.now) (over (witness_data c.args.w.now) b)) (sym c.in_ok-copy.ensures) c.requires.real

pub returns-clause-small : goal.returns-clause-small
returns-clause-small c = c.in_ok-base.ensures.small

pub returns-clause-part : goal.returns-clause-part
returns-clause-part c = record { same = refl; base = subst (IsPart c.in_ok-base.base) c.in_ok-copy.ensures c.in_ok-base.ensures.part }

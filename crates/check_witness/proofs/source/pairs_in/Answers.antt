use Rattle.std.proofs.Common.{◌∙◌, ap, []}
use Rattle.std.specs.Prelude.{unwrap_or}
use Rattle.std.proofs.lemmas.Option.{unwrap_or-slice_get}
use Rattle.check_witness.proofs.source.pairs_in.Goals as goal

pub returns-in-Some : goal.returns-in-Some
returns-in-Some c = c.as_slice.ensures ∙ (ap (λ o. unwrap_or o []) c.in-Some.ensures.value ∙ unwrap_or-slice_get c.args.structure.now.sets c.args.r [])

pub returns-in-None : goal.returns-in-None
returns-in-None c = ap (λ o. unwrap_or o []) c.in-None.ensures.value ∙ unwrap_or-slice_get c.args.structure.now.sets c.args.r []

use Rattle.std.proofs.Common.{◌∙◌, ap, None}
use Rattle.std.specs.Prelude.{unwrap_or}
use Rattle.std.proofs.lemmas.Option.{unwrap_or-slice_get}
use Rattle.form_formula.proofs.value.entry_in.Goals as goal

pub returns-in-Some : goal.returns-in-Some
returns-in-Some c = c.as_entry.ensures ∙ (ap (λ o. unwrap_or o None) c.in-Some.ensures.value ∙ unwrap_or-slice_get c.args.table.now c.args.x None)

pub returns-in-None : goal.returns-in-None
returns-in-None c = ap (λ o. unwrap_or o None) c.in-None.ensures.value ∙ unwrap_or-slice_get c.args.table.now c.args.x None

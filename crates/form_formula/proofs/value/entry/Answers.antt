use Rattle.std.proofs.Common.{◌∙◌, ap, [], None, get_or}
use Rattle.std.specs.Prelude.{unwrap_or}
use Rattle.std.proofs.lemmas.Option.{unwrap_or-slice_get}
use Rattle.form_formula.proofs.value.entry.Goals as goal

pub returns-in-Some : goal.returns-in-Some
returns-in-Some c =
    c.entry_in.ensures
    ∙ ap (λ table. get_or table c.args.x None) (ap (λ o. unwrap_or o []) c.in-Some.ensures.value ∙ unwrap_or-slice_get c.args.structure.now.funs c.args.f [])

pub returns-in-None : goal.returns-in-None
returns-in-None c =
    ap (λ table. get_or table c.args.x None) (ap (λ o. unwrap_or o []) c.in-None.ensures.value ∙ unwrap_or-slice_get c.args.structure.now.funs c.args.f [])

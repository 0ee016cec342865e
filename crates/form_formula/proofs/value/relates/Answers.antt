use Rattle.std.proofs.Common.{◌∙◌, ◌==◌, ◌&&◌, ap, []}
use Rattle.std.specs.Prelude.{unwrap_or}
use Rattle.std.specs.List.{list_any}
use Rattle.std.proofs.lemmas.Option.{unwrap_or-slice_get}
use Rattle.form_formula.proofs.value.relates.Goals as goal

pub returns-in-Some : goal.returns-in-Some
returns-in-Some c =
    c.has_pair.ensures
    ∙ ap (λ pairs. list_any (λ pair. (pair.0 == c.args.x) && (pair.1 == c.args.y)) pairs)
    (c.as_slice.ensures ∙ (ap (λ o. unwrap_or o []) c.in-Some.ensures.value ∙ unwrap_or-slice_get c.args.structure.now.sets c.args.r []))

pub returns-in-None : goal.returns-in-None
returns-in-None c =
    ap (λ pairs. list_any (λ pair. (pair.0 == c.args.x) && (pair.1 == c.args.y)) pairs)
    (ap (λ o. unwrap_or o []) c.in-None.ensures.value ∙ unwrap_or-slice_get c.args.structure.now.sets c.args.r [])

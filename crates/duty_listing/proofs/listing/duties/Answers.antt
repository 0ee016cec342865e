use Rattle.std.proofs.Common.{◌≡◌, ◌∙◌, ap, sym, ◌++◌}
use Rattle.type_schema.specs.SchemaViews.{script_of}
use Rattle.duty_listing.specs.Duties.{obligations_behind}
use Rattle.duty_listing.proofs.DutyLaws.{obligations-more}
use Rattle.duty_listing.proofs.listing.duties.Goals as goal

pub loop-at-preserved : goal.loop-at-preserved
loop-at-preserved c =
    c.in_ok-add_at.ensures
    ∙ (ap (λ xs. xs ++ obligations_behind (script_of c.args.t.now) c.loop-at.at) c.loop-at.invariant
    ∙ sym (obligations-more (script_of c.args.t.now) c.loop-at.at))

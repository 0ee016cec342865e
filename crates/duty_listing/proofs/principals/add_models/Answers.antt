use Rattle.std.proofs.Common.{◌≡◌}
use Rattle.type_schema.specs.SchemaViews.{script_of}
use Rattle.duty_listing.specs.Kinds.{ever_has}
use Rattle.duty_listing.proofs.Joined.{joined}
use Rattle.duty_listing.proofs.KindLaws.{models-more}
use Rattle.duty_listing.proofs.principals.add_models.Goals as goal

pub loop-m-preserved : goal.loop-m-preserved
loop-m-preserved c =
    joined c.args.kinds.now.items c.loop-m.kinds.items _ _ _ _ (models-more (ever_has (script_of c.args.t.now)) c.loop-m.m) c.loop-m.invariant c.in_ok-add_kind.ensures

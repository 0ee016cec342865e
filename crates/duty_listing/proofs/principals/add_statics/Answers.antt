use Rattle.std.proofs.Common.{◌≡◌}
use Rattle.type_schema.specs.SchemaViews.{script_of}
use Rattle.duty_listing.specs.Kinds.{ever_has}
use Rattle.duty_listing.proofs.Joined.{joined}
use Rattle.duty_listing.proofs.KindLaws.{statics-more}
use Rattle.duty_listing.proofs.principals.add_statics.Goals as goal

pub loop-n-preserved : goal.loop-n-preserved
loop-n-preserved c =
    joined c.args.kinds.now.items c.loop-n.kinds.items _ _ _ _ (statics-more (ever_has (script_of c.args.t.now)) c.loop-n.n) c.loop-n.invariant c.in_ok-add_kind.ensures

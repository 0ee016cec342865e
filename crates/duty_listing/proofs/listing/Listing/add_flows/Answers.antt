use Rattle.std.proofs.Common.{◌≡◌, map}
use Rattle.duty_listing.specs.Duties.{flow_at}
use Rattle.duty_listing.proofs.Joined.{joined}
use Rattle.duty_listing.proofs.DutyLaws.{from-one}
use Rattle.duty_listing.proofs.listing.Listing.add_flows.Goals as goal

pub loop-place-preserved : goal.loop-place-preserved
loop-place-preserved c =
    joined c.args.self.now.found.items c.loop-place.self.found.items _ _ _ _
    (from-one (λ number. map (flow_at c.args.command c.args.target number) c.args.kinds.now) c.loop-place.place) c.loop-place.invariant c.in_ok-add_flow.ensures

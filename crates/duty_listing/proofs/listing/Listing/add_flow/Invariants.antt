use Rattle.std.proofs.Common.{◌≡◌, ◌++◌, map, take}
use Rattle.duty_listing.specs.Duties.{flow_at}
use Rattle.duty_listing.proofs.listing.Listing.add_flow.Given as goal

abbrev pub invariant-loop-kind : goal.invariant-loop-kind
invariant-loop-kind l = l.self.found.items ≡ l.initial.self.found.items ++ map (flow_at l.command l.target l.spot) (take l.kind-index l.kinds)

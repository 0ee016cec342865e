use Rattle.std.proofs.Common.{◌≡◌, ◌++◌, map}
use Rattle.std.specs.Prelude.{flat_map}
use Rattle.std.specs.List.{range_with_len}
use Rattle.duty_listing.specs.Duties.{flow_at}
use Rattle.duty_listing.proofs.listing.Listing.add_flows.Given as goal

abbrev pub invariant-loop-place : goal.invariant-loop-place
invariant-loop-place l =
    l.self.found.items ≡ l.initial.self.found.items ++ flat_map (λ number. map (flow_at l.command l.target number) l.kinds) (range_with_len 1 l.place)

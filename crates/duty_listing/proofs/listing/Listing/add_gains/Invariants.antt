use Rattle.std.proofs.Common.{◌≡◌, ◌++◌, map, take}
use Rattle.duty_listing.specs.Duties.{gain_at}
use Rattle.duty_listing.proofs.listing.Listing.add_gains.Given as goal

abbrev pub invariant-loop-kind : goal.invariant-loop-kind
invariant-loop-kind l = l.self.found.items ≡ l.initial.self.found.items ++ map (gain_at l.command l.target l.right) (take l.kind-index l.kinds)

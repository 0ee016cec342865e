use Rattle.std.proofs.Common.{◌≡◌, drop}
use Rattle.std.specs.Prelude.{◌==◌}
use Rattle.std.specs.List.{find}
use Rattle.decide_models.proofs.values.teller_at.Given as goal

abbrev pub invariant-loop-teller : goal.invariant-loop-teller
invariant-loop-teller l = find (λ t. t.class == l.class) l.tellers ≡ find (λ t. t.class == l.class) (drop l.teller-index l.tellers)

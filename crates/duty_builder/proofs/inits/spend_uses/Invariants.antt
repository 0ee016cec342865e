use Rattle.std.proofs.Common.{◌≡◌, ◌+◌, ◌-◌}
use Rattle.type_schema.specs.Views.{init_of}
use Rattle.duty_builder.specs.Values.{schema_in, written_upto}
use Rattle.duty_builder.specs.Spending.{use_sizes}
use Rattle.duty_builder.proofs.inits.spend_uses.Given as goal

-- what was left and the uses that are still to come are what is left and all uses
abbrev pub invariant-loop-number : goal.invariant-loop-number
invariant-loop-number l =
    l.fn.w.left + use_sizes (schema_in l.start) (written_upto l.start l.upto) (init_of l.init) l.number (l.count - l.number)
    ≡ l.w.left + use_sizes (schema_in l.start) (written_upto l.start l.upto) (init_of l.init) 0 l.count

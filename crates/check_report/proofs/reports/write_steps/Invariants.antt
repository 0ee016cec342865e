use Rattle.std.proofs.Common.{◌≡◌, ◌++◌, codes, take}
use Rattle.std.specs.List.{flat_map}
use Rattle.type_schema.specs.SchemaViews.{script_of}
use Rattle.check_witness.specs.Printed.{model_text}
use Rattle.check_report.proofs.reports.write_steps.Given as goal

abbrev pub invariant-loop-m : goal.invariant-loop-m
invariant-loop-m l = l.out ≡ l.fn.out ++ flat_map (λ m. model_text (script_of l.t) m ++ codes " -> ") (take l.m-index l.models)

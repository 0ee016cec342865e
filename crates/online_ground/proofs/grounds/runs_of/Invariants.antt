use Rattle.std.proofs.Common.{◌≡◌, ℕ, ◌<◌, [], length}
use Rattle.std.specs.Prelude.{slice_index_or}
use Rattle.type_schema.specs.SchemaViews.{script_of}
use Rattle.data_meaning.specs.Run.{run_to, widened}
use Rattle.online_ground.proofs.grounds.runs_of.Given as goal

abbrev pub invariant-loop-k : goal.invariant-loop-k
invariant-loop-k l = (length l.runs.items ≡ l.k) × ((j : ℕ) → j < l.k → slice_index_or l.runs.items j [] ≡ run_to (script_of l.t) j (widened (script_of l.t) l.d))

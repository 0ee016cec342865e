use Rattle.std.proofs.Common.{ℕ}
use Rattle.data_records.proofs.database.Database.ready_field.Goals as goal

pub invariant_of-self : goal.invariant_of-self
invariant_of-self c = (c.self.invariant.0, λ (n i g : ℕ). c.note.ensures.kept n i g _ (c.self.invariant.1 n i g))

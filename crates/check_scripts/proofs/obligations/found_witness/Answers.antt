use Rattle.std.proofs.Common.{ℕ, ◌≤◌, List, subst, sym}
use Rattle.std.specs.List.{AllByRecursion}
use Rattle.data_meaning.specs.Values.{last_id}
use Rattle.data_meaning.specs.Database.{IsInOrder}
use Rattle.type_schema.specs.SchemaViews.{script_of}
use Rattle.check_scripts.specs.FailsBy.{FailsBy}
use Rattle.check_scripts.proofs.Picked.{picked, picked-in-order}
use Rattle.check_witness.specs.Witness.{Witness}
use Rattle.check_scripts.proofs.obligations.found_witness.Goals as goal

pub returns-clause-fails : goal.returns-clause-fails
returns-clause-fails c =
    subst (λ (w : Witness). FailsBy (script_of c.args.t.now) c.args.duty w) (sym c.in_ok-w.ensures)
    (picked (script_of c.args.t.now) c.requires.script c.args.signature.now c.requires.signature c.args.duty c.requires.listed
    c.args.structure.now c.args.picks.now (subst (λ (l : List ℕ). AllByRecursion (λ n. n ≤ last_id) l) c.as_slice.ensures c.has_ids.ensures) c.requires.found)

pub returns-clause-tables : goal.returns-clause-tables
returns-clause-tables c =
    subst (λ (w : Witness). IsInOrder (script_of c.args.t.now).start w.base) (sym c.in_ok-w.ensures)
    (picked-in-order (script_of c.args.t.now) c.args.duty c.args.structure.now c.args.picks.now)

use Rattle.std.proofs.Common.{sym, subst, arith, map}
use Rattle.std.specs.Prelude.{nat_eq}
use Rattle.std.specs.List.{IsDistinct}
use Rattle.type_schema.specs.SchemaViews.{script_of}
use Rattle.data_meaning.specs.Database.{Table, Database}
use Rattle.data_meaning.proofs.Runs.{keeps}
use Rattle.store_migrate.proofs.migrations.run.Goals as goal

pub apply-requires : goal.apply-requires
apply-requires c =
    let s = script_of c.args.t.now in
    subst (λ (d : Database). IsDistinct nat_eq (map (λ (t : Table). t.model) d)) (sym c.loop-at.invariant)
    (keeps s c.requires.script c.args.database.now c.requires.start c.loop-at.at (omega arith)).apart

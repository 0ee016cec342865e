use Rattle.std.proofs.Common.{ap, ◌∙◌, arith, length}
use Rattle.std.proofs.lemmas.List.{length-map}
use Rattle.type_schema.specs.Views.{init_of}
use Rattle.data_meaning.specs.Database.{Record, records_of}
use Rattle.data_meaning.specs.Run.{init_value}
use Rattle.data_records.specs.Moved.{with_new_field}
use Rattle.data_records.specs.Views.{value_data}
use Rattle.store_migrate.proofs.Added.{added-to-each, on-ok-then}
use Rattle.store_migrate.proofs.commands.add_field.Goals as goal

pub add_field-requires : goal.add_field-requires
add_field-requires c =
    let d = c.args.database.now in
    omega (
      arith,
      length-map c.in_ok-values.values.items value_data,
      ap length c.in_ok-values.ensures,
      length-map (records_of d c.args.m) (λ (r : Record). init_value d (init_of c.args.init.now) r.id),
    )

pub returns-clause-ok : goal.returns-clause-ok
returns-clause-ok c =
    let d = c.args.database.now in
    on-ok-then c.add_field.result
    (λ is. is ∙ ap (λ vs. with_new_field c.args.m c.args.f vs d) c.in_ok-values.ensures
    ∙ added-to-each c.args.m c.args.f (λ (r : Record). init_value d (init_of c.args.init.now) r.id) d c.requires) c.add_field.ensures.ok

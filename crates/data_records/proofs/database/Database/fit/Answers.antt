use Rattle.std.proofs.Common.{◌≤◌, refl, sym, ◌∙◌, subst}
use Rattle.data_meaning.specs.Values.{Value}
use Rattle.data_records.specs.Changed.{HasRoomFor}
use Rattle.data_records.specs.Room.{weight_of, total_weight}
use Rattle.data_records.specs.Views.{value_data}
use Rattle.data_records.proofs.Changes.{weight-within}
use Rattle.data_records.proofs.Places.{value-found, value-nowhere, there-same}
use Rattle.data_records.proofs.database.Database.fit.Goals as goal

pub returns-in-None-clause-unfit : goal.returns-in-None-clause-unfit
returns-in-None-clause-unfit c = value-nowhere c.args.self.now c.args.m c.args.id c.args.field.now.number c.in-None.ensures

pub returns-then-not-has_shape-clause-unfit : goal.returns-then-not-has_shape-clause-unfit
returns-then-not-has_shape-clause-unfit c =
    let found = value-found c.args.self.now c.args.m c.args.id c.args.field.now.number (value_data c.in-Some.old.now) c.in-Some.ensures in
    (found.has, (λ shape. let h = c.if-not-has_shape.ensures.1 shape in cc), refl)

pub returns-in-Some-dangling_in-clause-unfit : goal.returns-in-Some-dangling_in-clause-unfit
returns-in-Some-dangling_in-clause-unfit c =
    let found = value-found c.args.self.now c.args.m c.args.id c.args.field.now.number (value_data c.in-Some.old.now) c.in-Some.ensures in (
      found.has,
      c.if-not-has_shape.ensures.0 refl,
      sym (there-same c.args.self.now c.args.m c.args.id found.there c.args.field.now.ty (value_data c.args.v.now)) ∙ sym c.in-Some-dangling_in.ensures,
      refl,
    )

pub reweighed-requires : goal.reweighed-requires
reweighed-requires c =
    let found = value-found c.args.self.now c.args.m c.args.id c.args.field.now.number (value_data c.in-Some.old.now) c.in-Some.ensures in
    subst (λ (v : Value). weight_of v ≤ total_weight c.args.self.now) found.value
    (weight-within c.args.self.now c.args.m c.args.id c.args.field.now.number found.slot found.at found.slot_is)

pub returns-in-Some-reweighed-clause-fits : goal.returns-in-Some-reweighed-clause-fits
returns-in-Some-reweighed-clause-fits c =
    let found = value-found c.args.self.now c.args.m c.args.id c.args.field.now.number (value_data c.in-Some.old.now) c.in-Some.ensures in
    record {
      field_there = found.has;
      shaped = c.if-not-has_shape.ensures.0 refl;
      there = sym (there-same c.args.self.now c.args.m c.args.id found.there c.args.field.now.ty (value_data c.args.v.now)) ∙ sym c.in-None-dangling_in.ensures;
      room = subst (λ (v : Value). HasRoomFor c.args.self.now v (value_data c.args.v.now)) (sym found.field) c.in-Some-reweighed.ensures.0;
    }

pub returns-in-None-reweighed-clause-unfit : goal.returns-in-None-reweighed-clause-unfit
returns-in-None-reweighed-clause-unfit c =
    let found = value-found c.args.self.now c.args.m c.args.id c.args.field.now.number (value_data c.in-Some.old.now) c.in-Some.ensures in (
      found.has,
      c.if-not-has_shape.ensures.0 refl,
      sym (there-same c.args.self.now c.args.m c.args.id found.there c.args.field.now.ty (value_data c.args.v.now)) ∙ sym c.in-None-dangling_in.ensures,
      (λ room. c.in-None-reweighed.ensures (subst (λ (v : Value). HasRoomFor c.args.self.now v (value_data c.args.v.now)) found.field room)),
    )

use Rattle.std.proofs.Common.{rules, ◌≡◌, map, true, false, subst, refl}
use Rattle.type_schema.specs.SchemaViews.{field_info_of}
use Rattle.data_records.specs.declared.record.Record as code_record
use Rattle.data_records.specs.Views.{record_data}
use Rattle.data_back.specs.Standard.{IsRecordOf}
use Rattle.data_back.proofs.Each.{none-seen, one-seen, one-fails, all-seen}
use Rattle.data_back.proofs.LookedAt.{all-seen-as}
use Rattle.data_back.proofs.standard.are_records.Goals as goal

pub loop-row-init : goal.loop-row-init
loop-row-init c = none-seen (λ (r : code_record.Record). IsRecordOf c.args.database.now (map field_info_of c.args.fields.now) (record_data r)) c.args.records.now

pub returns-then-not-is_record : goal.returns-then-not-is_record
returns-then-not-is_record c =
    let P = λ (r : code_record.Record). IsRecordOf c.args.database.now (map field_info_of c.args.fields.now) (record_data r) in
    let fails : P c.row-item.result → ⊥ = search rules in (
      λ (e : false ≡ true). cc,
      λ all. absurd (one-fails P c.args.records.now c.loop-row.row-index c.row-item.result c.loop-row-test.true (subst (λ (r : code_record.Record). P r → ⊥) c.row-item.is fails) c.loop-row.invariant
          ((all-seen-as record_data (IsRecordOf c.args.database.now (map field_info_of c.args.fields.now)) c.args.records.now).1 all)),
    )

pub loop-row-preserved : goal.loop-row-preserved
loop-row-preserved c =
    let P = λ (r : code_record.Record). IsRecordOf c.args.database.now (map field_info_of c.args.fields.now) (record_data r) in
    let holds : P c.row-item.result = search rules in
    one-seen P c.args.records.now c.loop-row.row-index c.row-item.result c.loop-row-test.true (subst P c.row-item.is holds) c.loop-row.invariant

pub returns : goal.returns
returns c =
    let P = λ (r : code_record.Record). IsRecordOf c.args.database.now (map field_info_of c.args.fields.now) (record_data r) in (
      λ _. (all-seen-as record_data (IsRecordOf c.args.database.now (map field_info_of c.args.fields.now)) c.args.records.now).0
          (all-seen P c.args.records.now c.loop-row.row-index c.loop-row-test.false c.loop-row.invariant),
      λ _. refl,
    )

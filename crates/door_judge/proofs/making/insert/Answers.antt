use Rattle.std.proofs.Common.{◌≡◌, ◌∙◌, ap, sym, subst, arith, length, map, List, None, Some}
use Rattle.std.specs.Prelude.{Result, Ok, Err}
use Rattle.std.proofs.lemmas.List.{length-map}
use Rattle.data_meaning.specs.Values.{Value}
use Rattle.data_records.specs.Inserted.{is_there_or_next}
use Rattle.data_records.specs.Rows.{AreShaped}
use Rattle.data_records.specs.Views.{value_data}
use Rattle.door_meaning.specs.declared.reply.Fullness.TheVariants as full
use Rattle.door_meaning.specs.Orders.{stops}
use Rattle.door_meaning.specs.Records.{make_refusal}
use Rattle.door_meaning.specs.Replies.{Reply, Dangling, Full, IdsSpent, reply_data}
use Rattle.store_keeper.proofs.Putting.{shaped-length}
use Rattle.type_schema.specs.Schema.{FieldInfo, field_in}
use Rattle.type_schema.specs.SchemaViews.{field_info_of, model_info_of}
use Rattle.door_judge.proofs.Rows.{dangling-named, refuses-dangling, refuses-ids, refuses-nothing, refuses-records, refuses-weight, shaped-not_wrong}
use Rattle.door_judge.proofs.making.insert.Goals as goal

pub insert-requires : goal.insert-requires
insert-requires c =
    let info = model_info_of c.args.making.now.info.now in
    omega (
      arith,
      shaped-length info.fields (map value_data c.args.making.now.row) c.requires.shaped,
      length-map c.args.making.now.info.now.fields field_info_of,
      length-map c.args.making.now.row value_data,
      ap length c.as_slice.ensures,
    )

pub unreachable-requires : goal.unreachable-requires
unreachable-requires c =
    let info = model_info_of c.args.making.now.info.now in
    let refused = rw c.in-Err-Dangling.field-0-is at c.in-Err-Dangling.ensures in
    let named = dangling-named (is_there_or_next c.args.base.now info.number) info.fields (map value_data c.as_slice.result.now) c.in-Err-Dangling.field c.in-Err-Dangling.id c.requires.apart refused.0.1 in
    let never : None ≡ Some named.0
    = c.in-None.ensures ∙ ap (λ fs. field_in (map field_info_of fs) c.in-Err-Dangling.field) c.as_slice-in-Err-Dangling.ensures ∙ named.1.0 in
    cc

pub unreachable-requires-in-Err-WrongShape : goal.unreachable-requires-in-Err-WrongShape
unreachable-requires-in-Err-WrongShape c =
    let info = model_info_of c.args.making.now.info.now in
    let refused = rw c.in-Err-WrongShape.field-0-is at c.in-Err-WrongShape.ensures in
    let shaped = subst (λ (row : List Value). AreShaped info.fields row) (ap (map value_data) (sym c.as_slice.ensures)) c.requires.shaped in
    shaped-not_wrong info.fields (map value_data c.as_slice.result.now) c.in-Err-WrongShape.field-0-0 shaped refused.0

pub returns-in-Ok-clause-judged : goal.returns-in-Ok-clause-judged
returns-in-Ok-clause-judged c =
    let info = model_info_of c.args.making.now.info.now in
    subst (λ (row : List Value). stops (make_refusal c.args.base.now info row) ≡ Ok tt) (ap (map value_data) c.as_slice.ensures)
    (ap stops (refuses-nothing c.args.base.now info (map value_data c.as_slice.result.now) c.in-Ok.ensures.0))

pub returns-in_ok-dangling-in-Some-clause-judged : goal.returns-in_ok-dangling-in-Some-clause-judged
returns-in_ok-dangling-in-Some-clause-judged c =
    let info = model_info_of c.args.making.now.info.now in
    let refused = rw c.in-Err-Dangling.field-0-is at c.in-Err-Dangling.ensures in
    let row = map value_data c.as_slice.result.now in
    let named = dangling-named (is_there_or_next c.args.base.now info.number) info.fields row c.in-Err-Dangling.field c.in-Err-Dangling.id c.requires.apart refused.0.1 in
    let found : Some (field_info_of c.in-Some.field.now) ≡ Some named.0
    = c.in-Some.ensures ∙ ap (λ fs. field_in (map field_info_of fs) c.in-Err-Dangling.field) c.as_slice-in-Err-Dangling.ensures ∙ named.1.0 in
    let same : field_info_of c.in-Some.field.now ≡ named.0 = cc in
    subst (λ (r : List Value). stops (make_refusal c.args.base.now info r) ≡ Err (reply_data c.in_ok-dangling-in-Some.field-0)) (ap (map value_data) c.as_slice.ensures)
    (
    ap stops (refuses-dangling c.args.base.now info row (Dangling named.0.name c.in-Err-Dangling.id) named.1.1)
    ∙ ap (λ (f : FieldInfo). let e : Result (Unit {0}) Reply = Err (Dangling f.name c.in-Err-Dangling.id) in e) (sym same)
    ∙ ap (λ (r : Reply). let e : Result (Unit {0}) Reply = Err r in e) (sym c.in_ok-dangling-in-Some.ensures)
    )

pub returns-in-Err-Full-Records-clause-judged : goal.returns-in-Err-Full-Records-clause-judged
returns-in-Err-Full-Records-clause-judged c =
    let info = model_info_of c.args.making.now.info.now in
    let row = map value_data c.as_slice.result.now in
    let what = rw c.in-Err-Full-Records.field-0-is at c.in-Err-Full-Records.ensures in
    let refused = rw c.in-Err-Full-Records.field-0-0-is at what in
    subst (λ (r : List Value). stops (make_refusal c.args.base.now info r) ≡ Err (Full full.Records)) (ap (map value_data) c.as_slice.ensures)
    (ap stops (refuses-records c.args.base.now info row refused.0.1 refused.0.2))

pub returns-in-Err-Full-Weight-clause-judged : goal.returns-in-Err-Full-Weight-clause-judged
returns-in-Err-Full-Weight-clause-judged c =
    let info = model_info_of c.args.making.now.info.now in
    let row = map value_data c.as_slice.result.now in
    let what = rw c.in-Err-Full-Weight.field-0-is at c.in-Err-Full-Weight.ensures in
    let refused = rw c.in-Err-Full-Weight.field-0-0-is at what in
    subst (λ (r : List Value). stops (make_refusal c.args.base.now info r) ≡ Err (Full full.Weight)) (ap (map value_data) c.as_slice.ensures)
    (ap stops (refuses-weight c.args.base.now info row refused.0.1 refused.0.2 refused.0.3))

pub returns-in-Err-IdsSpent-clause-judged : goal.returns-in-Err-IdsSpent-clause-judged
returns-in-Err-IdsSpent-clause-judged c =
    let info = model_info_of c.args.making.now.info.now in
    let row = map value_data c.as_slice.result.now in
    let refused = rw c.in-Err-IdsSpent.field-0-is at c.in-Err-IdsSpent.ensures in
    subst (λ (r : List Value). stops (make_refusal c.args.base.now info r) ≡ Err IdsSpent) (ap (map value_data) c.as_slice.ensures)
    (ap stops (refuses-ids c.args.base.now info row refused.0.1 refused.0.2 refused.0.3 refused.0.4))

use Rattle.std.proofs.Common.{◌≡◌, ◌∙◌, ap, sym, map, true, false, List, [], Option, None, Some}
use Rattle.std.specs.Prelude.{is_none, is_some, Result, Err}
use Rattle.std.specs.Option.{option_map_or}
use Rattle.data_judge.specs.Faults.{field_named}
use Rattle.data_judge.specs.Named.{row_named}
use Rattle.data_meaning.specs.Values.{Value}
use Rattle.data_records.proofs.Firsts.{none-from_position}
use Rattle.data_tree.specs.declared.tables.FieldLit.{FieldLit}
use Rattle.door_meaning.specs.Orders.{goes, stops}
use Rattle.door_meaning.specs.Records.{row_reply}
use Rattle.door_meaning.specs.Replies.{Reply, WrongShape}
use Rattle.door_judge.proofs.Places.{found_there}
use Rattle.door_judge.proofs.Rows.{err-known, unknown-none, unknown-some}
use Rattle.type_schema.specs.Schema.{FieldInfo, field_in}
use Rattle.type_schema.specs.SchemaViews.{field_info_of, model_info_of}
use Rattle.door_judge.proofs.values.named_row.Goals as goal

pub unreachable-requires : goal.unreachable-requires
unreachable-requires c =
    let given = rw c.in-Err-WrongShape.field-0-is at c.in-Err-WrongShape.ensures.given in
    let fields = map field_info_of c.args.info.now.fields in
    let known = err-known c.args.info.now.number c.args.own c.args.ws.now fields c.in-Err-WrongShape.field given.1 in
    let none : field_in fields c.in-Err-WrongShape.field ≡ None
    = sym (c.in-None.ensures ∙ ap (λ fs. field_in (map field_info_of fs) c.in-Err-WrongShape.field) c.as_slice.ensures) in
    let never : true ≡ false = sym known ∙ ap (λ (o : Option FieldInfo). is_some o) none in
    cc

pub returns-in-Ok-clause-named : goal.returns-in-Ok-clause-named
returns-in-Ok-clause-named c =
    let info = model_info_of c.args.info.now in
    let given = c.in-Ok.ensures.given in
    let none = none-from_position (λ (w : FieldLit). is_none (field_named info.fields w.name.name)) c.args.ws.now given.0 in
    ap (λ (o : Option Reply). goes (stops o) (λ _. row_reply info (row_named info.number c.args.own c.args.ws.now info.fields))) (unknown-none info.fields c.args.ws.now none)
    ∙ ap (row_reply info) given.1

pub returns-in-Err-Unknown-clause-named : goal.returns-in-Err-Unknown-clause-named
returns-in-Err-Unknown-clause-named c =
    let info = model_info_of c.args.info.now in
    let given = rw c.in-Err-Unknown.field-0-is at c.in-Err-Unknown.ensures.given in
    let at = found_there (λ (w : FieldLit). is_none (field_named info.fields w.name.name)) c.args.ws.now c.in-Err-Unknown.place given in
    ap (λ (o : Option Reply). goes (stops o) (λ _. row_reply info (row_named info.number c.args.own c.args.ws.now info.fields))) (unknown-some info.fields c.args.ws.now at.0 at.1)
    ∙ ap (λ (r : Reply). let e : Result (List Value) Reply = Err r in e) (sym (c.unknown_name.ensures at.0 at.2))

pub returns-in_ok-wrong_shape-in-Some-clause-named : goal.returns-in_ok-wrong_shape-in-Some-clause-named
returns-in_ok-wrong_shape-in-Some-clause-named c =
    let info = model_info_of c.args.info.now in
    let given = rw c.in-Err-WrongShape.field-0-is at c.in-Err-WrongShape.ensures.given in
    let none = none-from_position (λ (w : FieldLit). is_none (field_named info.fields w.name.name)) c.args.ws.now given.0 in
    let found : field_in info.fields c.in-Err-WrongShape.field ≡ Some (field_info_of c.in-Some.field.now)
    = sym (c.in-Some.ensures ∙ ap (λ fs. field_in (map field_info_of fs) c.in-Err-WrongShape.field) c.as_slice.ensures) in
    ap (λ (o : Option Reply). goes (stops o) (λ _. row_reply info (row_named info.number c.args.own c.args.ws.now info.fields))) (unknown-none info.fields c.args.ws.now none)
    ∙ ap (row_reply info) given.1 ∙ ap (λ (o : Option FieldInfo). let e : Result (List Value) Reply = Err (WrongShape (option_map_or (λ (f : FieldInfo). f.name) o [])) in e) found
    ∙ ap (λ (r : Reply). let e : Result (List Value) Reply = Err r in e) (sym c.in_ok-wrong_shape-in-Some.ensures)

use Rattle.std.proofs.Common.{◌≡◌, ◌∙◌, sym, true, map, ap}
use Rattle.std.specs.Prelude.{Some, slice_get}
use Rattle.std.specs.Option.{option_map}
use Rattle.std.specs.Str.{bytes_eq}
use Rattle.std.proofs.lemmas.Option.{slice_get-get_or, slice_get-map}
use Rattle.type_schema.specs.SchemaViews.{field_info_of}
use Rattle.data_judge.proofs.InOrder.{named-at}
use Rattle.data_judge.proofs.names.field_near.Goals as goal

pub returns-in-Some : goal.returns-in-Some
returns-in-Some c =
    let fields = map field_info_of c.args.fields.now in
    let info = field_info_of c.in-Some.info.now in
    let name = c.args.name.now in
    let found = c.in-Some.ensures.lookup in
    let here : slice_get fields c.args.place ≡ Some info =
    slice_get-map field_info_of c.args.fields.now c.args.place ∙ ap (option_map field_info_of) (slice_get-get_or c.args.fields.now c.args.place c.in-Some.info.now found.3.0 ∙ ap Some (sym found.1)) in
    let passes : bytes_eq info.name name ≡ true = ap (λ n. bytes_eq n name) (sym c.bytes.ensures.bytes) ∙ sym c.if-same_name.ensures in
    sym (named-at fields c.args.place info name c.requires here passes)

use Rattle.std.proofs.Common.{◌==◌, map, sym, ◌∙◌, ap}
use Rattle.std.specs.Prelude.{is_some}
use Rattle.std.specs.List.{find, flat_map}
use Rattle.type_schema.specs.Schema.{StaticInfo}
use Rattle.type_schema.specs.SchemaViews.{command_of, static_info_of}
use Rattle.check_witness.specs.Printed.{statics_by}
use Rattle.check_report_back.proofs.Searches.{in-first, in-second}
use Rattle.check_report_back.proofs.there.has_static.Goals as goal

pub returns-then-is_among : goal.returns-then-is_among
returns-then-is_among c =
    let is = λ (i : StaticInfo). i.number == c.args.n in
    c.if-is_among.true
    ∙ sym (in-first is (map static_info_of c.args.t.now.start.statics) (flat_map statics_by (map command_of c.args.t.now.commands))
    (ap (λ xs. is_some (find is (map static_info_of xs))) (sym c.as_slice.ensures) ∙ sym c.is_among.ensures ∙ c.if-is_among.true))

pub returns-else-is_among : goal.returns-else-is_among
returns-else-is_among c =
    let is = λ (i : StaticInfo). i.number == c.args.n in
    c.is_added.ensures ∙ ap (λ cs. is_some (find is (flat_map statics_by (map command_of cs)))) c.as_slice-else-is_among.ensures
    ∙ sym (in-second is (map static_info_of c.args.t.now.start.statics) (flat_map statics_by (map command_of c.args.t.now.commands))
    (ap (λ xs. is_some (find is (map static_info_of xs))) (sym c.as_slice.ensures) ∙ sym c.is_among.ensures ∙ c.if-is_among.false))

use Rattle.std.proofs.Common.{◌≡◌, ◌==◌, [], sym, ◌∙◌, ap, subst, map}
use Rattle.std.specs.Prelude.{Some, None}
use Rattle.std.specs.List.{find, flat_map}
use Rattle.std.specs.Option.{option_map, option_map_or}
use Rattle.type_schema.specs.Schema.{StaticInfo}
use Rattle.type_schema.specs.SchemaViews.{command_of, static_info_of}
use Rattle.check_witness.specs.Printed.{statics_by}
use Rattle.check_report.proofs.Searches.{find-seen, find_in_both, find_behind}
use Rattle.check_report.proofs.names.static_name.Goals as goal

pub returns-in-Some : goal.returns-in-Some
returns-in-Some c =
    c.bytes.ensures.bytes
    ∙ ap (λ o. option_map_or (λ (i : StaticInfo). i.name) o [])
    (sym (find_in_both (λ (i : StaticInfo). i.number == c.args.n) (map static_info_of c.args.t.now.start.statics) (flat_map statics_by (map command_of c.args.t.now.commands)) (static_info_of c.in-Some.info.now)
    (find-seen (λ (i : StaticInfo). i.number == c.args.n) static_info_of c.args.t.now.start.statics
    ∙ ap (option_map static_info_of) (sym (subst (λ xs. Some c.in-Some.info.now ≡ find (λ i. i.number == c.args.n) xs) c.as_slice.ensures c.in-Some.ensures)))))

pub returns-in-None : goal.returns-in-None
returns-in-None c =
    let none : find (λ (i : StaticInfo). i.number == c.args.n) (map static_info_of c.args.t.now.start.statics) ≡ None =
    find-seen (λ (i : StaticInfo). i.number == c.args.n) static_info_of c.args.t.now.start.statics
    ∙ ap (option_map static_info_of) (sym (subst (λ xs. None ≡ find (λ i. i.number == c.args.n) xs) c.as_slice.ensures c.in-None.ensures)) in
    subst (λ commands. c.added_name.result.now ≡ option_map_or (λ (i : StaticInfo). i.name) (find (λ (i : StaticInfo). i.number == c.args.n) (flat_map statics_by (map command_of commands))) []) c.as_slice-in-None.ensures c.added_name.ensures
    ∙ ap (λ o. option_map_or (λ (i : StaticInfo). i.name) o [])
    (sym (find_behind (λ (i : StaticInfo). i.number == c.args.n) (map static_info_of c.args.t.now.start.statics) (flat_map statics_by (map command_of c.args.t.now.commands)) none))

use Rattle.std.proofs.Common.{◌≡◌, ◌==◌, ◌++◌, [], sym, ◌∙◌, ap, map}
use Rattle.std.specs.Prelude.{position}
use Rattle.std.specs.List.{find, flat_map, list_any}
use Rattle.std.specs.Option.{option_map_or}
use Rattle.type_schema.specs.Schema.{StaticInfo}
use Rattle.type_schema.specs.SchemaViews.{command_of, script_of}
use Rattle.check_witness.specs.Printed.{marked, statics_by}
use Rattle.check_report.proofs.Searches.{position_of_map}
use Rattle.check_report.proofs.names.write_static.Goals as goal

pub returns : goal.returns
returns c =
    let place : c.before_static-before.result ≡ position (λ k. list_any (λ (i : StaticInfo). i.number == c.args.n) (statics_by k)) (map command_of c.args.t.now.commands) =
    c.before_static-before.ensures
    ∙ ap (position (λ k. list_any (λ (i : StaticInfo). i.number == c.args.n) (statics_by (command_of k)))) c.as_slice.ensures
    ∙ sym (position_of_map (λ k. list_any (λ (i : StaticInfo). i.number == c.args.n) (statics_by k)) command_of c.args.t.now.commands) in
    c.in_ok-write_marked.ensures
    ∙ ap (λ name. c.args.out.now ++ marked name c.before_static-before.result) c.static_name.ensures
    ∙ ap (λ b. c.args.out.now ++ marked (option_map_or (λ (i : StaticInfo). i.name) (find (λ (i : StaticInfo). i.number == c.args.n) ((script_of c.args.t.now).start.statics ++ flat_map statics_by (script_of c.args.t.now).commands)) []) b) place

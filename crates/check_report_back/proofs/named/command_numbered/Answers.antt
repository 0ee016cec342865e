use Rattle.std.proofs.Common.{◌≡◌, ◌-◌, ◌≤◌, sym, ◌∙◌, ap}
use Rattle.std.specs.Option.{option_map}
use Rattle.type_schema.specs.SchemaViews.{command_of, script_of}
use Rattle.check_report_back.proofs.Searches.{get-seen, numbered-at}
use Rattle.check_report_back.proofs.named.command_numbered.Goals as goal

pub returns-in-Some : goal.returns-in-Some
returns-in-Some c =
    let place : (1 ≤ c.args.number) × (c.in-Some.before ≡ c.args.number - 1) = c.in-Some.ensures in
    ap (option_map command_of) c.get.ensures.value
    ∙ sym (get-seen command_of c.args.t.now.commands c.in-Some.before) ∙ sym (numbered-at (script_of c.args.t.now) c.args.number c.in-Some.before place.0 place.1)

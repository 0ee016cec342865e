use Rattle.std.proofs.Common.{◌≡◌, ℕ, ◌<◌, ◌++◌, List, length, ap, sym, ◌∙◌, arith, get_or, false}
use Rattle.std.specs.Prelude.{Some, ◌==◌, if◌then◌else◌}
use Rattle.std.specs.Option.{option_map_or}
use Rattle.std.proofs.lemmas.List.{length-map}
use Rattle.type_schema.specs.declared.commands.TCommand.{TCommand}
use Rattle.type_schema.specs.Schema.{Added}
use Rattle.type_schema.specs.Script.{count, command_at}
use Rattle.type_schema.specs.SchemaViews.{command_of, script_of}
use Rattle.data_meaning.specs.Database.{Database}
use Rattle.online_counted.specs.Counted.{risen}
use Rattle.online_meaning.specs.Deep.{added_by}
use Rattle.online_meaning.specs.Known as known
use Rattle.online_ground.specs.Grounds.{adds_before, rises, value_by}
use Rattle.online_ground.proofs.Loops.{command_there, value_next, rise_next, adds_all}
use Rattle.online_ground.proofs.values.added_values.Goals as goal

pub loop-k-preserved : goal.loop-k-preserved
loop-k-preserved c =
    let t = script_of c.args.t.now in
    let cmd = command_of c.index-commands-k.result in
    let same : c.as_slice-commands.result.now ≡ c.args.t.now.commands = c.as_slice-commands.ensures in
    let long = ap length same in
    let below : c.loop-k.k < length c.args.t.now.commands = omega (arith, long) in
    let here : command_at t c.loop-k.k ≡ Some cmd
    = command_there c.args.t.now c.loop-k.k c.index-commands-k.result below
    (c.index-commands-k.is ∙ ap (λ (cs : List TCommand). get_or cs c.loop-k.k c.index-commands-k.result) same) in (
      c.in_ok-add_value.ensures.values
          ∙ (ap (λ vs. vs ++ value_by cmd c.at.result.now c.args.r) c.loop-k.invariant.0
          ∙ (ap (λ (u : Database). known.added_values t c.args.d.now c.args.r c.loop-k.k ++ value_by cmd u c.args.r) c.at.ensures
          ∙ sym (value_next t c.requires.script c.args.d.now c.requires.over c.requires.only c.args.grounds.now c.requires.grounds c.args.r c.requires.slow c.loop-k.k cmd here))),
      c.add_value.ensures.counted
          ∙ (ap (λ (n : ℕ). if option_map_or (λ (a : Added). a.model == c.args.r.model) (added_by cmd) false then risen n else n) c.loop-k.invariant.1
          ∙ sym (rise_next t c.args.r.model c.loop-k.k cmd here c.args.evaluations.now)),
    )

pub returns-clause-values : goal.returns-clause-values
returns-clause-values c =
    let t = script_of c.args.t.now in
    let long = ap length c.as_slice-commands.ensures in
    let size : length t.commands ≡ length c.args.t.now.commands = length-map c.args.t.now.commands command_of in
    let all : c.loop-k.k ≡ count t = omega (arith, long, size) in
    c.loop-k.invariant.0 ∙ ap (known.added_values t c.args.d.now c.args.r) all

pub returns-clause-counted : goal.returns-clause-counted
returns-clause-counted c =
    let t = script_of c.args.t.now in
    let long = ap length c.as_slice-commands.ensures in
    let size : length t.commands ≡ length c.args.t.now.commands = length-map c.args.t.now.commands command_of in
    let all : c.loop-k.k ≡ count t = omega (arith, long, size) in
    c.loop-k.invariant.1
    ∙ (ap (λ (i : ℕ). rises (adds_before t c.args.r.model i) c.args.evaluations.now) all ∙ ap (λ (i : ℕ). rises i c.args.evaluations.now) (adds_all t c.args.r.model))

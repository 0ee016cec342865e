use Rattle.std.proofs.lemmas.Result.{err_from_is_err_and}
use Rattle.type_schema.specs.SchemaViews.{script_of}
use Rattle.type_typing.specs.Names.{plain_of}
use Rattle.type_commands.specs.Scripts.{steps, typed_script}
use Rattle.type_scripts.specs.Counted.{counted}
use Rattle.type_scripts.specs.Running.{run_of}
use Rattle.type_scripts.proofs.Stepped.{fault_whole, script_typed}
use Rattle.type_scripts.proofs.scripts.type_script.Goals as goal

pub returns-in_err-steps : goal.returns-in_err-steps
unfolding typed_script
returns-in_err-steps c =
    let p = err_from_is_err_and c.from_residual.result c.from_residual.ensures.1 in
    rw (p.1, p.2)
    (record {
      typed = λ missing.
          fault_whole (plain_of c.args.schema.now) (steps counted 1 (plain_of c.args.schema.now) c.args.script.now.commands) _
          (rw c.as_slice.ensures at c.in_err-steps.ensures missing);
      script = tt;
    })

pub returns : goal.returns
unfolding typed_script plain_of
returns c =
    let typed = script_typed (plain_of c.args.schema.now) c.args.script.now.commands (run_of c.in_ok-steps.steps) (script_of c.in_ok-typed.typed)
    (rw c.as_slice.ensures at c.in_ok-steps.ensures) c.in_ok-typed.ensures in
    record {
      typed = typed;
      script = c.scripts_are_typed.ensures counted (plain_of c.args.schema.now) c.args.script.now (script_of c.in_ok-typed.typed) c.requires.steady
          c.requires.nothing_added c.requires.few c.requires.written (rw c.as_slice-2.ensures at c.commands_have_literals.ensures) typed;
    }

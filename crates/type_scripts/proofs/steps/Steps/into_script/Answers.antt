use Rattle.type_scripts.proofs.Stepped.{script_made}
use Rattle.type_scripts.proofs.steps.Steps.into_script.Goals as goal

pub returns : goal.returns
returns c =
    script_made c.args.first.now c.args.self c.in_ok-start.start c.as_slice.result.now c.from_vec.result c.from_vec-2.result c.in_ok-start.ensures
    c.as_slice.ensures.value c.from_vec.ensures (rw c.in_ok-push.ensures.items at c.from_vec-2.ensures)

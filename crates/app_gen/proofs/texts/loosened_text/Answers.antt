use Rattle.app_gen.proofs.Steps.{loosened_step}
use Rattle.app_gen.proofs.texts.loosened_text.Goals as goal

pub returns : goal.returns
returns c =
    rw (loosened_step c.args.count c.if-count-eq0.false)
    (simp (c.into_bytes-2.ensures, c.in_ok-write_command.ensures, c.in_ok-write_tightened.ensures, c.new-out.ensures))

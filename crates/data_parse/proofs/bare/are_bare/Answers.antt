use Rattle.data_parse.proofs.BareTexts.{bare_without}
use Rattle.data_parse.proofs.bare.are_bare.Goals as goal

pub returns : goal.returns
returns c = rw (c.contains-quoted.ensures.value, c.contains-slashed.ensures.value) (bare_without c.args.bytes.now)

use Rattle.std.proofs.Common.{sym}
use Rattle.text_syntax.proofs.LiteralValues.{literal_is}
use Rattle.text_parse.proofs.laws.literals_have_their_value.Goals as goal

pub returns : goal.returns
returns c bytes value is = sym (literal_is bytes value is)

use Rattle.std.proofs.Common.{◌∙◌}
use Rattle.text_syntax.proofs.LiteralValues.{literal_is}
use Rattle.text_syntax.proofs.pieces.Piece.text.Goals as goal

pub returns : goal.returns
returns c = c.of.ensures ∙ rw (← c.self.view_is) (literal_is _ _ c.in_ok-bytes.ensures.value)

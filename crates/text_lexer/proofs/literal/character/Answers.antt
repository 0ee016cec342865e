use Rattle.text_lexer.proofs.Values.{hex_low, hex_writes}
use Rattle.text_lexer.proofs.literal.character.Goals as goal

pub hex_value-requires-in-120 : goal.hex_value-requires-in-120
hex_value-requires-in-120 c = hex_low c.args.text.now c.requires c.if-first-ne92.false c.in-120.is

pub returns-in-120-clause-writes : goal.returns-in-120-clause-writes
returns-in-120-clause-writes c =
    rw (c.hex_value.ensures.value, c.hex_value-in-120.ensures.value) (hex_writes c.args.text.now c.requires c.if-first-ne92.false c.in-120.is)

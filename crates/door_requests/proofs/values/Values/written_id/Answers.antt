use Rattle.text_lexer.specs.declared.token.TokenKind.TheVariants as k
use Rattle.data_parse.proofs.Taken.{kind_read}
use Rattle.door_requests.proofs.values.Values.written_id.Goals as goal

pub number-requires : goal.number-requires
number-requires c = kind_read k.Number _ _ _ c.in_ok-token.ensures

use Rattle.std.proofs.Common.{sym, ◌∙◌}
use Rattle.text_parse.proofs.JudgedTexts.{first_none}
use Rattle.door_requests.proofs.texts.next_offset.Goals as goal

pub unreachable-requires : goal.unreachable-requires
unreachable-requires c = c.requires (first_none c.args.cursor.now (sym c.first.ensures ∙ c.in-None.is))

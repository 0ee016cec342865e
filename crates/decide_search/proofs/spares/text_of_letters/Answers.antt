use Rattle.decide_search.proofs.LetterTexts.{letters_text}
use Rattle.decide_search.proofs.spares.text_of_letters.Goals as goal

pub of-requires : goal.of-requires
of-requires c = letters_text c.args.bytes.items c.requires.ascii c.requires.few

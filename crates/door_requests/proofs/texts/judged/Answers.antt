use Rattle.text_parse.proofs.JudgedTexts.{judged}
use Rattle.door_requests.proofs.texts.judged.Goals as goal

pub returns-in-Err : goal.returns-in-Err
returns-in-Err c = λ answer was. judged answer c.args.count _ c.args.cursor.now (rw c.in-Err.is at was) _ c.refusal.ensures

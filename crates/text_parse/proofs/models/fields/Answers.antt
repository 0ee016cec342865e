use Rattle.std.proofs.Common.{sym, subst}
use Rattle.text_syntax.specs.Reads.{Reads}
use Rattle.text_parse.proofs.FieldLists.{fields_are}
use Rattle.text_parse.proofs.models.fields.Goals as goal

pub returns : goal.returns
returns c = subst (λ z. Reads z c.fields_within.result c.fields_within.new.cursor) (sym (fields_are c.args.cursor.now)) c.fields_within.ensures

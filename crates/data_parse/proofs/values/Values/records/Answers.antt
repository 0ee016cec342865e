use Rattle.std.proofs.Common.{subst}
use Rattle.text_tree.specs.Forms.{AnyNumber, each}
use Rattle.data_tree.specs.Grammar.{record_form}
use Rattle.text_syntax.specs.Reads.{Reads}
use Rattle.data_parse.specs.Reads.{reading}
use Rattle.data_parse.proofs.Folds.{folded_all}
use Rattle.data_parse.proofs.values.Values.records.Goals as goal

pub returns : goal.returns
returns c =
    let was = rw c.new.ensures at c.more_records.ensures in
    subst (λ a. Reads a c.more_records.result c.more_records.new.cursor) (folded_all (reading c.args.self.now.levels (each AnyNumber record_form) c.args.cursor.now)) was

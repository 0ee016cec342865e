use Rattle.std.proofs.Common.{subst}
use Rattle.text_tree.specs.Forms.{AnyNumber, each}
use Rattle.data_tree.specs.Grammar.{data_form, table_form}
use Rattle.text_syntax.specs.Reads.{Reads}
use Rattle.data_parse.specs.Reads.{reading}
use Rattle.data_parse.proofs.Folds.{folded_all}
use Rattle.data_parse.proofs.values.Values.tables.Goals as goal

pub returns : goal.returns
unfolding data_form
returns c =
    let was = rw c.new.ensures at c.more_tables.ensures in
    subst (λ a. Reads a c.more_tables.result c.more_tables.new.cursor) (folded_all (reading c.args.self.now.levels (each AnyNumber table_form) c.args.cursor.now)) was

use Rattle.std.proofs.Common.{rules, ◌≡◌, false}
use Rattle.text_tree.specs.Forms.{first}
use Rattle.text_tree.specs.ExprGrammar.{map_step}
use Rattle.text_tree.specs.Texts.{first_of}
use Rattle.text_grammar.specs.Reading.{starts}
use Rattle.text_syntax.proofs.Branches.{path_none}
use Rattle.text_syntax.proofs.grammar.Grammar.path_steps.Goals as goal

pub returns : goal.returns
returns g c =
    let none : starts (first first_of map_step) c.args.cursor.now ≡ false = search rules in
    rw (path_none c.args.self.now.levels c.args.cursor.now none) c.flat_step.ensures

use Rattle.std.proofs.Common.{rules, ◌≡◌, ◌∙◌, false, sym, ap}
use Rattle.text_tree.specs.Forms.{first}
use Rattle.text_tree.specs.ExprGrammar.{item_form}
use Rattle.text_tree.specs.Texts.{first_of}
use Rattle.text_grammar.specs.Reading.{Got, starts}
use Rattle.text_syntax.proofs.Branches.{items_none}
use Rattle.text_syntax.proofs.grammar.Grammar.items.Goals as goal

pub returns : goal.returns
returns g c =
    let none : starts (first first_of item_form) c.args.cursor.now ≡ false = search rules in
    items_none c.args.self.now.levels c.args.cursor.now none ∙ ap (λ x. Got x c.args.cursor.now) (sym c.new.ensures)

use Rattle.std.proofs.Common.{rules, ◌≡◌, ◌∙◌, true, false, [], ◌∷◌, sym, ap}
use Rattle.text_tree.specs.Forms.{Lower}
use Rattle.text_grammar.specs.Reading.{Got, starts}
use Rattle.text_syntax.proofs.Branches.{filters_none, filters_some}
use Rattle.text_syntax.proofs.grammar.Grammar.filters.Goals as goal

pub returns-then-sees_lower : goal.returns-then-sees_lower
returns-then-sees_lower g c =
    let some : starts (Lower ∷ []) c.args.cursor.now ≡ true = search rules in
    rw (filters_some c.args.self.now.levels c.args.cursor.now some) c.some_filters.ensures

pub returns : goal.returns
returns g c =
    let none : starts (Lower ∷ []) c.args.cursor.now ≡ false = search rules in
    filters_none c.args.self.now.levels c.args.cursor.now none ∙ ap (λ x. Got x c.args.cursor.now) (sym c.new.ensures)

use Rattle.std.proofs.Common.{rules, ◌≡◌, true, [], ◌∷◌}
use Rattle.text_tree.specs.Forms.{Sign}
use Rattle.text_grammar.specs.Reading.{starts}
use Rattle.text_syntax.proofs.Branches.{taken_of}
use Rattle.text_syntax.proofs.cursor.Cursor.take.Goals as goal

pub returns-then-found-clause-taken : goal.returns-then-found-clause-taken
returns-then-found-clause-taken c = λ _.
    let some : starts (Sign c.args.kind ∷ []) c.args.self.now ≡ true = search rules in
    rw c.skip.ensures (taken_of c.args.kind c.args.self.now some)

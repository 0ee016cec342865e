use Rattle.std.proofs.lemmas.List.Elements.{Contains-append_left, Contains-append_right}
use Rattle.ground_terms.specs.Nodes.{term_of}
use Rattle.ground_problem.specs.Telling.{told_so_far}
use Rattle.ground_problem.proofs.checks.Check.is_told.Goals as goal

pub returns-in-Named : goal.returns-in-Named
returns-in-Named c = λ yes.
    let terms = c.args.self.terms.now in
    let v = told_so_far terms c.args.self.telling.now in
    Contains-append_left v.named v.others (term_of terms c.args.id) (c.requires.named c.args.id (c.standing.ensures.named c.in-Named.is)).1

pub returns-in-Other : goal.returns-in-Other
returns-in-Other c = λ yes.
    let terms = c.args.self.terms.now in
    let v = told_so_far terms c.args.self.telling.now in
    Contains-append_right v.named v.others (term_of terms c.args.id) (c.requires.others c.args.id (c.standing.ensures.other c.in-Other.is)).1

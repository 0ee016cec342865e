use Rattle.text_syntax.proofs.nested.+nested.Given as goal

abbrev pub decreases-expr : goal.decreases-expr
decreases-expr l = l.levels

abbrev pub decreases-set : goal.decreases-set
decreases-set l = l.levels

use Rattle.form_formula.proofs.normal_form.convert.Given as goal

abbrev pub ghost-positive_if : goal.ghost-positive_if
ghost-positive_if g a = g.node

abbrev pub ghost-negative_if : goal.ghost-negative_if
ghost-negative_if g a = g.node

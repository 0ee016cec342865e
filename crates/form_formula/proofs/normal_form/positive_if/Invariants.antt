use Rattle.form_formula.proofs.normal_form.positive_if.Given as goal

abbrev pub ghost-positive_form : goal.ghost-positive_form
ghost-positive_form g a = g.node

use Rattle.form_formula.proofs.normal_form.negative_if.Given as goal

abbrev pub ghost-negative_form : goal.ghost-negative_form
ghost-negative_form g a = g.node

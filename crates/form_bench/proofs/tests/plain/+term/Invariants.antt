use Rattle.form_bench.proofs.tests.plain.+term.Given as goal

abbrev pub decreases-term : goal.decreases-term
decreases-term l = l.id

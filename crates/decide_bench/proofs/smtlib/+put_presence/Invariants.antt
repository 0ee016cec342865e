use Rattle.decide_bench.proofs.smtlib.+put_presence.Given as goal

abbrev pub decreases-put_presence : goal.decreases-put_presence
decreases-put_presence l = l.id

use Rattle.app_flow.proofs.system.StdSinkSink.put.Goals as goal

pub returns-in-Failed-clause-counted : goal.returns-in-Failed-clause-counted
returns-in-Failed-clause-counted g c = rw c.loop.invariant.counted at (c.attempt.ensures.rose c.in-Failed.is)

pub returns-in-Failed-clause-never_falls : goal.returns-in-Failed-clause-never_falls
returns-in-Failed-clause-never_falls g c = rw c.loop.invariant.counted at c.attempt.ensures.never_falls

use Rattle.data_judge.proofs.One.{one-database, given-not-refused, one-refusal}
use Rattle.data_judge.proofs.Exists.{some-judgement}
use Rattle.data_judge.proofs.laws.one_judgement.Goals as goal

pub returns-clause-some : goal.returns-clause-some
returns-clause-some c = some-judgement

pub returns-clause-database : goal.returns-clause-database
returns-clause-database c = one-database

pub returns-clause-given : goal.returns-clause-given
returns-clause-given c = given-not-refused

pub returns-clause-refusal : goal.returns-clause-refusal
returns-clause-refusal c = one-refusal

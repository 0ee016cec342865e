use Rattle.type_anew.proofs.Means.{policy-means}
use Rattle.type_anew.proofs.renumbered_laws.policies_mean_the_same.Goals as goal

pub returns : goal.returns
returns c = λ s d proper is none m id policy who typed. policy-means s d m policy typed id who

use Rattle.store_apply.proofs.AppliedLaws.{applied-rights}
use Rattle.store_apply.proofs.laws.applied_rights.Goals as goal

pub returns : goal.returns
returns c = applied-rights c.policies_come_anew.ensures c.rights_stay.ensures

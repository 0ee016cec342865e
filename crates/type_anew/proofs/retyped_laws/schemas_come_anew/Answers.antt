use Rattle.type_anew.proofs.AnewSchemas.{schemas_come_anew}
use Rattle.type_anew.proofs.retyped_laws.schemas_come_anew.Goals as goal

pub returns : goal.returns
returns c = schemas_come_anew

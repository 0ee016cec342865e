use Rattle.type_anew.proofs.SpecLookups.{model-name}
use Rattle.store_apply.proofs.Lookups.{no-model}
use Rattle.store_apply.proofs.names.model_name.Goals as goal

pub unreachable-requires : goal.unreachable-requires
unreachable-requires c = no-model c.args.s.now c.args.m (rw c.as_slice.ensures at c.in-None.ensures) c.requires

pub returns : goal.returns
returns c = model-name c.args.s.now c.args.m c.in-Some.info.now (rw c.as_slice.ensures at c.in-Some.ensures)

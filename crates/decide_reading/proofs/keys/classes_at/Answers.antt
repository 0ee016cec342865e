use Rattle.std.proofs.Common.{false}
use Rattle.ground_terms.proofs.Placement.{kind_within}
use Rattle.decide_reading.proofs.KeyLaws.{begun}
use Rattle.decide_reading.proofs.keys.classes_at.Goals as goal

pub down-init : goal.down-init
down-init c = begun c.args.source.terms.now c.args.source.found.now c.args.list _ c.new-classes.ensures c.requires

pub node-requires : goal.node-requires
node-requires c = kind_within c.args.source.terms.now c.down.at false c.down.invariant.fits

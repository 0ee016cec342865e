use Rattle.std.proofs.Common.{refl}
use Rattle.decide_smaller.proofs.Fitted.{fitted}
use Rattle.decide_smaller.proofs.fitting.fits.Goals as goal

pub returns : goal.returns
returns c = λ last.
    fitted c.args.signature.now c.args.structure.now (c.if-not-is_as_long.ensures.sizes refl) (c.if-not-is_as_long.ensures.functions refl) (c.if-not-is_as_long.ensures.relations refl)
    (c.if-not-are_tables.ensures refl) (c.are_relations.ensures last)

use Rattle.std.proofs.Common.{arith}
use Rattle.type_schema.specs.SchemaViews.{schema_of}
use Rattle.door_serve.proofs.MovedPrincipals.{moved-more}
use Rattle.door_serve.proofs.moved.move_sessions.Goals as goal

pub loop-at-preserved : goal.loop-at-preserved
loop-at-preserved c =
    moved-more (schema_of c.args.s.now) c.args.sessions.now c.loop-at.sessions _ c.as_slice.result.now c.loop-at.at c.index-as_slice-at.result _ c.loop-at.invariant.0 c.loop-at.invariant.1 c.as_slice.ensures
    (omega (arith, c.loop-at.invariant.1)) c.moved_of-moved.ensures (c.set_principal.ensures c.index-as_slice-at.result)

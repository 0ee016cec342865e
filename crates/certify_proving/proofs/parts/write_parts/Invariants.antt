-- The parts so far were appended.
use Rattle.std.proofs.Common.{◌≤◌}
use Rattle.type_schema.specs.SchemaViews.{script_of}
use Rattle.certify_proving.specs.Parts.{ArePartsWritten}
use Rattle.certify_proving.proofs.parts.write_parts.Given as goal

abbrev pub invariant-loop-place : goal.invariant-loop-place
invariant-loop-place g l = record {
  written : ArePartsWritten (script_of l.grounding.script.now) l.grounding.signature.now l.place (g.W.Sink.told l.initial.out) (g.W.Sink.told l.out);
  never_falls : g.W.Sink.faults l.initial.out ≤ g.W.Sink.faults l.out;
}

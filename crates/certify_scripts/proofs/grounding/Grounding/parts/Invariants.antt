use Rattle.type_schema.specs.SchemaViews.{script_of}
use Rattle.certify_scripts.specs.Passed.{HasParts}
use Rattle.certify_scripts.proofs.grounding.Grounding.parts.Given as goal

abbrev pub invariant-loop-place : goal.invariant-loop-place
invariant-loop-place g l = HasParts (script_of l.self.script.now) l.self.signature.now l.text l.place l.spot

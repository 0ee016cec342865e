use Rattle.type_schema.specs.SchemaViews.{script_of}
use Rattle.duty_numbering.proofs.SignatureLaws.{start_types_are_there}
use Rattle.certify_proving.proofs.scripts.prove_script.Goals as goal

pub signature_of-requires : goal.signature_of-requires
signature_of-requires g c = start_types_are_there (script_of c.args.t.now) c.requires.script

use Rattle.type_schema.specs.SchemaViews.{script_of}
use Rattle.duty_numbering.proofs.SignatureLaws.{start_types_are_there}
use Rattle.certify_scripts.proofs.PartLaws.{ok_too}
use Rattle.certify_scripts.proofs.Sound.{shows}
use Rattle.certify_scripts.proofs.scripts.recheck_script.Goals as goal

pub signature_of-requires : goal.signature_of-requires
signature_of-requires g c = start_types_are_there (script_of c.args.t.now) c.requires.script

pub returns-clause-shows : goal.returns-clause-shows
returns-clause-shows g c = ok_too c.rechecked_by.result _ _ (λ found h. shows (script_of c.args.t.now) c.requires.script c.args.text.now found h) c.rechecked_by.ensures

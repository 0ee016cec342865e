use Rattle.certify_scripts.proofs.PartLaws.{ok_too}
use Rattle.certify_scripts.proofs.scripts.rechecked_by.Goals as goal

pub returns : goal.returns
returns g c =
    ok_too c.whole.result _ _ (λ found h. record { signature = c.args.grounding.now.signature.now; signature_of = c.requires.signature; over = h }) c.whole.ensures

use Rattle.std.proofs.Common.{refl}
use Rattle.app_certify.proofs.certificate.recheck_text.Goals as goal

pub returns-clause-checked : goal.returns-clause-checked
returns-clause-checked c = record {
  script = refl;
  typed = c.requires.script;
  name = c.in_ok-cert.ensures;
  found = c.in_ok-found.ensures.found;
  shows = c.in_ok-found.ensures.shows;
}

-- What contracts see of the code's commands.
use Rattle.app_certify.specs.declared.words.CertifyCommand.{CertifyCommand}
use Rattle.app_certify.specs.declared.words.CertifyCommand.TheVariants as v
use Rattle.app_certify.specs.Words.{Command, Prove, Recheck}
use Rattle.app_files.specs.Words.{names_of}

abbrev pub command_seen : CertifyCommand → Command
command_seen (v.Prove spec script) = Prove (names_of spec.now script.now)
command_seen (v.Recheck spec script cert) = Recheck (names_of spec.now script.now) cert.now
